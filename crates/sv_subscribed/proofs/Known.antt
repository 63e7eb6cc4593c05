-- `$` names among those of a component, and what holds their stores.
use Rattle.std.proofs.Common.{◌≡◌, ◌≢◌, ℕ, Bool, true, false, List, [], ◌∷◌, length, Option, Some, None, option_map, is_some, refl, sym, ap, subst, ◌∙◌, inl, inr, ◌⊎◌, ⊎_elim, nat_eq, slice_set, if◌then◌else◌}
use Rattle.std.proofs.lemmas.Bool.{cases_eq, cases_lt, cases_Bool, eqb-true, eq-eqb, true≢false}
use Rattle.std.proofs.lemmas.List.{get_or-set_same, get_or-set_other, set_past}
use Rattle.std.proofs.lemmas.Option.{none-some, same_Some}
use Rattle.sv_code.specs.Names.{Each}
use Rattle.sv_code.specs.declared.known.Known.{Known}
use Rattle.sv_code.specs.declared.known.Known.TheVariants as known
use Rattle.sv_code.specs.declared.program.StoreCell.{StoreCell}
use Rattle.sv_instance.specs.Cells.{cell_at}
use Rattle.sv_instance.specs.Subscriptions.{subscription_at, follower_of, is_cell, placed, moved_to}
use Rattle.sv_instance.specs.declared.subscriptions.Subscription.{Subscription}
use Rattle.sv_meaning.specs.Statements.{variable}
use Rattle.sv_value.specs.Value.{Val}
use Rattle.sv_view.specs.Cell.{Cell}
use Rattle.sv_subscribed.specs.Apart.{HoldApart}
use Rattle.sv_subscribed.specs.Holders.{IsAmong, held}

-- ---- what a name stands for

variable-cell : (k : Known) (n : ℕ) → variable k ≡ Some n → k ≡ known.Cell n
variable-cell (known.Cell m) n e = ap known.Cell (same_Some m n e)
variable-cell (known.Local x) n e = absurd (none-some n e)
variable-cell (known.Constant m) n e = absurd (none-some n e)
variable-cell (known.Export file m) n e = absurd (none-some n e)
variable-cell (known.Life l) n e = absurd (none-some n e)
variable-cell known.Writable n e = absurd (none-some n e)
variable-cell known.Derived n e = absurd (none-some n e)
variable-cell (known.BuiltIn b) n e = absurd (none-some n e)

-- it is a cell, or no such cell
pub cell_or_not : (k : Known) (c : ℕ) → (k ≡ known.Cell c) ⊎ ((d : ℕ) → k ≡ known.Cell d → d ≢ c)
cell_or_not (known.Cell m) c = ⊎_elim (λ same. inl (ap known.Cell same)) (λ other. inr (λ d e same. other (same_Some m d (ap variable e) ∙ same))) (cases_eq m c)
cell_or_not (known.Local x) c = inr (λ d e. absurd (none-some d (ap variable e)))
cell_or_not (known.Constant m) c = inr (λ d e. absurd (none-some d (ap variable e)))
cell_or_not (known.Export file m) c = inr (λ d e. absurd (none-some d (ap variable e)))
cell_or_not (known.Life l) c = inr (λ d e. absurd (none-some d (ap variable e)))
cell_or_not known.Writable c = inr (λ d e. absurd (none-some d (ap variable e)))
cell_or_not known.Derived c = inr (λ d e. absurd (none-some d (ap variable e)))
cell_or_not (known.BuiltIn b) c = inr (λ d e. absurd (none-some d (ap variable e)))

-- ---- cells that are set

pub at_set : (now : List (Option Cell)) (c d : ℕ) (x : Option Cell) → (cell_at (slice_set now c x) d ≡ cell_at now d) ⊎ ((d ≡ c) × (cell_at (slice_set now c x) d ≡ x))
at_set now c d x = ⊎_elim
    (λ same. ⊎_elim
    (λ below. inr (same, ap (λ e. cell_at (slice_set now c x) e) same ∙ get_or-set_same now c x None below))
    (λ past. inl (ap (λ l. cell_at l d) (set_past now c x past)))
    (cases_lt c (length now)))
    (λ other. inl (get_or-set_other now c d x None other))
    (cases_eq d c)

-- what holds something else holds it still where another cell is set
pub held-other : (ms : List (List (Option Val))) (now : List (Option Cell)) (constants : List (Option Val)) (c : ℕ) (x : Option Cell) (k : Known) → ((d : ℕ) → k ≡ known.Cell d → d ≢ c)
    → held ms (slice_set now c x) constants k ≡ held ms now constants k
held-other ms now constants c x (known.Cell d) other = ap (option_map (λ (y : Cell). y.value)) (get_or-set_other now c d x None (other d refl))
held-other ms now constants c x (known.Local l) other = refl
held-other ms now constants c x (known.Constant m) other = refl
held-other ms now constants c x (known.Export file m) other = refl
held-other ms now constants c x (known.Life l) other = refl
held-other ms now constants c x known.Writable other = refl
held-other ms now constants c x known.Derived other = refl
held-other ms now constants c x (known.BuiltIn b) other = refl

-- ---- subscriptions of a component's `$` names

-- it is that of one of some `$` names
abbrev pub IsOf : List StoreCell → Subscription → Type 0
IsOf stores s = (x : StoreCell) × (IsAmong x stores × ((x.cell ≡ s.cell) × (s.source ≡ variable x.holder)))

pub placed-cell : (d : ℕ) (st : Option ℕ) (s : Subscription) → (placed d st s).cell ≡ s.cell
placed-cell d st s = by (nat_eq s.cell d) where
  by : (b : Bool) → (if b then record s { store = st } else s).cell ≡ s.cell
  by true = refl
  by false = refl

placed-source : (d : ℕ) (st : Option ℕ) (s : Subscription) → (placed d st s).source ≡ s.source
placed-source d st s = by (nat_eq s.cell d) where
  by : (b : Bool) → (if b then record s { store = st } else s).source ≡ s.source
  by true = refl
  by false = refl

pub placed-same : (d : ℕ) (st : Option ℕ) (s : Subscription) → s.cell ≡ d → (placed d st s).store ≡ st
placed-same d st s e = ap (λ (b : Bool). (if b then record s { store = st } else s).store) (eq-eqb s.cell d e)

pub placed-other : (d : ℕ) (st : Option ℕ) (s : Subscription) → s.cell ≢ d → (placed d st s).store ≡ s.store
placed-other d st s other = ⊎_elim
    (λ same. absurd (other (eqb-true s.cell d same)))
    (λ b. ap (λ (x : Bool). (if x then record s { store = st } else s).store) b)
    (cases_Bool (nat_eq s.cell d))

pub name-placed : (names : List Subscription) (d : ℕ) (st : Option ℕ) (c : ℕ) → subscription_at (moved_to names d st) c ≡ option_map (placed d st) (subscription_at names c)
name-placed [] d st c = refl
name-placed (s ∷ names) d st c =
    ap (λ n. if nat_eq n c then Some (placed d st s) else subscription_at (moved_to names d st) c) (placed-cell d st s) ∙ by (nat_eq s.cell c) (name-placed names d st c)
  where
    by : (b : Bool) → subscription_at (moved_to names d st) c ≡ option_map (placed d st) (subscription_at names c)
        → (if b then Some (placed d st s) else subscription_at (moved_to names d st) c) ≡ option_map (placed d st) (if b then Some s else subscription_at names c)
    by true h = refl
    by false h = h

pub of_placed : (stores : List StoreCell) (names : List Subscription) (d : ℕ) (st : Option ℕ) → Each (IsOf stores) names → Each (IsOf stores) (moved_to names d st)
of_placed stores [] d st h = tt
of_placed stores (s ∷ names) d st h =
    ((h.0.0, (h.0.1.0, (h.0.1.1.0 ∙ sym (placed-cell d st s), placed-source d st s ∙ h.0.1.1.1))), of_placed stores names d st h.1)

pub of_name : (stores : List StoreCell) (names : List Subscription) (c : ℕ) (s : Subscription) → Each (IsOf stores) names → subscription_at names c ≡ Some s → IsOf stores s × (s.cell ≡ c)
of_name stores [] c s h e = absurd (none-some s e)
of_name stores (x ∷ names) c s h e = by (of_name stores names c s h.1) (nat_eq x.cell c) refl e where
  by : (subscription_at names c ≡ Some s → IsOf stores s × (s.cell ≡ c)) → (b : Bool) → nat_eq x.cell c ≡ b → (if b then Some x else subscription_at names c) ≡ Some s → IsOf stores s × (s.cell ≡ c)
  by rest true b k = subst (λ y. IsOf stores y × (y.cell ≡ c)) (same_Some x s k) (h.0, eqb-true x.cell c b)
  by rest false b k = rest k

is_source : (o : Option ℕ) (v : ℕ) → is_cell o v ≡ true → o ≡ Some v
is_source None v e = absurd (true≢false (sym e))
is_source (Some u) v e = ap Some (eqb-true u v e)

-- the follower of a variable is the cell of the `$` name whose store it holds
pub of_follower : (stores : List StoreCell) (names : List Subscription) (v d : ℕ) → Each (IsOf stores) names → follower_of names v ≡ Some d → (x : StoreCell) × (IsAmong x stores × ((x.cell ≡ d) × (x.holder ≡ known.Cell v)))
of_follower stores [] v d h e = absurd (none-some d e)
of_follower stores (s ∷ names) v d h e = by (of_follower stores names v d h.1) (is_cell s.source v) refl e where
  by : (follower_of names v ≡ Some d → (x : StoreCell) × (IsAmong x stores × ((x.cell ≡ d) × (x.holder ≡ known.Cell v)))) → (b : Bool) → is_cell s.source v ≡ b
      → (if b then Some s.cell else follower_of names v) ≡ Some d → (x : StoreCell) × (IsAmong x stores × ((x.cell ≡ d) × (x.holder ≡ known.Cell v)))
  by rest true b k = (h.0.0, (h.0.1.0, (h.0.1.1.0 ∙ same_Some s.cell d k, variable-cell h.0.0.holder v (sym h.0.1.1.1 ∙ is_source s.source v b))))
  by rest false b k = rest k

-- where a `$` name follows a variable, the variable has a follower
pub follows : (names : List Subscription) (c v : ℕ) (s : Subscription) → subscription_at names c ≡ Some s → s.source ≡ Some v → is_some (follower_of names v) ≡ true
follows [] c v s e source = absurd (none-some s e)
follows (x ∷ names) c v s e source = by (λ k. follows names c v s k source) (is_cell x.source v) refl where
  here : (subscription_at names c ≡ Some s → is_some (follower_of names v) ≡ true) → is_cell x.source v ≡ false → (b : Bool) → (if b then Some x else subscription_at names c) ≡ Some s → is_some (follower_of names v) ≡ true
  here rest other true k = absurd (true≢false (sym (ap (λ o. is_cell o v) (ap (λ (y : Subscription). y.source) (same_Some x s k) ∙ source) ∙ eq-eqb v v refl) ∙ other))
  here rest other false k = rest k

  by : (subscription_at names c ≡ Some s → is_some (follower_of names v) ≡ true) → (b : Bool) → is_cell x.source v ≡ b → is_some (if b then Some x.cell else follower_of names v) ≡ true
  by rest true b = refl
  by rest false b = here rest b (nat_eq x.cell c) e

-- the follower of a variable is a `$` name
pub follower-is : (names : List Subscription) (v d : ℕ) → follower_of names v ≡ Some d → is_some (subscription_at names d) ≡ true
follower-is [] v d e = absurd (none-some d e)
follower-is (x ∷ names) v d e = by (follower-is names v d) (is_cell x.source v) e where
  found : (b : Bool) → is_some (subscription_at names d) ≡ true → is_some (if b then Some x else subscription_at names d) ≡ true
  found true k = refl
  found false k = k

  by : (follower_of names v ≡ Some d → is_some (subscription_at names d) ≡ true) → (b : Bool) → (if b then Some x.cell else follower_of names v) ≡ Some d → is_some (if nat_eq x.cell d then Some x else subscription_at names d) ≡ true
  by rest true k = ap (λ (b : Bool). is_some (if b then Some x else subscription_at names d)) (eq-eqb x.cell d (same_Some x.cell d k))
  by rest false k = found (nat_eq x.cell d) (rest k)

module _ (stores : List StoreCell) (apart : HoldApart stores) (names : List Subscription) (of : Each (IsOf stores) names) where
  -- a `$` name's cell holds no store of another
  pub name-plain : (c : ℕ) (s : Subscription) (x : StoreCell) → subscription_at names c ≡ Some s → IsAmong x stores → x.holder ≡ known.Cell c → ⊥
  name-plain c s x e among holds =
      let k = of_name stores names c s of e in
      apart.plain x k.0.0 among k.0.1.0 (holds ∙ ap known.Cell (sym (k.0.1.1.0 ∙ k.1)))

  -- what a `$` name follows
  pub name-source : (x : StoreCell) (s : Subscription) → IsAmong x stores → subscription_at names x.cell ≡ Some s → s.source ≡ variable x.holder
  name-source x s among e =
      let k = of_name stores names x.cell s of e in
      k.0.1.1.1 ∙ ap (λ (y : StoreCell). variable y.holder) (apart.cells k.0.0 x k.0.1.0 among (k.0.1.1.0 ∙ k.1))
