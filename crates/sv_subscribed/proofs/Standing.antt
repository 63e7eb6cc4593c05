-- How the `$` names of one instance stand, and what changes of the instance leave of it.
use Rattle.std.proofs.Common.{◌≡◌, ℕ, ◌+◌, Bool, true, false, List, Option, Some, None, option_map, is_some, refl, sym, ap, subst, ◌∙◌, inl, inr, ◌⊎◌, ⊎_elim, slice_set, if◌then◌else◌}
use Rattle.std.proofs.lemmas.Bool.{cases_eq, true≢false}
use Rattle.sv_code.specs.Names.{Each}
use Rattle.sv_code.specs.declared.known.Known.{Known}
use Rattle.sv_code.specs.declared.known.Known.TheVariants as known
use Rattle.sv_code.specs.declared.program.StoreCell.{StoreCell}
use Rattle.sv_instance.specs.Cells.{cell_at, assigned_cell}
use Rattle.sv_instance.specs.Subscriptions.{subscription_at, follower_of, placed, moved_to}
use Rattle.sv_instance.specs.declared.subscriptions.Subscription.{Subscription}
use Rattle.sv_meaning.specs.Statements.{variable}
use Rattle.sv_value.specs.Change.{differs}
use Rattle.sv_value.specs.Value.{Val}
use Rattle.sv_view.specs.Cell.{Cell}
use Rattle.sv_subscribed.proofs.Known.{cell_or_not, at_set, held-other, IsOf, placed-same, placed-other, name-placed, of_placed, of_name, of_follower, follows, name-plain, name-source}
use Rattle.sv_subscribed.specs.Apart.{HoldApart, IsOwn}
use Rattle.sv_subscribed.specs.Holders.{IsAmong, store_held, held, Looks}

abbrev pub Modules : Type 0
Modules = List (List (Option Val))

-- what holds the store of a `$` name is a variable that a value went to, which the `$` name is still to follow
abbrev pub IsOff : (ℕ → Type 0) → Known → Type 0
IsOff Off k = (c : ℕ) × ((k ≡ known.Cell c) × Off c)

-- a `$` name looks where it should, or is still to follow; what is to hold its store is declared
pub record IsNamed (many : ℕ) (ms : Modules) (Off : ℕ → Type 0) (names : List Subscription) (now : List (Option Cell)) (constants : List (Option Val)) (x : StoreCell) : Type 0 where
  pub name : Subscription
  pub there : subscription_at names x.cell ≡ Some name
  pub looks : Looks many (held ms now constants x.holder) name.store ⊎ IsOff Off x.holder
  pub declared : (c : ℕ) → x.holder ≡ known.Cell c → is_some (cell_at now c) ≡ true

-- it isn't subscribed, and nothing holds a store for it: a variable that would isn't declared
pub record IsUnnamed (ms : Modules) (names : List Subscription) (now : List (Option Cell)) (constants : List (Option Val)) (x : StoreCell) : Type 0 where
  pub absent : subscription_at names x.cell ≡ None
  pub none : store_held (held ms now constants x.holder) ≡ None
  pub undeclared : (c : ℕ) → x.holder ≡ known.Cell c → cell_at now c ≡ None

-- what an instance has is that of the `$` names of its component, and each of these stands so; variables to which a value went have it
pub record Stand (many : ℕ) (ms : Modules) (stores : List StoreCell) (Off On : ℕ → Type 0) (v : Val) (names : List Subscription) (now : List (Option Cell)) (constants : List (Option Val)) : Type 0 where
  pub of : Each (IsOf stores) names
  pub each : (x : StoreCell) → IsAmong x stores → IsNamed many ms Off names now constants x ⊎ IsUnnamed ms names now constants x
  pub valued : (x : StoreCell) (c : ℕ) → IsAmong x stores → x.holder ≡ known.Cell c → On c → option_map (λ (y : Cell). y.value) (cell_at now c) ≡ Some v

-- nowhere
abbrev pub nowhere : ℕ → Type 0
nowhere c = ⊥

assigned-some : (o : Option Cell) (u : Val) → is_some o ≡ true → is_some (assigned_cell o u) ≡ true
assigned-some None u h = h
assigned-some (Some c) u h = by (differs c.value u) where
  by : (b : Bool) → is_some (if b then Some (record { value = u; count = c.count + 1 }) else Some c) ≡ true
  by true = refl
  by false = refl

module _ {many : ℕ} {ms : Modules} {stores : List StoreCell} (apart : HoldApart stores) where
  -- more may be still to follow
  pub stand-more : {Off Off' On : ℕ → Type 0} {v : Val} {names : List Subscription} {now : List (Option Cell)} {constants : List (Option Val)} → ((c : ℕ) → Off c → Off' c)
      → Stand many ms stores Off On v names now constants → Stand many ms stores Off' On v names now constants
  stand-more more h = record {
    of = h.of;
    each = λ x among. ⊎_elim
        (λ k. inl (record { name = k.name; there = k.there; looks = ⊎_elim (λ l. inl l) (λ off. inr (off.0, (off.1.0, more off.0 off.1.1))) k.looks; declared = k.declared }))
        (λ k. inr k)
        (h.each x among);
    valued = h.valued;
  }

  -- what has its value is told
  pub stand-valued : {Off On : ℕ → Type 0} {v u : Val} {names : List Subscription} {now : List (Option Cell)} {constants : List (Option Val)} (On' : ℕ → Type 0)
      → ((c : ℕ) → On' c → option_map (λ (y : Cell). y.value) (cell_at now c) ≡ Some u) → Stand many ms stores Off On v names now constants → Stand many ms stores Off On' u names now constants
  stand-valued On' has h = record { of = h.of; each = h.each; valued = λ x c among holds on. has c on }

  -- ---- a cell takes a value

  module _ {Off On : ℕ → Type 0} {v : Val} {names : List Subscription} {now : List (Option Cell)} {constants : List (Option Val)} (c : ℕ) (u : Val) (h : Stand many ms stores Off On v names now constants)
      (free : (x : StoreCell) → IsAmong x stores → x.holder ≡ known.Cell c → Off c × (On c → ⊥)) where
    abbrev after : List (Option Cell)
    after = slice_set now c (assigned_cell (cell_at now c) u)

    still_declared : (d : ℕ) → is_some (cell_at now d) ≡ true → is_some (cell_at after d) ≡ true
    still_declared d k = ⊎_elim
        (λ same. ap is_some same ∙ k)
        (λ set. ap is_some set.1 ∙ assigned-some (cell_at now c) u (ap (λ e. is_some (cell_at now e)) (sym set.0) ∙ k))
        (at_set now c d (assigned_cell (cell_at now c) u))

    still_undeclared : (d : ℕ) → cell_at now d ≡ None → cell_at after d ≡ None
    still_undeclared d k = ⊎_elim
        (λ same. same ∙ k)
        (λ set. set.1 ∙ ap (λ o. assigned_cell o u) (ap (cell_at now) (sym set.0) ∙ k))
        (at_set now c d (assigned_cell (cell_at now c) u))

    still_named : (x : StoreCell) → IsAmong x stores → IsNamed many ms Off names now constants x → IsNamed many ms Off names after constants x
    still_named x among k = record {
      name = k.name;
      there = k.there;
      looks = ⊎_elim
          (λ is. inr (c, (is, (free x among is).0)))
          (λ other. ⊎_elim (λ l. inl (subst (λ o. Looks many o k.name.store) (sym (held-other ms now constants c (assigned_cell (cell_at now c) u) x.holder other)) l)) (λ off. inr off) k.looks)
          (cell_or_not x.holder c);
      declared = λ d is. still_declared d (k.declared d is);
    }

    still_unnamed : (x : StoreCell) → IsUnnamed ms names now constants x → IsUnnamed ms names after constants x
    still_unnamed x k = record {
      absent = k.absent;
      none = ⊎_elim
          (λ is. ap (λ y. store_held (held ms after constants y)) is ∙ ap (λ o. store_held (option_map (λ (y : Cell). y.value) o)) (still_undeclared c (k.undeclared c is)))
          (λ other. ap store_held (held-other ms now constants c (assigned_cell (cell_at now c) u) x.holder other) ∙ k.none)
          (cell_or_not x.holder c);
      undeclared = λ d is. still_undeclared d (k.undeclared d is);
    }

    pub stand-assigned : Stand many ms stores Off On v names after constants
    stand-assigned = record {
      of = h.of;
      each = λ x among. ⊎_elim (λ k. inl (still_named x among k)) (λ k. inr (still_unnamed x k)) (h.each x among);
      valued = λ x d among is on. ⊎_elim
          (λ same. ap (option_map (λ (y : Cell). y.value)) same ∙ h.valued x d among is on)
          (λ set. absurd ((free x among (is ∙ ap known.Cell set.0)).1 (subst On set.0 on)))
          (at_set now c d (assigned_cell (cell_at now c) u));
    }

  -- so does a `$` name's
  pub stand-told : {Off On : ℕ → Type 0} {v : Val} {names : List Subscription} {now : List (Option Cell)} {constants : List (Option Val)} (c : ℕ) (u : Val) → is_some (subscription_at names c) ≡ true
      → Stand many ms stores Off On v names now constants → Stand many ms stores Off On v names (slice_set now c (assigned_cell (cell_at now c) u)) constants
  stand-told {names = names} c u is h = stand-assigned c u h (λ x among holds. absurd (by (subscription_at names c) refl is x among holds)) where
    by : (o : Option Subscription) → subscription_at names c ≡ o → is_some o ≡ true → (x : StoreCell) → IsAmong x stores → x.holder ≡ known.Cell c → ⊥
    by None e some x among holds = true≢false (sym some)
    by (Some s) e some x among holds = name-plain stores apart names h.of c s x e among holds

  -- ---- a `$` name follows its variable

  module _ {Off On : ℕ → Type 0} {v : Val} {names : List Subscription} {now : List (Option Cell)} {constants : List (Option Val)} (c : ℕ)
      (h : Stand many ms stores (λ d. Off d ⊎ (c ≡ d)) On v names now constants) where
    module _ (d : ℕ) (st : Option ℕ) (on : On c) (follower : follower_of names c ≡ Some d) (looks : Looks many (Some v) st) where
      -- the `$` name that follows
      abbrev its : (x : StoreCell) × (IsAmong x stores × ((x.cell ≡ d) × (x.holder ≡ known.Cell c)))
      its = of_follower stores names c d h.of follower

      now_looks : (x : StoreCell) → IsAmong x stores → x ≡ its.0 → Looks many (held ms now constants x.holder) st
      now_looks x among is =
          let holds : x.holder ≡ known.Cell c = ap (λ (y : StoreCell). y.holder) is ∙ its.1.1.1 in
          subst (λ o. Looks many o st) (sym (ap (held ms now constants) holds ∙ h.valued x c among holds on)) looks

      followed : (x : StoreCell) → IsAmong x stores → IsNamed many ms (λ e. Off e ⊎ (c ≡ e)) names now constants x → IsNamed many ms Off (moved_to names d st) now constants x
      followed x among k = record {
        name = placed d st k.name;
        there = name-placed names d st x.cell ∙ ap (option_map (placed d st)) k.there;
        looks = ⊎_elim
            (λ same. inl (subst (Looks many (held ms now constants x.holder)) (sym (placed-same d st k.name (cell ∙ same))) (now_looks x among (apart.cells x its.0 among its.1.0 (same ∙ sym its.1.1.0)))))
            (λ other. ⊎_elim
            (λ l. inl (subst (Looks many (held ms now constants x.holder)) (sym (placed-other d st k.name (λ e. other (sym cell ∙ e)))) l))
            (λ off. ⊎_elim (λ still. inr (off.0, (off.1.0, still))) (λ its_own. absurd (other (ap (λ (y : StoreCell). y.cell) (apart.holders x its.0 among its.1.0 (subst IsOwn (sym off.1.0) tt) (off.1.0 ∙ (ap known.Cell (sym its_own) ∙ sym its.1.1.1))) ∙ its.1.1.0))) off.1.1)
            k.looks)
            (cases_eq x.cell d);
        declared = k.declared;
      } where
        cell : k.name.cell ≡ x.cell
        cell = (of_name stores names x.cell k.name h.of k.there).1

      pub stand-followed : Stand many ms stores Off On v (moved_to names d st) now constants
      stand-followed = record {
        of = of_placed stores names d st h.of;
        each = λ x among. ⊎_elim
            (λ k. inl (followed x among k))
            (λ k. inr (record { absent = name-placed names d st x.cell ∙ ap (option_map (placed d st)) k.absent; none = k.none; undeclared = k.undeclared }))
            (h.each x among);
        valued = h.valued;
      }

    -- where none follows, there is none to
    pub stand-unfollowed : follower_of names c ≡ None → Stand many ms stores Off On v names now constants
    stand-unfollowed nobody = record {
      of = h.of;
      each = λ x among. ⊎_elim
          (λ k. inl (record {
            name = k.name;
            there = k.there;
            looks = ⊎_elim (λ l. inl l) (λ off. ⊎_elim (λ still. inr (off.0, (off.1.0, still))) (λ its_own. absurd (true≢false (sym (followed_by x among k off.0 off.1.0 its_own)))) off.1.1) k.looks;
            declared = k.declared;
          }))
          (λ k. inr k)
          (h.each x among);
      valued = h.valued;
    } where
      followed_by : (x : StoreCell) → IsAmong x stores → (k : IsNamed many ms (λ d. Off d ⊎ (c ≡ d)) names now constants x) → (d : ℕ) → x.holder ≡ known.Cell d → c ≡ d → false ≡ true
      followed_by x among k d holds same =
          ap is_some (sym nobody) ∙ follows names x.cell c k.name k.there (name-source stores apart names h.of x k.name among k.there ∙ (ap variable holds ∙ ap Some (sym same)))
