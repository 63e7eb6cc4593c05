-- How the `$` names of one instance stand while its script runs, which declares variables and constants and subscribes the names.
use Rattle.std.proofs.Common.{◌≡◌, ◌≢◌, ℕ, Bool, true, false, List, [], ◌∷◌, ◌++◌, Option, Some, None, option_map, is_some, refl, sym, ap, subst, ◌∙◌, inl, inr, ◌⊎◌, ⊎_elim, nat_eq, if◌then◌else◌}
use Rattle.std.proofs.lemmas.Bool.{cases_eq, eq-eqb, ne_eqb}
use Rattle.std.proofs.lemmas.Option.{none-some}
use Rattle.sv_code.proofs.Each.{each_append}
use Rattle.sv_code.specs.Names.{Each}
use Rattle.sv_code.specs.declared.known.Known.{Known}
use Rattle.sv_code.specs.declared.known.Known.TheVariants as known
use Rattle.sv_code.specs.declared.program.StoreCell.{StoreCell}
use Rattle.sv_instance.specs.Cells.{cell_at}
use Rattle.sv_instance.specs.Subscriptions.{subscription_at}
use Rattle.sv_instance.specs.declared.subscriptions.Subscription.{Subscription}
use Rattle.sv_meaning.specs.Statements.{variable}
use Rattle.sv_value.specs.Value.{Val}
use Rattle.sv_view.specs.Cell.{Cell}
use Rattle.sv_view.specs.Constants.{constant_at}
use Rattle.sv_subscribed.proofs.Known.{IsOf}
use Rattle.sv_subscribed.proofs.Standing.{Modules, IsNamed, IsUnnamed, Stand, nowhere}
use Rattle.sv_subscribed.specs.Apart.{HoldApart}
use Rattle.sv_subscribed.specs.Holders.{IsAmong, store_held, held, Looks}

-- ---- names

name_push : (names : List Subscription) (x : Subscription) → subscription_at names x.cell ≡ None → subscription_at (names ++ x ∷ []) x.cell ≡ Some x
name_push [] x h = ap (λ (b : Bool). if b then Some x else None) (eq-eqb x.cell x.cell refl)
name_push (y ∷ names) x h = by (name_push names x) (nat_eq y.cell x.cell) h where
  by : (subscription_at names x.cell ≡ None → subscription_at (names ++ x ∷ []) x.cell ≡ Some x) → (b : Bool) → (if b then Some y else subscription_at names x.cell) ≡ None
      → (if b then Some y else subscription_at (names ++ x ∷ []) x.cell) ≡ Some x
  by rest true e = absurd (none-some y (sym e))
  by rest false e = rest e

pub name_push-other : (names : List Subscription) (x : Subscription) (d : ℕ) → d ≢ x.cell → subscription_at (names ++ x ∷ []) d ≡ subscription_at names d
name_push-other [] x d h = ap (λ (b : Bool). if b then Some x else None) (ne_eqb x.cell d (λ e. h (sym e)))
name_push-other (y ∷ names) x d h = ap (λ o. if nat_eq y.cell d then Some y else o) (name_push-other names x d h)

-- what holds something holds it still where its cell stays
pub held-same : (ms : Modules) (now now' : List (Option Cell)) (constants : List (Option Val)) (k : Known) → ((d : ℕ) → k ≡ known.Cell d → cell_at now' d ≡ cell_at now d) → held ms now' constants k ≡ held ms now constants k
held-same ms now now' constants (known.Cell d) same = ap (option_map (λ (y : Cell). y.value)) (same d refl)
held-same ms now now' constants (known.Local l) same = refl
held-same ms now now' constants (known.Constant m) same = refl
held-same ms now now' constants (known.Export file m) same = refl
held-same ms now now' constants (known.Life l) same = refl
held-same ms now now' constants known.Writable same = refl
held-same ms now now' constants known.Derived same = refl
held-same ms now now' constants (known.BuiltIn b) same = refl

-- so it does where constants change that it isn't
pub held-set : (ms : Modules) (now : List (Option Cell)) (constants constants' : List (Option Val)) (k : Known) → ((d : ℕ) → k ≡ known.Constant d → constant_at constants' d ≡ constant_at constants d)
    → held ms now constants' k ≡ held ms now constants k
held-set ms now constants constants' (known.Constant d) same = same d refl
held-set ms now constants constants' (known.Cell d) same = refl
held-set ms now constants constants' (known.Local l) same = refl
held-set ms now constants constants' (known.Export file m) same = refl
held-set ms now constants constants' (known.Life l) same = refl
held-set ms now constants constants' known.Writable same = refl
held-set ms now constants constants' known.Derived same = refl
held-set ms now constants constants' (known.BuiltIn b) same = refl

-- ---- an instance

-- each `$` name stands well, or is one of the rest
pub record Part (many : ℕ) (ms : Modules) (stores : List StoreCell) (Rest : StoreCell → Type 0) (names : List Subscription) (now : List (Option Cell)) (constants : List (Option Val)) : Type 0 where
  pub of : Each (IsOf stores) names
  pub each : (x : StoreCell) → IsAmong x stores → Rest x ⊎ (IsNamed many ms nowhere names now constants x ⊎ IsUnnamed ms names now constants x)

module _ {many : ℕ} {ms : Modules} {stores : List StoreCell} {names : List Subscription} {now : List (Option Cell)} {constants : List (Option Val)} where
  pub part-stands : {Rest : StoreCell → Type 0} {v : Val} → Stand many ms stores nowhere nowhere v names now constants → Part many ms stores Rest names now constants
  part-stands h = record { of = h.of; each = λ x among. inr (h.each x among) }

  pub stands-part : {Rest : StoreCell → Type 0} (v : Val) → ((x : StoreCell) → IsAmong x stores → Rest x → ⊥) → Part many ms stores Rest names now constants → Stand many ms stores nowhere nowhere v names now constants
  stands-part v none h = record {
    of = h.of;
    each = λ x among. ⊎_elim (λ r. absurd (none x among r)) (λ k. k) (h.each x among);
    valued = λ x c among is on. absurd on;
  }

  -- cells and constants change that hold no store for one that stands well
  pub part-kept : {Rest Rest' : StoreCell → Type 0} (now' : List (Option Cell)) (constants' : List (Option Val))
      → ((x : StoreCell) → IsAmong x stores → Rest x → Rest' x)
      → ((x : StoreCell) → IsAmong x stores → Rest' x ⊎ (((d : ℕ) → x.holder ≡ known.Cell d → cell_at now' d ≡ cell_at now d) × ((d : ℕ) → x.holder ≡ known.Constant d → constant_at constants' d ≡ constant_at constants d)))
      → Part many ms stores Rest names now constants → Part many ms stores Rest' names now' constants'
  part-kept {Rest = Rest} {Rest' = Rest'} now' constants' rest same h = record {
    of = h.of;
    each = λ x among. ⊎_elim (λ r. inl (rest x among r)) (λ k. ⊎_elim (λ r. inl r) (λ s. inr (still x s.0 s.1 k)) (same x among)) (h.each x among);
  } where
    still : (x : StoreCell) → ((d : ℕ) → x.holder ≡ known.Cell d → cell_at now' d ≡ cell_at now d) → ((d : ℕ) → x.holder ≡ known.Constant d → constant_at constants' d ≡ constant_at constants d)
        → IsNamed many ms nowhere names now constants x ⊎ IsUnnamed ms names now constants x → IsNamed many ms nowhere names now' constants' x ⊎ IsUnnamed ms names now' constants' x
    still x cells sets k =
        let e : held ms now' constants' x.holder ≡ held ms now constants x.holder = held-same ms now now' constants' x.holder cells ∙ held-set ms now constants constants' x.holder sets in
        ⊎_elim
        (λ n. inl (record {
          name = n.name;
          there = n.there;
          looks = ⊎_elim (λ l. inl (subst (λ o. Looks many o n.name.store) (sym e) l)) (λ off. absurd off.1.1) n.looks;
          declared = λ d is. ap is_some (cells d is) ∙ n.declared d is;
        }))
        (λ u. inr (record { absent = u.absent; none = ap store_held e ∙ u.none; undeclared = λ d is. cells d is ∙ u.undeclared d is }))
        k

  -- a `$` name is subscribed
  module _ (apart : HoldApart stores) {Rest Rest' : StoreCell → Type 0} (y : StoreCell) (among : IsAmong y stores) (st : Option ℕ) (absent : subscription_at names y.cell ≡ None)
      (looks : Looks many (held ms now constants y.holder) st) (declared : (d : ℕ) → y.holder ≡ known.Cell d → is_some (cell_at now d) ≡ true)
      (rest : (x : StoreCell) → IsAmong x stores → Rest x → (x ≡ y) ⊎ Rest' x) (h : Part many ms stores Rest names now constants) where
    abbrev one : Subscription
    one = record { cell = y.cell; source = variable y.holder; store = st }

    its : (x : StoreCell) → x ≡ y → IsNamed many ms nowhere (names ++ one ∷ []) now constants x
    its x is = subst (IsNamed many ms nowhere (names ++ one ∷ []) now constants) (sym is) (record { name = one; there = name_push names one absent; looks = inl looks; declared = declared })

    others : (x : StoreCell) → x.cell ≢ y.cell → IsNamed many ms nowhere names now constants x ⊎ IsUnnamed ms names now constants x
        → IsNamed many ms nowhere (names ++ one ∷ []) now constants x ⊎ IsUnnamed ms (names ++ one ∷ []) now constants x
    others x other k = ⊎_elim
        (λ n. inl (record { name = n.name; there = name_push-other names one x.cell other ∙ n.there; looks = n.looks; declared = n.declared }))
        (λ u. inr (record { absent = name_push-other names one x.cell other ∙ u.absent; none = u.none; undeclared = u.undeclared }))
        k

    pub part-added : Part many ms stores Rest' (names ++ one ∷ []) now constants
    part-added = record {
      of = each_append (IsOf stores) names (one ∷ []) h.of ((y, (among, (refl, refl))), tt);
      each = λ x is. ⊎_elim
          (λ same. inr (inl (its x (apart.cells x y is among same))))
          (λ other. ⊎_elim (λ r. ⊎_elim (λ e. inr (inl (its x e))) (λ r'. inl r') (rest x is r)) (λ k. inr (others x other k)) (h.each x is))
          (cases_eq x.cell y.cell);
    }
