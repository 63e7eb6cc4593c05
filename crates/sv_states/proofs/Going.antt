-- The way of a value, one cell further.
use Rattle.std.proofs.Common.{◌≡◌, ℕ, zero, suc, ◌-◌, ◌<◌, List, [], ◌∷◌, ◌++◌, Option, Some, None, refl, sym, ap, ◌∙◌, arith, true, false}
use Rattle.std.specs.Prelude.{is_some}
use Rattle.std.proofs.lemmas.List.{append_assoc, append-nil}
use Rattle.sv_store.specs.Stores.{Subscriber}
use Rattle.sv_instance.specs.Bound.{Bound, bound_at}
use Rattle.sv_value.specs.Value.{Val}
use Rattle.sv_instance.specs.Cells as cells
use Rattle.sv_instance.specs.Subscriptions.{subscription_at}
use Rattle.sv_instance.specs.declared.instance.Instance.{Instance}
use Rattle.sv_instance.specs.declared.subscriptions.Subscription.{Subscription}
use Rattle.sv_states.specs.States.{States, live}
use Rattle.sv_states.specs.Assignment.{Way, way, nowhere, onward, up, into, way_step}
use Rattle.sv_states.specs.Ways.{behind, above}

-- without room the way ends
pub way-zero : (room : ℕ) (s : States) (v : Val) (n c : ℕ) → room ≡ 0 → way room s v n c ≡ nowhere
way-zero room s v n c e = ap (λ r. way r s v n c) e

way-suc : (room : ℕ) (s : States) (v : Val) (n c : ℕ) → 0 < room → way room s v n c ≡ way_step v (live s n) (record { inst = n; cell = c }) (way (room - 1) s v)
way-suc zero s v n c h = absurd (omega arith)
way-suc (suc room) s v n c h = let e : room ≡ suc room - 1 = omega arith in ap (λ r. way_step v (live s n) (record { inst = n; cell = c }) (way r s v)) e

-- an instance that isn't live ends it
pub way-none : (room : ℕ) (s : States) (v : Val) (n c : ℕ) → 0 < room → live s n ≡ None → way room s v n c ≡ nowhere
way-none room s v n c h none = way-suc room s v n c h ∙ ap (λ o. way_step v o (record { inst = n; cell = c }) (way (room - 1) s v)) none

pub up-stop : {A : Type 0} (end : A) (b : Option Bound) (next : ℕ → ℕ → A) → above b ≡ None → up end b next ≡ end
up-stop end None next e = refl
up-stop end (Some b) next e = cc

pub up-go : {A : Type 0} (end : A) (b : Option Bound) (next : ℕ → ℕ → A) (v : Subscriber) → above b ≡ Some v → up end b next ≡ next v.inst v.cell
up-go end None next v e = cc
up-go end (Some b) next v e = ap (λ o. next (inst_or o) (cell_or o)) e
  where
    inst_or : Option Subscriber → ℕ
    inst_or None = 0
    inst_or (Some x) = x.inst

    cell_or : Option Subscriber → ℕ
    cell_or None = 0
    cell_or (Some x) = x.cell

module _ (room : ℕ) (s : States) (v : Val) (n c : ℕ) (i : Instance) (h : 0 < room) (there : live s n ≡ Some i) (old : Way) where
  here : way room s v n c ≡ into (subscription_at i.subscriptions c) (cells.changes i.cells c v) (bound_at i.setup.bounds c) (record { inst = n; cell = c }) (way (room - 1) s v)
  here = way-suc room s v n c h ∙ ap (λ o. way_step v o (record { inst = n; cell = c }) (way (room - 1) s v)) there

  -- a `$` name ends the way
  pub behind-name : (x : Subscription) → subscription_at i.subscriptions c ≡ Some x → record { cells = old.cells; store = x.store } ≡ behind old (way room s v n c)
  behind-name x e =
      (λ k. record { cells = sym (append-nil old.cells) k; store = x.store })
      ∙ sym (ap (behind old) (here ∙ ap (λ o. into o (cells.changes i.cells c v) (bound_at i.setup.bounds c) (record { inst = n; cell = c }) (way (room - 1) s v)) e))

  -- so does a cell that has the value
  pub behind-still : old.store ≡ None → subscription_at i.subscriptions c ≡ None → cells.changes i.cells c v ≡ false → old ≡ behind old (way room s v n c)
  behind-still empty none still =
      (λ k. record { cells = sym (append-nil old.cells) k; store = empty k })
      ∙ sym (ap (behind old) (here ∙ (λ k. into (none k) (still k) (bound_at i.setup.bounds c) (record { inst = n; cell = c }) (way (room - 1) s v))))

  module _ (cells' : List Subscriber) (store : Option ℕ) (none : subscription_at i.subscriptions c ≡ None) (changes : cells.changes i.cells c v ≡ true) (empty : store ≡ None) (pushed : cells' ≡ old.cells ++ record { inst = n; cell = c } ∷ []) where
    into_cell : way room s v n c ≡ onward (record { inst = n; cell = c }) (up nowhere (bound_at i.setup.bounds c) (way (room - 1) s v))
    into_cell = here ∙ (λ k. into (none k) (changes k) (bound_at i.setup.bounds c) (record { inst = n; cell = c }) (way (room - 1) s v))

    -- the way ends behind this cell
    pub behind-stop : above (bound_at i.setup.bounds c) ≡ None → record { cells = cells'; store = store } ≡ behind old (way room s v n c)
    behind-stop e =
        (λ k. record { cells = pushed k; store = empty k })
        ∙ sym (ap (behind old) (into_cell ∙ ap (onward (record { inst = n; cell = c })) (up-stop nowhere (bound_at i.setup.bounds c) (way (room - 1) s v) e)))

    -- it goes on behind this cell
    pub behind-go : (b : Subscriber) → above (bound_at i.setup.bounds c) ≡ Some b → behind (record { cells = cells'; store = store }) (way (room - 1) s v b.inst b.cell) ≡ behind old (way room s v n c)
    behind-go b e =
        let w = way (room - 1) s v b.inst b.cell in
        (λ k. record { cells = (ap (λ l. l ++ w.cells) pushed ∙ append_assoc old.cells (record { inst = n; cell = c } ∷ []) w.cells) k; store = w.store })
        ∙ sym (ap (behind old) (into_cell ∙ ap (onward (record { inst = n; cell = c })) (up-go nowhere (bound_at i.setup.bounds c) (way (room - 1) s v) b e)))

pub none_of : {A : Type 0} (o : Option A) → is_some o ≡ false → o ≡ None
none_of None e = refl
none_of (Some x) e = cc
