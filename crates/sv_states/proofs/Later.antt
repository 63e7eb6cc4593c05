-- Cells against what they were at the last snapshot.
use Rattle.std.proofs.Common.{◌≡◌, ℕ, ◌+◌, List, length, Option, Some, None, refl, sym, ap, ◌∙◌, arith, Bool, true, false, cond, slice_set, ⊎_elim, subst}
use Rattle.std.proofs.lemmas.Bool.{cases_eq, cases_lt}
use Rattle.std.proofs.lemmas.List.{get_or-set_same, get_or-set_other, set_past, set-get_or}
use Rattle.sv_value.specs.Value.{Val}
use Rattle.sv_value.specs.Change.{differs}
use Rattle.sv_view.specs.Cell.{Cell}
use Rattle.sv_instance.specs.Cells.{Cells, cell_at, count_of, assigned_cell, assigned, touched_cell, touched, declared_cell, declared, snapped}
use Rattle.sv_states.specs.Sound.{IsLater}

pub later_same : (a : Option Cell) → IsLater a a
later_same a = record { least = omega arith; same = λ _. refl }

-- one more change is later
later_more : (a b x : Option Cell) → IsLater a b → count_of x ≡ count_of b + 1 → IsLater a x
later_more a b x l more = record {
  least = let e = l.least in omega (arith, e, more);
  same = λ h. absurd (let e = l.least in omega (arith, e, more, h));
}

later_if : (a : Option Cell) (c : Cell) (v : Val) (t : Bool) → IsLater a (Some c) → IsLater a (cond t (Some (record { value = v; count = c.count + 1 })) (Some c))
later_if a c v true l = later_more a (Some c) (Some (record { value = v; count = c.count + 1 })) l refl
later_if a c v false l = l

later-assigned_cell : (a b : Option Cell) (v : Val) → IsLater a b → IsLater a (assigned_cell b v)
later-assigned_cell a None v l = l
later-assigned_cell a (Some c) v l = later_if a c v (differs c.value v) l

later-touched_cell : (a b : Option Cell) → IsLater a b → IsLater a (touched_cell b)
later-touched_cell a None l = l
later-touched_cell a (Some c) l = later_more a (Some c) (touched_cell (Some c)) l refl

-- one cell written by a later one
later-set : (old now : List (Option Cell)) (c : ℕ) (x : Option Cell) → ((d : ℕ) → IsLater (cell_at old d) (cell_at now d)) → IsLater (cell_at old c) x → (d : ℕ) → IsLater (cell_at old d) (cell_at (slice_set now c x) d)
later-set old now c x all new d = ⊎_elim
    (λ inside. ⊎_elim
    (λ same. subst (λ k. IsLater (cell_at old k) (cell_at (slice_set now c x) k)) (sym same) (subst (IsLater (cell_at old c)) (sym (get_or-set_same now c x None inside)) new))
    (λ other. subst (IsLater (cell_at old d)) (sym (get_or-set_other now c d x None other)) (all d))
    (cases_eq d c))
    (λ past. subst (λ l. IsLater (cell_at old d) (cell_at l d)) (sym (set_past now c x past)) (all d))
    (cases_lt c (length now))

-- the present cells are later than those that were seen
abbrev pub IsSeenBy : Cells → Type 0
IsSeenBy cells = (old : List (Option Cell)) → cells.seen ≡ Some old → (c : ℕ) → IsLater (cell_at old c) (cell_at cells.now c)

pub seen-assigned : (cells : Cells) (c : ℕ) (v : Val) → IsSeenBy cells → IsSeenBy (assigned cells c v)
seen-assigned cells c v s old is = later-set old cells.now c (assigned_cell (cell_at cells.now c) v) (s old is) (later-assigned_cell (cell_at old c) (cell_at cells.now c) v (s old is c))

pub seen-touched : (cells : Cells) (c : ℕ) → IsSeenBy cells → IsSeenBy (touched cells c)
seen-touched cells c s old is = later-set old cells.now c (touched_cell (cell_at cells.now c)) (s old is) (later-touched_cell (cell_at old c) (cell_at cells.now c) (s old is c))

-- after a snapshot a declaration changes nothing
pub now-declared : (cells : Cells) (c : ℕ) (v : Val) (old : List (Option Cell)) → cells.seen ≡ Some old → (declared cells c v).now ≡ cells.now
now-declared cells c v old is = ap (λ s. slice_set cells.now c (declared_cell s (cell_at cells.now c) v)) is ∙ set-get_or cells.now c None

pub seen-declared : (cells : Cells) (c : ℕ) (v : Val) → IsSeenBy cells → IsSeenBy (declared cells c v)
seen-declared cells c v s old is d = subst (λ l. IsLater (cell_at old d) (cell_at l d)) (sym (now-declared cells c v old is)) (s old is d)

some_same : {A : Type 0} (x y : A) → Some x ≡ Some y → x ≡ y
some_same x y e = cc

pub seen-snapped : (cells : Cells) → IsSeenBy (snapped cells)
seen-snapped cells old is c = subst (λ l. IsLater (cell_at l c) (cell_at cells.now c)) (some_same cells.now old is) (later_same (cell_at cells.now c))
