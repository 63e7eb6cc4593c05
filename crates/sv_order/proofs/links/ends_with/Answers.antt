use Rattle.std.proofs.Common.{◌≡◌, Some, None, List, ℕ, ◌-◌, length, sym, subst}
use Rattle.std.specs.Prelude.{slice_get}
use Rattle.sv_order.proofs.Setting.{last-some, last-none}
use Rattle.sv_order.proofs.links.ends_with.Goals as goal

pub returns-in-Some : goal.returns-in-Some
returns-in-Some c =
    let last = subst (λ (z : List ℕ). slice_get z (length z - 1) ≡ Some c.in-Some.last.now) c.as_slice.ensures (sym c.in-Some.ensures.value) in
    sym (last-some c.args.list.now c.in-Some.last.now c.args.statement last)

pub returns-in-None : goal.returns-in-None
returns-in-None c =
    let none = subst (λ (z : List ℕ). slice_get z (length z - 1) ≡ None) c.as_slice.ensures (sym c.in-None.ensures.value) in
    sym (last-none c.args.list.now c.args.statement none)
