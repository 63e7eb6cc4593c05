use Rattle.std.proofs.Common.{arith, length, ap, ◌∙◌, sym, map}
use Rattle.sv_value.specs.View.{view_of}
use Rattle.sv_value.proofs.Items.{length_le-sizes, items-vals}
use Rattle.sv_value.proofs.value.List.items.Goals as goal

pub returns-clause-few : goal.returns-clause-few
returns-clause-few c = omega (arith, length_le-sizes c.self.inside.shared.value.items, ap length (c.as_slice.ensures.value ∙ ap (λ v. v.items) c.deref.ensures))

pub returns-clause-list : goal.returns-clause-list
returns-clause-list c =
    let shown = c.as_slice.ensures.value ∙ ap (λ v. v.items) c.deref.ensures in
    rw (shown, ← c.self.view_is) (sym (items-vals (map view_of c.self.inside.shared.value.items)))
