use Rattle.std.proofs.Common.{arith, length, ap, ◌∙◌, sym, map}
use Rattle.sv_value.specs.View.{entry_of}
use Rattle.sv_value.proofs.Pairs.{length_le-field_sizes, entries-fields}
use Rattle.sv_value.proofs.value.Obj.fields.Goals as goal

pub returns-clause-few : goal.returns-clause-few
returns-clause-few c = omega (arith, length_le-field_sizes c.self.inside.shared.value.items, ap length (c.as_slice.ensures.value ∙ ap (λ v. v.items) c.deref.ensures))

pub returns-clause-list : goal.returns-clause-list
returns-clause-list c =
    let shown = c.as_slice.ensures.value ∙ ap (λ v. v.items) c.deref.ensures in
    rw (shown, ← c.self.view_is) (sym (entries-fields (map entry_of c.self.inside.shared.value.items)))
