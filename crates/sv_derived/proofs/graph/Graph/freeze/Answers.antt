use Rattle.std.proofs.Common.{◌∙◌, ap, length}
use Rattle.sv_derived.specs.Derived.{frozen}
use Rattle.sv_derived.proofs.Ordering.{ordered-frozen, ordered_back}
use Rattle.sv_derived.proofs.graph.Graph.freeze.Goals as goal

pub invariant_of-self : goal.invariant_of-self
invariant_of-self c =
    let items = c.self.inside.entries.items in
    ordered_back c.freeze_all.new.entries items (frozen items c.args.owner.number) c.self.inside.entries.len c.self.inside.entries.ok.0 (c.freeze_all.auto.entries ∙ ap length c.deref_mut.ensures.value)
    (c.freeze_all.ensures ∙ ap (λ l. frozen l c.args.owner.number) c.deref_mut.ensures.value) (ordered-frozen items c.args.owner.number c.self.invariant)
