use Rattle.std.proofs.Common.{◌∙◌, ap, length}
use Rattle.sv_derived.specs.Derived.{marked}
use Rattle.sv_derived.proofs.Ordering.{ordered-marked, ordered_back}
use Rattle.sv_derived.proofs.graph.Graph.mark.Goals as goal

pub invariant_of-self : goal.invariant_of-self
invariant_of-self c =
    let items = c.self.inside.entries.items in
    ordered_back c.mark_all.new.entries items (marked items c.args.id) c.self.inside.entries.len c.self.inside.entries.ok.0 (c.mark_all.auto.entries ∙ ap length c.deref_mut.ensures.value)
    (c.mark_all.ensures ∙ ap (λ l. marked l c.args.id) c.deref_mut.ensures.value) (ordered-marked items c.args.id c.self.invariant)
