use Rattle.std.proofs.Common.{◌∙◌, ap, length}
use Rattle.sv_derived.specs.Derived.{done}
use Rattle.sv_derived.proofs.Ordering.{ordered-done, ordered_back}
use Rattle.sv_derived.proofs.graph.Graph.done.Goals as goal

pub invariant_of-self : goal.invariant_of-self
invariant_of-self c =
    let items = c.self.inside.entries.items in
    ordered_back c.done_all.new.entries items (done items c.args.id) c.self.inside.entries.len c.self.inside.entries.ok.0 (c.done_all.auto.entries ∙ ap length c.deref_mut.ensures.value)
    (c.done_all.ensures ∙ ap (λ l. done l c.args.id) c.deref_mut.ensures.value) (ordered-done items c.args.id c.self.invariant)
