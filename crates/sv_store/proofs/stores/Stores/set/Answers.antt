use Rattle.std.proofs.Common.{◌∙◌, ap}
use Rattle.sv_value.specs.View.{view_of}
use Rattle.sv_store.specs.Stores.{with_value}
use Rattle.sv_store.specs.Kept.{stores_of}
use Rattle.sv_store.proofs.Counts.{once-back, once-set}
use Rattle.sv_store.proofs.stores.Stores.set.Goals as goal

pub invariant_of-self : goal.invariant_of-self
invariant_of-self c =
    let items = c.self.inside.entries.items in
    let same = c.deref_mut.ensures.value in
    once-back c.set_value.new.entries c.deref_mut.result.now items c.self.inside.entries.len _ c.self.inside.entries.ok.0 c.set_value.auto.entries same (c.set_value.ensures.stored ∙ ap (λ s. with_value (stores_of s) c.args.id (view_of c.args.value)) same) (once-set (stores_of items) c.args.id (view_of c.args.value) c.self.invariant)
