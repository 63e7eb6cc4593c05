use Rattle.std.proofs.Common.{◌∙◌, ap}
use Rattle.sv_store.specs.Stores.{dropped}
use Rattle.sv_store.specs.Kept.{stores_of}
use Rattle.sv_store.proofs.Counts.{once-back, once-dropped}
use Rattle.sv_store.proofs.stores.Stores.drop_of.Goals as goal

pub invariant_of-self : goal.invariant_of-self
invariant_of-self c =
    let items = c.self.inside.entries.items in
    let same = c.deref_mut.ensures.value in
    once-back c.drop_all.new.entries c.deref_mut.result.now items c.self.inside.entries.len _ c.self.inside.entries.ok.0 c.drop_all.auto.entries same (c.drop_all.ensures ∙ ap (λ s. dropped (stores_of s) c.args.inst.number) same) (once-dropped c.args.inst.number (stores_of items) c.self.invariant)
