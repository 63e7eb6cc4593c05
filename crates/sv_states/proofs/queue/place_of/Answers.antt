use Rattle.std.proofs.Common.{◌<◌, ◌∙◌, sym, ap, length, rules}
use Rattle.sv_instance.specs.Place.{inst_number}
use Rattle.sv_states.proofs.Leaving.{passed-found}
use Rattle.sv_states.proofs.queue.place_of.Goals as goal

pub returns-then-index-number-clause-place : goal.returns-then-index-number-clause-place
returns-then-index-number-clause-place c =
    let inside : c.loop-place.place < length c.args.entries.now.items = search rules in
    passed-found inst_number c.args.entries.now.items c.args.number c.loop-place.place c.index.result.now inside c.loop-place.invariant (ap inst_number (sym c.index.ensures) ∙ c.if-index-number.true)
