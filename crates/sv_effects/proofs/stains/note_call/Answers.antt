use Rattle.std.proofs.Common.{length, sym}
use Rattle.std.proofs.lemmas.Result.{on_ok_weaker}
use Rattle.sv_effects.proofs.Staining.{called_within, noted_some}
use Rattle.sv_effects.proofs.stains.note_call.Goals as goal

pub add_caller-requires : goal.add_caller-requires
add_caller-requires c = called_within (length c.args.callers.now.items) c.args.known.now c.args.sign c.in-Some.of c.requires.within (sym c.in-Some.ensures)

pub returns-in-Some-clause-callers : goal.returns-in-Some-clause-callers
returns-in-Some-clause-callers c =
    on_ok_weaker c.add_caller.result
    (noted_some c.args.callers.now.items c.add_caller.new.callers.items c.args.known.now c.args.sign c.in-Some.of c.args.point (sym c.in-Some.ensures)
    (called_within (length c.args.callers.now.items) c.args.known.now c.args.sign c.in-Some.of c.requires.within (sym c.in-Some.ensures))) c.add_caller.ensures.added
