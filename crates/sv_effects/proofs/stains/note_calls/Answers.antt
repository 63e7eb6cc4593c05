use Rattle.std.proofs.Common.{◌∙◌}
use Rattle.sv_effects.proofs.Staining.{noted_more}
use Rattle.sv_effects.proofs.stains.note_calls.Goals as goal

pub loop-sign-preserved : goal.loop-sign-preserved
loop-sign-preserved c = record {
  size = c.note_call.ensures.size ∙ c.loop-sign.invariant.size;
  adds = noted_more c.args.callers.now.items c.loop-sign.callers.items c.note_call.new.callers.items c.args.known.now c.args.signs.now c.loop-sign.sign-index c.args.point _ c.loop-sign-test.true c.loop-sign.invariant.adds c.in_ok-note_call.ensures.callers;
}
