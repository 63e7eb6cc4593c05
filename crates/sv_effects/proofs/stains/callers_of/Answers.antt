use Rattle.std.proofs.Common.{length, ◌<◌, ◌∙◌, subst, sym}
use Rattle.std.proofs.lemmas.List.Elements.{All-get_or}
use Rattle.sv_effects.specs.declared.functions.Function.{Function}
use Rattle.sv_effects.proofs.Staining.{callers_more}
use Rattle.sv_effects.proofs.stains.callers_of.Goals as goal

pub loop-point-preserved : goal.loop-point-preserved
loop-point-preserved c =
    let f = c.index-functions-point.result in
    let inside : f.file < length c.args.known.now =
    subst (λ (z : Function). z.file < length c.args.known.now) (sym c.index-functions-point.is) (All-get_or (λ (z : Function). z.file < length c.args.known.now) c.args.functions.now c.loop-point.point f c.loop-point-test.true c.requires.files) in
    record {
      size = c.note_calls.ensures.size ∙ c.loop-point.invariant.size;
      turned = callers_more c.args.known.now c.args.functions.now c.loop-point.callers.items c.note_calls.new.callers.items c.loop-point.point f c.index-known-file.result c.as_slice-signs.result.now c.loop-point-test.true c.index-functions-point.is
          inside c.index-known-file.is c.as_slice-signs.ensures c.loop-point.invariant.turned c.in_ok-note_calls.ensures.callers;
    }
