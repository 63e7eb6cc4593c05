use Rattle.std.proofs.Common.{length, refl, ◌∙◌}
use Rattle.sv_effects.specs.Known.{known}
use Rattle.sv_effects.specs.Stains.{is_stained}
use Rattle.sv_effects.proofs.Staining.{file_within, top_within, row_within, stained_more}
use Rattle.sv_effects.proofs.stains.stained_of.Goals as goal

pub is_stained-is_stained-requires-clause-file : goal.is_stained-is_stained-requires-clause-file
is_stained-is_stained-requires-clause-file c = file_within c.args.bundle.now c.args.functions.now c.loop-point.point c.index-functions-point.result c.requires.functions c.loop-point-test.true c.index-functions-point.is

pub is_stained-is_stained-requires-clause-in_tops : goal.is_stained-is_stained-requires-clause-in_tops
is_stained-is_stained-requires-clause-in_tops c =
    top_within c.args.bundle.now.files c.in_ok-tops.tops.items c.deref.result.now c.index-functions-point.result.file c.deref.ensures.value c.in_ok-tops.ensures
    (file_within c.args.bundle.now c.args.functions.now c.loop-point.point c.index-functions-point.result c.requires.functions c.loop-point-test.true c.index-functions-point.is)

pub is_stained-is_stained-requires-clause-in_known : goal.is_stained-is_stained-requires-clause-in_known
is_stained-is_stained-requires-clause-in_known c =
    row_within (known c.args.bundle.now) c.args.known.now c.args.known.now (length c.args.bundle.now.files) c.index-functions-point.result.file refl c.requires.known
    (file_within c.args.bundle.now c.args.functions.now c.loop-point.point c.index-functions-point.result c.requires.functions c.loop-point-test.true c.index-functions-point.is)

pub loop-point-preserved : goal.loop-point-preserved
loop-point-preserved c =
    c.loop-point.invariant
    ∙ stained_more (is_stained c.args.bundle.now) c.args.functions.now c.loop-point.stained.items c.push_if.new.points.items c.loop-point.point c.index-functions-point.result c.is_stained-is_stained.result c.loop-point-test.true c.index-functions-point.is
    c.is_stained-is_stained.ensures c.in_ok-push_if.ensures
