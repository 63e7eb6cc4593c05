use Rattle.std.proofs.Common.{◌∙◌}
use Rattle.sv_effects.proofs.Staining.{stained_is}
use Rattle.sv_effects.proofs.stains.is_stained.Goals as goal

pub returns : goal.returns
returns c =
    c.is_any_stain.ensures
    ∙ stained_is c.args.bundle.now c.args.function.now c.args.tops.now c.index-tops-file.result c.args.known.now c.index-known-file.result c.as_slice.result.now c.requires.tops c.requires.known c.requires.file c.index-tops-file.is c.index-known-file.is c.as_slice.ensures
