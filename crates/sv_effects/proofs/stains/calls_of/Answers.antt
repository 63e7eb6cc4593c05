use Rattle.std.proofs.Common.{length, ap, ◌∙◌}
use Rattle.std.proofs.lemmas.List.FromFn.{length-map-range_with_len}
use Rattle.sv_effects.specs.Known.{known}
use Rattle.sv_effects.proofs.Bounding.{functions_in, all_below}
use Rattle.sv_effects.proofs.Staining.{are_calls}
use Rattle.sv_effects.proofs.stains.calls_of.Goals as goal

pub callers_of-requires-clause-files : goal.callers_of-requires-clause-files
callers_of-requires-clause-files c =
    functions_in c.args.bundle.now c.args.functions.now (length c.args.known.now) c.requires.functions (ap length c.requires.known ∙ length-map-range_with_len (known c.args.bundle.now) 0 (length c.args.bundle.now.files))

pub callers_of-requires-clause-within : goal.callers_of-requires-clause-within
callers_of-requires-clause-within c = all_below c.args.bundle.now (length c.args.functions.now) (length c.args.bundle.now.files) c.args.known.now (ap length c.requires.functions) c.requires.known

pub returns : goal.returns
returns c =
    are_calls c.args.bundle.now c.args.functions.now c.args.known.now (record { stained = c.in_ok-stained.stained; callers = c.in_ok-callers.callers }) c.requires.functions c.requires.known c.in_ok-stained.ensures c.in_ok-callers.ensures.size
    c.in_ok-callers.ensures.turned
