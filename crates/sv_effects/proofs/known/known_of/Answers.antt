use Rattle.std.proofs.Common.{length, ap, ◌∙◌, arith}
use Rattle.std.proofs.lemmas.List.FromFn.{length-map-range_with_len}
use Rattle.sv_effects.proofs.Bounding.{functions_in, all_below}
use Rattle.sv_effects.proofs.Owning.{known_none, known_all}
use Rattle.sv_effects.proofs.known.known_of.Goals as goal

pub own-requires : goal.own-requires
own-requires c = record { within = functions_in c.args.bundle.now c.args.functions.now (length c.as_slice-files.result.now) c.requires.functions (ap length c.as_slice-files.ensures) }

pub own-requires-2 : goal.own-requires-2
own-requires-2 c = record { within = functions_in c.args.bundle.now c.args.functions.now (length c.as_slice-files.result.now) c.requires.functions (ap length c.as_slice-files.ensures) }

pub loop-file-init : goal.loop-file-init
loop-file-init c = known_none c.args.bundle.now c.args.functions.now (length c.as_slice-files.result.now) c.in_ok-known.known.items c.requires.functions (ap length c.as_slice-files.ensures) c.in_ok-known.ensures

pub add_imports_at-requires-clause-given : goal.add_imports_at-requires-clause-given
add_imports_at-requires-clause-given c =
    ap length (c.deref.ensures.value ∙ c.in_ok-given.ensures) ∙ length-map-range_with_len _ 0 (length c.as_slice-files.result.now)

pub returns-clause-known : goal.returns-clause-known
returns-clause-known c = known_all c.args.bundle.now c.loop-file.file c.loop-file.known.items c.loop-file.invariant (omega (arith, c.loop-file-test.false, ap length c.as_slice-files.ensures))

pub returns-clause-within : goal.returns-clause-within
returns-clause-within c =
    all_below c.args.bundle.now (length c.args.functions.now) (length c.args.bundle.now.files) c.loop-file.known.items (ap length c.requires.functions)
    (known_all c.args.bundle.now c.loop-file.file c.loop-file.known.items c.loop-file.invariant (omega (arith, c.loop-file-test.false, ap length c.as_slice-files.ensures)))
