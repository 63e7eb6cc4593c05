use Rattle.std.proofs.Common.{◌≡◌, ◌++◌, drop}
use Rattle.sv_imports.specs.Unknown.{unknown_from}
use Rattle.sv_imports.proofs.unknown.find_in_specs.Given as goal

abbrev pub invariant-loop-spec : goal.invariant-loop-spec
invariant-loop-spec l = l.fn.places ++ unknown_from l.names l.given l.origin l.specs ≡ l.places ++ unknown_from l.names l.given l.origin (drop l.spec-index l.specs)
