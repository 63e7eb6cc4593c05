use Rattle.std.proofs.Common.{◌≡◌, ◌++◌, drop}
use Rattle.sv_effects.specs.Functions.{functions_from}
use Rattle.sv_effects.proofs.functions.functions_of.Given as goal

abbrev pub invariant-loop-file : goal.invariant-loop-file
invariant-loop-file l = functions_from l.bundle.names 0 l.files ≡ l.functions ++ functions_from l.bundle.names l.file (drop l.file l.files)
