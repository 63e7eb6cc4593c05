use Rattle.std.proofs.Common.{◌≡◌, drop}
use Rattle.sv_meaning.specs.Runs.{functions_set}
use Rattle.sv_scripts.proofs.script.Script.set_functions.Given as goal

abbrev pub invariant-loop-stmt : goal.invariant-loop-stmt
invariant-loop-stmt l = functions_set l.self.owner.number l.stmts l.fn.world ≡ functions_set l.self.owner.number (drop l.stmt-index l.stmts) l.world
