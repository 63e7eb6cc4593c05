use Rattle.std.proofs.Common.{◌≡◌, drop}
use Rattle.sv_meaning.specs.Runs.{each_in_turn, run_due}
use Rattle.sv_scripts.proofs.reactive.run_each.Given as goal

abbrev pub invariant-loop-one : goal.invariant-loop-one
invariant-loop-one l = each_in_turn (run_due l.rerun.program.now l.rerun.all l.rerun.inst.number l.rerun.stmts.now) l.runs l.fn.world ≡ each_in_turn (run_due l.rerun.program.now l.rerun.all l.rerun.inst.number l.rerun.stmts.now) (drop l.one-index l.runs) l.world
