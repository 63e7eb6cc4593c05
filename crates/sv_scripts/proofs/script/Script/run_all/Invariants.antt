use Rattle.std.proofs.Common.{◌≡◌, map, drop}
use Rattle.sv_meaning.specs.Runs.{top}
use Rattle.sv_meaning.specs.Statements.{in_order}
use Rattle.sv_scripts.specs.Props.{given_as}
use Rattle.sv_scripts.proofs.script.Script.run_all.Given as goal

abbrev pub invariant-loop-stmt : goal.invariant-loop-stmt
invariant-loop-stmt l = in_order (map (top l.self.program.now l.self.owner.number (map given_as l.self.props.now)) l.stmts) l.fn.locals l.fn.world ≡ in_order (map (top l.self.program.now l.self.owner.number (map given_as l.self.props.now)) (drop l.stmt-index l.stmts)) l.locals l.world
