use Rattle.std.proofs.Common.{◌≡◌, map, drop}
use Rattle.sv_meaning.specs.Runs.{top_declared}
use Rattle.sv_meaning.specs.Statements.{in_order}
use Rattle.sv_scripts.specs.Props.{given_as}
use Rattle.sv_scripts.proofs.script.Script.declare_all.Given as goal

abbrev pub invariant-loop-decl : goal.invariant-loop-decl
invariant-loop-decl l = in_order (map (top_declared l.self.program.now l.self.owner.number (map given_as l.self.props.now)) l.decls) l.fn.locals l.fn.world ≡ in_order (map (top_declared l.self.program.now l.self.owner.number (map given_as l.self.props.now)) (drop l.decl-index l.decls)) l.locals l.world
