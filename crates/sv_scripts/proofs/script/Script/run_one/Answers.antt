use Rattle.std.proofs.Common.{◌≡◌, ap, sym, ◌∙◌, subst, map, None, option_copied}
use Rattle.sv_code.specs.declared.functions.CodeStmtKind.{out-CodeStmtKind}
use Rattle.sv_meaning.specs.Gives.{Gives, flow_of}
use Rattle.sv_meaning.specs.Runs.{declarations, top_or}
use Rattle.sv_scripts.specs.Props.{given_as}
use Rattle.sv_scripts.proofs.script.Script.run_one.Goals as goal

pub returns-in_default : goal.returns-in_default
returns-in_default c =
    let s = c.args.self.now in
    let none : declarations (out-CodeStmtKind c.args.stmt.now.kind) ≡ None = ap (λ k. declarations (out-CodeStmtKind k)) (sym c.get.ensures) ∙ (sym c.declarations.ensures ∙ ap option_copied c.in_default.is) in
    subst (λ d. Gives flow_of c.run.result c.run.new.locals c.run.new.world (top_or s.program.now s.owner.number (map given_as s.props.now) d c.args.stmt.now c.args.locals.now c.args.world.now)) (sym none) (rw c.context.ensures at c.run.ensures.means)
