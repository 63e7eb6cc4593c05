use Rattle.std.proofs.Common.{rules, arith}
use Rattle.std.proofs.lemmas.Grind.{common_steps}
use Rattle.sv_expr.specs.Limits.{real}
use Rattle.sv_script.specs.Rules as spec
use Rattle.sv_script.specs.Rules.{braced}
use Rattle.sv_script.specs.Script.{bodies}
use Rattle.sv_script.proofs.statements.Statements.braced.Goals as goal

pub returns-in_err-found : goal.returns-in_err-found
unfolding braced
returns-in_err-found g c =
    let read = c.upto.ensures (spec.item real c.args.self.now.exprs.room (bodies real c.args.self.now.exprs.room) c.args.place) (λ old new r h. search rules) in
    first_of (search rules, grind (arith, common_steps))

pub returns : goal.returns
unfolding braced
returns g c =
    let read = c.upto.ensures (spec.item real c.args.self.now.exprs.room (bodies real c.args.self.now.exprs.room) c.args.place) (λ old new r h. search rules) in
    first_of (search rules, grind (arith, common_steps))
