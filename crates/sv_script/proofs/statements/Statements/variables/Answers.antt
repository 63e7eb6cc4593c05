use Rattle.std.proofs.Common.{rules, arith}
use Rattle.std.proofs.lemmas.Grind.{common_steps}
use Rattle.sv_expr.specs.Limits.{real}
use Rattle.sv_script.specs.Rules as spec
use Rattle.sv_script.specs.Rules.{variables}
use Rattle.sv_script.specs.Script.{bodies}
use Rattle.sv_script.proofs.statements.Statements.variables.Goals as goal

pub returns : goal.returns
unfolding variables
returns g c =
    let read = c.separated.ensures (spec.declared real c.args.self.now.exprs.room (bodies real c.args.self.now.exprs.room) c.args.is_head) (λ old new r h. search rules) in
    first_of (search rules, grind (arith, common_steps))
