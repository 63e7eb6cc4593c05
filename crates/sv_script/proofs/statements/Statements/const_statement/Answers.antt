use Rattle.std.proofs.Common.{rules, arith}
use Rattle.std.proofs.lemmas.Grind.{common_steps}
use Rattle.sv_expr.specs.Limits.{real}
use Rattle.sv_script.specs.Rules as spec
use Rattle.sv_script.specs.Rules.{const_statement}
use Rattle.sv_script.specs.Script.{bodies}
use Rattle.sv_script.proofs.statements.Statements.const_statement.Goals as goal

pub returns-in_err-decls : goal.returns-in_err-decls
unfolding const_statement
returns-in_err-decls g c =
    let read = c.separated.ensures (spec.fixed real c.args.self.now.exprs.room (bodies real c.args.self.now.exprs.room)) (λ old new r h. search rules) in
    first_of (search rules, grind (arith, common_steps))

pub returns-in_err-ending : goal.returns-in_err-ending
unfolding const_statement
returns-in_err-ending g c =
    let read = c.separated.ensures (spec.fixed real c.args.self.now.exprs.room (bodies real c.args.self.now.exprs.room)) (λ old new r h. search rules) in
    first_of (search rules, grind (arith, common_steps))

pub returns : goal.returns
unfolding const_statement
returns g c =
    let read = c.separated.ensures (spec.fixed real c.args.self.now.exprs.room (bodies real c.args.self.now.exprs.room)) (λ old new r h. search rules) in
    first_of (search rules, grind (arith, common_steps))
