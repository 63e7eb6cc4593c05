use Rattle.std.proofs.Common.{rules, arith}
use Rattle.std.proofs.lemmas.Grind.{common_steps}
use Rattle.sv_expr.specs.Rules.{call}
use Rattle.sv_expr.proofs.grammar.Grammar.call.Goals as goal

pub returns-in_err-args : goal.returns-in_err-args
unfolding call
returns-in_err-args g c =
    let read = c.listed.ensures ((g.B.Enclosed.readers c.args.self.now.room).inside c.argument-form.result) (λ old new r h. search rules) in
    first_of (search rules, grind (arith, common_steps))

pub returns-then-not-is_single : goal.returns-then-not-is_single
unfolding call
returns-then-not-is_single g c =
    let read = c.listed.ensures ((g.B.Enclosed.readers c.args.self.now.room).inside c.argument-form.result) (λ old new r h. search rules) in
    first_of (search rules, grind (arith, common_steps))

pub returns : goal.returns
unfolding call
returns g c =
    let read = c.listed.ensures ((g.B.Enclosed.readers c.args.self.now.room).inside c.argument-form.result) (λ old new r h. search rules) in
    first_of (search rules, grind (arith, common_steps))
