use Rattle.std.proofs.Common.{rules, arith}
use Rattle.std.proofs.lemmas.Grind.{common_steps}
use Rattle.sv_expr.specs.Limits.{real}
use Rattle.sv_expr.specs.Rules as spec
use Rattle.sv_expr.specs.Rules.{list}
use Rattle.sv_expr.proofs.grammar.Grammar.list.Goals as goal

pub returns-in_err-found : goal.returns-in_err-found
unfolding list
returns-in_err-found g c =
    let read = c.listed.ensures (spec.entry real c.args.self.now.room (g.B.Enclosed.readers c.args.self.now.room)) (λ old new r h. search rules) in
    first_of (search rules, grind (arith, common_steps))

pub returns : goal.returns
unfolding list
returns g c =
    let read = c.listed.ensures (spec.entry real c.args.self.now.room (g.B.Enclosed.readers c.args.self.now.room)) (λ old new r h. search rules) in
    first_of (search rules, grind (arith, common_steps))
