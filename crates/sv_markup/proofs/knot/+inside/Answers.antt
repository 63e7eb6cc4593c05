use Rattle.std.proofs.Common.{arith}
use Rattle.sv_expr.specs.Limits.{real}
use Rattle.sv_expr.proofs.Turns.{deeper}
use Rattle.sv_markup.specs.Rules.{inside}
use Rattle.sv_markup.proofs.knot.+inside.Goals as goal

pub returns : goal.returns
unfolding inside
returns t c = rw (deeper (λ n. inside real n c.args.owned c.args.source.now) c.args.room (omega arith)) c.nodes.ensures
