use Rattle.std.proofs.Common.{◌≡◌, arith, refl}
use Rattle.sv_expr.specs.Limits.{real}
use Rattle.sv_script.specs.Script.{bodies}
use Rattle.sv_script.proofs.ArrowBlocks.{arrow_is}
use Rattle.sv_script.proofs.Turns.{deeper}
use Rattle.sv_script.proofs.knot.+rules.Goals as goal

pub arrow_block-returns : goal.arrow_block-returns
arrow_block-returns t c = rw (arrow_is real c.args.room c.args.tokens.now) c.block.ensures

pub block-returns-then-room-eq0 : goal.block-returns-then-room-eq0
unfolding bodies
block-returns-then-room-eq0 t c = let none : c.args.room ≡ 0 = omega arith in rw (c.refuse.ensures, none) refl

pub block-returns : goal.block-returns
unfolding bodies
block-returns t c = rw (deeper (λ n. (bodies real n).block c.args.place c.args.tokens.now) c.args.room (omega arith)) c.braced.ensures

pub body-returns-then-room-eq0 : goal.body-returns-then-room-eq0
unfolding bodies
body-returns-then-room-eq0 t c = let none : c.args.room ≡ 0 = omega arith in rw (c.refuse.ensures, none) refl

pub body-returns : goal.body-returns
unfolding bodies
body-returns t c = rw (deeper (λ n. (bodies real n).body c.args.place c.args.tokens.now) c.args.room (omega arith)) c.statement.ensures

pub inside-returns-then-room-eq0 : goal.inside-returns-then-room-eq0
unfolding bodies
inside-returns-then-room-eq0 t c = let none : c.args.room ≡ 0 = omega arith in rw (c.refuse.ensures, none) refl

pub inside-returns : goal.inside-returns
unfolding bodies
inside-returns t c = rw (deeper (λ n. (bodies real n).exprs.inside c.args.form c.args.tokens.now) c.args.room (omega arith)) c.level.ensures
