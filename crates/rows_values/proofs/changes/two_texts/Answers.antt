use Rattle.std.proofs.Common.{sym}
use Rattle.sv_tokens.specs.Token.{opens, is_child}
use Rattle.sv_tokens.proofs.Children.{other-Gains, child-text-Gains, child-stands}
use Rattle.sv_tokens.proofs.Standing.{Has-Gains, key-Gains}
use Rattle.rows_values.proofs.changes.two_texts.Goals as goal

pub returns-clause-a : goal.returns-clause-a
returns-clause-a c =
    let child = is_child 0 c.in_ok-a.a.0 in
    Has-Gains child _ _ _ _ _ _ c.in_ok-b.ensures (Has-Gains child _ _ _ _ _ _ c.in_ok-make_anchor.ensures.made (child-text-Gains _ _ _ _ _ _ _ c.in_ok-a.ensures))

pub returns-clause-b : goal.returns-clause-b
returns-clause-b c = child-text-Gains _ _ _ _ _ _ _ c.in_ok-b.ensures

pub returns-clause-b_below : goal.returns-clause-b_below
returns-clause-b_below c = key-Gains _ _ _ _ _ 0 _ c.in_ok-b.ensures (Has-Gains (opens 0) _ _ _ _ _ _ c.in_ok-make_anchor.ensures.made c.page.ensures.stands)

pub returns-clause-other : goal.returns-clause-other
returns-clause-other c =
    let a = c.in_ok-a.a.0 in
    let then = Has-Gains (is_child 0 a) _ _ _ _ _ _ c.in_ok-make_anchor.ensures.made (child-text-Gains _ _ _ _ _ _ _ c.in_ok-a.ensures) in
    λ e. other-Gains _ _ _ _ _ a _ c.in_ok-b.ensures (child-stands 0 a _ then) (sym e)
