use Rattle.std.proofs.Common.{sym, ◌∙◌, arith}
use Rattle.sv_lex.proofs.Closings.{close_len-none, close_len-here, close_len-later}
use Rattle.sv_lex.proofs.comments.close_len.Goals as goal
use Rattle.sv_lex.proofs.comments.close_len.Goals.{else-z-at-eq42-via-then-z-at-eq42+else-byte-eq47, else-z-at-eq42-via-else-z-at-eq42}

pub returns-then-byte-eq47-clause-value : goal.returns-then-byte-eq47-clause-value
returns-then-byte-eq47-clause-value c =
    sym (close_len-here c.args.z.now c.loop-at.at c.loop-at-test.true c.if-z-at-eq42.true (sym c.byte.ensures.value ∙ c.if-byte-eq47.true) c.loop-at.invariant)

pub loop-at-preserved : goal.loop-at-preserved
loop-at-preserved c =
    close_len-later c.args.z.now c.loop-at.at c.loop-at-test.true
    (elim c.else-z-at-eq42.branch [
      | else-z-at-eq42-via-then-z-at-eq42+else-byte-eq47 w ↦ (λ a b. w.if-byte-eq47.false (w.byte.ensures.value ∙ b))
      | else-z-at-eq42-via-else-z-at-eq42 w ↦ (λ a b. w.if-z-at-eq42.false a)
    ])
    c.loop-at.invariant

pub returns-clause-value : goal.returns-clause-value
returns-clause-value c = sym (close_len-none c.args.z.now c.loop-at.at (omega arith) c.loop-at.invariant)
