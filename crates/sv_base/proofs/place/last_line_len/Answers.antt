use Rattle.std.proofs.Common.{arith, ◌≡◌, ◌<◌, ◌+◌, ap, sym, ◌∙◌, length, take}
use Rattle.std.proofs.lemmas.Grind.{common_steps}
use Rattle.sv_base.proofs.Lines.{last_len, length-last_line, last_len-feed, last_len-other}
use Rattle.sv_base.proofs.place.last_line_len.Goals as goal
use Rattle.sv_base.proofs.place.last_line_len.Goals.{then-b-eq10, else-b-eq10}

pub loop-b-preserved : goal.loop-b-preserved
loop-b-preserved c =
    let text = c.args.text.now in
    let h : c.loop-b.b-index < length text = c.loop-b-test.true in
    let was = c.loop-b.invariant.0 in
    elim c.if-b-eq10.branch [
      | then-b-eq10 w ↦ (w.len-is ∙ sym (last_len-feed text c.loop-b.b-index h w.if-b-eq10.true), omega arith)
      | else-b-eq10 w ↦ (w.len-is ∙ ap (λ n. n + 1) was ∙ sym (last_len-other text c.loop-b.b-index h w.if-b-eq10.false), omega arith)
    ]

pub returns-clause-value : goal.returns-clause-value
returns-clause-value c =
    let all : take c.loop-b.b-index c.args.text.now ≡ c.args.text.now = grind (arith, common_steps) in
    c.loop-b.invariant.0 ∙ ap last_len all ∙ sym (length-last_line c.args.text.now)
