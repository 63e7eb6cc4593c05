use Rattle.std.proofs.Common.{◌≡◌, ◌+◌, [], ◌∷◌, ◌++◌, get_or, take, true, false, ap, ◌∙◌, rules, arith}
use Rattle.sv_base.specs.Place.{is_line_feed}
use Rattle.sv_lines.specs.Lines.{ascends}
use Rattle.sv_lines.proofs.Starts.{ascends-line_starts, starts-feed, starts-other}
use Rattle.sv_lines.proofs.lines.line_starts.Goals as goal
use Rattle.sv_lines.proofs.lines.line_starts.Goals.{then-byte-eq10+in_ok-push-2, else-byte-eq10}

pub loop-byte-preserved : goal.loop-byte-preserved
loop-byte-preserved c = record {
  at = omega arith;
  lines = elim c.if-byte-eq10.branch [
    | then-byte-eq10+in_ok-push-2 w ↦
        let e : is_line_feed (get_or c.args.bytes.now c.loop-byte.byte-index 0) ≡ true = search rules in
        let pushed : c.if-byte-eq10.lines ≡ c.loop-byte.lines ++ (c.loop-byte.at + 1) ∷ [] = search rules in
        starts-feed c.args.bytes.now c.loop-byte.byte-index c.loop-byte.at c.loop-byte.lines c.if-byte-eq10.lines c.loop-byte-test.true e c.loop-byte.invariant.at c.loop-byte.invariant.lines pushed
    | else-byte-eq10 w ↦
        let e : is_line_feed (get_or c.args.bytes.now c.loop-byte.byte-index 0) ≡ false = search rules in
        starts-other c.args.bytes.now c.loop-byte.byte-index c.loop-byte.lines c.if-byte-eq10.lines c.loop-byte-test.true e c.loop-byte.invariant.lines w.lines-is
  ];
}

pub returns-clause-ascending : goal.returns-clause-ascending
returns-clause-ascending c = ap ascends c.loop-byte.invariant.lines ∙ ascends-line_starts (take c.loop-byte.byte-index c.args.bytes.now)
