use Rattle.std.proofs.Common.{◌≢◌, sym, ◌∙◌, arith}
use Rattle.std.proofs.lemmas.Grind.{common_steps}
use Rattle.std.proofs.lemmas.List.{take_rest}
use Rattle.sv_lex.specs.Pieces.{piece_len}
use Rattle.sv_lex.proofs.Runs.{rest-none, rest-some}
use Rattle.sv_lex.proofs.pieces.rest.Goals as goal

pub returns-then-len-eq0-clause-value : goal.returns-then-len-eq0-clause-value
returns-then-len-eq0-clause-value c =
    sym (rest-none c.args.piece c.loop-piece.z.now (sym c.piece_len-len.ensures.value ∙ c.if-len-eq0.true)) ∙ c.loop-piece.invariant.0

pub loop-piece-preserved : goal.loop-piece-preserved
loop-piece-preserved c =
    let some : piece_len c.args.piece c.loop-piece.z.now ≢ 0 = λ none. c.if-len-eq0.false (c.piece_len-len.ensures.value ∙ none) in
    let more = rest-some c.args.piece c.loop-piece.z.now some in
    let size = c.piece_len-len.ensures.value in
    (rw (take_rest c.loop-piece.z.now c.piece_len-len.result, size) (more ∙ c.loop-piece.invariant.0), grind (arith, common_steps))
