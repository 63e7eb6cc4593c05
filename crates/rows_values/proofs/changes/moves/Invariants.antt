use Rattle.sv_tokens.specs.Counting.{Has}
use Rattle.sv_tokens.specs.Token.{is_child}
use Rattle.rows_values.proofs.changes.moves.Given as goal

abbrev pub invariant-loop-word : goal.invariant-loop-word
invariant-loop-word l =
    (goal.iterator-loop-word).can_next l.word-iterator ×
    (goal.iterator-loop-word).is_finite l.word-iterator ×
    Has (is_child 0 l.a.0) l.dom.tokens ×
    Has (is_child 0 l.b.0) l.dom.tokens
