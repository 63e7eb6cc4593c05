use Rattle.sv_tokens.proofs.Standing.{opens-Edits}
use Rattle.rows_values.proofs.pages.give.Goals as goal

pub returns : goal.returns
returns c = λ key has. opens-Edits _ _ _ key _ _ c.in_ok-told.ensures.edit has
