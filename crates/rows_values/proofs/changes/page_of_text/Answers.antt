use Rattle.sv_tokens.proofs.Standing.{texts-Gains}
use Rattle.rows_values.proofs.changes.page_of_text.Goals as goal

pub returns : goal.returns
returns c = texts-Gains _ _ _ _ _ _ _ _ c.in_ok-node.ensures
