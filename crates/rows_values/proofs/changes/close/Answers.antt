use Rattle.sv_tokens.proofs.Standing.{opens-Edits}
use Rattle.rows_values.proofs.changes.close.Goals as goal

pub returns : goal.returns
returns c = opens-Edits _ _ _ _ _ _ c.drop_attr.ensures c.requires.stands
