use Rattle.sv_tokens.proofs.Children.{opens-stands}
use Rattle.rows_values.proofs.changes.removes.Goals as goal

pub remove-requires-clause-stands : goal.remove-requires-clause-stands
remove-requires-clause-stands c = opens-stands _ _ c.requires.stands
