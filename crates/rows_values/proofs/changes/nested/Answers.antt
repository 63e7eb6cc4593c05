use Rattle.sv_tokens.specs.Token.{opens}
use Rattle.sv_tokens.proofs.Standing.{Has-Gains, opens-Gains, key-Gains}
use Rattle.rows_values.proofs.changes.nested.Goals as goal

pub identify-requires-clause-stands : goal.identify-requires-clause-stands
identify-requires-clause-stands c = opens-Gains _ _ _ _ _ _ _ _ c.in_ok-inner.ensures

pub identify-requires-clause-below : goal.identify-requires-clause-below
identify-requires-clause-below c = key-Gains _ _ _ _ _ 0 _ c.in_ok-inner.ensures c.in_ok-dom.ensures.page

pub returns-clause-stands : goal.returns-clause-stands
returns-clause-stands c = c.in_ok-identify.ensures _ (Has-Gains (opens _) _ _ _ _ _ _ c.in_ok-inner.ensures c.in_ok-dom.ensures.stands)
