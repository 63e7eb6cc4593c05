use Rattle.sv_tokens.specs.Token.{opens}
use Rattle.sv_tokens.proofs.Standing.{Has-Gains, opens-Gains}
use Rattle.rows_values.proofs.pages.page_of.Goals as goal

pub returns-clause-page : goal.returns-clause-page
returns-clause-page c = Has-Gains (opens 0) _ _ _ _ _ _ c.in_ok-node.ensures.made c.in_ok-node.ensures.page

pub returns-clause-stands : goal.returns-clause-stands
returns-clause-stands c = opens-Gains _ _ _ _ _ _ _ _ c.in_ok-node.ensures.made
