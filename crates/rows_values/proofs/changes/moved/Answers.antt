use Rattle.sv_tokens.proofs.Children.{child-stands}
use Rattle.sv_tokens.proofs.Moving.{Has-Moved}
use Rattle.rows_values.proofs.changes.moved.Goals as goal

pub move_before-requires-clause-stands : goal.move_before-requires-clause-stands
move_before-requires-clause-stands c = child-stands _ _ _ c.requires.b

pub move_before-requires-in-text-2-clause-stands :
    goal.move_before-requires-in-text-2-clause-stands
move_before-requires-in-text-2-clause-stands c = child-stands _ _ _ c.requires.a

pub move_before-requires-in_default-clause-stands :
    goal.move_before-requires-in_default-clause-stands
move_before-requires-in_default-clause-stands c = child-stands _ _ _ c.requires.b

pub returns-in-text : goal.returns-in-text
returns-in-text c = λ p has. Has-Moved p _ _ _ _ _ c.move_before.ensures.tokens has

pub returns-in-text-2 : goal.returns-in-text-2
returns-in-text-2 c = λ p has. Has-Moved p _ _ _ _ _ c.move_before-in-text-2.ensures.tokens has

pub returns-in_default : goal.returns-in_default
returns-in_default c = λ p has. Has-Moved p _ _ _ _ _ c.move_before-in_default.ensures.tokens has
