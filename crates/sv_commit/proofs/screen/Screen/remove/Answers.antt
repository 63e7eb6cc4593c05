use Rattle.sv_commit.proofs.Telling.{told-by}
use Rattle.sv_commit.proofs.screen.Screen.remove.Goals as goal

pub returns-clause-tells : goal.returns-clause-tells
returns-clause-tells c = told-by c.tell.result _ _ _ _ _ c.self.view_is c.tell.ensures.page c.tell.ensures.told c.remove-told.ensures.told c.remove-told.ensures.some
