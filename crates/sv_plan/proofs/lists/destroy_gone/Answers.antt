use Rattle.std.proofs.Common.{◌∙◌}
use Rattle.sv_plan.proofs.Going.{none-goes}
use Rattle.sv_plan.proofs.lists.destroy_gone.Goals as goal

pub returns-in-Ok : goal.returns-in-Ok
returns-in-Ok c = none-goes _ _ _ _ _ _ _ _ (c.as_slice.ensures ∙ c.in_ok-keys.ensures) c.in-Ok.ensures c.destroy_none.ensures
