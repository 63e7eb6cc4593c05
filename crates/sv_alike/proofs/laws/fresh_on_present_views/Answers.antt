use Rattle.sv_alike.proofs.Present.{views_stand, instances_present, on_present}
use Rattle.sv_alike.proofs.laws.fresh_on_present_views.Goals as goal

pub returns : goal.returns
returns c = record { stand = views_stand; instances = instances_present; page = on_present }
