use Rattle.sv_agree.proofs.Seeing.{slots_see, tags_see}
use Rattle.sv_agree.proofs.laws.slots_see_views.Goals as goal

pub returns : goal.returns
returns c = record { markup = slots_see; tags = tags_see }
