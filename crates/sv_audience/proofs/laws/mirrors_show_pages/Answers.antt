use Rattle.sv_audience.proofs.Courses.{mirror-shows}
use Rattle.sv_audience.proofs.laws.mirrors_show_pages.Goals as goal

pub returns : goal.returns
returns c = λ pages nodes changes tree course slotted. mirror-shows pages nodes changes course slotted
