use Rattle.sv_agree.proofs.Levels.{agreeing}
use Rattle.sv_agree.proofs.laws.right_where_views_agree.Goals as goal

pub returns : goal.returns
returns c = record { right = agreeing }
