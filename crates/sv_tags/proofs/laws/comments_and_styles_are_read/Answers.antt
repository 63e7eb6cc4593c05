use Rattle.sv_tags.proofs.Agree.{comments, styles}
use Rattle.sv_tags.proofs.laws.comments_and_styles_are_read.Goals as goal

pub returns : goal.returns
returns c = record { comments = comments; styles = styles }
