use Rattle.std.proofs.Common.{[], refl}
use Rattle.sv_within.proofs.Markup.{markup_within}
use Rattle.sv_within.proofs.laws.markup_is_within.Goals as goal

pub returns : goal.returns
returns c around nodes before top shows within = markup_within around top nodes shows [] refl before within
