use Rattle.std.proofs.Common.{[]}
use Rattle.sv_within.proofs.Lists.{fragments_see}
use Rattle.sv_within.proofs.laws.lists_see_keys.Goals as goal

pub returns : goal.returns
returns c around nodes before seen = fragments_see around nodes [] before seen
