use Rattle.std.proofs.Common.{true}
use Rattle.std.proofs.lemmas.List.{take-replicate}
use Rattle.sv_instance.proofs.dirty.Dirty.all.Goals as goal

pub returns : goal.returns
returns c = take-replicate c.args.len 256 true c.requires
