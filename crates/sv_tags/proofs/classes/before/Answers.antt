use Rattle.sv_tags.proofs.Finds.{find_is}
use Rattle.sv_tags.proofs.classes.before.Goals as goal

pub returns-clause-value : goal.returns-clause-value
returns-clause-value c = find_is c.args.w.now c.args.z.now c.find.result c.requires c.find.ensures
