use Rattle.std.proofs.Common.{sym}
use Rattle.std.proofs.lemmas.List.{take-map}
use Rattle.sv_meaning.proofs.Names.{show}
use Rattle.sv_meaning.proofs.locals.Locals.truncate.Goals as goal

pub returns : goal.returns
returns c = rw (← c.self.view_is, c.truncate.ensures.items) (sym (take-map show c.args.len c.self.inside.entries.items))
