use Rattle.sv_meaning.proofs.Names.{value_put}
use Rattle.sv_meaning.proofs.locals.Locals.give.Goals as goal

pub returns-in-Some : goal.returns-in-Some
returns-in-Some c =
    value_put c.self.inside.entries.items c.put.new.entries.items c.args.self.now c.in-Some.i c.args.name c.args.value c.self.view_is c.in-Some.ensures.place c.put.ensures
