use Rattle.sv_listing.proofs.Past.{nothing_past}
use Rattle.sv_listing.proofs.walk.find_inside.Goals as goal

pub returns-in-None : goal.returns-in-None
returns-in-None c = nothing_past c.args.insides.now c.args.tag c.args.found.now c.in-None.ensures.lookup.3
