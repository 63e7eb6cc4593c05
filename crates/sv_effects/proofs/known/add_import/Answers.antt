use Rattle.sv_effects.proofs.Knowing.{nothing_given}
use Rattle.sv_effects.proofs.known.add_import.Goals as goal

pub returns-in-None : goal.returns-in-None
returns-in-None c = nothing_given c.args.known.now c.args.files.now c.args.given.now c.args.import.now c.as_str.result.now c.in-None.ensures.module c.as_str.ensures
