use Rattle.std.proofs.Common.{sym}
use Rattle.sv_nodes.specs.Numbers.{given}
use Rattle.sv_nodes.proofs.Slabs.{rewrites-write}
use Rattle.sv_nodes.proofs.number.give_number.Goals as goal

pub returns-in-Some-clause-given : goal.returns-in-Some-clause-given
returns-in-Some-clause-given c = rewrites-write c.args.nodes.now c.args.key (given c.args.number) c.in-Some.entry.now _ (sym c.in-Some.ensures.value) c.number_entry.ensures.given
