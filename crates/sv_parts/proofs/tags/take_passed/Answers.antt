use Rattle.sv_parts.proofs.tags.take_passed.Goals as goal

pub returns-in-Bind : goal.returns-in-Bind
returns-in-Bind c = rw c.in-Bind.is c.take_alone.ensures
