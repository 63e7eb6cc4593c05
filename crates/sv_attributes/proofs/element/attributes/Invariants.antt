use Rattle.std.proofs.Common.{◌≡◌, ◌++◌, drop}
use Rattle.sv_attributes.specs.Attributes.{attributes, attr_at}
use Rattle.sv_attributes.specs.Each.{each}
use Rattle.sv_attributes.proofs.element.attributes.Given as goal

abbrev pub invariant-loop-number : goal.invariant-loop-number
invariant-loop-number l =
    attributes l.attrs.program.now l.attrs.list.now l.attrs.states.now
    ≡ l.all ++ each (attr_at l.attrs.program.now l.attrs.list.now l.attrs.states.now) l.number (drop l.number l.attrs.list.now)
