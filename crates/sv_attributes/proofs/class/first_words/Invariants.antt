use Rattle.std.proofs.Common.{◌≡◌, drop}
use Rattle.sv_attributes.specs.Class.{first_words}
use Rattle.sv_attributes.proofs.class.first_words.Given as goal

abbrev pub invariant-loop-number : goal.invariant-loop-number
invariant-loop-number l =
    first_words l.attrs.program.now l.attrs.states.now 0 l.attrs.list.now ≡ first_words l.attrs.program.now l.attrs.states.now l.number (drop l.number l.attrs.list.now)
