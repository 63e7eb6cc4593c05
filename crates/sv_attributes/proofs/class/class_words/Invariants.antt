use Rattle.std.proofs.Common.{◌≡◌, drop}
use Rattle.sv_attributes.specs.Class.{class_words, all_heard}
use Rattle.sv_attributes.proofs.class.class_words.Given as goal

abbrev pub invariant-loop-number : goal.invariant-loop-number
invariant-loop-number l =
    class_words l.attrs.program.now l.attrs.states.now l.attrs.list.now ≡ all_heard l.attrs.program.now l.attrs.states.now l.number (drop l.number l.attrs.list.now) l.all
