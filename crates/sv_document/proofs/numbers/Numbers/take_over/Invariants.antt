use Rattle.std.proofs.Common.{◌≡◌, drop}
use Rattle.sv_document.specs.Numbers.{taken_over}
use Rattle.sv_document.proofs.numbers.Numbers.take_over.Given as goal

abbrev pub invariant-loop-mark : goal.invariant-loop-mark
invariant-loop-mark l = taken_over l.old (drop l.mark-index l.marks) l.self ≡ taken_over l.fn.old l.fn.marks l.fn.self
