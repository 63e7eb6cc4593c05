use Rattle.std.proofs.Common.{◌≡◌, ◌++◌, length}
use Rattle.std.specs.String.{string_bytes}
use Rattle.sv_lex.specs.Literals.{text_of}
use Rattle.sv_lex.proofs.contents.text_of.Given as goal

abbrev pub invariant-loop-c : goal.invariant-loop-c
invariant-loop-c l = string_bytes l.text ++ text_of l.quote l.z ≡ text_of l.quote l.initial.z

abbrev pub decreases-loop-c : goal.decreases-loop-c
decreases-loop-c l = length l.z
