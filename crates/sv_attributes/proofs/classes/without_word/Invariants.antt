use Rattle.std.proofs.Common.{◌≡◌, ◌++◌, false, drop}
use Rattle.sv_attributes.specs.Words.{with_word}
use Rattle.sv_attributes.proofs.classes.without_word.Given as goal

abbrev pub invariant-loop-own : goal.invariant-loop-own
invariant-loop-own l = with_word l.word false l.words ≡ l.kept ++ with_word l.word false (drop l.own-index l.words)
