use Rattle.std.proofs.Common.{◌≡◌, ◌++◌}
use Rattle.std.specs.Str.Iter.{split_ascii_whitespace_text}
use Rattle.sv_attributes.specs.Words.{words}
use Rattle.sv_attributes.proofs.classes.words.Given as goal

abbrev pub invariant-loop-word : goal.invariant-loop-word
invariant-loop-word l = words l.text ≡ l.words ++ words (split_ascii_whitespace_text l.word-iterator)
