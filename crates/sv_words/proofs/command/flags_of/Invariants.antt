use Rattle.std.proofs.Common.{◌≡◌, drop}
use Rattle.sv_words.specs.Texts.{bytes_of}
use Rattle.sv_words.specs.Words.{flags_from, flags_of}
use Rattle.sv_words.proofs.command.flags_of.Given as goal

abbrev pub invariant-loop-word : goal.invariant-loop-word
invariant-loop-word l = flags_from l.flags (bytes_of (drop l.word-index l.words)) ≡ flags_of (bytes_of l.words)
