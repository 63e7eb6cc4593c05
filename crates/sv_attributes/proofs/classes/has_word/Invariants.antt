use Rattle.std.proofs.Common.{◌≡◌, drop}
use Rattle.std.specs.List.{list_any}
use Rattle.std.specs.Str.{bytes_eq}
use Rattle.sv_attributes.proofs.classes.has_word.Given as goal

abbrev pub invariant-loop-own : goal.invariant-loop-own
invariant-loop-own l = list_any (λ x. bytes_eq x l.word) l.words ≡ list_any (λ x. bytes_eq x l.word) (drop l.own-index l.words)
