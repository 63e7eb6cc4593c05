use Rattle.std.proofs.Common.{◌≡◌, ◌++◌, map}
use Rattle.sv_lower.specs.Words.{words_in}
use Rattle.sv_lower.proofs.members.add_words.Given as goal

abbrev pub invariant-loop-text : goal.invariant-loop-text
invariant-loop-text l =
    l.fn.words ++ words_in l.names (map (λ text. text.now) l.texts) l.methods ≡ l.words ++ words_in l.names (map (λ text. text.now) l.text-iterator.a.rest.now) l.text-iterator.b.rest.now
