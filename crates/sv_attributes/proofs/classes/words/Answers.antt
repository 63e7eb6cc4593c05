use Rattle.std.proofs.Common.{◌≡◌, ◌++◌, ◌∷◌, [], List, ℕ, rules, sym, ap, ◌∙◌}
use Rattle.std.proofs.lemmas.List.{append-nil}
use Rattle.std.specs.Str.Iter.{split_ascii_whitespace_text}
use Rattle.sv_attributes.proofs.Cutting.{cut, cut_off, more}
use Rattle.sv_attributes.proofs.classes.words.Goals as goal

pub loop-word-preserved : goal.loop-word-preserved
loop-word-preserved c =
    let t : List ℕ = split_ascii_whitespace_text c.loop-word.word-iterator in
    let rest : List ℕ = split_ascii_whitespace_text c.next.new.self in
    let grown : c.push.new.self ≡ c.loop-word.words ++ c.in-Some.word.now ∷ [] = search rules in
    let s = c.in-Some.ensures.steps in
    more _ _ _ t _ rest c.loop-word.invariant (cut t _ rest s.3.0 s.3.1 s.0 s.1 s.3.2 s.3.3 s.3.4) grown

pub returns : goal.returns
returns c = sym (c.loop-word.invariant ∙ ap (λ ws. c.loop-word.words ++ ws) (cut_off _ c.in-None.ensures.steps.0) ∙ append-nil c.loop-word.words)
