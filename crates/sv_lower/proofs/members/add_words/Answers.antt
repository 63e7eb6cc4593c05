use Rattle.std.proofs.Common.{◌++◌, inl, inr, sym, ap, ◌∙◌, append-nil}
use Rattle.sv_lower.proofs.Wording.{ended}
use Rattle.sv_lower.proofs.members.add_words.Goals as goal

pub returns : goal.returns
returns c =
    let none = ended c.args.names.now c.loop-text.text-iterator.a.rest.now c.loop-text.text-iterator.b.rest.now (elim c.in-None.ensures.steps [ inl p ↦ inl p.1.0 | inr p ↦ inr p.1.0 ]) in
    sym (c.loop-text.invariant ∙ ap (λ z. c.loop-text.words ++ z) none ∙ append-nil c.loop-text.words)
