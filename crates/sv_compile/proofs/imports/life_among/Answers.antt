use Rattle.std.proofs.Common.{inl, inr, sym, ◌∙◌}
use Rattle.sv_compile.proofs.Giving.{ended}
use Rattle.sv_compile.proofs.imports.life_among.Goals as goal

pub returns : goal.returns
returns c =
    let none = ended c.args.names.now c.loop-text.text-iterator.a.rest.now c.loop-text.text-iterator.b.rest.now c.args.name (elim c.in-None.ensures.steps [ inl p ↦ inl p.1.0 | inr p ↦ inr p.1.0 ]) in
    sym (c.loop-text.invariant ∙ none)
