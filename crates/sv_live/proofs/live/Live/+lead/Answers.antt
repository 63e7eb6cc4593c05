use Rattle.std.proofs.Common.{sym, ap, ◌∙◌, map}
use Rattle.sv_live.specs.Shown.{first_or, lead}
use Rattle.sv_live.proofs.Shown.{lead-Text, lead-Element, lead-Hole, first-Some, first-None}
use Rattle.sv_live.proofs.live.Live.+lead.Goals as goal

pub returns-in-Text : goal.returns-in-Text
returns-in-Text t c = sym (lead-Text _ _ _ _ c.in-Text.is)

pub returns-in-Element : goal.returns-in-Element
returns-in-Element t c = sym (lead-Element _ _ _ _ c.in-Element.is)

pub returns-in-Some : goal.returns-in-Some
returns-in-Some t c =
    c.lead.ensures
    ∙ (sym (first-Some c.in-Hole.anchor c.as_slice.result.now c.in-Some.first.now c.in-Some.ensures.value)
    ∙ (ap (λ ps. first_or c.in-Hole.anchor (map lead ps)) c.as_slice.ensures ∙ sym (lead-Hole _ _ _ _ c.in-Hole.is)))

pub returns-in-None : goal.returns-in-None
returns-in-None t c =
    sym (first-None c.in-Hole.anchor c.as_slice.result.now c.in-None.ensures.value) ∙ (ap (λ ps. first_or c.in-Hole.anchor (map lead ps)) c.as_slice.ensures ∙ sym (lead-Hole _ _ _ _ c.in-Hole.is))
