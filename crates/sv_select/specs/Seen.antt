-- What is seen of a match.
use Rattle.sv_select.specs.Matching.{Found}
use Rattle.sv_select.specs.Texts.{text_in}
use Rattle.sv_select.specs.declared.matching.Match.{Match}

-- the element, and the texts below it
abbrev pub seen : Match → Found
seen m = record { element = m.element.now; text = text_in m.children.now }
