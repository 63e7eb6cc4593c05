use Rattle.sv_family.proofs.Blank.{family_blank, filled_blank}
use Rattle.sv_family.proofs.Numbering.{numbers_blank}
use Rattle.sv_family.proofs.Pages.{mounting_keeps, flushing_keeps, first_keeps, next_keeps}
use Rattle.sv_family.proofs.laws.pages_keep_families.Goals as goal
use Rattle.sv_flush.specs.Page.{blank}

pub returns : goal.returns
returns c = record { blank = λ p. (family_blank p blank.counters.next, numbers_blank blank.counters.next, filled_blank p); mounting = mounting_keeps; flushing = flushing_keeps; first = first_keeps; next = next_keeps }
