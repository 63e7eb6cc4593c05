use Rattle.std.proofs.Common.{◌∙◌, sym, ap, count_by, is_some}
use Rattle.sv_numbered.proofs.Numbers.{count-by_number}
use Rattle.sv_numbered.proofs.numbered.Numbered.len.Goals as goal

pub returns : goal.returns
returns g c = c.len.ensures ∙ sym (count-by_number c.self.inside.next c.self.inside.slots.slots c.self.invariant) ∙ ap (count_by is_some) c.self.view_is
