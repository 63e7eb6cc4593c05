use Rattle.std.proofs.Common.{◌∙◌, sym, ap, length, ◌++◌, ◌∷◌, [], Some}
use Rattle.sv_numbered.specs.Slots.{by_number}
use Rattle.sv_numbered.proofs.Numbers.{length-by_number, by_number-more}
use Rattle.sv_numbered.proofs.numbered.Numbered.add.Goals as goal

pub returns-clause-number : goal.returns-clause-number
returns-clause-number g c = sym (length-by_number c.self.inside.next c.self.inside.slots.slots) ∙ ap length c.self.view_is

pub returns-clause-ok : goal.returns-clause-ok
returns-clause-ok g c =
    let e = c.in_ok-insert.ensures in
    ap (λ n. by_number n c.insert.new.self.slots) c.in-Some.ensures.1
    ∙ by_number-more c.self.inside.next c.self.inside.slots.slots c.insert.new.self.slots c.in_ok-insert.field-0 c.args.value c.self.invariant e.was_vacant e.updates.changed e.updates.others
    ∙ ap (λ v. v ++ Some c.args.value ∷ []) c.self.view_is
