use Rattle.std.proofs.Common.{List, Option, ap, sym, ◌∙◌}
use Rattle.std.specs.Prelude.{is_some}
use Rattle.sv_live.specs.declared.live.Live.{Live}
use Rattle.sv_live.specs.Known.{known}
use Rattle.sv_live.specs.Walk.{Walk, slot, has_number}
use Rattle.sv_live.proofs.Slots.{known-missing, has-known}
use Rattle.sv_live.proofs.walk.Walk.has.Goals as goal

pub returns-in-Some : goal.returns-in-Some
returns-in-Some c =
    c.is_there.ensures ∙ (ap (λ (ss : List (Option Live)). has_number c.args.number (slot ss c.in-Some.at.now)) c.deref.ensures.value ∙ (has-known c.self.inside.slots.items c.self.inside.start c.self.inside.index c.self.invariant c.args.number c.in-Some.at.now (sym c.in-Some.ensures.value) ∙ ap (λ (w : Walk). is_some (known c.args.number w.rest)) c.self.view_is))

pub returns-in-None : goal.returns-in-None
returns-in-None c = sym (ap (λ (w : Walk). is_some (known c.args.number w.rest)) (sym c.self.view_is) ∙ ap is_some (known-missing c.self.inside.slots.items c.self.inside.start c.self.inside.index c.self.invariant c.args.number (sym c.in-None.ensures.value)))
