use Rattle.std.proofs.Common.{◌∙◌, ap, map, subst}
use Rattle.sv_flush.specs.Callbacks.{called_back}
use Rattle.sv_flush.proofs.Deeds.{each-mapped}
use Rattle.sv_meaning.specs.Gives.{EndsAs}
use Rattle.sv_meaning.specs.Runs.{each_in_turn}
use Rattle.sv_value.specs.View.{view_of}
use Rattle.sv_flush.proofs.machine.Machine.call_all.Goals as goal

pub returns : goal.returns
returns c =
    subst (EndsAs {A = Unit {0}} {B = Unit {0}} (λ u. u) c.call_each.result c.call_each.new.world)
    (each-mapped view_of (called_back c.args.self.now.program.now) c.deref.result.now c.args.world.now
    ∙ ap (λ vs. each_in_turn (called_back c.args.self.now.program.now) vs c.args.world.now) (ap (map view_of) c.deref.ensures.value ∙ c.in_ok-callbacks.ensures))
    c.call_each.ensures
