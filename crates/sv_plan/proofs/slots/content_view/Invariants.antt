use Rattle.std.proofs.Common.{◌≡◌, drop}
use Rattle.sv_plan.specs.Slots.{content_view, with_lets}
use Rattle.sv_plan.proofs.slots.content_view.Given as goal

abbrev pub invariant-loop-name : goal.invariant-loop-name
invariant-loop-name l = content_view l.lets l.props l.view ≡ with_lets (drop l.name-index l.lets) l.props l.shown
