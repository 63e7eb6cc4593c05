use Rattle.std.proofs.Common.{subst}
use Rattle.sv_parts.specs.Parts.{evaluated}
use Rattle.sv_parts.specs.State.{Meets}
use Rattle.sv_plan.proofs.lists.evaluate_key.Goals as goal

pub returns : goal.returns
returns c =
    subst (λ v. Meets c.evaluate.result c.evaluate.new.state (evaluated c.args.here.now.program.now c.args.part.now (record { old = c.args.here.now.old.now; new = v }) c.args.state.now)) c.in_ok-view.ensures c.evaluate.ensures
