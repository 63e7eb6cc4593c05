use Rattle.std.proofs.Common.{rules, arith}
use Rattle.std.proofs.lemmas.Grind.{common_steps}
use Rattle.sv_base.specs.declared.limits.TheConstants.{NEST_LIMIT}
use Rattle.sv_expr.specs.Limits.{real}
use Rattle.sv_script.specs.Script as spec
use Rattle.sv_script.specs.Script.{component}
use Rattle.sv_script.specs.Script.{bodies}
use Rattle.sv_script.proofs.knot.component.Goals as goal

pub returns : goal.returns
unfolding component
returns c =
    let read = c.upto.ensures (spec.component_item real NEST_LIMIT (bodies real NEST_LIMIT)) (λ old new r h. search rules) in
    first_of (search rules, grind (arith, common_steps))
