use Rattle.std.proofs.Common.{◌≡◌, fold, drop}
use Rattle.std.specs.List.{flat_map}
use Rattle.sv_resolve.specs.declared.refusals.CheckKind.TheVariants.{CapturedAssign}
use Rattle.sv_resolve.specs.Earliest.{earlier}
use Rattle.sv_resolve.specs.Mistakes as spec
use Rattle.sv_resolve.proofs.mistakes.find_captured.Given as goal

abbrev pub invariant-loop-scope : goal.invariant-loop-scope
invariant-loop-scope l = fold earlier l.fn.first (spec.refused CapturedAssign (flat_map spec.captured_assigns l.scopes)) ≡ fold earlier l.first (spec.refused CapturedAssign (flat_map spec.captured_assigns (drop l.scope-index l.scopes)))
