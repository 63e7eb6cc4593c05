use Rattle.std.proofs.Common.{◌≡◌, map}
use Rattle.serde_json.specs.View.{view}
use Rattle.sv_steps.specs.StepsFile.{behind, each_step}
use Rattle.sv_steps.proofs.Telling.{left}
use Rattle.sv_steps.proofs.file.each_step.Given as goal

abbrev pub invariant-loop-at : goal.invariant-loop-at
invariant-loop-at l = each_step 0 (map view l.values) ≡ behind l.steps.items (left l.values l.at)
