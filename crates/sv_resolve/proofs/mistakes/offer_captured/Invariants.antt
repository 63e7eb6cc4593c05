use Rattle.std.proofs.Common.{◌≡◌, fold, map, filter, drop}
use Rattle.std.specs.Prelude.{◌&&◌}
use Rattle.sv_names.specs.Distinct.{has}
use Rattle.sv_resolve.specs.declared.refusals.CheckKind.TheVariants.{CapturedAssign}
use Rattle.sv_resolve.specs.Earliest.{earlier}
use Rattle.sv_resolve.specs.Mistakes as spec
use Rattle.sv_resolve.proofs.mistakes.offer_captured.Given as goal

abbrev pub invariant-loop-found : goal.invariant-loop-found
invariant-loop-found l = fold earlier l.fn.first (spec.refused CapturedAssign (map (λ u. u.span) (filter (λ u. spec.assigns u.form && has u.name l.own && has u.name l.captured) l.uses))) ≡ fold earlier l.first (spec.refused CapturedAssign (map (λ u. u.span) (filter (λ u. spec.assigns u.form && has u.name l.own && has u.name l.captured) (drop l.found-index l.uses))))
