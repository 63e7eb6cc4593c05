use Rattle.std.proofs.Common.{◌≡◌, fold, map, filter, drop}
use Rattle.std.specs.Prelude.{◌&&◌}
use Rattle.sv_names.specs.Distinct.{has}
use Rattle.sv_resolve.specs.declared.refusals.CheckKind.TheVariants.{AssignConst}
use Rattle.sv_resolve.specs.Earliest.{earlier}
use Rattle.sv_resolve.specs.Mistakes as spec
use Rattle.sv_resolve.proofs.mistakes.offer_constants.Given as goal

abbrev pub invariant-loop-found : goal.invariant-loop-found
invariant-loop-found l = fold earlier l.fn.first (spec.refused AssignConst (map (λ u. u.span) (filter (λ u. spec.assigns u.form && has u.name l.constants) l.uses))) ≡ fold earlier l.first (spec.refused AssignConst (map (λ u. u.span) (filter (λ u. spec.assigns u.form && has u.name l.constants) (drop l.found-index l.uses))))
