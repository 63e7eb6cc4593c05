use Rattle.std.proofs.Common.{◌≡◌, fold, map, filter, drop}
use Rattle.sv_resolve.specs.Places.{name_place}
use Rattle.sv_resolve.specs.declared.refusals.CheckKind.TheVariants.{UnknownName}
use Rattle.sv_resolve.specs.Earliest.{earlier}
use Rattle.sv_resolve.specs.Mistakes as spec
use Rattle.sv_resolve.proofs.mistakes.offer_unknown.Given as goal

abbrev pub invariant-loop-found : goal.invariant-loop-found
invariant-loop-found l = fold earlier l.fn.first (spec.refused UnknownName (map (name_place l.names) (filter (spec.is_unknown l.names l.table.all l.table.components) l.uses))) ≡ fold earlier l.first (spec.refused UnknownName (map (name_place l.names) (filter (spec.is_unknown l.names l.table.all l.table.components) (drop l.found-index l.uses))))
