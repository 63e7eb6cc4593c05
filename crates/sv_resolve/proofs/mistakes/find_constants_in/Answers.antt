use Rattle.std.proofs.Common.{fold, ap, ◌∙◌}
use Rattle.sv_resolve.specs.declared.refusals.CheckKind.TheVariants.{AssignConst}
use Rattle.sv_resolve.specs.Earliest.{earlier}
use Rattle.sv_resolve.specs.Mistakes.{refused}
use Rattle.sv_resolve.proofs.Tables.{constants_are}
use Rattle.sv_resolve.proofs.mistakes.find_constants_in.Goals as goal

pub returns : goal.returns
returns c = c.offer_constants.ensures ∙ ap (λ z. fold earlier c.args.first.now (refused AssignConst z)) (constants_are c.args.scope.now _ _ _ c.as_slice.ensures c.as_slice-2.ensures (ap (λ z. z.constants) c.in_ok-table.ensures))
