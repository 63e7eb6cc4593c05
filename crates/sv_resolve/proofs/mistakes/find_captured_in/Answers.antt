use Rattle.std.proofs.Common.{fold, ap, ◌∙◌}
use Rattle.sv_resolve.specs.declared.refusals.CheckKind.TheVariants.{CapturedAssign}
use Rattle.sv_resolve.specs.Earliest.{earlier}
use Rattle.sv_resolve.specs.Mistakes.{refused}
use Rattle.sv_resolve.proofs.Tables.{captured_are}
use Rattle.sv_resolve.proofs.mistakes.find_captured_in.Goals as goal

pub returns : goal.returns
returns c = c.offer_captured.ensures ∙ ap (λ z. fold earlier c.args.first.now (refused CapturedAssign z)) (captured_are c.args.scope.now _ _ _ _ _ c.as_slice.ensures c.as_slice-3.ensures c.as_slice-2.ensures (ap (λ z. z.all) c.in_ok-table.ensures) c.in_ok-captured.ensures)
