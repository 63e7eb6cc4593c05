use Rattle.std.proofs.Common.{fold, ap, ◌∙◌}
use Rattle.sv_resolve.specs.declared.refusals.CheckKind.TheVariants.{UnknownName}
use Rattle.sv_resolve.specs.Earliest.{earlier}
use Rattle.sv_resolve.specs.Mistakes.{refused}
use Rattle.sv_resolve.proofs.Tables.{unknown_are}
use Rattle.sv_resolve.proofs.mistakes.find_unknown.Goals as goal

pub returns : goal.returns
returns c = c.offer_unknown.ensures ∙ ap (λ z. fold earlier c.args.first.now (refused UnknownName z)) (unknown_are c.args.names.now c.args.top.now _ _ _ _ c.as_slice.ensures c.as_slice-2.ensures (ap (λ z. z.all) c.in_ok-table.ensures) (ap (λ z. z.components) c.in_ok-table.ensures))
