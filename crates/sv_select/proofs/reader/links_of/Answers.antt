use Rattle.sv_select.specs.Borders.{pieces}
use Rattle.sv_select.specs.Grammar.{run_of, links_of}
use Rattle.sv_select.specs.declared.borders.Border.TheVariants as border
use Rattle.sv_select.specs.declared.selector.Combinator.TheVariants.{Descendant}
use Rattle.sv_select.proofs.Cutting.{whole}
use Rattle.sv_select.proofs.Exits.{reads_exit}
use Rattle.sv_select.proofs.Parting.{wrong_run}
use Rattle.sv_select.proofs.reader.links_of.Goals as goal

pub returns-in_err-push_run : goal.returns-in_err-push_run
returns-in_err-push_run c =
    let run = c.front.result.now in
    reads_exit _ _ (run_of c.loop-left.next (pieces border.Space run)) (links_of Descendant (pieces border.Child c.args.text.now)) c.from_residual.ensures.1
    (λ none. wrong_run _ c.loop-left.links c.loop-left.next _ run _ (whole border.Child c.loop-left.left c.in-Some.z run c.in-Some.is c.front.ensures) c.loop-left.invariant none)
    c.in_err-push_run.ensures
