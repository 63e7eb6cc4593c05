use Rattle.std.proofs.Common.{◌∙◌, sym}
use Rattle.sv_select.specs.Borders.{pieces}
use Rattle.sv_select.specs.Grammar.{link_of, run_of}
use Rattle.sv_select.specs.declared.borders.Border.TheVariants as border
use Rattle.sv_select.proofs.Cutting.{whole}
use Rattle.sv_select.proofs.Exits.{adds_exit}
use Rattle.sv_select.proofs.Parting.{wrong_link}
use Rattle.sv_select.proofs.reader.push_run.Goals as goal

pub returns-in_err-push_link : goal.returns-in_err-push_link
returns-in_err-push_link c =
    let word = c.front-word.result.now in
    adds_exit _ _ _ _ (link_of c.loop-left.next word) (run_of c.args.combinator (pieces border.Space c.args.run.now)) c.from_residual.ensures.1
    (λ none. wrong_link _ _ c.loop-left.links c.loop-left.is_begun c.loop-left.next _ word _ (whole border.Space c.loop-left.left c.in-Some.z word c.in-Some.is c.front-word.ensures) (sym c.is_empty.ensures ∙ c.if-not-is_empty.true) c.loop-left.invariant none)
    c.in_err-push_link.ensures
