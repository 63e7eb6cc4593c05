use Rattle.std.proofs.Common.{◌≡◌, fold, ap, ◌∙◌}
use Rattle.std.proofs.lemmas.Option.{get_or_from_slice_get}
use Rattle.sv_names.specs.Distinct.{firsts}
use Rattle.sv_resolve.specs.Cells.{variables}
use Rattle.sv_resolve.specs.Earliest.{earlier}
use Rattle.sv_check.specs.Mistakes.{tag_mistakes}
use Rattle.sv_check.proofs.Whole.{on_ok}
use Rattle.sv_check.proofs.markup.offer_tags.Goals as goal

pub returns : goal.returns
returns c =
    let all = c.args.all.now in
    let first = c.args.first.now in
    on_ok c.offer_own_tags.result (λ told own there.
    let same : c.index-all-n.result ≡ own = c.index-all-n.is ∙ get_or_from_slice_get all c.args.n own c.index-all-n.result there in
    told ∙ ap (λ v. fold earlier first (tag_mistakes v all c.index-all-n.result)) c.in_ok-variables.ensures
    ∙ ap (λ s. fold earlier first (tag_mistakes (firsts (variables c.args.declares.now)) all s)) same) c.offer_own_tags.ensures
