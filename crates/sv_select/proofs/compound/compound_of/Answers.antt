use Rattle.std.proofs.Common.{ap, sym, ◌∙◌}
use Rattle.sv_select.specs.Compound.{tag_of, parts_of, marked}
use Rattle.sv_select.proofs.Exits.{reads_exit}
use Rattle.sv_select.proofs.Parting.{compound_no_parts, compound_no_tag, compound_found}
use Rattle.sv_select.proofs.compound.compound_of.Goals as goal

pub returns-in_err-parts : goal.returns-in_err-parts
returns-in_err-parts c =
    reads_exit _ _ _ _ c.from_residual.ensures.1 (λ none. compound_no_parts c.args.word.now (ap (λ t. parts_of (marked t)) (sym c.rest.ensures.value) ∙ none)) c.in_err-parts.ensures

pub returns-in_err-tag : goal.returns-in_err-tag
returns-in_err-tag c =
    reads_exit _ _ _ _ c.from_residual-in_err-tag.ensures.1 (λ none. compound_no_tag c.args.word.now (ap tag_of (sym c.front.ensures) ∙ none)) c.in_err-tag.ensures

pub returns : goal.returns
returns c =
    compound_found c.args.word.now _ _ (ap tag_of (sym c.front.ensures) ∙ c.in_ok-tag.ensures) (ap (λ t. parts_of (marked t)) (sym c.rest.ensures.value) ∙ c.in_ok-parts.ensures)
