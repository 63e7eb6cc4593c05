use Rattle.std.proofs.Common.{◌≡◌, refl, ◌∷◌, ◌∙◌, [], List, ℕ, ap, sym, option_map, length, arith}
use Rattle.std.specs.List.{before_first}
use Rattle.sv_select.specs.Borders.{is_border, pieces_in}
use Rattle.sv_select.proofs.Cutting.{behind_first, cut}
use Rattle.sv_select.proofs.borders.behind.Goals as goal

pub returns-in_err-further-clause-pieces : goal.returns-in_err-further-clause-pieces
returns-in_err-further-clause-pieces c =
    let border = c.args.border in
    let z = c.args.z.now in
    let gone = nothing_left c.rest.result.now c.in_err-further.ensures.cases in
    cut border z ∙ ap (λ t. before_first (is_border border) z ∷ behind_first border t) (sym c.rest.ensures.value ∙ gone)
    ∙ ap (λ r. before_first (is_border border) z ∷ pieces_in border (option_map (λ t. t.now) r)) (sym c.from_residual.ensures)
  where
    nothing_left : (t : List ℕ) → length t ≡ 0 → t ≡ []
    nothing_left [] is = refl
    nothing_left (b ∷ t) is = absurd (omega arith)

pub returns-clause-pieces : goal.returns-clause-pieces
returns-clause-pieces c =
    let border = c.args.border in
    let z = c.args.z.now in
    cut border z ∙ ap (λ t. before_first (is_border border) z ∷ behind_first border t) (sym c.rest.ensures.value ∙ c.in_ok-further.ensures.cases.0)
