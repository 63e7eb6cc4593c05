use Rattle.std.proofs.Common.{◌≡◌, ℕ, Bool, true, List, ◌∷◌, refl, ap, sym, ◌∙◌}
use Rattle.std.specs.List.{list_any}
use Rattle.sv_select.specs.Borders.{rest}
use Rattle.sv_select.specs.Fits.{is_word}
use Rattle.sv_select.specs.declared.borders.Border.TheVariants as border
use Rattle.sv_select.proofs.Cutting.{behind_first, whole}
use Rattle.sv_select.proofs.fits.has_word.Goals as goal

first_found : (p : List ℕ → Bool) (piece : List ℕ) (pieces : List (List ℕ)) → p piece ≡ true → list_any p (piece ∷ pieces) ≡ true
first_found p piece pieces is = rw is refl

pub returns-then-is_word : goal.returns-then-is_word
returns-then-is_word c =
    let word = c.args.word.now in
    sym (c.loop-left.invariant
    ∙ ap (list_any (is_word word)) (whole border.White c.loop-left.left c.in-Some.z c.front.result.now c.in-Some.is c.front.ensures)
    ∙ first_found (is_word word) c.front.result.now (behind_first border.White (rest border.White c.in-Some.z.now)) (sym c.is_word.ensures ∙ c.if-is_word.true))
