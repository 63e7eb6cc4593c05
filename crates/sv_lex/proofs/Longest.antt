-- What is read is the longest that stands there.
use Rattle.std.proofs.Common.{◌≡◌, ℕ, zero, suc, ◌-◌, Bool, true, false, cond, List, [], ◌∷◌, refl, ap, ◌∙◌, arith, inl, inr}
use Rattle.std.specs.Prelude.{◌==◌, slice_index, Option, Some, None}
use Rattle.std.proofs.lemmas.Bool.Decides.{eqb_tells}
use Rattle.sv_lex.specs.declared.lexeme.Lexeme.{Lexeme}
use Rattle.sv_lex.specs.declared.pieces.Piece.{Piece}
use Rattle.sv_lex.specs.declared.pieces.Piece.TheVariants.{Blank, NameRest, Written}
use Rattle.sv_lex.specs.declared.strings.Quote.TheVariants.{Single, Double, Back}
use Rattle.sv_lex.specs.Characters.{char_len}
use Rattle.sv_lex.specs.Comments.{blank_len}
use Rattle.sv_lex.specs.Laws.{ReadsOn, LongestSign, NoTwo, NoThree}
use Rattle.sv_lex.specs.Pieces.{piece_len, rest_by, rest}
use Rattle.sv_lex.specs.Signs.{sign, of_two, of_three, three_or_less, two_or_one}
use Rattle.sv_lex.specs.Strings.{written, written_len}

nothing : (piece : Piece) → piece_len piece [] ≡ 0
unfolding char_len blank_len written_len written
nothing Blank = refl
nothing NameRest = refl
nothing (Written Single) = refl
nothing (Written Double) = refl
nothing (Written Back) = refl

equal : (a b : ℕ) → (a == b) ≡ true → a ≡ b
equal a b h = elim (eqb_tells a b) [ inl p ↦ p.1 | inr p ↦ absurd (cc (p.0, h)) ]

on_by : (piece : Piece) (left : ℕ) (z : List ℕ) → piece_len piece (rest_by piece left z) ≡ 0
unfolding rest_by
on_by piece zero [] = nothing piece
on_by piece (suc left) [] = nothing piece
on_by piece (suc left) (b ∷ z) = on_by piece left z
on_by piece zero (b ∷ z) = by (piece_len piece (b ∷ z) == 0) refl (on_by piece (piece_len piece (b ∷ z) - 1) z)
  where
    by : (t : Bool) → (piece_len piece (b ∷ z) == 0) ≡ t → piece_len piece (rest_by piece (piece_len piece (b ∷ z) - 1) z) ≡ 0
        → piece_len piece (cond t (b ∷ z) (rest_by piece (piece_len piece (b ∷ z) - 1) z)) ≡ 0
    by true e more = equal (piece_len piece (b ∷ z)) 0 e
    by false e more = more

pub reads_on : ReadsOn
unfolding rest
reads_on piece z = on_by piece 0 z

pub longest_sign : LongestSign
unfolding sign
longest_sign z = by (of_three b c d) (of_two b c) refl refl
  where
    b : ℕ
    b = slice_index z 0

    c : ℕ
    c = slice_index z 1

    d : ℕ
    d = slice_index z 2

    by : (three two : Option Lexeme) → of_three b c d ≡ three → of_two b c ≡ two
        → ((three_or_less (of_three b c d) b c).1 ≡ 1 → NoTwo z × NoThree z) × ((three_or_less (of_three b c d) b c).1 ≡ 2 → NoThree z)
    by (Some x) two e f =
        let size : (three_or_less (of_three b c d) b c).1 ≡ 3 = ap (λ o. (three_or_less o b c).1) e in
        (λ h. absurd (omega arith), λ h. absurd (omega arith))
    by None (Some x) e f =
        let size : (three_or_less (of_three b c d) b c).1 ≡ 2 = ap (λ o. (three_or_less o b c).1) e ∙ ap (λ o. (two_or_one o b).1) f in
        (λ h. absurd (omega arith), λ h. e)
    by None None e f = (λ h. (f, e), λ h. e)
