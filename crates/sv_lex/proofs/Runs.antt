-- One piece more, or none.
use Rattle.std.proofs.Common.{◌≡◌, ◌≢◌, ◌≤◌, ◌-◌, ℕ, zero, suc, Bool, true, false, cond, List, [], ◌∷◌, length, drop, refl, ap, sym, ◌∙◌, arith, eq-eqb, inl, inr}
use Rattle.std.specs.Prelude.{◌==◌}
use Rattle.std.proofs.lemmas.Bool.Decides.{eqb_tells}
use Rattle.sv_lex.specs.declared.pieces.Piece.{Piece}
use Rattle.sv_lex.specs.Pieces.{piece_len, rest_by, rest}

rest_by-drop : (piece : Piece) (n : ℕ) (z : List ℕ) → rest_by piece n z ≡ rest_by piece 0 (drop n z)
unfolding rest_by
rest_by-drop piece zero z = refl
rest_by-drop piece (suc n) [] = refl
rest_by-drop piece (suc n) (b ∷ z) = rest_by-drop piece n z

pub drop-one : (n b : ℕ) (z : List ℕ) → n ≢ 0 → drop (n - 1) z ≡ drop n (b ∷ z)
drop-one zero b z h = absurd (h refl)
drop-one (suc n) b z h = let e : suc n - 1 ≡ n = omega arith in ap (λ k. drop k z) e

pub unequal : (a b : ℕ) → a ≢ b → (a == b) ≡ false
unequal a b h = elim (eqb_tells a b) [ inl p ↦ absurd (h p.1) | inr p ↦ p.0 ]

pub rest-none : (piece : Piece) (z : List ℕ) → piece_len piece z ≡ 0 → rest piece z ≡ z
unfolding rest rest_by
rest-none piece [] h = refl
rest-none piece (b ∷ z) h = ap (λ t. cond t (b ∷ z) (rest_by piece (piece_len piece (b ∷ z) - 1) z)) (eq-eqb _ _ h)

pub rest-some : (piece : Piece) (z : List ℕ) → piece_len piece z ≢ 0 → rest piece (drop (piece_len piece z) z) ≡ rest piece z
unfolding rest rest_by
rest-some piece [] h = by (piece_len piece [])
  where
    by : (n : ℕ) → rest_by piece 0 (drop n []) ≡ []
    by zero = refl
    by (suc n) = refl
rest-some piece (b ∷ z) h =
    sym (ap (λ t. cond t (b ∷ z) (rest_by piece (piece_len piece (b ∷ z) - 1) z)) (unequal _ _ h)
    ∙ rest_by-drop piece (piece_len piece (b ∷ z) - 1) z ∙ ap (rest_by piece 0) (drop-one (piece_len piece (b ∷ z)) b z h))

rest_by-le : (piece : Piece) (n : ℕ) (z : List ℕ) → length (rest_by piece n z) ≤ length z
unfolding rest_by
rest_by-le piece zero [] = omega arith
rest_by-le piece (suc n) [] = omega arith
rest_by-le piece (suc n) (b ∷ z) = let h = rest_by-le piece n z in omega arith
rest_by-le piece zero (b ∷ z) = by (piece_len piece (b ∷ z) == 0) (rest_by-le piece (piece_len piece (b ∷ z) - 1) z)
  where
    by : (t : Bool) → length (rest_by piece (piece_len piece (b ∷ z) - 1) z) ≤ length z
        → length (cond t (b ∷ z) (rest_by piece (piece_len piece (b ∷ z) - 1) z)) ≤ length (b ∷ z)
    by true h = omega arith
    by false h = omega arith

pub rest-le : (piece : Piece) (z : List ℕ) → length (rest piece z) ≤ length z
unfolding rest
rest-le piece z = rest_by-le piece 0 z
