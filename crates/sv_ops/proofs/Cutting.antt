-- The pieces of a text between the places of another.
use Rattle.std.proofs.Common.{arith, ◌≡◌, ◌≤◌, ◌<◌, ℕ, zero, suc, ◌+◌, ◌-◌, Bool, true, false, List, [], ◌∷◌, ◌++◌, length, map, take, drop, refl, ap, sym, ◌∙◌, append_assoc, append-nil, None, length-drop, length-append}
use Rattle.std.proofs.lemmas.List.Sums.{sum_by-cons}
use Rattle.std.specs.Str.Pattern.{FindsText, LacksTextAt, SplitsAroundMatch}
use Rattle.sv_value.specs.Value.{Val, text}
use Rattle.sv_ops.specs.Texts.{is_front, pieces_from, pieces, bytes}
use Rattle.sv_ops.proofs.Standing.{front-append, front-splits}

-- behind the first byte of a place its other bytes are passed over
skipped : (t passed u s : List ℕ) → pieces_from t passed (length u) (u ++ s) ≡ pieces_from t passed 0 s
skipped t passed [] s = refl
skipped t passed (c ∷ u) s = skipped t passed u s

not_front : (b : Bool) (t s : List ℕ) → is_front t s ≡ b → LacksTextAt t s 0 → is_front t s ≡ false
not_front false t s e lacks = e
not_front true t [] e lacks = absurd (lacks (drop (length t) []) (front-splits t [] e))
not_front true t (c ∷ s) e lacks = absurd (lacks (drop (length t) (c ∷ s)) (front-splits t (c ∷ s) e))

lacks_behind : (t s : List ℕ) (c n : ℕ) → LacksTextAt t (c ∷ s) (suc n) → LacksTextAt t s n
lacks_behind t s c n lacks rest e = lacks rest e

-- where the other text stands nowhere, there is one piece
whole : (t passed s : List ℕ) → ((i : ℕ) → i ≤ length s → LacksTextAt t s i) → pieces_from t passed 0 s ≡ (passed ++ s) ∷ []
whole t passed [] lacks = ap (λ p. p ∷ []) (sym (append-nil passed))
whole t passed (c ∷ s) lacks = rw (not_front (is_front t (c ∷ s)) t (c ∷ s) refl (lacks 0 (omega arith)))
    (whole t (passed ++ c ∷ []) s (λ i l. lacks_behind t s c i (lacks (suc i) (omega arith))) ∙ ap (λ p. p ∷ []) (append_assoc passed (c ∷ []) s))

-- at a place a piece ends
at_place : (b : ℕ) (t passed rest : List ℕ) → pieces_from (b ∷ t) passed 0 (b ∷ (t ++ rest)) ≡ passed ∷ pieces (b ∷ t) rest
at_place b t passed rest = let k : suc (length t) - 1 ≡ length t = omega arith in
    rw (front-append (b ∷ t) rest) (ap (λ n. passed ∷ pieces_from (b ∷ t) [] n (t ++ rest)) k ∙ ap (λ p. passed ∷ p) (skipped (b ∷ t) [] t rest))

nothing_left : (n : ℕ) (s u : List ℕ) → s ≡ [] → drop n s ≡ u → 0 < length u → ⊥
nothing_left n s u e h some = omega (arith, ap length e, ap length h, length-drop n s)

-- before the first place of the other text stands the first piece, and behind it the others
cut : (b : ℕ) (t passed s rest : List ℕ) (n : ℕ) → ((i : ℕ) → i < n → LacksTextAt (b ∷ t) s i) → drop n s ≡ (b ∷ t) ++ rest → pieces_from (b ∷ t) passed 0 s ≡ (passed ++ take n s) ∷ pieces (b ∷ t) rest
cut b t passed [] rest n lacks e = absurd (nothing_left n [] ((b ∷ t) ++ rest) refl e (omega arith))
cut b t passed (c ∷ s) rest zero lacks e = ap (pieces_from (b ∷ t) passed 0) e ∙ at_place b t passed rest ∙ ap (λ p. p ∷ pieces (b ∷ t) rest) (sym (append-nil passed))
cut b t passed (c ∷ s) rest (suc n) lacks e = rw (not_front (is_front (b ∷ t) (c ∷ s)) (b ∷ t) (c ∷ s) refl (lacks 0 (omega arith)))
    (cut b t (passed ++ c ∷ []) s rest n (λ i l. lacks_behind (b ∷ t) s c i (lacks (suc i) (omega arith))) e ∙ ap (λ p. p ∷ pieces (b ∷ t) rest) (append_assoc passed (c ∷ []) (take n s)))

-- of a text some pieces were cut, which have so many bytes, and the rest is left
pub record CutSoFar (t s : List ℕ) (made : List Val) (count : ℕ) (rest : List ℕ) : Type 0 where
  pub values : map text (pieces t s) ≡ made ++ map text (pieces t rest)
  pub counted : bytes (pieces t s) ≡ count + bytes (pieces t rest)
  pub room : count + length made + length rest ≤ length s

first_cut : (t rest front back : List ℕ) → 0 < length t → SplitsAroundMatch (FindsText t) rest front back → pieces t rest ≡ front ∷ pieces t back
first_cut [] rest front back some m = absurd (omega arith)
first_cut (b ∷ t) rest front back some m = cut b t [] rest (drop m.1 rest) m.0 m.2.0 m.2.1.split ∙ (λ k. sym m.3 k ∷ pieces (b ∷ t) (sym m.4 k))

-- one more piece is cut
pub cut_more : (t s : List ℕ) (made : List Val) (n : ℕ) (rest front back : List ℕ) → 0 < length t → CutSoFar t s made n rest → SplitsAroundMatch (FindsText t) rest front back → CutSoFar t s (made ++ text front ∷ []) (n + length front) back
cut_more t s made n rest front back some h m = let e = first_cut t rest front back some m in record {
  values = h.values ∙ ap (λ p. made ++ map text p) e ∙ sym (append_assoc made (text front ∷ []) (map text (pieces t back)));
  counted = omega (arith, h.counted, ap bytes e, sum_by-cons length front (pieces t back));
  room = omega (arith, h.room, m.2.1.ends, m.6, m.7, length-append made (text front ∷ []));
}

-- the last piece is what is left
pub cut_last : (t s : List ℕ) (made : List Val) (n : ℕ) (rest : List ℕ) → CutSoFar t s made n rest → FindsText t rest None
    → (made ++ text rest ∷ [] ≡ map text (pieces t s)) × (n + length rest ≡ bytes (pieces t s))
cut_last t s made n rest h lacks = let e = whole t [] rest lacks in
    (ap (λ p. made ++ map text p) (sym e) ∙ sym h.values, omega (arith, h.counted, ap bytes e, sum_by-cons length rest []))
