-- A name is text.
use Rattle.std.proofs.Common.{◌≡◌, ◌≢◌, ◌≤◌, ℕ, zero, suc, ◌+◌, Bool, true, false, cond, List, [], ◌∷◌, length, take, drop, refl, ap, sym, ◌∙◌, subst, arith, length-drop}
use Rattle.std.specs.Prelude.{Option, Some, None}
use Rattle.std.specs.Char.{encode_utf8}
use Rattle.std.specs.Str.{IsUtf8}
use Rattle.std.proofs.Math.Seq.{take-append_seam, take-add}
use Rattle.std.proofs.lemmas.Str.{IsUtf8-encode, IsUtf8-append, IsUtf8-nil}
use Rattle.bstr.specs.Utf8.{decoded}
use Rattle.bstr.proofs.lemmas.SoundLemmas.{SpellsChar, SpellsChar-decoded}
use Rattle.sv_lex.specs.declared.characters.Class.{Class}
use Rattle.sv_lex.specs.declared.characters.Class.TheVariants.{NameStart, NameRest}
use Rattle.sv_lex.specs.declared.pieces.Piece.TheVariants as piece
use Rattle.sv_lex.specs.Characters.{is_in, len_in, char_len}
use Rattle.sv_lex.specs.Pieces.{rest, run_len}
use Rattle.sv_lex.specs.Token.{name_len, with_rest}
use Rattle.sv_lex.proofs.Runs.{rest-none, rest-some, rest-le, unequal}
use Rattle.sv_lex.proofs.Chars.{char_bounds}

spelled : (z : List ℕ) (c size : ℕ) → SpellsChar z c size → IsUtf8 (take size z)
unfolding encode_utf8
spelled z c size s =
    let front : take size z ≡ encode_utf8 c =
    ap (λ n. take n z) (sym s.width) ∙ ap (take (length (encode_utf8 c))) s.bytes ∙ take-append_seam (encode_utf8 c) (drop size z) in
    subst IsUtf8 (sym front) (IsUtf8-encode c s.scalar)

-- the character at the front, if it is of the class
pub char_utf8 : (class : Class) (z : List ℕ) → IsUtf8 (take (char_len class z) z)
unfolding char_len
char_utf8 class z = by (decoded z).char refl
  where
    by : (o : Option ℕ) → (decoded z).char ≡ o → IsUtf8 (take (len_in class o (decoded z).size) z)
    by None e = IsUtf8-nil
    by (Some c) e = cases (is_in class c)
      where
        cases : (b : Bool) → IsUtf8 (take (cond b (decoded z).size 0) z)
        cases true = spelled z c (decoded z).size (SpellsChar-decoded z c e)
        cases false = IsUtf8-nil

char_within : (class : Class) (z : List ℕ) → char_len class z ≤ length z
unfolding char_len
char_within class z = by (decoded z).char refl
  where
    by : (o : Option ℕ) → (decoded z).char ≡ o → len_in class o (decoded z).size ≤ length z
    by None e = omega arith
    by (Some c) e = let h = char_bounds z c e in cases (is_in class c) h.1
      where
        cases : (b : Bool) → (decoded z).size ≤ length z → cond b (decoded z).size 0 ≤ length z
        cases true h = h
        cases false h = omega arith

-- the pieces at the front: the first one and the others
run_len-step : (z : List ℕ) (n : ℕ) → char_len NameRest z ≡ n → n ≢ 0 → run_len piece.NameRest z ≡ n + run_len piece.NameRest (drop n z)
unfolding run_len
run_len-step z n e h =
    let more = rest-some piece.NameRest z (λ none. h (sym e ∙ none)) in
    let more' : rest piece.NameRest (drop n z) ≡ rest piece.NameRest z = subst (λ k. rest piece.NameRest (drop k z) ≡ rest piece.NameRest z) e more in
    let within : n ≤ length z = subst (λ k. k ≤ length z) e (char_within NameRest z) in
    let less = rest-le piece.NameRest (drop n z) in
    let size = length-drop n z in
    let same = ap length more' in
    omega arith

run_len-none : (z : List ℕ) → char_len NameRest z ≡ 0 → run_len piece.NameRest z ≡ 0
unfolding run_len
run_len-none z e = let same = ap length (rest-none piece.NameRest z e) in omega arith

run_utf8 : (fuel : ℕ) (z : List ℕ) → length z ≤ fuel → IsUtf8 (take (run_len piece.NameRest z) z)
run_utf8 zero z h = let none : z ≡ [] = no_bytes z (omega arith) in subst (λ y. IsUtf8 (take (run_len piece.NameRest y) y)) (sym none) (nothing (run_len piece.NameRest []))
  where
    no_bytes : (z : List ℕ) → length z ≡ 0 → z ≡ []
    no_bytes [] h = refl
    no_bytes (b ∷ z) h = absurd (omega arith)

    nothing : (n : ℕ) → IsUtf8 (take n [])
    nothing zero = IsUtf8-nil
    nothing (suc n) = IsUtf8-nil
run_utf8 (suc fuel) z h = by (char_len NameRest z) refl (run_utf8 fuel (drop (char_len NameRest z) z))
  where
    by : (n : ℕ) → char_len NameRest z ≡ n → (length (drop (char_len NameRest z) z) ≤ fuel
        → IsUtf8 (take (run_len piece.NameRest (drop (char_len NameRest z) z)) (drop (char_len NameRest z) z))) → IsUtf8 (take (run_len piece.NameRest z) z)
    by zero e more = subst (λ k. IsUtf8 (take k z)) (sym (run_len-none z e)) IsUtf8-nil
    by (suc n) e more =
        let size = length-drop (char_len NameRest z) z in
        let within = char_within NameRest z in
        let rest_of = more (omega arith) in
        let some : char_len NameRest z ≢ 0 = λ none. absurd (omega arith) in
        subst (λ k. IsUtf8 (take k z)) (sym (run_len-step z (char_len NameRest z) refl some))
        (subst IsUtf8 (sym (take-add (char_len NameRest z) (run_len piece.NameRest (drop (char_len NameRest z) z)) z))
        (IsUtf8-append (take (char_len NameRest z) z) _ (char_utf8 NameRest z) rest_of))

pub name_utf8 : (z : List ℕ) → IsUtf8 (take (name_len z) z)
unfolding name_len
name_utf8 z = by (char_len NameStart z) (char_utf8 NameStart z) (run_utf8 (length (drop (char_len NameStart z) z)) (drop (char_len NameStart z) z) (omega arith))
  where
    by : (n : ℕ) → IsUtf8 (take n z) → IsUtf8 (take (run_len piece.NameRest (drop n z)) (drop n z)) → IsUtf8 (take (with_rest n z) z)
    by zero a b = IsUtf8-nil
    by (suc n) a b =
        let whole : with_rest (suc n) z ≡ suc n + run_len piece.NameRest (drop (suc n) z) =
        ap (λ t. cond t 0 (suc n + run_len piece.NameRest (drop (suc n) z))) (unequal (suc n) 0 (λ e. absurd (omega arith))) in
        subst (λ k. IsUtf8 (take k z)) (sym whole) (subst IsUtf8 (sym (take-add (suc n) (run_len piece.NameRest (drop (suc n) z)) z)) (IsUtf8-append (take (suc n) z) _ a b))
