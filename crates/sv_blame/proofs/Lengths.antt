-- A token is no longer than the text at whose front it stands, and what is skipped before it is a front of the text.
use Rattle.std.proofs.Common.{◌≡◌, ◌≢◌, ◌≤◌, ◌<◌, ℕ, zero, suc, ◌+◌, ◌-◌, Bool, true, false, ◌&&◌, cond, List, [], ◌∷◌, length, drop, take, refl, ap, sym, ◌∙◌, arith, length-drop, inl, inr}
use Rattle.std.specs.Prelude.{slice_index, ◌==◌, Option, Some, None}
use Rattle.std.proofs.lemmas.List.Sums.{prefix_len-le-length}
use Rattle.bstr.specs.Utf8.{decoded}
use Rattle.bstr.proofs.lemmas.PieceLemmas.{size-within}
use Rattle.sv_lex.specs.declared.characters.Class.{Class}
use Rattle.sv_lex.specs.declared.characters.Class.TheVariants as class
use Rattle.sv_lex.specs.declared.digits.Base.TheVariants.{Ten}
use Rattle.sv_lex.specs.declared.lexeme.Lexeme.{Lexeme}
use Rattle.sv_lex.specs.declared.lexeme.Lexeme.TheVariants as k
use Rattle.sv_lex.specs.declared.pieces.Piece.{Piece}
use Rattle.sv_lex.specs.declared.pieces.Piece.TheVariants.{Blank, NameRest, Written}
use Rattle.sv_lex.specs.declared.strings.Quote.{Quote}
use Rattle.sv_lex.specs.declared.strings.Quote.TheVariants as quote
use Rattle.sv_lex.specs.Characters.{is_in, len_in, char_len}
use Rattle.sv_lex.specs.Digits.{digits_len}
use Rattle.sv_lex.specs.Look.{skip}
use Rattle.sv_lex.specs.Pieces.{piece_len, rest_by, rest, run_len}
use Rattle.sv_lex.specs.Signs.{of_two, of_three, sign, doubled, two_or_one, three_or_less}
use Rattle.sv_lex.specs.Strings.{closing}
use Rattle.sv_lex.specs.Token.{Token, token, name_or_other, other, numeral, alone, store, store_of, quoted, closed, name_len, with_rest}
use Rattle.sv_lex.specs.Words.{keyword}
use Rattle.std.proofs.lemmas.Bool.Decides.{eqb_tells}

pub equal : (a b : ℕ) → (a == b) ≡ true → a ≡ b
equal a b h = elim (eqb_tells a b) [ inl p ↦ p.1 | inr p ↦ absurd (cc (p.0, h)) ]

cond_within : (b : Bool) (x y : Token) (n : ℕ) → x.1 ≤ n → y.1 ≤ n → (cond b x y).1 ≤ n
cond_within true x y n h g = h
cond_within false x y n h g = g

if_within : (b : Bool) (x y n : ℕ) → (b ≡ true → x ≤ n) → (b ≡ false → y ≤ n) → cond b x y ≤ n
if_within true x y n h g = h refl
if_within false x y n h g = g refl

-- a byte that isn't 0 is one of the text
pub some_byte : (z : List ℕ) (n : ℕ) → slice_index z n ≢ 0 → n < length z
some_byte [] n h = absurd (h refl)
some_byte (b ∷ z) zero h = omega arith
some_byte (b ∷ z) (suc n) h = let more = some_byte z n h in omega arith

pub take_short : (n : ℕ) (z : List ℕ) → length (take n z) ≤ length z
take_short zero z = omega arith
take_short (suc n) [] = omega arith
take_short (suc n) (b ∷ z) = let more = take_short n z in omega arith

-- ---- signs

no_two : (b : ℕ) → of_two b 0 ≡ None
no_two b = by (0 == b) refl (b == 61) (b == 36)
  where
    by : (t : Bool) → (0 == b) ≡ t → (u v : Bool) → cond t (doubled b) (cond (u && false) (Some k.Arrow) (cond (v && false) (Some k.React) None)) ≡ None
    by true e u v = ap doubled (sym (equal 0 b e))
    by false e true true = refl
    by false e true false = refl
    by false e false true = refl
    by false e false false = refl

no_three : (b c : ℕ) → of_three b c 0 ≡ None
no_three b c = by (c == 61) (b == 46) (c == 46)
  where
    by : (t u v : Bool) → cond (t && false) (cond (b == 61) (Some k.Same) (cond (b == 33) (Some k.NotSame) None)) (cond (u && v && false) (Some k.Dots) None) ≡ None
    by true true true = refl
    by true true false = refl
    by true false true = refl
    by true false false = refl
    by false true true = refl
    by false true false = refl
    by false false true = refl
    by false false false = refl

two_within : (o : Option Lexeme) (b : ℕ) → (two_or_one o b).1 ≤ 2
two_within None b = omega arith
two_within (Some x) b = omega arith

three_within : (o : Option Lexeme) (b c : ℕ) → (three_or_less o b c).1 ≤ 3
three_within None b c = let two = two_within (of_two b c) b in omega arith
three_within (Some x) b c = omega arith

sign_within : (z : List ℕ) → 1 ≤ length z → (sign z).1 ≤ length z
unfolding sign
sign_within [] h = absurd (omega arith)
sign_within (b ∷ []) h =
    let e : (three_or_less (of_three b 0 0) b 0).1 ≡ 1 = ap (λ o. (three_or_less o b 0).1) (no_three b 0) ∙ ap (λ o. (two_or_one o b).1) (no_two b) in omega arith
sign_within (b ∷ c ∷ []) h =
    let e : (three_or_less (of_three b c 0) b c).1 ≡ (two_or_one (of_two b c) b).1 = ap (λ o. (three_or_less o b c).1) (no_three b c) in
    let two = two_within (of_two b c) b in omega arith
sign_within (b ∷ c ∷ d ∷ z) h = let three = three_within (of_three b c d) b c in omega arith

-- ---- names, numerals and strings

char_within : (class : Class) (z : List ℕ) → char_len class z ≤ length z
unfolding char_len
char_within class z = by (decoded z).char (decoded z).size (size-within z)
  where
    by : (o : Option ℕ) (n : ℕ) → n ≤ length z → len_in class o n ≤ length z
    by None n h = omega arith
    by (Some c) n h = if_within (is_in class c) n 0 (length z) (λ e. h) (λ e. omega arith)

name_within : (z : List ℕ) → name_len z ≤ length z
unfolding name_len run_len
name_within z = by (char_len class.NameStart z) (char_within class.NameStart z)
  where
    by : (n : ℕ) → n ≤ length z → with_rest n z ≤ length z
    by n h =
        let size = length-drop n z in
        if_within (n == 0) 0 (n + (length (drop n z) - length (rest NameRest (drop n z)))) (length z) (λ e. omega arith) (λ e. omega arith)

numeral_within : (z : List ℕ) → 1 ≤ length z → (numeral z).1 ≤ length z
unfolding numeral
numeral_within z some = by (cond (slice_index z 0 == 48) 1 (digits_len Ten z)) (if_within (slice_index z 0 == 48) 1 (digits_len Ten z) (length z) (λ e. some) (λ e. prefix_len-le-length _ z))
  where
    by : (n : ℕ) → n ≤ length z → (alone n z).1 ≤ length z
    by n h = cond_within (char_len class.NameStart (drop n z) == 0) (k.Numeral, n) (k.Bad, 1) (length z) h some

store_within : (z : List ℕ) → 1 ≤ length z → (store z).1 ≤ length z
unfolding store
store_within z some =
    cond_within (name_len (drop 1 z) == 0) (sign z) _ (length z) (sign_within z some)
    (by (keyword (take (name_len (drop 1 z)) (drop 1 z))) (name_len (drop 1 z)) (let size = length-drop 1 z in let h = name_within (drop 1 z) in omega arith))
  where
    by : (x : Lexeme) (n : ℕ) → n + 1 ≤ length z → (store_of x n).1 ≤ length z
    by k.Name n h = h
    by _ n h = some

quote_some : (q : Quote) → closing q ≢ 0
quote_some quote.Single e = absurd (omega (arith, e))
quote_some quote.Double e = absurd (omega (arith, e))
quote_some quote.Back e = absurd (omega (arith, e))

quoted_within : (q : Quote) (z : List ℕ) → 1 ≤ length z → (quoted q z).1 ≤ length z
unfolding quoted
quoted_within q z some = by (run_len (Written q) (drop 1 z))
  where
    two : (n : ℕ) (t : Bool) → (slice_index (drop 1 z) n == closing q) ≡ t → (cond {A = Token} t (k.Quoted, n + 2) (k.Bad, 1)).1 ≤ length z
    two n true e =
        let same = equal (slice_index (drop 1 z) n) (closing q) e in
        let there = some_byte (drop 1 z) n (λ none. quote_some q (sym same ∙ none)) in let size = length-drop 1 z in omega arith
    two n false e = some

    by : (n : ℕ) → (closed q n z).1 ≤ length z
    by n = two n (slice_index (drop 1 z) n == closing q) refl

other_within : (z : List ℕ) → 1 ≤ length z → (other z).1 ≤ length z
unfolding other
other_within z some =
    let n = length z in
    cond_within _ (numeral z) _ n (numeral_within z some) (cond_within _ (store z) _ n (store_within z some) (cond_within _ (quoted quote.Single z) _ n (quoted_within quote.Single z some)
    (cond_within _ (quoted quote.Double z) _ n (quoted_within quote.Double z some) (cond_within _ (k.Bad, 1) (sign z) n some (sign_within z some)))))

pub token_within : (z : List ℕ) → (token z).1 ≤ length z
unfolding token
token_within [] = omega arith
token_within (b ∷ z) = by (name_len (b ∷ z)) (name_within (b ∷ z))
  where
    by : (n : ℕ) → n ≤ length (b ∷ z) → (name_or_other n (b ∷ z)).1 ≤ length (b ∷ z)
    by n h = cond_within (n == 0) (other (b ∷ z)) (keyword (take n (b ∷ z)), n) (length (b ∷ z)) (other_within (b ∷ z) (omega arith)) h

-- ---- what is skipped

-- what is left of a text is a back of it
record IsBack (z r : List ℕ) : Type 0 where
  short : length r ≤ length z
  is : r ≡ drop (length z - length r) z

back_self : (z : List ℕ) → IsBack z z
back_self z = let n : 0 ≡ length z - length z = omega arith in record { short = omega arith; is = ap (λ n. drop n z) n }

back_more : (b : ℕ) (z r : List ℕ) → IsBack z r → IsBack (b ∷ z) r
back_more b z r h =
    let short = h.short in let n : suc (length z - length r) ≡ length (b ∷ z) - length r = omega arith in
    record { short = omega arith; is = h.is ∙ ap (λ n. drop n (b ∷ z)) n }

rest_by-back : (piece : Piece) (n : ℕ) (z : List ℕ) → IsBack z (rest_by piece n z)
unfolding rest_by
rest_by-back piece zero [] = back_self []
rest_by-back piece (suc n) [] = back_self []
rest_by-back piece (suc n) (b ∷ z) = back_more b z _ (rest_by-back piece n z)
rest_by-back piece zero (b ∷ z) = by (piece_len piece (b ∷ z) == 0) (rest_by-back piece (piece_len piece (b ∷ z) - 1) z)
  where
    by : (t : Bool) → IsBack z (rest_by piece (piece_len piece (b ∷ z) - 1) z) → IsBack (b ∷ z) (cond t (b ∷ z) (rest_by piece (piece_len piece (b ∷ z) - 1) z))
    by true h = back_self (b ∷ z)
    by false h = back_more b z _ h

pub rest-short : (piece : Piece) (z : List ℕ) → length (rest piece z) ≤ length z
unfolding rest
rest-short piece z = (rest_by-back piece 0 z).short

pub rest-is : (piece : Piece) (z : List ℕ) → rest piece z ≡ drop (length z - length (rest piece z)) z
unfolding rest
rest-is piece z = (rest_by-back piece 0 z).is

pub skip-short : (z : List ℕ) → length (skip z) ≤ length z
unfolding skip
skip-short z = rest-short Blank z

pub skip-is : (z : List ℕ) → skip z ≡ drop (length z - length (skip z)) z
unfolding skip
skip-is z = rest-is Blank z
