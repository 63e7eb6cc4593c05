-- Each token takes a byte.
use Rattle.std.proofs.Common.{◌≡◌, ◌≢◌, ◌≤◌, ℕ, zero, suc, ◌+◌, ◌-◌, Bool, true, false, ◌&&◌, cond, List, [], ◌∷◌, length, drop, take, refl, ap, arith, length-drop}
use Rattle.std.specs.Prelude.{slice_index, ◌==◌, nat_le, nat_lt, Option, Some, None, Ok, Err}
use Rattle.std.proofs.lemmas.Bool.Decides.{nat_tests}
use Rattle.sv_lex.specs.declared.characters.Class.TheVariants as class
use Rattle.sv_lex.specs.declared.digits.Base.TheVariants.{Ten}
use Rattle.sv_lex.specs.declared.lexeme.Lexeme.{Lexeme}
use Rattle.sv_lex.specs.declared.lexeme.Lexeme.TheVariants as k
use Rattle.sv_ast.specs.declared.refusals.Kind.TheVariants.{Syntax}
use Rattle.sv_lex.specs.declared.cursor.Run.{Run}
use Rattle.sv_lex.specs.declared.pieces.Piece.TheVariants.{Blank, Written}
use Rattle.sv_lex.specs.declared.strings.Quote.{Quote}
use Rattle.sv_lex.specs.declared.strings.Quote.TheVariants as quote
use Rattle.sv_lex.specs.declared.strings.Quote.TheVariants.{Back}
use Rattle.sv_lex.specs.Characters.{char_len}
use Rattle.sv_lex.specs.Digits.{value_of, digits_len}
use Rattle.sv_lex.specs.Literals.{run, run_of, ends_at, end_len, moved}
use Rattle.sv_lex.specs.Pieces.{rest, run_len}
use Rattle.sv_lex.specs.Look.{skip, first, first_len, past}
use Rattle.sv_lex.specs.Reader.{Input, Outcome, sees, next, left}
use Rattle.sv_lex.specs.Signs.{of_two, of_three, sign, two_or_one, three_or_less}
use Rattle.sv_lex.specs.Token.{Token, token, name_or_other, other, numeral, alone, store, store_of, quoted, name_len}
use Rattle.sv_lex.specs.Words.{keyword}
use Rattle.sv_lex.proofs.Runs.{rest-le, unequal}

sign_moves : (z : List ℕ) → 1 ≤ (sign z).1
unfolding sign
sign_moves z = three (of_three (slice_index z 0) (slice_index z 1) (slice_index z 2)) (slice_index z 0) (slice_index z 1)
  where
    two : (o : Option Lexeme) (b : ℕ) → 1 ≤ (two_or_one o b).1
    two None b = omega arith
    two (Some x) b = omega arith

    three : (o : Option Lexeme) (b c : ℕ) → 1 ≤ (three_or_less o b c).1
    three None b c = two (of_two b c) b
    three (Some x) b c = omega arith

cond_moves : (b : Bool) (x y : Token) → 1 ≤ x.1 → 1 ≤ y.1 → 1 ≤ (cond b x y).1
cond_moves true x y h g = h
cond_moves false x y h g = g

digit : (b : ℕ) → (nat_le 48 b && nat_le b 57) ≡ true → nat_lt (value_of b) 10 ≡ true
digit b h = grind (arith, nat_tests)

numeral_moves : (b : ℕ) (z : List ℕ) → (nat_le 48 b && nat_le b 57) ≡ true → 1 ≤ (numeral (b ∷ z)).1
unfolding numeral
numeral_moves b z h = by (b == 48)
  where
    run : 1 ≤ digits_len Ten (b ∷ z)
    run = let e = ap (λ t. cond t (1 + digits_len Ten z) 0) (digit b h) in omega arith

    lone : (n : ℕ) → 1 ≤ n → 1 ≤ (alone n (b ∷ z)).1
    lone n h = cond_moves (char_len class.NameStart (drop n (b ∷ z)) == 0) (k.Numeral, n) (k.Bad, 1) h (omega arith)

    by : (t : Bool) → 1 ≤ (alone (cond t 1 (digits_len Ten (b ∷ z))) (b ∷ z)).1
    by true = lone 1 (omega arith)
    by false = lone (digits_len Ten (b ∷ z)) run

store_moves : (z : List ℕ) → 1 ≤ (store z).1
unfolding store
store_moves z = cond_moves (name_len (drop 1 z) == 0) (sign z) _ (sign_moves z) (by (keyword (take (name_len (drop 1 z)) (drop 1 z))) (name_len (drop 1 z)))
  where
    by : (x : Lexeme) (n : ℕ) → 1 ≤ (store_of x n).1
    by k.Name n = omega arith
    by _ n = omega arith

quoted_moves : (q : Quote) (z : List ℕ) → 1 ≤ (quoted q z).1
unfolding quoted
quoted_moves q z = cond_moves _ (k.Quoted, _ + 2) (k.Bad, 1) (omega arith) (omega arith)

other_moves : (b : ℕ) (z : List ℕ) → 1 ≤ (other (b ∷ z)).1
unfolding other
other_moves b z = by (nat_le 48 b && nat_le b 57) refl
  where
    rest : 1 ≤ (cond (b == 36) (store (b ∷ z)) (cond (b == 39) (quoted quote.Single (b ∷ z)) (cond (b == 34) (quoted quote.Double (b ∷ z))
        (cond (b == 47 && slice_index z 0 == 42) (k.Bad, 1) (sign (b ∷ z)))))).1
    rest = cond_moves (b == 36) _ _ (store_moves (b ∷ z)) (cond_moves (b == 39) _ _ (quoted_moves quote.Single (b ∷ z))
        (cond_moves (b == 34) _ _ (quoted_moves quote.Double (b ∷ z)) (cond_moves (b == 47 && slice_index z 0 == 42) (k.Bad, 1) _ (omega arith) (sign_moves (b ∷ z)))))

    by : (t : Bool) → (nat_le 48 b && nat_le b 57) ≡ t → 1 ≤ (cond t (numeral (b ∷ z)) (cond (b == 36) (store (b ∷ z)) (cond (b == 39) (quoted quote.Single (b ∷ z))
        (cond (b == 34) (quoted quote.Double (b ∷ z)) (cond (b == 47 && slice_index z 0 == 42) (k.Bad, 1) (sign (b ∷ z))))))).1
    by true e = numeral_moves b z e
    by false e = rest

-- a token, but the end of the text, takes a byte
pub token_moves : (z : List ℕ) → (token z).0 ≢ k.End → 1 ≤ (token z).1
unfolding token
token_moves [] h = absurd (h refl)
token_moves (b ∷ z) h = by (name_len (b ∷ z))
  where
    by : (n : ℕ) → 1 ≤ (name_or_other n (b ∷ z)).1
    by zero = other_moves b z
    by (suc n) = cond_moves (suc n == 0) (other (b ∷ z)) (keyword (take (suc n) (b ∷ z)), suc n) (other_moves b z) (omega arith)

some_bytes : (z : List ℕ) → (token z).0 ≢ k.End → 1 ≤ length z
unfolding token
some_bytes [] h = absurd (h refl)
some_bytes (b ∷ z) h = omega arith

skip-le : (z : List ℕ) → length (skip z) ≤ length z
unfolding skip
skip-le z = rest-le Blank z

-- a text that has a token has a byte
pub left-some : (i : Input) → sees i ≢ k.End → 1 ≤ left i
unfolding sees left first
left-some i h = let some = some_bytes (skip i.text) h in let all = skip-le i.text in omega arith

-- behind a token there is less
pub next-less : (i : Input) → sees i ≢ k.End → left (next i) + 1 ≤ left i
unfolding sees next left first first_len past
next-less i h =
    let z = skip i.text in
    let moves = token_moves z h in
    let some = some_bytes z h in
    let all = skip-le i.text in
    omega (arith, length-drop (token z).1 z)

pub next-le : (i : Input) → left (next i) ≤ left i
unfolding next left first_len past
next-le i =
    let z = skip i.text in
    let all = skip-le i.text in
    omega (arith, length-drop (token z).1 z)

-- ---- behind a run of a template there is less

no_end : (z : List ℕ) → end_len z ≢ 0 → 1 ≤ length z
no_end [] h = absurd (h refl)
no_end (b ∷ z) h = omega arith

pub run-less : (i o : Input) (x : Run × Bool) → run i ≡ Ok (x, o) → left o + 1 ≤ left i
unfolding run left run_len
run-less i o x h = by (end_len (rest (Written Back) i.text)) refl h
  where
    behind : List ℕ
    behind = rest (Written Back) i.text

    by : (n : ℕ) → end_len (rest (Written Back) i.text) ≡ n → ◌≡◌ {A = Outcome (Run × Bool)} (ends_at (length i.text - length (rest (Written Back) i.text)) n i) (Ok (x, o))
        → length o.text + 1 ≤ length i.text
    by zero e h = absurd (cc)
    by (suc n) e h =
        let some = no_end behind (λ none. absurd (omega arith)) in
        let within = rest-le (Written Back) i.text in
        let size = length-drop (length i.text - length behind + suc n) i.text in
        let test : (suc n == 0) ≡ false = unequal (suc n) 0 (λ e. absurd (omega arith)) in
        let moves : ◌≡◌ {A = Outcome (Run × Bool)} (ends_at (length i.text - length behind) (suc n) i)
        (Ok ((run_of (length i.text - length behind) i, suc n == 2), moved (length i.text - length behind + suc n) i)) =
        ap (λ t. cond t (Err (record { kind = Syntax; at = record { file = i.file; from = i.at + (length i.text - length behind); to = i.at + (length i.text - length behind) } }))
        (Ok ((run_of (length i.text - length behind) i, suc n == 2), moved (length i.text - length behind + suc n) i))) test in
        let pair : ◌≡◌ {A = (Run × Bool) × Input}
        ((run_of (length i.text - length behind) i, suc n == 2), moved (length i.text - length behind + suc n) i) (x, o) = cc in
        let texts = ap (λ (p : (Run × Bool) × Input). length p.1.text) pair in
        omega arith
