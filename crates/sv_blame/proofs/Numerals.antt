-- A numeral is written with digits.
use Rattle.std.proofs.Common.{◌≡◌, ◌≤◌, ◌+◌, ℕ, zero, suc, Bool, true, false, ◌&&◌, cond, List, [], ◌∷◌, length, take, drop, refl, ap, arith}
use Rattle.std.specs.Prelude.{slice_index, ◌==◌, nat_le, nat_lt, codes, Option, Some, None}
use Rattle.std.specs.List.{prefix_len}
use Rattle.std.specs.Str.{bytes_eq}
use Rattle.sv_lex.specs.declared.characters.Class.TheVariants as class
use Rattle.sv_lex.specs.declared.digits.Base.TheVariants.{Ten}
use Rattle.sv_lex.specs.declared.lexeme.Lexeme.{Lexeme}
use Rattle.sv_lex.specs.declared.lexeme.Lexeme.TheVariants as k
use Rattle.sv_lex.specs.declared.strings.Quote.{Quote}
use Rattle.sv_lex.specs.declared.strings.Quote.TheVariants as quote
use Rattle.sv_lex.specs.Characters.{char_len}
use Rattle.sv_lex.specs.Digits.{value_of, digits_len}
use Rattle.sv_lex.specs.Signs.{of_two, of_three, of_one, sign, two_or_one, three_or_less}
use Rattle.sv_lex.specs.Strings.{closing}
use Rattle.sv_lex.specs.Token.{Token, token, name_or_other, other, numeral, alone, store, store_of, quoted, closed, name_len}
use Rattle.sv_lex.specs.Words.{keyword, later_keyword, is_reserved}
use Rattle.sv_blame.proofs.Lengths.{equal}

abbrev is_numeral : Lexeme → Bool
is_numeral k.Numeral = true
is_numeral _ = false

no : (b : Bool) (x y : Lexeme) → is_numeral x ≡ false → is_numeral y ≡ false → is_numeral (cond b x y) ≡ false
no true x y h g = h
no false x y h g = g

abbrev is_numeral_in : Option Lexeme → Bool
is_numeral_in None = false
is_numeral_in (Some l) = is_numeral l

none : (b : Bool) (x y : Option Lexeme) → is_numeral_in x ≡ false → is_numeral_in y ≡ false → is_numeral_in (cond b x y) ≡ false
none true x y h g = h
none false x y h g = g

one_other : (b : ℕ) → is_numeral (of_one b) ≡ false
one_other b =
    no (b == 40) _ _ refl (no (b == 41) _ _ refl (no (b == 91) _ _ refl (no (b == 93) _ _ refl (no (b == 123) _ _ refl (no (b == 125) _ _ refl (
    no (b == 44) _ _ refl (no (b == 59) _ _ refl (no (b == 46) _ _ refl (no (b == 63) _ _ refl (no (b == 58) _ _ refl (no (b == 33) _ _ refl (
    no (b == 45) _ _ refl (no (b == 43) _ _ refl (no (b == 42) _ _ refl (no (b == 47) _ _ refl (no (b == 37) _ _ refl (no (b == 61) _ _ refl (
    no (b == 60) _ _ refl (no (b == 62) _ _ refl (no (b == 96) _ _ refl refl))))))))))))))))))))

two_other : (b c : ℕ) → is_numeral_in (of_two b c) ≡ false
two_other b c =
    none (c == 61) _ _
    (none (b == 61) _ _ refl (none (b == 33) _ _ refl (none (b == 60) _ _ refl (none (b == 62) _ _ refl (none (b == 43) _ _ refl (
    none (b == 45) _ _ refl (none (b == 42) _ _ refl (none (b == 37) _ _ refl refl))))))))
    (none (c == b) _ _
    (none (b == 38) _ _ refl (none (b == 124) _ _ refl (none (b == 63) _ _ refl (none (b == 43) _ _ refl (none (b == 45) _ _ refl refl)))))
    (none (b == 61 && c == 62) _ _ refl (none (b == 36 && c == 58) _ _ refl refl)))

sign_other : (z : List ℕ) → is_numeral (sign z).0 ≡ false
unfolding sign
sign_other z = three (of_three b c d) (none (c == 61 && d == 61) _ _ (none (b == 61) _ _ refl (none (b == 33) _ _ refl refl)) (none (b == 46 && c == 46 && d == 46) _ _ refl refl))
  where
    b : ℕ
    b = slice_index z 0

    c : ℕ
    c = slice_index z 1

    d : ℕ
    d = slice_index z 2

    two : (o : Option Lexeme) → is_numeral_in o ≡ false → is_numeral (two_or_one o b).0 ≡ false
    two None h = one_other b
    two (Some x) h = h

    three : (o : Option Lexeme) → is_numeral_in o ≡ false → is_numeral (three_or_less o b c).0 ≡ false
    three None h = two (of_two b c) (two_other b c)
    three (Some x) h = h

later_other : (w : List ℕ) → is_numeral (later_keyword w) ≡ false
unfolding later_keyword
later_other w =
    no (bytes_eq w (codes "if")) _ _ refl (no (bytes_eq w (codes "import")) _ _ refl (no (bytes_eq w (codes "let")) _ _ refl (no (bytes_eq w (codes "null")) _ _ refl (
    no (bytes_eq w (codes "return")) _ _ refl (no (bytes_eq w (codes "true")) _ _ refl (no (bytes_eq w (codes "undefined")) _ _ refl (
    no (bytes_eq w (codes "while")) _ _ refl (no (is_reserved w) _ _ refl refl))))))))

keyword_other : (w : List ℕ) → is_numeral (keyword w) ≡ false
unfolding keyword
keyword_other w =
    no (bytes_eq w (codes "break")) _ _ refl (no (bytes_eq w (codes "const")) _ _ refl (no (bytes_eq w (codes "continue")) _ _ refl (no (bytes_eq w (codes "else")) _ _ refl (
    no (bytes_eq w (codes "export")) _ _ refl (no (bytes_eq w (codes "false")) _ _ refl (no (bytes_eq w (codes "for")) _ _ refl (
    no (bytes_eq w (codes "function")) _ _ refl (later_other w))))))))

-- ---- a token of a text that is a numeral

abbrev AllDigits : List ℕ → Token → Type 0
AllDigits z x = is_numeral x.0 ≡ true → digits_len Ten (take x.1 z) ≡ length (take x.1 z)

either : (z : List ℕ) (t : Bool) (x y : Token) → (t ≡ true → AllDigits z x) → AllDigits z y → AllDigits z (cond t x y)
either z true x y h g = h refl
either z false x y h g = g

front : (p : ℕ → Bool) (n : ℕ) (z : List ℕ) → n ≤ prefix_len p z → prefix_len p (take n z) ≡ length (take n z)
front p zero z h = refl
front p (suc n) [] h = refl
front p (suc n) (b ∷ z) h = by (p b) h (λ le. front p n z le)
  where
    by : (t : Bool) → suc n ≤ cond t (1 + prefix_len p z) 0 → (n ≤ prefix_len p z → prefix_len p (take n z) ≡ length (take n z))
        → cond t (1 + prefix_len p (take n z)) 0 ≡ suc (length (take n z))
    by true h more = let same = more (omega arith) in omega arith
    by false h more = absurd (omega arith)

numeral_digits : (z : List ℕ) → AllDigits z (numeral z)
unfolding numeral
numeral_digits z = by (slice_index z 0 == 48) refl
  where
    lone : (n : ℕ) → digits_len Ten (take n z) ≡ length (take n z) → AllDigits z (alone n z)
    lone n h = either z (char_len class.NameStart (drop n z) == 0) (k.Numeral, n) (k.Bad, 1) (λ e g. h) (λ g. absurd (cc))

    zeroes : (z : List ℕ) → slice_index z 0 ≡ 48 → digits_len Ten (take 1 z) ≡ length (take 1 z)
    zeroes [] e = refl
    zeroes (b ∷ z) e = let t : nat_lt (value_of b) 10 ≡ true = ap (λ b. nat_lt (value_of b) 10) e in ap (λ t. cond t 1 0) t

    by : (t : Bool) → (slice_index z 0 == 48) ≡ t → AllDigits z (alone (cond t 1 (digits_len Ten z)) z)
    by true e = lone 1 (zeroes z (equal (slice_index z 0) 48 e))
    by false e = lone (digits_len Ten z) (front _ (digits_len Ten z) z (omega arith))

quoted_digits : (q : Quote) (z : List ℕ) → AllDigits z (quoted q z)
unfolding quoted
quoted_digits q z = by _
  where
    by : (n : ℕ) → AllDigits z (closed q n z)
    by n = either z (slice_index (drop 1 z) n == closing q) (k.Quoted, n + 2) (k.Bad, 1) (λ e g. absurd (cc)) (λ g. absurd (cc))

store_digits : (z : List ℕ) → AllDigits z (store z)
unfolding store
store_digits z = either z (name_len (drop 1 z) == 0) (sign z) _ (λ e g. (let no = sign_other z in absurd (cc))) (by (keyword (take (name_len (drop 1 z)) (drop 1 z))) (name_len (drop 1 z)))
  where
    by : (x : Lexeme) (n : ℕ) → AllDigits z (store_of x n)
    by k.Name n = λ g. absurd (cc)
    by _ n = λ g. absurd (cc)

other_digits : (z : List ℕ) → AllDigits z (other z)
unfolding other
other_digits z =
    let b = slice_index z 0 in
    either z (nat_le 48 b && nat_le b 57) (numeral z) _ (λ e. numeral_digits z) (either z (b == 36) (store z) _ (λ e. store_digits z)
    (either z (b == 39) (quoted quote.Single z) _ (λ e. quoted_digits quote.Single z) (either z (b == 34) (quoted quote.Double z) _ (λ e. quoted_digits quote.Double z)
    (either z (b == 47 && slice_index z 1 == 42) (k.Bad, 1) (sign z) (λ e g. absurd (cc)) (λ g. (let no = sign_other z in absurd (cc)))))))

token_digits : (z : List ℕ) → AllDigits z (token z)
unfolding token
token_digits [] g = refl
token_digits (b ∷ z) g = by (name_len (b ∷ z)) g
  where
    by : (n : ℕ) → AllDigits (b ∷ z) (name_or_other n (b ∷ z))
    by n = either (b ∷ z) (n == 0) (other (b ∷ z)) (keyword (take n (b ∷ z)), n) (λ e. other_digits (b ∷ z)) (λ g. (let no = keyword_other (take n (b ∷ z)) in absurd (cc)))

-- a token that is a numeral is digits
pub numeral_all : (z : List ℕ) → (token z).0 ≡ k.Numeral → digits_len Ten (take (token z).1 z) ≡ length (take (token z).1 z)
numeral_all z e = token_digits z (ap is_numeral e)
