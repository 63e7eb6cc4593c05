-- Which tokens are written with a byte that is counted, and how many of these stand before a place.
use Rattle.std.proofs.Common.{◌≡◌, ◌≤◌, ◌+◌, ℕ, zero, suc, Bool, true, false, ◌&&◌, cond, List, [], ◌∷◌, take, drop, refl, sym, subst, arith}
use Rattle.std.specs.Prelude.{slice_index, ◌==◌, nat_le, codes, Option, Some, None}
use Rattle.std.specs.Str.{bytes_eq}
use Rattle.sv_lex.specs.declared.characters.Class.TheVariants as class
use Rattle.sv_lex.specs.declared.lexeme.Lexeme.{Lexeme}
use Rattle.sv_lex.specs.declared.lexeme.Lexeme.TheVariants as k
use Rattle.sv_lex.specs.declared.strings.Quote.{Quote}
use Rattle.sv_lex.specs.declared.strings.Quote.TheVariants as quote
use Rattle.sv_lex.specs.Characters.{char_len}
use Rattle.sv_lex.specs.Signs.{of_two, of_three, of_one, sign, two_or_one, three_or_less}
use Rattle.sv_lex.specs.Strings.{closing}
use Rattle.sv_lex.specs.Token.{Token, token, name_or_other, other, numeral, alone, store, store_of, quoted, closed, name_len}
use Rattle.sv_lex.specs.Words.{keyword, later_keyword, is_reserved}
use Rattle.sv_blame.specs.Signs.{is_sign, signs}
use Rattle.sv_blame.proofs.Frame as frame
use Rattle.sv_blame.proofs.Lengths.{equal}

-- where the token is a sign, its first byte is
abbrev Good : ℕ → Lexeme → Type 0
Good b l = frame.is_sign l ≡ true → is_sign b ≡ true

abbrev Good_in : ℕ → Option Lexeme → Type 0
Good_in b None = Unit {0}
Good_in b (Some l) = Good b l

byte : (b n : ℕ) → is_sign n ≡ true → (b == n) ≡ true → is_sign b ≡ true
byte b n h e = subst (λ n. is_sign n ≡ true) (sym (equal b n e)) h

-- at a test on the first byte, or where the token is no sign
at : (b n : ℕ) (x y : Lexeme) → is_sign n ≡ true → Good b y → Good b (cond (b == n) x y)
at b n x y h more = by (b == n) refl
  where
    by : (t : Bool) → (b == n) ≡ t → Good b (cond t x y)
    by true e g = byte b n h e
    by false e g = more g

past : (b : ℕ) (t : Bool) (x y : Lexeme) → frame.is_sign x ≡ false → Good b y → Good b (cond t x y)
past b true x y h more g = absurd (cc)
past b false x y h more g = more g

at_in : (b n : ℕ) (x : Lexeme) (y : Option Lexeme) → is_sign n ≡ true → Good_in b y → Good_in b (cond (b == n) (Some x) y)
at_in b n x y h more = by (b == n) refl
  where
    by : (t : Bool) → (b == n) ≡ t → Good_in b (cond t (Some x) y)
    by true e = λ g. byte b n h e
    by false e = more

either_in : (b : ℕ) (t : Bool) (x y : Option Lexeme) → Good_in b x → Good_in b y → Good_in b (cond t x y)
either_in b true x y h g = h
either_in b false x y h g = g

one_good : (b : ℕ) → Good b (of_one b)
one_good b =
    at b 40 _ _ refl (past b (b == 41) _ _ refl (at b 91 _ _ refl (past b (b == 93) _ _ refl (at b 123 _ _ refl (past b (b == 125) _ _ refl (past b (b == 44) _ _ refl (
    past b (b == 59) _ _ refl (at b 46 _ _ refl (at b 63 _ _ refl (past b (b == 58) _ _ refl (at b 33 _ _ refl (at b 45 _ _ refl (at b 43 _ _ refl (at b 42 _ _ refl (
    past b (b == 47) _ _ refl (at b 37 _ _ refl (at b 61 _ _ refl (at b 60 _ _ refl (at b 62 _ _ refl (past b (b == 96) _ _ refl (λ g. absurd (cc))))))))))))))))))))))

arrow_good : (b c : ℕ) → Good_in b (cond (b == 61 && c == 62) (Some k.Arrow) (cond (b == 36 && c == 58) (Some k.React) None))
arrow_good b c = by (b == 61) refl (c == 62) (b == 36 && c == 58)
  where
    by : (t : Bool) → (b == 61) ≡ t → (u v : Bool) → Good_in b (cond (t && u) (Some k.Arrow) (cond v (Some k.React) None))
    by true e u v = either_in b u _ _ (λ g. byte b 61 refl e) (either_in b v _ _ (λ g. absurd (cc)) tt)
    by false e u v = either_in b v _ _ (λ g. absurd (cc)) tt

two_good : (b c : ℕ) → Good_in b (of_two b c)
two_good b c =
    either_in b (c == 61) _ _
    (at_in b 61 _ _ refl (at_in b 33 _ _ refl (at_in b 60 _ _ refl (at_in b 62 _ _ refl (at_in b 43 _ _ refl (at_in b 45 _ _ refl (at_in b 42 _ _ refl (at_in b 37 _ _ refl tt))))))))
    (either_in b (c == b) _ _ (at_in b 38 _ _ refl (at_in b 124 _ _ refl (at_in b 63 _ _ refl (at_in b 43 _ _ refl (at_in b 45 _ _ refl tt))))) (arrow_good b c))

three_good : (b c d : ℕ) → Good_in b (of_three b c d)
three_good b c d =
    either_in b (c == 61 && d == 61) _ _ (at_in b 61 _ _ refl (at_in b 33 _ _ refl tt)) (either_in b (b == 46 && c == 46 && d == 46) _ _ (λ g. absurd (cc)) tt)

sign_good : (z : List ℕ) → Good (slice_index z 0) (sign z).0
unfolding sign
sign_good z = three (of_three b c d) (three_good b c d)
  where
    b : ℕ
    b = slice_index z 0

    c : ℕ
    c = slice_index z 1

    d : ℕ
    d = slice_index z 2

    two : (o : Option Lexeme) → Good_in b o → Good b (two_or_one o b).0
    two None h = one_good b
    two (Some x) h = h

    three : (o : Option Lexeme) → Good_in b o → Good b (three_or_less o b c).0
    three None h = two (of_two b c) (two_good b c)
    three (Some x) h = h

-- ---- tokens

plain : (b : Bool) (x y : Lexeme) → frame.is_sign x ≡ false → frame.is_sign y ≡ false → frame.is_sign (cond b x y) ≡ false
plain true x y h g = h
plain false x y h g = g

later_plain : (w : List ℕ) → frame.is_sign (later_keyword w) ≡ false
unfolding later_keyword
later_plain w =
    plain (bytes_eq w (codes "if")) _ _ refl (plain (bytes_eq w (codes "import")) _ _ refl (plain (bytes_eq w (codes "let")) _ _ refl (plain (bytes_eq w (codes "null")) _ _ refl (
    plain (bytes_eq w (codes "return")) _ _ refl (plain (bytes_eq w (codes "true")) _ _ refl (plain (bytes_eq w (codes "undefined")) _ _ refl (
    plain (bytes_eq w (codes "while")) _ _ refl (plain (is_reserved w) _ _ refl refl))))))))

keyword_plain : (w : List ℕ) → frame.is_sign (keyword w) ≡ false
unfolding keyword
keyword_plain w =
    plain (bytes_eq w (codes "break")) _ _ refl (plain (bytes_eq w (codes "const")) _ _ refl (plain (bytes_eq w (codes "continue")) _ _ refl (plain (bytes_eq w (codes "else")) _ _ refl (
    plain (bytes_eq w (codes "export")) _ _ refl (plain (bytes_eq w (codes "false")) _ _ refl (plain (bytes_eq w (codes "for")) _ _ refl (
    plain (bytes_eq w (codes "function")) _ _ refl (later_plain w))))))))

abbrev GoodAt : ℕ → Token → Type 0
GoodAt b x = Good b x.0

plainly : (b : ℕ) (l : Lexeme) → frame.is_sign l ≡ false → Good b l
plainly b l h g = absurd (cc)

either : (b : ℕ) (t : Bool) (x y : Token) → GoodAt b x → GoodAt b y → GoodAt b (cond t x y)
either b true x y h g = h
either b false x y h g = g

numeral_good : (b : ℕ) (z : List ℕ) → GoodAt b (numeral z)
unfolding numeral
numeral_good b z = by (cond (slice_index z 0 == 48) 1 _)
  where
    by : (n : ℕ) → GoodAt b (alone n z)
    by n = either b (char_len class.NameStart (drop n z) == 0) (k.Numeral, n) (k.Bad, 1) (λ g. absurd (cc)) (λ g. absurd (cc))

store_good : (z : List ℕ) → GoodAt (slice_index z 0) (store z)
unfolding store
store_good z = either b (name_len (drop 1 z) == 0) (sign z) _ (sign_good z) (by (keyword (take (name_len (drop 1 z)) (drop 1 z))) (name_len (drop 1 z)))
  where
    b : ℕ
    b = slice_index z 0

    by : (x : Lexeme) (n : ℕ) → GoodAt b (store_of x n)
    by k.Name n = λ g. absurd (cc)
    by _ n = λ g. absurd (cc)

quoted_good : (b : ℕ) (q : Quote) (z : List ℕ) → GoodAt b (quoted q z)
unfolding quoted
quoted_good b q z = by _
  where
    by : (n : ℕ) → GoodAt b (closed q n z)
    by n = either b (slice_index (drop 1 z) n == closing q) (k.Quoted, n + 2) (k.Bad, 1) (λ g. absurd (cc)) (λ g. absurd (cc))

other_good : (z : List ℕ) → GoodAt (slice_index z 0) (other z)
unfolding other
other_good z =
    let b = slice_index z 0 in
    either b (nat_le 48 b && nat_le b 57) (numeral z) _ (numeral_good b z) (either b (b == 36) (store z) _ (store_good z)
    (either b (b == 39) (quoted quote.Single z) _ (quoted_good b quote.Single z) (either b (b == 34) (quoted quote.Double z) _ (quoted_good b quote.Double z)
    (either b (b == 47 && slice_index z 1 == 42) (k.Bad, 1) (sign z) (λ g. absurd (cc)) (sign_good z)))))

-- where the token at the front of a text is a sign, the first byte is
pub token_good : (z : List ℕ) → frame.is_sign (token z).0 ≡ true → is_sign (slice_index z 0) ≡ true
unfolding token
token_good [] g = absurd (cc)
token_good (b ∷ z) g = by (name_len (b ∷ z)) g
  where
    by : (n : ℕ) → GoodAt b (name_or_other n (b ∷ z))
    by n = either b (n == 0) (other (b ∷ z)) (keyword (take n (b ∷ z)), n) (other_good (b ∷ z)) (plainly b (keyword (take n (b ∷ z))) (keyword_plain (take n (b ∷ z))))

-- ---- how many stand before a place

pub signs_up : (p q : ℕ) (z : List ℕ) → p ≤ q → signs (take p z) ≤ signs (take q z)
unfolding signs
signs_up zero q z h = omega arith
signs_up (suc p) zero z h = absurd (omega arith)
signs_up (suc p) (suc q) [] h = omega arith
signs_up (suc p) (suc q) (b ∷ z) h = let more = signs_up p q z (omega arith) in omega arith

counts : (t : Bool) (n : ℕ) → t ≡ true → 1 ≤ cond t 1 0 + n
counts true n h = omega arith
counts false n h = absurd (cc)

pub signs_step : (p : ℕ) (z : List ℕ) → is_sign (slice_index z p) ≡ true → signs (take p z) + 1 ≤ signs (take (suc p) z)
unfolding signs
signs_step zero [] h = absurd (cc)
signs_step zero (b ∷ z) h = counts (is_sign b) 0 h
signs_step (suc p) [] h = absurd (cc)
signs_step (suc p) (b ∷ z) h = let more = signs_step p z h in omega arith
