-- What a reader tells: the text goes on behind what it read, or it refuses at a place that fits.
use Rattle.std.proofs.Common.{◌≡◌, ◌≤◌, ℕ, suc, Bool, true, false, cond, refl, arith}
use Rattle.std.specs.Prelude.{nat_le, List, Ok, Err}
use Rattle.sv_ast.specs.declared.refusals.Kind.TheVariants.{Syntax, TooDeep, NumberTooWide}
use Rattle.sv_ast.specs.declared.refusals.Refused.{Refused}
use Rattle.sv_lex.specs.declared.cursor.Run.{Run}
use Rattle.sv_lex.specs.declared.digits.Base.TheVariants.{Ten}
use Rattle.sv_lex.specs.declared.lexeme.Lexeme.{Lexeme}
use Rattle.sv_lex.specs.declared.lexeme.Lexeme.TheVariants as k
use Rattle.sv_lex.specs.Digits.{number}
use Rattle.sv_lex.specs.Literals.{run}
use Rattle.sv_lex.specs.Reader.{Input, Outcome, Parser, and_then, refusal, sees, sees_one, after, next, start, span_from, spelling, knowing, expect}
use Rattle.sv_lex.proofs.Sees.{seen}

-- the tokens that are written with one of the bytes that are counted
abbrev pub is_sign : Lexeme → Bool
is_sign k.LParen = true
is_sign k.LBracket = true
is_sign k.LBrace = true
is_sign k.Dot = true
is_sign k.Question = true
is_sign k.Bang = true
is_sign k.Minus = true
is_sign k.Plus = true
is_sign k.Star = true
is_sign k.Percent = true
is_sign k.Equal = true
is_sign k.Less = true
is_sign k.More = true
is_sign k.Same = true
is_sign k.NotSame = true
is_sign k.Arrow = true
is_sign k.EqualEqual = true
is_sign k.BangEqual = true
is_sign k.LessEqual = true
is_sign k.MoreEqual = true
is_sign k.PlusEqual = true
is_sign k.MinusEqual = true
is_sign k.StarEqual = true
is_sign k.PercentEqual = true
is_sign k.AndAnd = true
is_sign k.OrOr = true
is_sign k.Nullish = true
is_sign k.PlusPlus = true
is_sign k.MinusMinus = true
is_sign _ = false

-- a text that goes on, behind the place of another
pub record Beyond (At : Input → Type 0) (i o : Input) : Type 0 where
  pub stands : At o
  pub low : i.at ≤ o.at

abbrev pub Any : {A : Type 0} → A → Type 0
Any a = Unit {0}

abbrev pub Told : {A : Type 0} → (Input → Type 0) → (Refused → Type 0) → (A → Type 0) → Input → Outcome A → Type 0
Told At Bad Q i (Ok p) = Beyond At i p.1 × Q p.0
Told At Bad Q i (Err e) = Bad e

pub record Tells {A : Type 0} (At : Input → Type 0) (Bad : Refused → Type 0) (Q : A → Type 0) (i : Input) (r : Outcome A) : Type 0 where
  pub is : Told At Bad Q i r

-- a place where a token of the text begins, up to another place
pub record Since (At : Input → Type 0) (from place : ℕ) : Type 0 where
  pub origin : Input
  pub stands : At origin
  pub is : from ≡ start origin
  pub le : from ≤ place

-- what the steps of rules over tokens keep: `Room` counts constructs that may be opened behind a place, `Tight` one less, and `Links` those of a chain
pub record IsFrame (At : Input → Type 0) (Bad : Refused → Type 0) (Room Tight Links : ℕ → ℕ → Type 0) (most widest : ℕ) : Type 0 where
  pub steps : (i : Input) → At i → At (next i)
  pub knows : (text : List ℕ) (i : Input) → At i → At (knowing text i)
  pub syntax : (i : Input) → At i → Bad (refusal Syntax i)
  pub spanned : (from : ℕ) (i : Input) → At i → Since At from i.at → Bad (record { kind = Syntax; at = span_from from i })
  pub wide : (i : Input) → At i → sees i ≡ k.Numeral → nat_le (number Ten (spelling i)) widest ≡ false → Bad (refusal NumberTooWide i)
  pub runs : (i : Input) → At i → Tells At Bad Any i (run i)
  pub deep : (i : Input) → At i → Room 0 i.at → Bad (refusal TooDeep i)
  pub long : (i : Input) → At i → Links 1 i.at → Bad (refusal TooDeep i)
  pub sign : (d : ℕ) (i : Input) → At i → Room d i.at → is_sign (sees i) ≡ true → Tight d (next i).at
  pub hole : (d : ℕ) (i o : Input) (x : Run × Bool) → At i → run i ≡ Ok (x, o) → x.1 ≡ true → Room d i.at → Tight d o.at
  pub brace : (d : ℕ) (i : Input) → At i → Room (suc d) i.at → sees i ≡ k.LBrace → Room d (next i).at
  pub link : (n : ℕ) (i : Input) → At i → Links (suc n) i.at → is_sign (sees i) ≡ true → Links n (next i).at
  pub begun : (p : ℕ) → Links most p
  pub more : (n p : ℕ) → Links n p → Links (suc n) p
  pub room_up : (d p q : ℕ) → p ≤ q → Room d p → Room d q
  pub tight_up : (d p q : ℕ) → p ≤ q → Tight d p → Tight d q
  pub links_up : (n p q : ℕ) → p ≤ q → Links n p → Links n q
  pub loose : (d p : ℕ) → Tight d p → Room d p
  pub inner : (d p : ℕ) → Tight (suc d) p → Room d p

pub start-next : (i : Input) → start i ≤ (next i).at
unfolding next
start-next i = omega arith

pub since_on : {At : Input → Type 0} {from p q : ℕ} → Since At from p → p ≤ q → Since At from q
since_on h le = let low = h.le in record { origin = h.origin; stands = h.stands; is = h.is; le = omega arith }

pub since_start : {At : Input → Type 0} (i : Input) → At i → Since At (start i) (next i).at
since_start i at = record { origin = i; stands = at; is = refl; le = start-next i }

pub next-up : (i : Input) → i.at ≤ (next i).at
unfolding next start
next-up i = omega arith

pub stay : {At : Input → Type 0} (i : Input) → At i → Beyond At i i
stay i at = record { stands = at; low = omega arith }

-- the text goes on, or a refusal fits
pub goes_on : {A : Type 0} {At : Input → Type 0} {Bad : Refused → Type 0} {Q : A → Type 0} {i o : Input} {a : A} → Beyond At i o → Q a → Tells At Bad Q i (Ok (a, o))
goes_on b q = record { is = (b, q) }

pub goes : {A : Type 0} {At : Input → Type 0} {Bad : Refused → Type 0} {Q : A → Type 0} {i o : Input} {a : A} → At o → i.at ≤ o.at → Q a → Tells At Bad Q i (Ok (a, o))
goes at le q = record { is = (record { stands = at; low = le }, q) }

pub stops : {A : Type 0} {At : Input → Type 0} {Bad : Refused → Type 0} {Q : A → Type 0} {i : Input} {e : Refused} → Bad e → Tells At Bad Q i (Err e)
stops bad = record { is = bad }

module _ {At : Input → Type 0} {Bad : Refused → Type 0} where
  -- behind an earlier place
  pub tells_from : {A : Type 0} (Q : A → Type 0) {i j : Input} (r : Outcome A) → i.at ≤ j.at → Tells At Bad Q j r → Tells At Bad Q i r
  tells_from Q (Ok p) le h = let low = h.is.0.low in goes h.is.0.stands (omega arith) h.is.1
  tells_from Q (Err e) le h = stops h.is

  pub tells_any : {A : Type 0} (Q : A → Type 0) {i : Input} (r : Outcome A) → Tells At Bad Q i r → Tells At Bad Any i r
  tells_any Q (Ok p) h = goes_on h.is.0 tt
  tells_any Q (Err e) h = stops h.is

  pub tells_then : {A B : Type 0} (P : A → Type 0) (Q : B → Type 0) {i : Input} (r : Outcome A) (f : A → Parser B)
      → Tells At Bad P i r → ((a : A) (j : Input) → At j → i.at ≤ j.at → P a → Tells At Bad Q i (f a j)) → Tells At Bad Q i (and_then r f)
  tells_then P Q (Ok p) f h g = g p.0 p.1 h.is.0.stands h.is.0.low h.is.1
  tells_then P Q (Err e) f h g = stops h.is

  -- where the answer is known too
  pub tells_known : {A B : Type 0} (P : A → Type 0) (Q : B → Type 0) {i : Input} (r : Outcome A) (f : A → Parser B)
      → Tells At Bad P i r → ((a : A) (j : Input) → r ≡ Ok (a, j) → At j → i.at ≤ j.at → P a → Tells At Bad Q i (f a j)) → Tells At Bad Q i (and_then r f)
  tells_known P Q (Ok p) f h g = g p.0 p.1 refl h.is.0.stands h.is.0.low h.is.1
  tells_known P Q (Err e) f h g = stops h.is

  pub tells_if : {B : Type 0} (Q : B → Type 0) {i : Input} (b : Bool) (x y : Outcome B) → (b ≡ true → Tells At Bad Q i x) → (b ≡ false → Tells At Bad Q i y)
      → Tells At Bad Q i (cond b x y)
  tells_if Q true x y g h = g refl
  tells_if Q false x y g h = h refl

  pub tells_choice : {B : Type 0} (Q : B → Type 0) {i : Input} (b : Bool) (p q : Parser B) (j : Input) → (b ≡ true → Tells At Bad Q i (p j)) → (b ≡ false → Tells At Bad Q i (q j))
      → Tells At Bad Q i (cond b p q j)
  tells_choice Q true p q j g h = g refl
  tells_choice Q false p q j g h = h refl

  pub tells_test : {A B : Type 0} (Q : B → Type 0) {i : Input} (b : Bool) (x y : Outcome A) (f : A → Parser B)
      → (b ≡ true → Tells At Bad Q i (and_then x f)) → (b ≡ false → Tells At Bad Q i (and_then y f)) → Tells At Bad Q i (and_then (cond b x y) f)
  tells_test Q true x y f g h = g refl
  tells_test Q false x y f g h = h refl

  pub tells_choice_then : {A B : Type 0} (Q : B → Type 0) {i : Input} (b : Bool) (p q : Parser A) (j : Input) (f : A → Parser B)
      → (b ≡ true → Tells At Bad Q i (and_then (p j) f)) → (b ≡ false → Tells At Bad Q i (and_then (q j) f)) → Tells At Bad Q i (and_then (cond b p q j) f)
  tells_choice_then Q true p q j f g h = g refl
  tells_choice_then Q false p q j f g h = h refl

module _ {At : Input → Type 0} {Bad : Refused → Type 0} {Room Tight Links : ℕ → ℕ → Type 0} {most widest : ℕ} (f : IsFrame At Bad Room Tight Links most widest) where
  pub onward : (i : Input) → At i → Beyond At i (next i)
  onward i at = record { stands = f.steps i at; low = next-up i }

  -- a token that has to come
  pub tells_expect : {B : Type 0} (Q : B → Type 0) (i : Input) (l : Lexeme) (j : Input) (g : Unit {0} → Parser B) → At j → i.at ≤ j.at
      → (At (next j) → i.at ≤ (next j).at → sees j ≡ l → Tells At Bad Q i (g tt (next j))) → Tells At Bad Q i (and_then (expect l j) g)
  unfolding expect
  tells_expect Q i l j g at le h = tells_test Q (sees_one l j) _ _ g (λ e. h (f.steps j at) (let up = next-up j in omega arith) (seen l j e)) (λ e. stops (f.syntax j at))

  pub expect_tells : (i : Input) (l : Lexeme) (j : Input) → At j → i.at ≤ j.at → Tells At Bad Any i (expect l j)
  unfolding expect
  expect_tells i l j at le = tells_if Any (sees_one l j) _ _ (λ e. goes (f.steps j at) (let up = next-up j in omega arith) tt) (λ e. stops (f.syntax j at))

  pub after_beyond : (l : Lexeme) (i : Input) → At i → Beyond At i (after l i)
  unfolding after
  after_beyond l i at = by (sees_one l i)
    where
      by : (b : Bool) → Beyond At i (cond b (next i) i)
      by true = onward i at
      by false = stay i at

  -- the same, where what comes behind it has its own place
  pub tells_token : {B : Type 0} (Q : B → Type 0) (b : Input) (l : Lexeme) (i : Input) (g : Unit {0} → Parser B) → At i
      → (sees i ≡ l → Tells At Bad Q b (g tt (next i))) → Tells At Bad Q b (and_then (expect l i) g)
  unfolding expect
  tells_token Q b l i g at h = tells_test Q (sees_one l i) _ _ g (λ e. h (seen l i e)) (λ e. stops (f.syntax i at))
