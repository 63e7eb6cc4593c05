-- Where names and words come, and what their readers leave: the text behind one token.
use Rattle.std.proofs.Common.{◌≡◌, ◌≤◌, ◌<◌, ℕ, zero, suc, ◌+◌, Bool, true, false, ◌&&◌, cond, List, [], ◌∷◌, length, take, drop, refl, ap, sym, ◌∙◌, arith, inl, inr}
use Rattle.std.specs.Prelude.{◌==◌, nat_le, codes, Option, Some, None, Ok, Err, ℤ, pos, slice_index}
use Rattle.std.proofs.lemmas.Grind.{common_steps}
use Rattle.std.specs.Str.{bytes_eq}
use Rattle.sv_ast.specs.declared.names.Named.{Named}
use Rattle.sv_ast.specs.declared.names.Ref.{Ref}
use Rattle.sv_ast.specs.declared.refusals.Kind.TheVariants.{Syntax, NumberTooWide}
use Rattle.sv_ast.specs.declared.refusals.Refused.{Refused}
use Rattle.sv_lex.specs.declared.characters.Class.TheVariants as class
use Rattle.sv_lex.specs.declared.lexeme.Lexeme.{Lexeme}
use Rattle.sv_lex.specs.declared.lexeme.Lexeme.TheVariants as k
use Rattle.sv_lex.specs.declared.strings.Quote.{Quote}
use Rattle.sv_lex.specs.declared.strings.Quote.TheVariants as quote
use Rattle.sv_lex.specs.Characters.{char_len, len_in}
use Rattle.sv_lex.specs.Digits.{number}
use Rattle.sv_lex.specs.declared.digits.Base.TheVariants.{Ten}
use Rattle.sv_lex.specs.Literals.{numeral, string}
use Rattle.sv_lex.specs.Look.{skip, first, past}
use Rattle.sv_lex.specs.Reader.{Input, Outcome, sees, next, left, refusal, spelling, name_text, named_here, knowing, word_of, word, word_text, name, store_name}
use Rattle.sv_lex.specs.Signs.{sign, of_three, of_two, of_one, two_or_one, three_or_less}
use Rattle.sv_lex.specs.Strings.{closing}
use Rattle.sv_lex.specs.Token as t
use Rattle.sv_lex.specs.Token.{Token, token, name_or_other, other, alone, store, store_of, closed, quoted, name_len, with_rest}
use Rattle.sv_lex.specs.Words.{keyword, later_keyword, is_reserved}
use Rattle.sv_lex.proofs.Chars.{char_bounds}
use Rattle.sv_lex.proofs.Ends.{Ends}
use Rattle.sv_lex.proofs.Runs.{unequal}
use Rattle.sv_lex.proofs.Sees.{seen, sees_yes}
use Rattle.sv_expr.specs.Grammar as g
use Rattle.sv_expr.specs.Operators.{is_target}

-- ---- which tokens are names

either : {A : Type 0} (f : A → Bool) (v b : Bool) (x y : A) → f x ≡ v → f y ≡ v → f (cond b x y) ≡ v
either f v true x y h g = h
either f v false x y h g = g

no : (b : Bool) (x y : Lexeme) → is_target x ≡ false → is_target y ≡ false → is_target (cond b x y) ≡ false
no b x y h g = either is_target false b x y h g

abbrev is_target_in : Option Lexeme → Bool
is_target_in None = false
is_target_in (Some l) = is_target l

none : (b : Bool) (x y : Option Lexeme) → is_target_in x ≡ false → is_target_in y ≡ false → is_target_in (cond b x y) ≡ false
none b x y h g = either is_target_in false b x y h g

one_plain : (b : ℕ) → is_target (of_one b) ≡ false
one_plain b =
    no (b == 40) _ _ refl (no (b == 41) _ _ refl (no (b == 91) _ _ refl (no (b == 93) _ _ refl (no (b == 123) _ _ refl (no (b == 125) _ _ refl (
    no (b == 44) _ _ refl (no (b == 59) _ _ refl (no (b == 46) _ _ refl (no (b == 63) _ _ refl (no (b == 58) _ _ refl (no (b == 33) _ _ refl (
    no (b == 45) _ _ refl (no (b == 43) _ _ refl (no (b == 42) _ _ refl (no (b == 47) _ _ refl (no (b == 37) _ _ refl (no (b == 61) _ _ refl (
    no (b == 60) _ _ refl (no (b == 62) _ _ refl (no (b == 96) _ _ refl refl))))))))))))))))))))

two_plain : (b c : ℕ) → is_target_in (of_two b c) ≡ false
two_plain b c =
    none (c == 61) _ _
    (none (b == 61) _ _ refl (none (b == 33) _ _ refl (none (b == 60) _ _ refl (none (b == 62) _ _ refl (none (b == 43) _ _ refl (
    none (b == 45) _ _ refl (none (b == 42) _ _ refl (none (b == 37) _ _ refl refl))))))))
    (none (c == b) _ _
    (none (b == 38) _ _ refl (none (b == 124) _ _ refl (none (b == 63) _ _ refl (none (b == 43) _ _ refl (none (b == 45) _ _ refl refl)))))
    (none (b == 61 && c == 62) _ _ refl (none (b == 36 && c == 58) _ _ refl refl)))

sign_plain : (z : List ℕ) → is_target (sign z).0 ≡ false
unfolding sign
sign_plain z = three (of_three b c d) (none (c == 61 && d == 61) _ _ (none (b == 61) _ _ refl (none (b == 33) _ _ refl refl)) (none (b == 46 && c == 46 && d == 46) _ _ refl refl))
  where
    b : ℕ
    b = slice_index z 0

    c : ℕ
    c = slice_index z 1

    d : ℕ
    d = slice_index z 2

    two : (o : Option Lexeme) → is_target_in o ≡ false → is_target (two_or_one o b).0 ≡ false
    two None h = one_plain b
    two (Some x) h = h

    three : (o : Option Lexeme) → is_target_in o ≡ false → is_target (three_or_less o b c).0 ≡ false
    three None h = two (of_two b c) (two_plain b c)
    three (Some x) h = h

abbrev is_name : Lexeme → Bool
is_name k.Name = true
is_name _ = false

plain_name : (l : Lexeme) → is_target l ≡ false → is_name l ≡ false
plain_name k.Name h = h
plain_name _ h = refl

unnamed : (b : Bool) (x y : Token) → is_name x.0 ≡ false → is_name y.0 ≡ false → is_name (cond b x y).0 ≡ false
unnamed b x y h g = either (λ (p : Token). is_name p.0) false b x y h g

apart : (b : Bool) (x y : Token) → is_target x.0 ≡ false → is_target y.0 ≡ false → is_target (cond b x y).0 ≡ false
apart b x y h g = either (λ (p : Token). is_target p.0) false b x y h g

sign_name : (z : List ℕ) → is_name (sign z).0 ≡ false
sign_name z = plain_name (sign z).0 (sign_plain z)

store_unnamed : (z : List ℕ) → is_name (store z).0 ≡ false
unfolding store
store_unnamed z = unnamed (name_len (drop 1 z) == 0) (sign z) _ (sign_name z) (by (keyword (take (name_len (drop 1 z)) (drop 1 z))) (name_len (drop 1 z)))
  where
    by : (l : Lexeme) (n : ℕ) → is_name (store_of l n).0 ≡ false
    by k.Name n = refl
    by _ n = refl

alone_plain : (n : ℕ) (z : List ℕ) → is_target (alone n z).0 ≡ false
alone_plain n z = apart (char_len class.NameStart (drop n z) == 0) (k.Numeral, n) (k.Bad, 1) refl refl

numeral_plain : (z : List ℕ) → is_target (t.numeral z).0 ≡ false
unfolding t.numeral
numeral_plain z = alone_plain _ z

closed_plain : (q : Quote) (n : ℕ) (z : List ℕ) → is_target (closed q n z).0 ≡ false
closed_plain q n z = apart (slice_index (drop 1 z) n == closing q) (k.Quoted, n + 2) (k.Bad, 1) refl refl

quoted_plain : (q : Quote) (z : List ℕ) → is_target (quoted q z).0 ≡ false
unfolding quoted
quoted_plain q z = closed_plain q _ z

-- a token that begins with no name is none
other_name : (z : List ℕ) → is_name (other z).0 ≡ false
unfolding other
other_name z =
    let b = slice_index z 0 in
    unnamed (nat_le 48 b && nat_le b 57) (t.numeral z) _ (plain_name _ (numeral_plain z)) (unnamed (b == 36) (store z) _ (store_unnamed z)
    (unnamed (b == 39) (quoted quote.Single z) _ (plain_name _ (quoted_plain quote.Single z)) (unnamed (b == 34) (quoted quote.Double z) _ (plain_name _ (quoted_plain quote.Double z))
    (unnamed (b == 47 && slice_index z 1 == 42) (k.Bad, 1) (sign z) refl (sign_name z)))))

-- and a store name only with a name behind the `$`
not_here : {A : Type 0} (b : Bool) (x y : Token) → is_target x.0 ≡ false → (y.0 ≡ k.Store → A) → (cond b x y).0 ≡ k.Store → A
not_here true x y h g e = let f = ap is_target e in absurd (cc)
not_here false x y h g e = g e

only_here : {A : Type 0} (b : Bool) (x y : Token) → (x.0 ≡ k.Store → A) → is_target y.0 ≡ false → (cond b x y).0 ≡ k.Store → A
only_here true x y g h e = g e
only_here false x y g h e = let f = ap is_target e in absurd (cc)

store_behind : (z : List ℕ) → (store z).0 ≡ k.Store → (name_len (drop 1 z) == 0) ≡ false
unfolding store
store_behind z h = by (name_len (drop 1 z) == 0) (store_of (keyword (take (name_len (drop 1 z)) (drop 1 z))) (name_len (drop 1 z))) h
  where
    by : (b : Bool) (x : Token) → (cond b (sign z) x).0 ≡ k.Store → b ≡ false
    by true x e = let f = ap is_target e in let g = sign_plain z in absurd (cc)
    by false x e = refl

other_store : (z : List ℕ) → (other z).0 ≡ k.Store → (name_len (drop 1 z) == 0) ≡ false
unfolding other
other_store z =
    let b = slice_index z 0 in
    not_here (nat_le 48 b && nat_le b 57) (t.numeral z) _ (numeral_plain z) (only_here (b == 36) (store z) _ (store_behind z)
    (apart (b == 39) (quoted quote.Single z) _ (quoted_plain quote.Single z) (apart (b == 34) (quoted quote.Double z) _ (quoted_plain quote.Double z)
    (apart (b == 47 && slice_index z 1 == 42) (k.Bad, 1) (sign z) refl (sign_plain z)))))

none_in : (o : Option ℕ) (size : ℕ) → ((c : ℕ) → o ≡ Some c → (1 ≤ size) × (size ≤ 0)) → len_in class.NameStart o size ≡ 0
none_in None size h = refl
none_in (Some c) size h = let bounds = h c refl in absurd (omega (arith, bounds.0, bounds.1))

char_len-none : char_len class.NameStart [] ≡ 0
unfolding char_len
char_len-none = none_in _ _ (char_bounds [])

name_len-none : name_len [] ≡ 0
unfolding name_len
name_len-none = ap (λ n. with_rest n []) char_len-none

-- ---- which tokens are words

-- a name, or a word that is none
abbrev pub is_word : Lexeme → Bool
is_word k.Name = true
is_word k.Reserved = true
is_word k.Break = true
is_word k.Const = true
is_word k.Continue = true
is_word k.Else = true
is_word k.Export = true
is_word k.False = true
is_word k.For = true
is_word k.Function = true
is_word k.If = true
is_word k.Import = true
is_word k.Let = true
is_word k.Null = true
is_word k.Return = true
is_word k.True = true
is_word k.Undefined = true
is_word k.While = true
is_word _ = false

wordy : (b : Bool) (x y : Lexeme) → is_word x ≡ true → is_word y ≡ true → is_word (cond b x y) ≡ true
wordy b x y h g = either is_word true b x y h g

later_word : (w : List ℕ) → is_word (later_keyword w) ≡ true
unfolding later_keyword
later_word w =
    wordy (bytes_eq w (codes "if")) _ _ refl (wordy (bytes_eq w (codes "import")) _ _ refl (wordy (bytes_eq w (codes "let")) _ _ refl (
    wordy (bytes_eq w (codes "null")) _ _ refl (wordy (bytes_eq w (codes "return")) _ _ refl (wordy (bytes_eq w (codes "true")) _ _ refl (
    wordy (bytes_eq w (codes "undefined")) _ _ refl (wordy (bytes_eq w (codes "while")) _ _ refl (wordy (is_reserved w) _ _ refl refl))))))))

keyword_word : (w : List ℕ) → is_word (keyword w) ≡ true
unfolding keyword
keyword_word w =
    wordy (bytes_eq w (codes "break")) _ _ refl (wordy (bytes_eq w (codes "const")) _ _ refl (wordy (bytes_eq w (codes "continue")) _ _ refl (
    wordy (bytes_eq w (codes "else")) _ _ refl (wordy (bytes_eq w (codes "export")) _ _ refl (wordy (bytes_eq w (codes "false")) _ _ refl (
    wordy (bytes_eq w (codes "for")) _ _ refl (wordy (bytes_eq w (codes "function")) _ _ refl (later_word w))))))))

-- ---- what stands where they come

-- a name's text is not empty
name_stands : (z : List ℕ) → (token z).0 ≡ k.Name → (length (name_text z) == 0) ≡ false
unfolding token
name_stands [] h = absurd (cc)
name_stands (b ∷ z) h = by (name_len (b ∷ z)) h
  where
    by : (n : ℕ) → (name_or_other n (b ∷ z)).0 ≡ k.Name → (length (take n (b ∷ z)) == 0) ≡ false
    by zero h = let e = ap is_name h in let f = other_name (b ∷ z) in absurd (cc)
    by (suc n) h = unequal _ 0 (λ e. absurd (omega arith))

some_text : (z : List ℕ) → (name_len z == 0) ≡ false → (length (name_text z) == 0) ≡ false
some_text [] h = let e = ap (λ n. n == 0) name_len-none in absurd (cc)
some_text (b ∷ z) h = by (name_len (b ∷ z)) h
  where
    by : (n : ℕ) → (n == 0) ≡ false → (length (take n (b ∷ z)) == 0) ≡ false
    by zero h = absurd (cc)
    by (suc n) h = unequal _ 0 (λ e. absurd (omega arith))

word_token : (n : ℕ) (z : List ℕ) → (name_or_other (suc n) z).0 ≡ keyword (take (suc n) z)
word_token n z = ap (λ b. (cond b (other z) (keyword (take (suc n) z), suc n)).0) (unequal (suc n) 0 (λ e. absurd (omega arith)))

store_stands : (z : List ℕ) → (token z).0 ≡ k.Store → (length (name_text (drop 1 z)) == 0) ≡ false
unfolding token
store_stands [] h = absurd (cc)
store_stands (b ∷ z) h = some_text z (by (name_len (b ∷ z)) h)
  where
    by : (n : ℕ) → (name_or_other n (b ∷ z)).0 ≡ k.Store → (name_len z == 0) ≡ false
    by zero h = other_store (b ∷ z) h
    by (suc n) h =
        let e : is_word (keyword (take (suc n) (b ∷ z))) ≡ false = ap is_word (sym (word_token n (b ∷ z)) ∙ h) in
        let f : true ≡ false = sym (keyword_word (take (suc n) (b ∷ z))) ∙ e in
        absurd (cc)

word_stands : (z : List ℕ) → (length (name_text z) == 0) ≡ false → is_word (token z).0 ≡ true
unfolding token
word_stands [] h = let e : (length (name_text []) == 0) ≡ true = ap (λ n. length (take {A = ℕ} n []) == 0) name_len-none in absurd (cc)
word_stands (b ∷ z) h = by (name_len (b ∷ z)) h
  where
    by : (n : ℕ) → (length (take n (b ∷ z)) == 0) ≡ false → is_word (name_or_other n (b ∷ z)).0 ≡ true
    by zero h = absurd (cc)
    by (suc n) h = ap is_word (word_token n (b ∷ z)) ∙ keyword_word (take (suc n) (b ∷ z))

-- ---- what their readers give and leave

pub text_next : (i : Input) → (next i).text ≡ past i.text
unfolding next
text_next i = refl

-- two texts alike begin alike
pub sees_as : (i j : Input) → i.text ≡ j.text → sees i ≡ sees j
unfolding sees
sees_as i j e = ap first e

pub left_as : (i j : Input) → i.text ≡ j.text → left i ≡ left j
unfolding left
left_as i j e = ap length e

pub same_rest : {A : Type 0} (x y : A) (i j : Input) → ◌≡◌ {A = Outcome A} (Ok (x, i)) (Ok (y, j)) → i ≡ j
same_rest {A = A} x y i j e = let p : ◌≡◌ {A = A × Input} (x, i) (y, j) = cc in ap (λ (p : A × Input). p.1) p

pub same_answer : {A : Type 0} (x y : A) (i j : Input) → ◌≡◌ {A = Outcome A} (Ok (x, i)) (Ok (y, j)) → x ≡ y
same_answer {A = A} x y i j e = let p : ◌≡◌ {A = A × Input} (x, i) (y, j) = cc in ap (λ (p : A × Input). p.0) p

between : (n limit wider : ℕ) → nat_le n limit ≡ false → nat_le n wider ≡ true → limit < wider
between n limit wider h g = grind (arith, common_steps)

word_of_past : (text : List ℕ) (i o : Input) (x : Named) → word_of text i ≡ Ok (x, o) → o.text ≡ past i.text
unfolding word_of next
word_of_past text i o x h = by (length text == 0) h
  where
    by : (b : Bool) → ◌≡◌ {A = Outcome Named} (cond b (Err (refusal Syntax i)) (named_here text i)) (Ok (x, o)) → o.text ≡ past i.text
    by true e = absurd (cc)
    by false e = sym (ap (λ (j : Input). j.text) (same_rest _ _ _ _ e))

pub word_past : (i o : Input) (x : Named) → word i ≡ Ok (x, o) → o.text ≡ past i.text
unfolding word
word_past i o x h = word_of_past _ i o x h

pub store_past : (i o : Input) (x : Named) → store_name i ≡ Ok (x, o) → o.text ≡ past i.text
unfolding store_name
store_past i o x h = word_of_past _ i o x h

name_by : (b : Bool) (i o : Input) (x : Named) → ◌≡◌ {A = Outcome Named} (cond b (word i) (Err (refusal Syntax i))) (Ok (x, o)) → (b ≡ true) × (word i ≡ Ok (x, o))
name_by true i o x h = (refl, h)
name_by false i o x h = absurd (cc)

pub name_sees : (i o : Input) (x : Named) → name i ≡ Ok (x, o) → sees i ≡ k.Name
unfolding name
name_sees i o x h = seen k.Name i (name_by _ i o x h).0

pub name_past : (i o : Input) (x : Named) → name i ≡ Ok (x, o) → o.text ≡ past i.text
unfolding name
name_past i o x h = word_past i o x (name_by _ i o x h).1

pub string_past : (i o : Input) (x : List ℕ) → string i ≡ Ok (x, o) → o.text ≡ past i.text
unfolding string next
string_past i o x h = sym (ap (λ (j : Input). j.text) (same_rest _ _ _ _ h))

numeral_by : (b : Bool) (i o : Input) (n x : ℤ) → ◌≡◌ {A = Outcome ℤ} (cond b (Ok (n, next i)) (Err (refusal NumberTooWide i))) (Ok (x, o)) → (b ≡ true) × (n ≡ x) × (next i ≡ o)
numeral_by true i o n x h = (refl, same_answer n x _ _ h, same_rest n x _ _ h)
numeral_by false i o n x h = absurd (cc)

pub numeral_past : (limit : ℕ) (i o : Input) (x : ℤ) → numeral limit i ≡ Ok (x, o) → o.text ≡ past i.text
unfolding numeral
numeral_past limit i o x h = ap (λ (j : Input). j.text) (sym (numeral_by _ i o _ x h).2) ∙ text_next i

within : (P : Refused → Type 0) (b : Bool) (i o : Input) (n x : ℤ) → n ≡ x → next i ≡ o → (b ≡ false → P (refusal NumberTooWide i))
    → Ends P (cond b (Ok (n, next i)) (Err (refusal NumberTooWide i))) (x, o)
within P true i o n x e f g = inl (cc)
within P false i o n x e f g = inr (refusal NumberTooWide i, refl, g refl)

-- within another limit it is the same, or too wide
pub numeral_ends : (P : Refused → Type 0) (limit wider : ℕ) (i o : Input) (x : ℤ) → numeral wider i ≡ Ok (x, o) → (limit < wider → P (refusal NumberTooWide i))
    → Ends P (numeral limit i) (x, o)
unfolding numeral
numeral_ends P limit wider i o x h f =
    let n = number Ten (spelling i) in
    let found = numeral_by (nat_le n wider) i o (pos n) x h in
    within P (nat_le n limit) i o (pos n) x found.1 found.2 (λ e. f (between n limit wider e found.0))

word_text_by : (b : Bool) (i j : Input) (x : List ℕ) → ◌≡◌ {A = Outcome (List ℕ)} (cond b (Err (refusal Syntax i)) (Ok (name_text (skip i.text), i))) (Ok (x, j)) → (b ≡ false) × (i ≡ j)
word_text_by true i j x h = absurd (cc)
word_text_by false i j x h = (refl, same_rest _ _ i j h)

pub word_text_stays : (i j : Input) (x : List ℕ) → word_text i ≡ Ok (x, j) → i ≡ j
unfolding word_text
word_text_stays i j x h = (word_text_by _ i j x h).1

pub word_text_sees : (i j : Input) (x : List ℕ) → word_text i ≡ Ok (x, j) → is_word (sees i) ≡ true
unfolding word_text sees first
word_text_sees i j x h = word_stands (skip i.text) (word_text_by _ i j x h).0

-- a name or store name that comes is read
pub record Read (r : Outcome Named) (i : Input) : Type 0 where
  pub found : Named
  pub behind : Input
  pub is : r ≡ Ok (found, behind)
  pub past : behind.text ≡ past i.text

word_read : (text : List ℕ) (i : Input) → (length text == 0) ≡ false → Read (word_of text i) i
unfolding word_of next
word_read text i h = by (length text == 0) h
  where
    by : (b : Bool) → b ≡ false → Read (cond b (Err (refusal Syntax i)) (named_here text i)) i
    by true e = absurd (cc)
    by false e = record { found = _; behind = knowing text (next i); is = refl; past = refl }

name_read_by : (b : Bool) (i : Input) → b ≡ true → Read (word i) i → Read (cond b (word i) (Err (refusal Syntax i))) i
name_read_by true i e r = r
name_read_by false i e r = absurd (cc)

pub name_read : (i : Input) → sees i ≡ k.Name → Read (name i) i
unfolding name word sees first
name_read i h = name_read_by _ i (sees_yes k.Name i h) (word_read _ i (name_stands (skip i.text) h))

pub store_read : (i : Input) → sees i ≡ k.Store → Read (store_name i) i
unfolding store_name sees first
store_read i h = word_read _ i (store_stands (skip i.text) h)

-- ---- targets

pub target_sees : {i o : Input} {ref : Ref} → g.Target i ref o → is_target (sees i) ≡ true
target_sees (g.plain h e) = ap is_target h
target_sees (g.store h e) = ap is_target h

pub target_past : {i o : Input} {ref : Ref} → g.Target i ref o → o.text ≡ past i.text
target_past (g.plain h e) = name_past _ _ _ e
target_past (g.store h e) = store_past _ _ _ e

pub record IsTarget (i : Input) : Type 0 where
  pub ref : Ref
  pub behind : Input
  pub is : g.Target i ref behind

pub target_read : (i : Input) → is_target (sees i) ≡ true → IsTarget i
target_read i h = by (sees i) refl h
  where
    by : (l : Lexeme) → sees i ≡ l → is_target l ≡ true → IsTarget i
    by k.Name e t = let r = name_read i e in record { ref = _; behind = r.behind; is = g.plain e r.is }
    by k.Store e t = let r = store_read i e in record { ref = _; behind = r.behind; is = g.store e r.is }
    by _ e t = absurd (cc)
