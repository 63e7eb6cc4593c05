-- What stands on a page after an edit.
use Rattle.std.proofs.Common.{◌≡◌, ◌≢◌, ◌≤◌, ◌+◌, ℕ, List, [], ◌∷◌, ◌++◌, Bool, true, false, Option, None, refl, ap, ◌∙◌, arith}
use Rattle.std.specs.Prelude.{if◌then◌else◌}
use Rattle.std.proofs.lemmas.Bool.{eq-eqb}
use Rattle.sv_tokens.specs.Counting.{times, one, Has}
use Rattle.sv_tokens.specs.Token.{Name, named, Element, Token, Open, Text, Anchor, Close, Page, begins, opens, texts, lacks_number}
use Rattle.sv_tokens.specs.Numbering.{with_number, numbered}
use Rattle.sv_tokens.specs.Edit.{Rewritten, Inserted, with_element, with_text}
use Rattle.sv_tokens.specs.Replay.{element_tokens, Gains, Edits}
use Rattle.sv_tokens.specs.declared.change.Change.{Change}
use Rattle.sv_tokens.proofs.Counting.{times-append, times-narrow}
use Rattle.sv_tokens.proofs.Numbering.{numbered-cons}

-- how often a test passes where tokens came
pub times-Inserted : (q : Token → Bool) (old new : List Token) (parent : ℕ) (before : Option ℕ) (own : List Token) → Inserted old new parent before own → times q new ≡ times q old + times q own
times-Inserted q old new parent before own i =
    let x = ap (times q) i.is ∙ times-append q i.pre (own ++ i.post) in
    let y = ap (times q) i.was ∙ times-append q i.pre i.post in
    let z = times-append q own i.post in
    omega (arith, x, y, z)

-- how often a test passes that an edit keeps
pub times-Rewritten : (q : Token → Bool) (old new : List Token) (key : ℕ) (f : Token → Token) → ((t : Token) → q (f t) ≡ q t) → Rewritten old new key f → times q new ≡ times q old
times-Rewritten q old new key f keeps r =
    let x = ap (times q) r.is ∙ times-append q r.pre (f r.token ∷ r.post) in
    let y = ap (times q) r.was ∙ times-append q r.pre (r.token ∷ r.post) in
    let z = ap one (keeps r.token) in
    omega (arith, x, y, z)

-- what stood stands where tokens came
pub Has-Gains : (q : Token → Bool) (old new : Page) (parent : ℕ) (before : Option ℕ) (key : ℕ) (own : List Token) → Gains old new parent before key own → Has q old.tokens → Has q new.tokens
Has-Gains q old new parent before key own g has = let n = times-Inserted q old.tokens new.tokens parent before own g.tokens in omega (arith, n, has)

-- a new element stands
pub opens-Gains : (old new : Page) (parent : ℕ) (before : Option ℕ) (key serial : ℕ) (above : Name) (name : List ℕ) → Gains old new parent before key (element_tokens (named key serial) above name) → Has (opens key) new.tokens
opens-Gains old new parent before key serial above name g =
    let n = times-Inserted (opens key) old.tokens new.tokens parent before (element_tokens (named key serial) above name) g.tokens in
    let w = ap one (eq-eqb key key refl) in
    omega (arith, n, w)

-- a new text stands
pub texts-Gains : (old new : Page) (parent : ℕ) (before : Option ℕ) (key serial : ℕ) (above : Name) (bytes : List ℕ) → Gains old new parent before key (Text (named key serial) above None bytes ∷ []) → Has (texts key) new.tokens
texts-Gains old new parent before key serial above bytes g =
    let n = times-Inserted (texts key) old.tokens new.tokens parent before (Text (named key serial) above None bytes ∷ []) g.tokens in
    let w = ap one (eq-eqb key key refl) in
    omega (arith, n, w)

pub opens-begins : (key : ℕ) (t : Token) → one (opens key t) ≤ one (begins key t)
opens-begins key (Open n p number e) = omega arith
opens-begins key (Text n p number bytes) = omega arith
opens-begins key (Anchor n p) = omega arith
opens-begins key (Close n name) = omega arith

-- a new node has a key that no element has
pub key-Gains : (old new : Page) (parent : ℕ) (before : Option ℕ) (key other : ℕ) (own : List Token) → Gains old new parent before key own → Has (opens other) old.tokens → key ≢ other
key-Gains old new parent before key other own g has e =
    let less = times-narrow (begins key) (opens key) (opens-begins key) old.tokens in
    let same = ap (λ k. times (opens k) old.tokens) e in
    omega (arith, less, same, g.fresh, has)

opens-with_element : (key : ℕ) (f : Element → Element) (t : Token) → opens key (with_element f t) ≡ opens key t
opens-with_element key f (Open n p number e) = refl
opens-with_element key f (Text n p number bytes) = refl
opens-with_element key f (Anchor n p) = refl
opens-with_element key f (Close n name) = refl

texts-with_text : (key : ℕ) (bytes : List ℕ) (t : Token) → texts key (with_text bytes t) ≡ texts key t
texts-with_text key bytes (Open n p number e) = refl
texts-with_text key bytes (Text n p number was) = refl
texts-with_text key bytes (Anchor n p) = refl
texts-with_text key bytes (Close n name) = refl

-- an element still stands where one was edited
pub opens-Edits : (old new : Page) (key k : ℕ) (f : Element → Element) (told : Option Change) → Edits old new key (with_element f) told → Has (opens k) old.tokens → Has (opens k) new.tokens
opens-Edits old new key k f told e has = let n = times-Rewritten (opens k) old.tokens new.tokens key (with_element f) (opens-with_element k f) e.tokens in omega (arith, n, has)

-- a text still stands where one was edited
pub texts-Edits : (old new : Page) (key k : ℕ) (bytes : List ℕ) (told : Option Change) → Edits old new key (with_text bytes) told → Has (texts k) old.tokens → Has (texts k) new.tokens
texts-Edits old new key k bytes told e has = let n = times-Rewritten (texts k) old.tokens new.tokens key (with_text bytes) (texts-with_text k bytes) e.tokens in omega (arith, n, has)

-- how often a test passes that a printed number keeps
pub times-numbered : (q : Token → Bool) → ((number : ℕ) (t : Token) → q (with_number number t) ≡ q t) → (number : ℕ) (ts : List Token) → times q (numbered number ts) ≡ times q ts
times-numbered q keeps number [] = refl
times-numbered q keeps number (t ∷ ts) =
    let all = ap (times q) (numbered-cons number t ts) in
    let here = ap one (given (lacks_number t)) in
    let rest = times-numbered q keeps (number + one (lacks_number t)) ts in
    omega (arith, all, here, rest)
  where
    given : (b : Bool) → q (if b then with_number number t else t) ≡ q t
    given true = keeps number t
    given false = refl

opens-with_number : (key number : ℕ) (t : Token) → opens key (with_number number t) ≡ opens key t
opens-with_number key number (Open n p was e) = refl
opens-with_number key number (Text n p was bytes) = refl
opens-with_number key number (Anchor n p) = refl
opens-with_number key number (Close n name) = refl

texts-with_number : (key number : ℕ) (t : Token) → texts key (with_number number t) ≡ texts key t
texts-with_number key number (Open n p was e) = refl
texts-with_number key number (Text n p was bytes) = refl
texts-with_number key number (Anchor n p) = refl
texts-with_number key number (Close n name) = refl

-- an element still stands where nodes took printed numbers
pub opens-numbered : (number key : ℕ) (ts : List Token) → Has (opens key) ts → Has (opens key) (numbered number ts)
opens-numbered number key ts has = let n = times-numbered (opens key) (opens-with_number key) number ts in omega (arith, n, has)

-- a text still stands where nodes took printed numbers
pub texts-numbered : (number key : ℕ) (ts : List Token) → Has (texts key) ts → Has (texts key) (numbered number ts)
texts-numbered number key ts has = let n = times-numbered (texts key) (texts-with_number key) number ts in omega (arith, n, has)
