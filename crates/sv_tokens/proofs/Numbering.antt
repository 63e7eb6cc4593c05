-- Tokens that have printed numbers.
use Rattle.std.proofs.Common.{◌≡◌, ◌+◌, ℕ, suc, List, [], ◌∷◌, ◌++◌, Bool, true, false, Some, None, refl, ap, sym, ◌∙◌, arith}
use Rattle.std.specs.Prelude.{if◌then◌else◌}
use Rattle.sv_tokens.specs.Counting.{one, times}
use Rattle.sv_tokens.specs.Token.{named, Token, Open, Text, Anchor, Close, lacks_number}
use Rattle.sv_tokens.specs.Seen.{seen, Start, Words, End}
use Rattle.sv_tokens.specs.Numbering.{with_number, numbered}
use Rattle.sv_tokens.specs.Replay.{bare}

-- the token with that number where it lacks one
abbrev pub give : ℕ → Token → Token
give number t = if lacks_number t then with_number number t else t

-- the first takes the number where it lacks one, and the others those from the next
pub numbered-cons : (number : ℕ) (t : Token) (ts : List Token) → numbered number (t ∷ ts) ≡ give number t ∷ numbered (number + one (lacks_number t)) ts
numbered-cons number t ts = go (lacks_number t)
  where
    go : (b : Bool) → (if b then with_number number t ∷ numbered (suc number) ts else t ∷ numbered number ts) ≡ (if b then with_number number t else t) ∷ numbered (number + one b) ts
    go true = let e : suc number ≡ number + 1 = omega arith in ap (λ n. with_number number t ∷ numbered n ts) e
    go false = let e : number ≡ number + 0 = omega arith in ap (λ n. t ∷ numbered n ts) e

-- what lacks none stays
pub numbered-none : (number : ℕ) (ts : List Token) → times lacks_number ts ≡ 0 → numbered number ts ≡ ts
numbered-none number [] none = refl
numbered-none number (t ∷ ts) none = go (lacks_number t) refl (numbered-none number ts)
  where
    go : (b : Bool) → lacks_number t ≡ b → (times lacks_number ts ≡ 0 → numbered number ts ≡ ts) → (if lacks_number t then with_number number t ∷ numbered (suc number) ts else t ∷ numbered number ts) ≡ t ∷ ts
    go true e rest = let w : one (lacks_number t) ≡ 1 = ap one e in absurd (omega (arith, w, none))
    go false e rest =
        ap (λ b. if b then with_number number t ∷ numbered (suc number) ts else t ∷ numbered number ts) e ∙ ap (λ z. t ∷ z) (rest (omega (arith, none)))

-- the second part goes on where the first ends
pub numbered-append : (number : ℕ) (xs ys : List Token) → numbered number (xs ++ ys) ≡ numbered number xs ++ numbered (number + times lacks_number xs) ys
numbered-append number [] ys = let e : number ≡ number + 0 = omega arith in ap (λ n. numbered n ys) e
numbered-append number (x ∷ xs) ys =
    let next = number + one (lacks_number x) in
    let e : next + times lacks_number xs ≡ number + (one (lacks_number x) + times lacks_number xs) = omega arith in
    numbered-cons number x (xs ++ ys)
    ∙ (ap (λ z. give number x ∷ z) (numbered-append next xs ys)
    ∙ (ap (λ n. give number x ∷ (numbered next xs ++ numbered n ys)) e
    ∙ ap (λ z. z ++ numbered (number + times lacks_number (x ∷ xs)) ys) (sym (numbered-cons number x xs))))

give-lacks : (number : ℕ) (t : Token) → one (lacks_number (give number t)) ≡ 0
give-lacks number (Open node parent None element) = omega arith
give-lacks number (Open node parent (Some n) element) = omega arith
give-lacks number (Text node parent None bytes) = omega arith
give-lacks number (Text node parent (Some n) bytes) = omega arith
give-lacks number (Anchor key parent) = omega arith
give-lacks number (Close node name) = omega arith

-- afterwards none lacks a number
pub numbered-lacks : (number : ℕ) (ts : List Token) → times lacks_number (numbered number ts) ≡ 0
numbered-lacks number [] = refl
numbered-lacks number (t ∷ ts) =
    let e = ap (times lacks_number) (numbered-cons number t ts) in
    let here = give-lacks number t in
    let rest = numbered-lacks (number + one (lacks_number t)) ts in
    omega (arith, e, here, rest)

give-seen : (number : ℕ) (t : Token) (ts : List Token) → seen (give number t ∷ ts) ≡ seen (t ∷ ts)
give-seen number (Open node parent None element) ts = refl
give-seen number (Open node parent (Some n) element) ts = refl
give-seen number (Text node parent None bytes) ts = refl
give-seen number (Text node parent (Some n) bytes) ts = refl
give-seen number (Anchor key parent) ts = refl
give-seen number (Close node name) ts = refl

seen-more : (t : Token) (xs ys : List Token) → seen xs ≡ seen ys → seen (t ∷ xs) ≡ seen (t ∷ ys)
seen-more (Open node parent number element) xs ys e = ap (λ z. Start node.serial parent.serial element ∷ z) e
seen-more (Text node parent number bytes) xs ys e = ap (λ z. Words node.serial parent.serial bytes ∷ z) e
seen-more (Anchor key parent) xs ys e = e
seen-more (Close node name) xs ys e = ap (λ z. End node.serial name ∷ z) e

-- what watchers see is the same
pub seen-numbered : (number : ℕ) (ts : List Token) → seen (numbered number ts) ≡ seen ts
seen-numbered number [] = refl
seen-numbered number (t ∷ ts) =
    let next = number + one (lacks_number t) in
    ap seen (numbered-cons number t ts) ∙ (give-seen number t (numbered next ts) ∙ seen-more t (numbered next ts) ts (seen-numbered next ts))

-- an element that has the number 1 keeps it; a text in it and the next element take 2 and 3
numbered-example :
    numbered 2 (Open (named 1 1) (named 0 0) (Some 1) (bare (80 ∷ [])) ∷ Text (named 2 3) (named 1 1) None [] ∷ Anchor 3 (named 1 1) ∷ Close (named 1 1) (80 ∷ []) ∷ Open (named 4 2) (named 0 0) None (bare []) ∷ Close (named 4 2) [] ∷ [])
    ≡ Open (named 1 1) (named 0 0) (Some 1) (bare (80 ∷ [])) ∷ Text (named 2 3) (named 1 1) (Some 2) [] ∷ Anchor 3 (named 1 1) ∷ Close (named 1 1) (80 ∷ []) ∷ Open (named 4 2) (named 0 0) (Some 3) (bare []) ∷ Close (named 4 2) [] ∷ []
numbered-example = refl
