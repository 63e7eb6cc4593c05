-- Lists of a known length, and the words that they are.
use Rattle.std.proofs.Common.{◌≡◌, ◌<◌, ◌≤◌, ℕ, List, [], ◌∷◌, length, take, drop, ◌-◌, get_or, string_bytes, arith, sym, ap, ◌∙◌}
use Rattle.std.proofs.lemmas.List.{take_all, length-drop}
use Rattle.std.specs.Prelude.{String}
use Rattle.std.specs.declared.alloc.Global.{Global}
use Rattle.sv_words.specs.Texts.{bytes_of}

-- a list of two elements
pub two_words : {A : Type 0} (xs : List A) (a b : A) → 2 ≤ length xs → length xs < 3 → a ≡ get_or xs 0 a → b ≡ get_or xs 1 b → xs ≡ a ∷ b ∷ []
two_words [] a b low high p q = absurd (omega arith)
two_words (x ∷ []) a b low high p q = absurd (omega arith)
two_words (x ∷ y ∷ []) a b low high p q = cc
two_words (x ∷ y ∷ z ∷ zs) a b low high p q = absurd (omega arith)

-- the bytes of its words
pub two_bytes : (xs : List (String Global)) (a b : String Global) (s t : List ℕ) → xs ≡ a ∷ b ∷ [] → bytes_of xs ≡ s ∷ t ∷ [] → (string_bytes a ≡ s) × (string_bytes b ≡ t)
two_bytes xs a b s t is form =
    let same : string_bytes a ∷ string_bytes b ∷ [] ≡ s ∷ t ∷ [] = sym (ap bytes_of is) ∙ form in
    (cc, cc)

-- a list of three elements
pub three_only : {A : Type 0} (xs : List A) (a b c : A) → 3 ≤ length xs → length xs < 4 → a ≡ get_or xs 0 a → b ≡ get_or xs 1 b → c ≡ get_or xs 2 c → xs ≡ a ∷ b ∷ c ∷ []
three_only [] a b c low high p q r = absurd (omega arith)
three_only (x ∷ []) a b c low high p q r = absurd (omega arith)
three_only (x ∷ y ∷ []) a b c low high p q r = absurd (omega arith)
three_only (x ∷ y ∷ z ∷ []) a b c low high p q r = cc
three_only (x ∷ y ∷ z ∷ w ∷ xs) a b c low high p q r = absurd (omega arith)

-- a list of three elements or more
pub three_words : {A : Type 0} (xs : List A) (a b c : A) → 3 ≤ length xs → a ≡ get_or xs 0 a → b ≡ get_or xs 1 b → c ≡ get_or xs 2 c → xs ≡ a ∷ b ∷ c ∷ drop 3 xs
three_words [] a b c low p q r = absurd (omega arith)
three_words (x ∷ []) a b c low p q r = absurd (omega arith)
three_words (x ∷ y ∷ []) a b c low p q r = absurd (omega arith)
three_words (x ∷ y ∷ z ∷ zs) a b c low p q r = cc

-- what stands behind some of its elements, up to the end
pub rest_whole : {A : Type 0} (n : ℕ) (xs : List A) → take (length xs - n) (drop n xs) ≡ drop n xs
rest_whole n xs = take_all (length xs - n) (drop n xs) (omega (arith, length-drop n xs))
