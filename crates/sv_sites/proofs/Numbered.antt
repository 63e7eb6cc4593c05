-- Texts that a table of names has.
use Rattle.std.proofs.Common.{◌≡◌, ◌<◌, ◌+◌, ℕ, Bool, true, false, not, ◌||◌, cond, List, [], ◌∷◌, length, refl, arith}
use Rattle.std.specs.Prelude.{◌↔◌, Option, Some, None, IsNone, is_some}
use Rattle.std.specs.Str.{bytes_eq}
use Rattle.std.specs.List.{list_any, position_or_len}
use Rattle.sv_base.specs.declared.names.Name.{Name}
use Rattle.sv_base.specs.Names.{number_of}

within : {X : Type 0} (p : X → Bool) (xs : List X) → list_any p xs ≡ true → position_or_len p xs < length xs
within p [] h = absurd (cc)
within p (x ∷ xs) h = by (p x) h (λ g. within p xs g)
  where
    by : (b : Bool) → (b || list_any p xs) ≡ true → (list_any p xs ≡ true → position_or_len p xs < length xs)
        → cond (not b) (1 + position_or_len p xs) 0 < length (x ∷ xs)
    by true h rest = omega arith
    by false h rest = let e = rest h in omega arith

none : {X : Type 0} (p : X → Bool) (xs : List X) → list_any p xs ≡ false → position_or_len p xs ≡ length xs
none p [] h = refl
none p (x ∷ xs) h = by (p x) h (λ g. none p xs g)
  where
    by : (b : Bool) → (b || list_any p xs) ≡ false → (list_any p xs ≡ false → position_or_len p xs ≡ length xs)
        → cond (not b) (1 + position_or_len p xs) 0 ≡ length (x ∷ xs)
    by true h rest = absurd (cc)
    by false h rest = let e = rest h in omega arith

by_answer : (found : Option Name) (b : Bool) (text : List ℕ) (texts : List (List ℕ)) → list_any (bytes_eq text) texts ≡ b
    → (IsNone found ↔ (position_or_len (bytes_eq text) texts ≡ length texts)) → is_some found ≡ b
by_answer None true text texts e h =
    let less : position_or_len (bytes_eq text) texts < length texts = within (bytes_eq text) texts e in
    let same : position_or_len (bytes_eq text) texts ≡ length texts = h.0 refl in
    absurd (omega arith)
by_answer None false text texts e h = refl
by_answer (Some n) true text texts e h = refl
by_answer (Some n) false text texts e h = let f : true ≡ false = h.1 (none (bytes_eq text) texts e) in absurd (cc)

-- a text that a table finds is one of its texts
pub is_found : (text : List ℕ) (texts : List (List ℕ)) (found : Option Name) → (IsNone found ↔ (number_of text texts ≡ length texts))
    → is_some found ≡ list_any (bytes_eq text) texts
unfolding number_of
is_found text texts found h = by_answer found (list_any (bytes_eq text) texts) text texts refl h
