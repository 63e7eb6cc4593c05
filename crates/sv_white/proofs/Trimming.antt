-- White space at the ends of a text, and the pieces that are left to be trimmed.
use Rattle.std.proofs.Common.{◌≡◌, ◌<◌, ◌≤◌, ◌-◌, ℕ, zero, suc, Bool, true, false, List, [], ◌∷◌, take, drop, length, refl, ap, sym, ◌∙◌, arith}
use Rattle.std.specs.Prelude.{if◌then◌else◌, slice_index}
use Rattle.std.specs.Char.{is_ascii_whitespace}
use Rattle.std.specs.Str.{IsTrimAsciiStart, IsTrimAsciiEnd}
use Rattle.sv_white.specs.declared.pieces.Piece.{Piece}
use Rattle.sv_white.specs.White.{trim_start, trim_end, trimmed}

start_from : (n : ℕ) (s : List ℕ) → ((i : ℕ) → i < n → is_ascii_whitespace (slice_index s i) ≡ true) → (n < length s → is_ascii_whitespace (slice_index s n) ≡ false) → drop n s ≡ trim_start s
start_from zero [] white other = refl
start_from zero (b ∷ bytes) white other = rw (other (omega arith)) refl
start_from (suc n) [] white other = refl
start_from (suc n) (b ∷ bytes) white other = rw (white 0 (omega arith)) (start_from n bytes (λ i below. white (suc i) (omega (arith, below))) (λ below. other (omega (arith, below))))

pub start_is : (s r : List ℕ) → IsTrimAsciiStart s r → r ≡ trim_start s
start_is s r (n, is, counts, white, other) = is ∙ start_from n s white other

end_from : (n : ℕ) (s : List ℕ) → n ≤ length s → ((i : ℕ) → n ≤ i → i < length s → is_ascii_whitespace (slice_index s i) ≡ true) → ((m : ℕ) → n ≡ suc m → is_ascii_whitespace (slice_index s m) ≡ false) → take n s ≡ trim_end s
end_from zero [] few white other = refl
end_from zero (b ∷ bytes) few white other =
    let rest : [] ≡ trim_end bytes = end_from zero bytes (omega arith) (λ i from below. white (suc i) (omega arith) (omega (arith, below))) (λ m is. absurd (omega (arith, is))) in
    rw (sym rest, white 0 (omega arith) (omega arith)) refl
end_from (suc n) [] few white other = absurd (omega (arith, few))
end_from (suc zero) (b ∷ bytes) few white other =
    let rest : [] ≡ trim_end bytes = end_from zero bytes (omega arith) (λ i from below. white (suc i) (omega arith) (omega (arith, below))) (λ m is. absurd (omega (arith, is))) in
    rw (sym rest, other 0 refl) refl
end_from (suc (suc n)) (b ∷ []) few white other = absurd (omega (arith, few))
end_from (suc (suc n)) (b ∷ c ∷ bytes) few white other =
    let rest : take (suc n) (c ∷ bytes) ≡ trim_end (c ∷ bytes) = end_from (suc n) (c ∷ bytes) (omega (arith, few)) (λ i from below. white (suc i) (omega (arith, from)) (omega (arith, below))) (λ m is. other (suc m) (ap suc is)) in
    rw (sym rest) refl

-- the last of some bytes
last_of : (n m : ℕ) (s : List ℕ) → (0 < n → is_ascii_whitespace (slice_index s (n - 1)) ≡ false) → n ≡ suc m → is_ascii_whitespace (slice_index s m) ≡ false
last_of n m s other is = let before : n - 1 ≡ m = omega (arith, is) in ap (λ k. is_ascii_whitespace (slice_index s k)) (sym before) ∙ other (omega (arith, is))

pub end_is : (s r : List ℕ) → IsTrimAsciiEnd s r → r ≡ trim_end s
end_is s r (n, is, counts, few, white, other) = is ∙ end_from n s few white (λ m k. last_of n m s other k)

-- pieces, which are left as they are once the content began
abbrev pub trimmed_from : {T : Type 0} → Bool → (List ℕ → List ℕ) → List (Piece T) → List (Piece T)
trimmed_from begun trim pieces = if begun then pieces else trimmed trim pieces
