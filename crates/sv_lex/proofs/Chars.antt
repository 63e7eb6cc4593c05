-- The character at the front of a text.
use Rattle.std.proofs.Common.{◌≡◌, ◌≤◌, ◌<◌, ℕ, List, [], ◌∷◌, length, arith}
use Rattle.std.specs.Prelude.{Some}
use Rattle.bstr.specs.Utf8.{decoded}
use Rattle.bstr.proofs.lemmas.PieceLemmas.{piece-bounds, size-within}

some_left : (z : List ℕ) (c : ℕ) → (decoded z).char ≡ Some c → 0 < length z
some_left [] c h = absurd (cc)
some_left (b ∷ z) c h = omega arith

-- it takes a byte and no more than there are
pub char_bounds : (z : List ℕ) (c : ℕ) → (decoded z).char ≡ Some c → (1 ≤ (decoded z).size) × ((decoded z).size ≤ length z)
char_bounds z c h = ((piece-bounds z (some_left z c h)).0, size-within z)
