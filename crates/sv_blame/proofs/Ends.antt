-- How long the ends of elements and branches are, and what blocks begin with.
use Rattle.std.proofs.Common.{◌≡◌, ◌≤◌, ◌+◌, ℕ, zero, suc, Bool, true, false, ◌&&◌, cond, List, ◌∷◌, ◌++◌, length, drop, refl, ap, sym, ◌∙◌, arith, length-drop}
use Rattle.std.specs.Prelude.{◌==◌, nat_le, slice_index, codes}
use Rattle.sv_tags.specs.declared.classes.Class.TheVariants.{Blank}
use Rattle.sv_tags.specs.Classes.{front_len, first, begins}
use Rattle.sv_tags.proofs.Bytes.{same}
use Rattle.sv_tags.proofs.Finds.{begins-split}
use Rattle.sv_markup.specs.Ends.{closed_len, end_tag_len, condition_len, else_if_len}
use Rattle.sv_markup.specs.Pieces.{begins_word}
use Rattle.sv_blame.proofs.Lengths.{some_byte}
use Rattle.sv_blame.proofs.Pieces.{word_begins}
use Rattle.sv_blame.proofs.Tags.{second_true}
use Rattle.sv_blame.proofs.Raw.{begins_within}

cond_fits : (b : Bool) (x y n : ℕ) → (b ≡ true → x ≤ n) → y ≤ n → cond b x y ≤ n
cond_fits true x y n h g = h refl
cond_fits false x y n h g = g

closed_fits : (n blanks : ℕ) (z : List ℕ) → closed_len n blanks z ≤ length z
closed_fits n blanks z = cond_fits (slice_index z (n + blanks) == 62) (n + blanks + 1) 0 (length z)
    (λ e. (
    let is : slice_index z (n + blanks) ≡ 62 = same (slice_index z (n + blanks)) 62 e in
    let there = some_byte z (n + blanks) (λ none. absurd (let no : 0 ≡ 62 = sym none ∙ is in omega arith)) in
    omega arith))
    (omega arith)

pub end_tag_fits : (name z : List ℕ) → end_tag_len name z ≤ length z
unfolding end_tag_len
end_tag_fits name z =
    cond_fits (begins (codes "</") z && begins name (drop 2 z)) _ 0 (length z) (λ e. closed_fits (2 + length name) (front_len Blank (drop (2 + length name) z)) z) (omega arith)

-- ---- branches

-- one that stands there begins with a brace and has room for its bytes
pub record IsBranch (z : List ℕ) : Type 0 where
  pub brace : first z ≡ 123
  pub some : 1 ≤ else_if_len z
  pub fits : else_if_len z ≤ length z

brace_of : (w z : List ℕ) → begins (123 ∷ w) z ≡ true → first z ≡ 123
brace_of w z h = ap first (begins-split (123 ∷ w) z h)

some_len : (n : ℕ) → (n == 0) ≡ false → 1 ≤ n
some_len zero h = absurd (cc)
some_len (suc n) h = omega arith

branch_brace : (z : List ℕ) → (else_if_len z == 0) ≡ false → first z ≡ 123
unfolding else_if_len
branch_brace z h = by (begins (codes "{:else") z) refl h
  where
    by : (t : Bool) → begins (codes "{:else") z ≡ t → (cond t (condition_len (front_len Blank (drop 6 z)) z) 0 == 0) ≡ false → first z ≡ 123
    by true e h = brace_of (codes ":else") z e
    by false e h = absurd (cc)

condition_fits : (n : ℕ) (z : List ℕ) → condition_len n z ≤ length z
condition_fits n z = cond_fits (nat_le 1 n && begins_word (codes "if") (drop (6 + n) z)) (8 + n) 0 (length z)
    (λ h. (
    let word = word_begins (codes "if") (drop (6 + n) z) (second_true (nat_le 1 n) _ h) in
    let two : 2 ≤ length (drop (6 + n) z) = begins_within (codes "if") (drop (6 + n) z) word in
    let size = length-drop (6 + n) z in omega arith)) (omega arith)

branch_fits : (z : List ℕ) → else_if_len z ≤ length z
unfolding else_if_len
branch_fits z =
    let n = front_len Blank (drop 6 z) in cond_fits (begins (codes "{:else") z) (condition_len n z) 0 (length z) (λ e. condition_fits n z) (omega arith)

pub branch_stands : (z : List ℕ) → (else_if_len z == 0) ≡ false → IsBranch z
branch_stands z h = record { brace = branch_brace z h; some = some_len (else_if_len z) h; fits = branch_fits z }

-- ---- blocks

-- a text that begins with a brace, `#` and more
pub record IsBlock (z : List ℕ) : Type 0 where
  pub brace : first z ≡ 123
  pub opening : begins (codes "{#") z ≡ true

pub block_stands : (w z : List ℕ) → begins (123 ∷ 35 ∷ w) z ≡ true → IsBlock z
block_stands w z h =
    let whole : z ≡ (123 ∷ 35 ∷ w) ++ drop (length (123 ∷ 35 ∷ w)) z = begins-split (123 ∷ 35 ∷ w) z h in
    record { brace = ap first whole; opening = ap (begins (codes "{#")) whole }
