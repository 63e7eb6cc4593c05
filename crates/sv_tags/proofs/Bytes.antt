-- Tests on bytes.
use Rattle.std.proofs.Common.{◌≡◌, ◌≢◌, ◌≤◌, ◌-◌, ℕ, zero, suc, true, false, not, List, [], ◌∷◌, length, inl, inr, arith, length-drop}
use Rattle.std.specs.Prelude.{◌==◌}
use Rattle.sv_lex.specs.Literals.{moved}
use Rattle.sv_lex.specs.Reader.{Input, left}
use Rattle.sv_tags.specs.Classes.{first}
use Rattle.std.proofs.lemmas.Bool.Decides.{eqb_tells}

pub same : (a b : ℕ) → (a == b) ≡ true → a ≡ b
same a b h = elim (eqb_tells a b) [ inl p ↦ p.1 | inr p ↦ absurd (cc (p.0, h)) ]

pub other : (a b : ℕ) → (a == b) ≡ false → a ≢ b
other a b h e = elim (eqb_tells a b) [ inl p ↦ absurd (cc (p.0, h)) | inr p ↦ p.1 e ]

pub is_same : (a b : ℕ) → a ≡ b → (a == b) ≡ true
is_same a b e = elim (eqb_tells a b) [ inl p ↦ p.0 | inr p ↦ absurd (p.1 e) ]

pub is_other : (a b : ℕ) → a ≢ b → (a == b) ≡ false
is_other a b n = elim (eqb_tells a b) [ inl p ↦ absurd (n p.1) | inr p ↦ p.0 ]

pub some : (n : ℕ) → not (n == 0) ≡ true → 1 ≤ n
some zero h = absurd (cc)
some (suc n) h = omega arith

-- a text that has a byte at its front is not empty
pub some_left : (z : List ℕ) → 1 ≤ first z → 1 ≤ length z
some_left [] h = absurd (omega arith)
some_left (b ∷ z) h = omega arith

pub byte_left : (i : Input) → 1 ≤ first i.text → 1 ≤ left i
unfolding left
byte_left i h = some_left i.text h

pub left-moved : (n : ℕ) (i : Input) → left (moved n i) ≡ left i - n
unfolding left
left-moved n i = length-drop n i.text
