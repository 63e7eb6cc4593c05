-- The end of a comment, place by place.
use Rattle.std.proofs.Common.{◌≡◌, ◌<◌, ◌≤◌, ℕ, zero, suc, ◌+◌, Bool, true, false, cond, List, [], ◌∷◌, length, drop, refl, ap, sym, ◌∙◌, arith, eq-eqb, inl, inr}
use Rattle.std.specs.Prelude.{◌==◌, ◌&&◌, slice_index}
use Rattle.std.proofs.lemmas.List.{drop_more, drop_all}
use Rattle.std.proofs.lemmas.Bool.Decides.{eqb_tells}
use Rattle.std.proofs.lemmas.Grind.{common_steps}
use Rattle.sv_lex.specs.Comments.{close_len, one_more}

-- n bytes more, but of nothing
abbrev pub after : ℕ → ℕ → ℕ
after n m = cond (m == 0) 0 (m + n)

after-one_more : (n m : ℕ) → after n (one_more m) ≡ after (n + 1) m
after-one_more n zero = refl
after-one_more n (suc m) = grind (arith, common_steps)

equal : (a b : ℕ) → (a == b) ≡ true → a ≡ b
equal a b h = elim (eqb_tells a b) [ inl p ↦ p.1 | inr p ↦ absurd (cc (p.0, h)) ]

step : (b : ℕ) (z : List ℕ) → (b ≡ 42 → slice_index z 0 ≡ 47 → ⊥) → close_len (b ∷ z) ≡ one_more (close_len z)
unfolding close_len
step b z n = by (b == 42) (slice_index z 0 == 47) refl refl
  where
    by : (x y : Bool) → (b == 42) ≡ x → (slice_index z 0 == 47) ≡ y → cond (x && y) 2 (one_more (close_len z)) ≡ one_more (close_len z)
    by true true e f = absurd (n (equal b 42 e) (equal (slice_index z 0) 47 f))
    by true false e f = refl
    by false true e f = refl
    by false false e f = refl

ends : (b : ℕ) (z : List ℕ) → b ≡ 42 → slice_index z 0 ≡ 47 → close_len (b ∷ z) ≡ 2
unfolding close_len
ends b z e f = rw (eq-eqb b 42 e, eq-eqb (slice_index z 0) 47 f) refl

nothing : close_len [] ≡ 0
unfolding close_len
nothing = refl

slice_index-drop : (z : List ℕ) (n : ℕ) → slice_index (drop n z) 0 ≡ slice_index z n
slice_index-drop z zero = refl
slice_index-drop [] (suc n) = refl
slice_index-drop (b ∷ z) (suc n) = slice_index-drop z n

pub close_len-none : (z : List ℕ) (at : ℕ) → length z ≤ at → close_len z ≡ after at (close_len (drop at z)) → close_len z ≡ 0
close_len-none z at h e = e ∙ ap (λ r. after at (close_len r)) (drop_all at z h) ∙ ap (after at) nothing

pub close_len-here : (z : List ℕ) (at : ℕ) → at < length z → slice_index z at ≡ 42 → slice_index z (at + 1) ≡ 47
    → close_len z ≡ after at (close_len (drop at z)) → close_len z ≡ at + 2
close_len-here z at h a b e =
    let two : 2 + at ≡ at + 2 = omega arith in
    e ∙ ap (λ r. after at (close_len r)) (drop_more z at 0 h) ∙ ap (after at) (ends _ _ a (slice_index-drop z (at + 1) ∙ b)) ∙ two

pub close_len-later : (z : List ℕ) (at : ℕ) → at < length z → (slice_index z at ≡ 42 → slice_index z (at + 1) ≡ 47 → ⊥)
    → close_len z ≡ after at (close_len (drop at z)) → close_len z ≡ after (at + 1) (close_len (drop (at + 1) z))
close_len-later z at h n e =
    e ∙ ap (λ r. after at (close_len r)) (drop_more z at 0 h) ∙ ap (after at) (step _ _ (λ a b. n a (sym (slice_index-drop z (at + 1)) ∙ b)))
    ∙ after-one_more at (close_len (drop (at + 1) z))
