-- The last line of a text, byte by byte.
use Rattle.std.proofs.Common.{◌≡◌, ◌≢◌, ◌<◌, ℕ, ◌+◌, ◌-◌, false, not, List, length, get_or, take, ap, ◌∙◌, inl, inr, arith, length-drop, eq-eqb}
use Rattle.std.proofs.lemmas.Bool.Decides.{eqb_tells}
use Rattle.std.specs.Prelude.{◌==◌}
use Rattle.std.specs.List.{suffix_len}
use Rattle.std.proofs.lemmas.List.Sums.{suffix_len-le-length, suffix_len-take_no, suffix_len-take_yes}
use Rattle.sv_base.specs.Place.{is_line_feed, last_line}

-- how many bytes the last line has
abbrev pub last_len : List ℕ → ℕ
last_len text = suffix_len (λ b. not (is_line_feed b)) text

pub length-last_line : (text : List ℕ) → length (last_line text) ≡ last_len text
length-last_line text = let h = suffix_len-le-length (λ b. not (is_line_feed b)) text in omega (arith, length-drop (length text - last_len text) text)

pub last_len-feed : (text : List ℕ) (i : ℕ) → i < length text → get_or text i 0 ≡ 10 → last_len (take (i + 1) text) ≡ 0
last_len-feed text i h e =
    let at : i + 1 - 1 ≡ i = omega arith in
    suffix_len-take_no (λ b. not (is_line_feed b)) text (i + 1) 0 (omega arith) (omega arith) (ap (λ n. not (get_or text n 0 == 10)) at ∙ ap not (eq-eqb _ _ e))

pub last_len-other : (text : List ℕ) (i : ℕ) → i < length text → get_or text i 0 ≢ 10 → last_len (take (i + 1) text) ≡ last_len (take i text) + 1
last_len-other text i h e =
    let at : i + 1 - 1 ≡ i = omega arith in
    let none : (get_or text i 0 == 10) ≡ false = elim (eqb_tells (get_or text i 0) 10) [ inl p ↦ absurd (e p.1) | inr p ↦ p.0 ] in
    let step = suffix_len-take_yes (λ b. not (is_line_feed b)) text (i + 1) 0 (omega arith) (omega arith) (ap (λ n. not (get_or text n 0 == 10)) at ∙ ap not none) in
    let turn : 1 + last_len (take i text) ≡ last_len (take i text) + 1 = omega arith in
    step ∙ ap (λ n. 1 + last_len (take n text)) at ∙ turn
