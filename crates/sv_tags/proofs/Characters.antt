-- One written character more, or none.
use Rattle.std.proofs.Common.{◌≡◌, ◌≤◌, ◌-◌, ℕ, zero, suc, List, [], ◌∷◌, ◌++◌, length, drop, refl, ap, sym, ◌∙◌, arith, append_assoc, length-drop}
use Rattle.std.specs.Prelude.{Some, None, encode_utf8_all}
use Rattle.std.specs.Char.{encode_utf8}
use Rattle.std.proofs.lemmas.List.{append-nil}
use Rattle.sv_lex.proofs.Runs.{drop-one}
use Rattle.sv_tags.specs.declared.texts.Setting.{Setting}
use Rattle.sv_tags.specs.Texts.{written, read_by, then_more, content, content_len}

read_by-drop : (setting : Setting) (n : ℕ) (z : List ℕ) → read_by setting n z ≡ read_by setting 0 (drop n z)
unfolding read_by
read_by-drop setting zero z = refl
read_by-drop setting (suc n) [] = refl
read_by-drop setting (suc n) (b ∷ z) = read_by-drop setting n z

pub read-none : (setting : Setting) (z : List ℕ) → written setting z ≡ None → read_by setting 0 z ≡ ([], z)
unfolding read_by
read-none setting [] h = refl
read-none setting (b ∷ z) h = ap (λ o. then_more o (b ∷ z) (λ left. read_by setting left z)) h

read-some : (setting : Setting) (z : List ℕ) (c n : ℕ) → written setting z ≡ Some (c, n) → 1 ≤ n → n ≤ length z
    → read_by setting 0 z ≡ (c ∷ (read_by setting 0 (drop n z)).0, (read_by setting 0 (drop n z)).1)
unfolding read_by
read-some setting [] c n h some within = absurd (omega arith)
read-some setting (b ∷ z) c n h some within =
    let more : read_by setting (n - 1) z ≡ read_by setting 0 (drop n (b ∷ z)) =
    read_by-drop setting (n - 1) z ∙ ap (read_by setting 0) (drop-one n b z (λ e. absurd (omega arith))) in
    ap (λ o. then_more o (b ∷ z) (λ left. read_by setting left z)) h ∙ ap (λ (r : List ℕ × List ℕ). (c ∷ r.0, r.1)) more

-- what was read, and what is left to read
pub record IsAhead (setting : Setting) (whole z done : List ℕ) : Type 0 where
  pub found : done ++ content setting z ≡ content setting whole
  pub behind : (read_by setting 0 z).1 ≡ (read_by setting 0 whole).1
  pub within : length z ≤ length whole

pub ahead-start : (setting : Setting) (z done : List ℕ) → done ≡ [] → IsAhead setting z z done
ahead-start setting z done e = record { found = ap (λ d. d ++ content setting z) e; behind = refl; within = omega arith }

pub ahead-step : (setting : Setting) (whole z done after : List ℕ) (c n : ℕ) → written setting z ≡ Some (c, n) → 1 ≤ n → n ≤ length z
    → IsAhead setting whole z done → after ≡ done ++ encode_utf8 c → IsAhead setting whole (drop n z) after
unfolding content
ahead-step setting whole z done after c n h some within a e =
    let more = read-some setting z c n h some within in
    let size = length-drop n z in let fits = a.within in
    record {
      found = ap (λ d. d ++ encode_utf8_all (read_by setting 0 (drop n z)).0) e ∙ append_assoc done (encode_utf8 c) (encode_utf8_all (read_by setting 0 (drop n z)).0)
          ∙ ap (λ (r : List ℕ × List ℕ). done ++ encode_utf8_all r.0) (sym more) ∙ a.found;
      behind = ap (λ (r : List ℕ × List ℕ). r.1) (sym more) ∙ a.behind;
      within = omega arith;
    }

pub ahead-end : (setting : Setting) (whole z done : List ℕ) → written setting z ≡ None → IsAhead setting whole z done
    → (done ≡ content setting whole) × (length whole - length z ≡ content_len setting whole)
unfolding content content_len
ahead-end setting whole z done h a =
    let none = read-none setting z h in
    let last : encode_utf8_all (read_by setting 0 z).0 ≡ [] = ap (λ (r : List ℕ × List ℕ). encode_utf8_all r.0) none in
    let rest : z ≡ (read_by setting 0 whole).1 = ap (λ (r : List ℕ × List ℕ). r.1) (sym none) ∙ a.behind in
    (sym (append-nil done) ∙ ap (λ d. done ++ d) (sym last) ∙ a.found, ap (λ (r : List ℕ). length whole - length r) rest)
