-- Texts and braces of markup tell.
use Rattle.std.proofs.Common.{◌≡◌, ◌≢◌, ◌≤◌, ◌-◌, ◌⊎◌, inl, inr, ℕ, zero, suc, Bool, true, false, cond, List, [], ◌∷◌, length, drop, refl, ap, sym, ◌∙◌, arith}
use Rattle.std.proofs.lemmas.Grind.{common_steps}
use Rattle.std.specs.Prelude.{◌==◌, nat_le, Option, Some, None}
use Rattle.bstr.specs.Utf8.{decoded}
use Rattle.sv_lex.specs.declared.lexeme.Lexeme.TheVariants as k
use Rattle.sv_lex.specs.Literals.{moved}
use Rattle.sv_lex.specs.Reader.{Input, Parser, and_then, name}
use Rattle.sv_lex.specs.Strings.{itself}
use Rattle.sv_expr.specs.Limits.{real}
use Rattle.sv_expr.specs.Rules.{target}
use Rattle.sv_script.specs.Script.{expression}
use Rattle.sv_tags.specs.declared.holes.Filling.{Filling}
use Rattle.sv_tags.specs.declared.holes.Filling.TheVariants as filling
use Rattle.sv_tags.specs.declared.texts.Setting.{Setting}
use Rattle.sv_tags.specs.Classes.{first}
use Rattle.sv_tags.specs.Holes.{read_target, read_name, filled, opened, braces}
use Rattle.sv_tags.specs.Texts.{ends_at, reference_len, meaning, written, then_more, read_by, content_len, text}
use Rattle.sv_tags.proofs.Bytes.{same, other}
use Rattle.sv_blame.specs.LeftOut.{reference}
use Rattle.sv_blame.proofs.Frame.{Any, Tells, next-up, tells_from, tells_any, tells_then, tells_if, tells_test, tells_expect, goes, stops}
use Rattle.sv_blame.proofs.Leaves.{Fine, no_room}
use Rattle.sv_blame.proofs.Names.{name_tells, target_tells}
use Rattle.sv_blame.proofs.Onward.{At, Bad, Fits, tokens, on, here, syntax, left_out, deep, counted_by, some_first}
use Rattle.sv_blame.proofs.Scripts.{expression_tells}
use Rattle.sv_blame.proofs.Stands.{Room, nest_is}

-- ---- where a text stops

-- what is left of it stands at its back, and begins with nothing that is written
record IsRest (setting : Setting) (z r : List ℕ) : Type 0 where
  short : length r ≤ length z
  is : r ≡ drop (length z - length r) z
  stops : (written setting r ≡ None) ⊎ (r ≡ [])

rest_self : (setting : Setting) (z : List ℕ) → (written setting z ≡ None) ⊎ (z ≡ []) → IsRest setting z z
rest_self setting z h = let n : 0 ≡ length z - length z = omega arith in record { short = omega arith; is = ap (λ n. drop n z) n; stops = h }

rest_more : (setting : Setting) (b : ℕ) (z r : List ℕ) → IsRest setting z r → IsRest setting (b ∷ z) r
rest_more setting b z r h =
    let short = h.short in let n : suc (length z - length r) ≡ length (b ∷ z) - length r = omega arith in
    record { short = omega arith; is = h.is ∙ ap (λ n. drop n (b ∷ z)) n; stops = h.stops }

read_rest : (setting : Setting) (n : ℕ) (z : List ℕ) → IsRest setting z (read_by setting n z).1
unfolding read_by
read_rest setting zero [] = rest_self setting [] (inr refl)
read_rest setting (suc n) [] = rest_self setting [] (inr refl)
read_rest setting (suc n) (b ∷ z) = rest_more setting b z _ (read_rest setting n z)
read_rest setting zero (b ∷ z) = by (written setting (b ∷ z)) refl (λ n. read_rest setting n z)
  where
    by : (o : Option (ℕ × ℕ)) → written setting (b ∷ z) ≡ o → ((n : ℕ) → IsRest setting z (read_by setting n z).1)
        → IsRest setting (b ∷ z) (then_more o (b ∷ z) (λ left. read_by setting left z)).1
    by None e more = rest_self setting (b ∷ z) (inl e)
    by (Some p) e more = rest_more setting b z _ (more (p.1 - 1))

-- a reference where nothing is written has no meaning
no_meaning : (setting : Setting) (z : List ℕ) → reference_len z ≢ 0 → written setting z ≡ None → meaning z ≡ None
unfolding written
no_meaning setting z some h = by (reference_len z == 0) refl h
  where
    one : (o : Option ℕ) (n : ℕ) → itself o n ≡ None → o ≡ None
    one None n h = refl
    one (Some c) n h = absurd (cc)

    by : (t : Bool) → (reference_len z == 0) ≡ t
        → cond t (cond (ends_at setting (first z)) None (itself (decoded z).char (decoded z).size)) (itself (meaning z) (reference_len z)) ≡ None → meaning z ≡ None
    by true e h = absurd (some (same (reference_len z) 0 e))
    by false e h = one (meaning z) (reference_len z) h

no_reference : reference_len [] ≡ 0
unfolding reference_len
no_reference = refl

pub content_within : (setting : Setting) (z : List ℕ) → content_len setting z ≤ length z
unfolding content_len
content_within setting z = omega arith

stopped : (setting : Setting) (z : List ℕ) → reference_len (drop (content_len setting z) z) ≢ 0 → meaning (drop (content_len setting z) z) ≡ None
unfolding content_len
stopped setting z some =
    let rest = read_rest setting 0 z in
    let r = (read_by setting 0 z).1 in
    let there : reference_len r ≢ 0 = (λ e. some (ap reference_len (sym rest.is) ∙ e)) in
    let none : meaning r ≡ None = by r there rest.stops in
    ap meaning (sym rest.is) ∙ none
  where
    by : (r : List ℕ) → reference_len r ≢ 0 → (written setting r ≡ None) ⊎ (r ≡ []) → meaning r ≡ None
    by r some (inl h) = no_meaning setting r some h
    by r some (inr e) = absurd (some (ap reference_len e ∙ no_reference))

one_room : (d : ℕ) → nat_le 1 d ≡ true → 1 ≤ d
one_room d h = grind (arith, common_steps)

module _ (bytes : List ℕ) (number : ℕ) where
  -- ---- texts

  pub text_tells : (setting : Setting) (i : Input) → At bytes number i → Fits bytes number i (text setting i)
  unfolding text
  text_tells setting i at =
      let n = content_len setting i.text in
      let stands = on bytes number n i at (content_within setting i.text) in
      tells_if Any (reference_len (moved n i).text == 0) _ _
      (λ e. tells_if Any (n == 0) _ _ (λ e. stops (syntax bytes number (moved n i).at (moved n i) stands (omega arith))) (λ e. goes stands (omega arith) tt))
      (λ e. (
      let some = other (reference_len (moved n i).text) 0 e in
      let same = here bytes number (moved n i) stands in
      stops (left_out bytes number (moved n i).at (moved n i) stands (omega arith)
      (reference (λ none. some (ap reference_len (sym same) ∙ none)) (ap meaning same ∙ stopped setting i.text some)))))

  -- ---- braces

  pub opened_then : {B : Type 0} (Q : B → Type 0) (b : Input) (d : ℕ) (i : Input) (g : Unit {0} → Parser B) → At bytes number i → Room bytes d i.at
      → (1 ≤ d → Tells (At bytes number) (Bad bytes number) Q b (g tt i)) → Tells (At bytes number) (Bad bytes number) Q b (and_then (opened d i) g)
  unfolding opened
  opened_then Q b d i g at room h =
      tells_test Q (nat_le 1 d) _ _ g (λ e. h (one_room d e)) (λ e. (let none = no_room d e in stops (deep bytes number i at (omega (arith, room, none, nest_is)))))

  pub expression_on : (d : ℕ) (b i : Input) → At bytes number i → b.at ≤ i.at → Room bytes d i.at → Fits bytes number b (expression real d i)
  expression_on d b i at le room =
      let up = next-up i in
      tells_any (Fine (Bad bytes number)) (expression real d i) (tells_from (Fine (Bad bytes number)) (expression real d i) (omega arith) (expression_tells real (tokens bytes number) d i at room))

  read_target_tells : (i : Input) → At bytes number i → Fits bytes number i (read_target i)
  unfolding read_target
  read_target_tells i at = tells_then Any Any (target i) _ (tells_from Any (target i) (next-up i) (target_tells (tokens bytes number) i at)) (λ x o s le q. goes s le tt)

  read_name_tells : (i : Input) → At bytes number i → Fits bytes number i (read_name i)
  unfolding read_name
  read_name_tells i at = tells_then Any Any (name i) _ (tells_from Any (name i) (next-up i) (name_tells (tokens bytes number) i at)) (λ x o s le q. goes s le tt)

  filled_tells : (f : Filling) (d : ℕ) (i : Input) → At bytes number i → Room bytes d i.at → Fits bytes number i (filled real f d i)
  filled_tells filling.Value d i at room = expression_on d i i at (omega arith) room
  filled_tells filling.Target d i at room = read_target_tells i at
  filled_tells filling.Name d i at room = read_name_tells i at

  pub braces_tells : (f : Filling) (d : ℕ) (i : Input) → At bytes number i → Room bytes d i.at → first i.text ≡ 123 → Fits bytes number i (braces real f d i)
  unfolding braces
  braces_tells f d i at room h =
      let some = some_first bytes number 123 i h (omega arith) in
      let stands = on bytes number 1 i at some in
      let more = counted_by bytes number 123 1 i at h refl (omega arith) in
      opened_then Any i d i _ at room
      (λ le. tells_then Any Any (filled real f (d - 1) (moved 1 i)) _
      (tells_from Any (filled real f (d - 1) (moved 1 i)) (omega arith) (filled_tells f (d - 1) (moved 1 i) stands (omega (arith, room, more, le))))
      (λ x j s low q. tells_expect (tokens bytes number) Any i k.RBrace j _ s low (λ s low c. goes s low tt)))
