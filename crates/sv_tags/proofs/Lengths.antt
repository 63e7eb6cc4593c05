-- Texts that are read stand there, and what they leave is shorter.
use Rattle.std.proofs.Common.{◌≡◌, ◌≤◌, ◌+◌, ℕ, zero, suc, Bool, true, false, cond, List, length, drop, refl, ap, sym, ◌∙◌, subst, arith}
use Rattle.std.specs.Prelude.{◌==◌, None, Ok, Err}
use Rattle.bstr.specs.Utf8.{decoded}
use Rattle.sv_ast.specs.declared.refusals.Refused.{Refused}
use Rattle.sv_lex.specs.Literals.{moved}
use Rattle.sv_lex.specs.Look.{past}
use Rattle.sv_lex.specs.Reader.{Input, Outcome, next, left}
use Rattle.sv_lex.specs.Strings.{itself}
use Rattle.sv_lex.proofs.Progress.{next-le}
use Rattle.sv_expr.proofs.Words.{text_next, left_as, same_rest}
use Rattle.sv_tags.specs.declared.texts.Quote.TheVariants.{Double, Single}
use Rattle.sv_tags.specs.declared.texts.Setting.{Setting}
use Rattle.sv_tags.specs.declared.texts.Setting.TheVariants.{Body, Quoted, Unquoted}
use Rattle.sv_tags.specs.declared.classes.Class.TheVariants.{Reference}
use Rattle.sv_tags.specs.Classes.{front_len, first}
use Rattle.sv_tags.specs.Texts.{ends_at, closed_len, reference_len, written, written_by, read_by, content_len, text}
use Rattle.sv_tags.proofs.Bytes.{same, other, is_same, left-moved}
use Rattle.sv_tags.proofs.Characters.{read-none}

-- behind a token
pub past_shorter : (i o : Input) → o.text ≡ past i.text → left o ≤ left i
past_shorter i o e = let same = left_as o (next i) (e ∙ sym (text_next i)) in let le = next-le i in omega (arith, same, le)

-- ---- texts

-- no text ends at an `&`
goes_on : (setting : Setting) → ends_at setting 38 ≡ false
goes_on Body = refl
goes_on (Quoted Double) = refl
goes_on (Quoted Single) = refl
goes_on Unquoted = refl

begun_by : (setting : Setting) (n : ℕ) (z : List ℕ) → reference_len z ≡ n → ends_at setting (first z) ≡ true → written_by setting n z ≡ None
unfolding reference_len
begun_by setting zero z e h = ap (λ b. cond b None (itself (decoded z).char (decoded z).size)) h
begun_by setting (suc n) z e h = absurd (by (first z == 38) refl e)
  where
    by : (b : Bool) → (first z == 38) ≡ b → cond b (closed_len (front_len Reference (drop 1 z)) z) 0 ≡ suc n → ⊥
    by true f e = let g : ends_at setting 38 ≡ true = subst (λ c. ends_at setting c ≡ true) (same (first z) 38 f) h in let k = goes_on setting in absurd (cc)
    by false f e = absurd (cc)

ends-none : (setting : Setting) (z : List ℕ) → ends_at setting (first z) ≡ true → content_len setting z ≡ 0
unfolding content_len written
ends-none setting z h =
    let none : written setting z ≡ None = begun_by setting (reference_len z) z refl h in
    let all : (read_by setting 0 z).1 ≡ z = ap (λ (r : List ℕ × List ℕ). r.1) (read-none setting z none) in
    let size = ap length all in omega arith

-- where a text is read it begins with none of its ends, and takes a byte
pub record IsText (setting : Setting) (i o : Input) : Type 0 where
  pub begins : ends_at setting (first i.text) ≡ false
  pub moves : left o + 1 ≤ left i

ended_by : (b c : Bool) (found t : List ℕ) (e f : Refused) (i o : Input) → ◌≡◌ {A = Outcome (List ℕ)} (cond b (cond c (Err e) (Ok (found, i))) (Err f)) (Ok (t, o))
    → (c ≡ false) × (i ≡ o)
ended_by true true found t e f i o h = absurd (cc)
ended_by true false found t e f i o h = (refl, same_rest _ _ _ _ h)
ended_by false c found t e f i o h = absurd (cc)

content_len-le : (setting : Setting) (z : List ℕ) → content_len setting z ≤ length z
unfolding content_len
content_len-le setting z = omega arith

moves_by : (n : ℕ) (i o : Input) → (n == 0) ≡ false → n ≤ left i → moved n i ≡ o → left o + 1 ≤ left i
moves_by n i o h le e = let some = other n 0 h in let size = left-moved n i in let same = ap left e in omega arith

pub text_stands : (setting : Setting) (i o : Input) (t : List ℕ) → text setting i ≡ Ok (t, o) → IsText setting i o
unfolding text left
text_stands setting i o t h = record { begins = by (ends_at setting (first i.text)) refl; moves = moves_by n i o found.0 (content_len-le setting i.text) found.1 }
  where
    n : ℕ
    n = content_len setting i.text

    found : ((n == 0) ≡ false) × (moved n i ≡ o)
    found = ended_by (reference_len (moved n i).text == 0) (n == 0) _ t _ _ (moved n i) o h

    by : (b : Bool) → ends_at setting (first i.text) ≡ b → b ≡ false
    by true e = let z = is_same n 0 (ends-none setting i.text e) in let f = found.0 in absurd (cc)
    by false e = refl

pub text_moved : (setting : Setting) (i o : Input) (t : List ℕ) → text setting i ≡ Ok (t, o) → (n : ℕ) × (moved n i ≡ o)
unfolding text
text_moved setting i o t h =
    let n = content_len setting i.text in
    (n, (ended_by (reference_len (moved n i).text == 0) (n == 0) _ t _ _ (moved n i) o h).1)
