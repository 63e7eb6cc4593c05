-- What is evaluated is what a part gives on the new view, and what stays is what it gave on the old one.
use Rattle.std.proofs.Common.{◌≡◌, ℕ, false, List, Option, Some, None, refl, sym, ap, ◌∙◌, Result, Ok, Err, option_and_then}
use Rattle.std.specs.Result.{result_ok}
use Rattle.sv_code.specs.Within.{IsWithin}
use Rattle.sv_code.specs.declared.parts.Part.{Part}
use Rattle.sv_code.specs.declared.program.Program.{Program}
use Rattle.sv_fresh.specs.Values.{value_at, text_at}
use Rattle.sv_local.proofs.Parts.{by_versions}
use Rattle.sv_local.specs.Versions.{AreVersions}
use Rattle.sv_meaning.specs.Parts.{part_value}
use Rattle.sv_ops.specs.declared.faults.Fault.{Fault}
use Rattle.sv_parts.specs.Parts.{evaluated, valued, given_text, text_of_part, text_step}
use Rattle.sv_parts.specs.Sides.{Sides, moved}
use Rattle.sv_parts.specs.declared.state.State.{State}
use Rattle.sv_right.proofs.Steps.{After, then_after, more_after, renewed_after, Grows, grows_same, grows_on}
use Rattle.sv_value.specs.Value.{Val}
use Rattle.sv_value.specs.Words.{text_of}
use Rattle.sv_view.specs.Level.{View}

-- a value that a part gives on a view
abbrev pub Valued : Program → Part → View → State → Val → State → Type 0
Valued p part v s x u = (value_at p v part ≡ Some x) × Grows s u

valued_after : (r : Result Val Fault) (s : State) → After (valued r s) (λ x u. (result_ok r ≡ Some x) × Grows s u)
valued_after (Ok x) s = (refl, grows_same s)
valued_after (Err fault) s = tt

pub evaluated_after : (p : Program) (part : Part) (at : Sides) (s : State) → After (evaluated p part at s) (Valued p part at.new s)
unfolding value_at
evaluated_after p part at s = valued_after (part_value p at.new part) s

-- a part of which nothing moved has the value that it had
pub still_value : (p : Program) (part : Part) (at : Sides) → IsWithin p part → AreVersions at.old at.new → moved part.reads at ≡ false → value_at p at.old part ≡ value_at p at.new part
unfolding value_at moved
still_value p part at within all still = ap result_ok (by_versions p part at.old at.new within all still)

-- ---- texts

given_after : (part : Part) (o : Option (List ℕ)) (s : State) → After (given_text part o s) (λ text u. (o ≡ Some text) × Grows s u)
given_after part None s = tt
given_after part (Some text) s = (refl, grows_same s)

-- a text that a part gives on a view
abbrev pub Texted : Program → Part → View → State → List ℕ → State → Type 0
Texted p part v s text u = (text_at p v part ≡ Some text) × Grows s u

pub text_after : (p : Program) (part : Part) (at : Sides) (s : State) → After (text_of_part p part at s) (Texted p part at.new s)
text_after p part at s =
    then_after (evaluated p part at s) (λ x u. given_text part (text_of x) u) (Valued p part at.new s) (Texted p part at.new s) (evaluated_after p part at s)
    (λ x v e. more_after (given_text part (text_of x) v) (λ text u. (text_of x ≡ Some text) × Grows v u) (Texted p part at.new s) (given_after part (text_of x) v)
    (λ text u q. (ap (option_and_then text_of) e.0 ∙ q.0, grows_on s v u e.1 q.1)))

-- what is held of a part is what it gave on the old view, whose versions tell its values from those on the new one
abbrev pub WasText : Program → Part → Sides → Option (List ℕ) → Type 0
WasText p part at held = (text : List ℕ) → held ≡ Some text → AreVersions at.old at.new × (text_at p at.old part ≡ Some text)

pub text_step_after : (p : Program) (part : Part) (held : Option (List ℕ)) (at : Sides) (s : State) → IsWithin p part → WasText p part at held → After (text_step p part held at s) (Texted p part at.new s)
text_step_after p part held at s within was =
    renewed_after part (text_of_part p part at) held at s (Texted p part at.new s) (text_after p part at s)
    (λ text is still. (ap (option_and_then text_of) (sym (still_value p part at within (was text is).0 still)) ∙ (was text is).1, grows_same s))
