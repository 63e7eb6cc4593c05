-- Whether the elements that match a selector are as a test expects.
use Rattle.std.specs.Prelude.{ℕ, nat_eq, Bool, true, false, List, [], ◌∷◌, length, Option, None, Some, if◌then◌else◌}
use Rattle.std.specs.Str.{bytes_eq}
use Rattle.sv_select.specs.Matching.{Found}
use Rattle.sv_select.specs.Shown.{shown_at}
use Rattle.sv_select.specs.declared.verdict.Verdict.{Verdict}
use Rattle.sv_select.specs.declared.verdict.Verdict.TheVariants as verdict
use Rattle.sv_steps.specs.declared.step.Want.{Want}
use Rattle.sv_steps.specs.declared.step.Want.TheVariants as want

-- so many were wanted, or not
abbrev pub count_verdict : (wanted found : ℕ) → Verdict
count_verdict wanted found = if nat_eq found wanted then verdict.Holds else verdict.Count found

-- this text was wanted, or not
abbrev pub text_verdict : (wanted text : List ℕ) → Verdict
text_verdict wanted text = if bytes_eq text wanted then verdict.Holds else verdict.Text text

-- the same text, or neither is there
abbrev pub is_same : (shown wanted : Option (List ℕ)) → Bool
is_same (Some shown) (Some wanted) = bytes_eq shown wanted
is_same (Some shown) None = false
is_same None (Some wanted) = false
is_same None None = true

-- this was wanted of an attribute, or not
abbrev pub attribute_verdict : (wanted shown : Option (List ℕ)) → Verdict
attribute_verdict wanted shown = if is_same shown wanted then verdict.Holds else verdict.Attribute shown

-- what is said of the first match, where there is one
abbrev pub on_first : (Found → Verdict) → List Found → Verdict
on_first by [] = verdict.NoMatch
on_first by (m ∷ found) = by m

-- The verdict on the elements that match: so many are wanted, or the first one is to show that text below it, or an attribute as that text or not
-- at all.
abbrev pub verdict_on : Want → List Found → Verdict
verdict_on (want.Count n) found = count_verdict n (length found)
verdict_on (want.Text text) found = on_first (λ m. text_verdict text m.text) found
verdict_on (want.Attribute name shows) found = on_first (λ m. attribute_verdict shows (shown_at name m.element)) found
