-- Values of attributes. One expression alone passes its value; else the texts of the parts are joined. Of those the old ones are kept whose
-- expressions didn't move.
use Rattle.std.specs.Prelude.{ℕ, suc, Bool, true, false, ◌||◌, List, [], ◌∷◌, Option, Some, None, Ok, Err, slice_get, if◌then◌else◌}
use Rattle.sv_attributes.specs.Values.{alone}
use Rattle.sv_base.specs.declared.span.Span.{Span}
use Rattle.sv_code.specs.declared.fragments.FragValue.{FragValue}
use Rattle.sv_code.specs.declared.fragments.FragValue.TheVariants as value
use Rattle.sv_code.specs.declared.fragments.FragValuePart.{FragValuePart}
use Rattle.sv_code.specs.declared.fragments.FragValuePart.TheVariants as value_part
use Rattle.sv_code.specs.declared.parts.Part.{Part}
use Rattle.sv_code.specs.declared.program.Program.{Program}
use Rattle.sv_ops.specs.Answer.{Answer, Gives, Refuses, spelled}
use Rattle.sv_ops.specs.Texts.{between}
use Rattle.sv_parts.specs.Parts.{evaluated, text_step}
use Rattle.sv_parts.specs.Sides.{Sides, moved}
use Rattle.sv_parts.specs.State.{Run, andThen, each, one}
use Rattle.sv_parts.specs.declared.refusal.Refusal.TheVariants.{Fault}
use Rattle.sv_parts.specs.declared.values.Valued.{Valued}
use Rattle.sv_value.specs.Value.{Val, boolean}

-- ---- one expression alone

-- no value, as nothing of it was evaluated
abbrev pub unvalued : Valued
unvalued = record { texts = []; value = None }

-- a value that passes as it is
abbrev pub passed : Val → Valued
passed v = record { texts = []; value = Some v }

-- an expression alone, which is new or not
abbrev pub alone_step : Program → Part → Bool → Sides → Run Valued
alone_step p part is_new at s =
    if is_new || moved part.reads at then andThen (evaluated p part at s) (λ v u. Ok (passed v, u)) else Ok (unvalued, s)

-- ---- joined texts

-- whether a part is to be evaluated, where its text was kept or not
abbrev pub part_due : Sides → FragValuePart → Option (List ℕ) → Bool
part_due at (value_part.Text text) old = false
part_due at (value_part.Show part) None = true
part_due at (value_part.Show part) (Some text) = moved part.reads at

-- whether some part is, from one with a number on
abbrev pub due_from : Sides → List (List ℕ) → ℕ → List FragValuePart → Bool
due_from at olds i [] = false
due_from at olds i (x ∷ xs) = part_due at x (slice_get olds i) || due_from at olds (suc i) xs

abbrev pub is_due : Sides → List (List ℕ) → List FragValuePart → Bool
is_due at olds parts = due_from at olds 0 parts

-- the text of a part, which is new where it is to be evaluated
abbrev pub part_text : Program → Sides → FragValuePart → Option (List ℕ) → Run (List ℕ)
part_text p at (value_part.Text text) old s = Ok (text, s)
part_text p at (value_part.Show part) old s = text_step p part old at s

-- the texts of all parts
abbrev pub part_texts : Program → Sides → List (List ℕ) → List FragValuePart → Run (List (List ℕ))
part_texts p at olds parts s = each (λ x i u. one (part_text p at x (slice_get olds i) u)) 0 parts s

-- what an operation at a place gives
abbrev pub answered : Span → Answer → Run Val
answered span (Gives cost v) s = Ok (v, s)
answered span (Refuses kind) s = Err (Fault (record { kind = kind; span = span }))

-- texts joined, at the place of their attribute
abbrev pub joined : Span → List (List ℕ) → Run Val
joined span texts s = answered span (spelled 0 (between [] texts)) s

abbrev pub joined_anew : Program → Span → List FragValuePart → List (List ℕ) → Sides → Run Valued
joined_anew p span parts olds at s =
    andThen (part_texts p at olds parts s) (λ texts v. andThen (joined span texts v) (λ whole u. Ok (record { texts = texts; value = Some whole }, u)))

-- the joined texts of the parts, which are joined where a value is wanted or some part is to be evaluated
abbrev pub joined_step : Program → Span → List FragValuePart → List (List ℕ) → Bool → Sides → Run Valued
joined_step p span parts olds wanted at s =
    if wanted || is_due at olds parts then joined_anew p span parts olds at s else Ok (record { texts = olds; value = None }, s)

-- ---- all values

-- an attribute without a value
abbrev pub bare : Bool → Valued
bare true = passed (boolean true)
bare false = unvalued

abbrev pub parts_step : Program → Span → List FragValuePart → Option Part → List (List ℕ) → Bool → Sides → Run Valued
parts_step p span parts None olds is_new at s = joined_step p span parts olds is_new at s
parts_step p span parts (Some part) olds is_new at s = alone_step p part is_new at s

-- what a value passes, which is new or not
abbrev pub value_step : Program → Span → FragValue → List (List ℕ) → Bool → Sides → Run Valued
value_step p span value.Bare olds is_new at s = Ok (bare is_new, s)
value_step p span (value.Parts parts) olds is_new at s = parts_step p span parts (alone parts) olds is_new at s
