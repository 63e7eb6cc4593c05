-- What the expressions of markup give now. One that faults gives nothing.
use Rattle.std.specs.Prelude.{Bool, false, List, [], ◌∷◌, ◌++◌, Option, Some, None, option_map, ℕ}
use Rattle.std.specs.Option.{option_and_then}
use Rattle.std.specs.Result.{result_ok}
use Rattle.sv_attributes.specs.Values.{alone}
use Rattle.sv_code.specs.declared.fragments.FragValuePart.{FragValuePart}
use Rattle.sv_code.specs.declared.fragments.FragValuePart.TheVariants as value_part
use Rattle.sv_code.specs.declared.parts.Part.{Part}
use Rattle.sv_code.specs.declared.program.Program.{Program}
use Rattle.sv_meaning.specs.Parts.{part_value}
use Rattle.sv_ops.specs.Texts.{between}
use Rattle.sv_value.specs.Change.{truthy}
use Rattle.sv_value.specs.Value.{Val, text}
use Rattle.sv_value.specs.Words.{text_of}
use Rattle.sv_view.specs.Level.{View}

-- the value of an expression
unfoldable pub value_at : Program → View → Part → Option Val
value_at p v part = result_ok (part_value p v part)

-- its text, if it has one
abbrev pub text_at : Program → View → Part → Option (List ℕ)
text_at p v part = option_and_then text_of (value_at p v part)

-- a value that is taken as true
abbrev pub is_truthy : Option Val → Bool
is_truthy None = false
is_truthy (Some v) = truthy v

-- whether it is taken as true
abbrev pub holds_at : Program → View → Part → Bool
holds_at p v part = is_truthy (value_at p v part)

-- ---- values of attributes

-- the text of a part
abbrev pub piece_text : Program → View → FragValuePart → Option (List ℕ)
piece_text p v (value_part.Text t) = Some t
piece_text p v (value_part.Show part) = text_at p v part

-- the texts of parts behind some, where each has one
abbrev pub texts_after : Program → View → List (List ℕ) → List FragValuePart → Option (List (List ℕ))
texts_after p v texts [] = Some texts
texts_after p v texts (x ∷ xs) = option_and_then (λ t. texts_after p v (texts ++ t ∷ []) xs) (piece_text p v x)

abbrev pub texts_at : Program → View → List FragValuePart → Option (List (List ℕ))
texts_at p v parts = texts_after p v [] parts

abbrev pub value_by : Program → View → List FragValuePart → Option Part → Option Val
value_by p v parts None = option_map (λ texts. text (between [] texts)) (texts_at p v parts)
value_by p v parts (Some part) = value_at p v part

-- one expression alone passes its value, else the texts of the parts are joined
abbrev pub parts_value : Program → View → List FragValuePart → Option Val
parts_value p v parts = value_by p v parts (alone parts)
