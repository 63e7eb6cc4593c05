-- The values of attributes as they are written.
use Rattle.std.specs.Prelude.{ℕ, Bool, true, false, List, [], ◌∷◌, Option, Some, None}
use Rattle.sv_code.specs.declared.fragments.FragValuePart.{FragValuePart}
use Rattle.sv_code.specs.declared.fragments.FragValuePart.TheVariants as value_part
use Rattle.sv_code.specs.declared.parts.Part.{Part}

-- the expression that a value is, where it is one alone
abbrev pub alone : List FragValuePart → Option Part
alone (value_part.Show part ∷ []) = Some part
alone _ = None

-- whether nothing of it is evaluated
abbrev pub is_literal : List FragValuePart → Bool
is_literal [] = true
is_literal (value_part.Text text ∷ parts) = is_literal parts
is_literal (value_part.Show part ∷ parts) = false

-- the texts of it that are written
abbrev pub written : List FragValuePart → List (List ℕ)
written [] = []
written (value_part.Text text ∷ parts) = text ∷ written parts
written (value_part.Show part ∷ parts) = written parts
