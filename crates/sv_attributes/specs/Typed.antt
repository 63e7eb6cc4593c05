-- States that users leave in elements.
use Rattle.std.specs.Prelude.{ℕ, List, codes}
use Rattle.sv_tokens.specs.declared.element.Typed.{Typed}
use Rattle.sv_tokens.specs.declared.element.Typed.TheVariants as typed

-- the name of the attribute over which a state is laid
abbrev pub place_of : Typed → List ℕ
place_of (typed.Text text) = codes "value"
place_of (typed.Checked checked) = codes "checked"
