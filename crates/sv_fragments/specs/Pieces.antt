-- Nodes of markup as pieces, by their numbers.
use Rattle.std.specs.Prelude.{ℕ, ◌<◌, List, [], if◌then◌else◌, slice_get, ⊤}
use Rattle.std.specs.Option.{option_map_or}
use Rattle.sv_ast.specs.declared.markup_tree.Markup.{Markup}
use Rattle.sv_ast.specs.declared.markup_tree.TagAttr.{TagAttr}
use Rattle.sv_code.specs.declared.fragments.Frag.{Frag}
use Rattle.sv_code.specs.declared.fragments.Frag.TheVariants as frag
use Rattle.sv_scopes.specs.Attributes.{is_slotted}
use Rattle.sv_white.specs.declared.pieces.Piece.{Piece}
use Rattle.sv_white.specs.declared.pieces.Piece.TheVariants.{Words, Apart, Other}
use Rattle.sv_lower.specs.Does.{just}
use Rattle.sv_fragments.specs.Builds.{Builds}
use Rattle.sv_fragments.specs.Content.{Node}
use Rattle.sv_fragments.specs.Frags.{node}

-- what is made of a node where it stands
abbrev pub made_of : Node → Builds Frag
made_of (Words text) = just (frag.Text text)
made_of (Apart make) = make
made_of (Other make) = make

-- what is made of the node with a number
abbrev pub made_at : List Markup → ℕ → Builds Frag
made_at nodes n = made_of (option_map_or node (slice_get nodes n) (Words []))

-- the same piece of something else
abbrev pub lifted : {A B : Type 0} → (A → B) → Piece A → Piece B
lifted f (Words text) = Words text
lifted f (Apart x) = Apart (f x)
lifted f (Other x) = Other (f x)

-- a piece with what is made of the node with its number
abbrev pub made : List Markup → Piece ℕ → Node
made nodes = lifted (made_at nodes)

-- the number of a piece is one of so many
abbrev pub IsNumber : ℕ → Piece ℕ → Type 0
IsNumber count (Words text) = ⊤
IsNumber count (Apart n) = n < count
IsNumber count (Other n) = n < count

-- the number of a node as a piece
abbrev pub numbered : ℕ → Node → Piece ℕ
numbered n = lifted (λ make. n)

-- the number of a tag as a piece
abbrev pub numbered_tag : ℕ → List TagAttr → Piece ℕ
numbered_tag n attrs = if is_slotted attrs then Apart n else Other n
