-- Content: nodes beside one another, without the white space that goes.
use Rattle.std.specs.Prelude.{Bool, List, [], map}
use Rattle.sv_ast.specs.declared.names.Ref.{Ref}
use Rattle.sv_code.specs.declared.fragments.Frag.{Frag}
use Rattle.sv_code.specs.declared.fragments.Frag.TheVariants as frag
use Rattle.sv_white.specs.declared.pieces.Piece.{Piece}
use Rattle.sv_white.specs.declared.pieces.Piece.TheVariants.{Words, Apart, Other}
use Rattle.sv_white.specs.White.{kept}
use Rattle.sv_lower.specs.Does.{just, each, within}
use Rattle.sv_fragments.specs.Builds.{Builds}

-- what is made of a node, as the rule of white space sees it
abbrev pub Node : Type 0
Node = Piece (Builds Frag)

-- what is made of a piece of content, in whose default part some names are
abbrev pub piece : List Ref → Node → Builds Frag
piece names (Words text) = just (frag.Text text)
piece names (Apart make) = make
piece names (Other make) = within names make

-- what is made of content, which loses white space at its ends or not, and in whose default part some names are
unfoldable pub content : Bool → List Ref → List Node → Builds (List Frag)
content strips names list = each (map (piece names) (kept strips list))

-- what is made of content, which loses white space at its ends or not, and in which no names are
abbrev pub nodes : Bool → List Node → Builds (List Frag)
nodes strips list = content strips [] list
