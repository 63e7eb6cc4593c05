-- A component's tag with what stands in it.
use Rattle.std.proofs.Common.{◌≡◌, List, length, sym, subst}
use Rattle.std.specs.Prelude.{Result}
use Rattle.sv_ast.specs.declared.names.Ref.{Ref}
use Rattle.sv_base.specs.declared.names.Name.{Name}
use Rattle.sv_base.specs.declared.span.Span.{Span}
use Rattle.sv_code.specs.declared.fragments.Frag.{Frag}
use Rattle.sv_code.specs.declared.fragments.LetName.{LetName}
use Rattle.sv_code.specs.declared.tags.Tag.{Tag}
use Rattle.sv_lower.specs.Does.{Makes}
use Rattle.sv_fragments.specs.declared.around.Tables.{Tables}
use Rattle.sv_fragments.specs.declared.tags.Filled.{Filled}
use Rattle.sv_fragments.specs.Builds.{Around}
use Rattle.sv_fragments.specs.Tags.{Form, Component, tag_of, with_tag, closed}

pub closed_component : {E : Type 0} (r : Result Frag E) (form : Form) (name : Name) (span : Span) (own : List LetName) (f : Filled) (around : Around) (locals : List Ref) (s after : Tables) (tag : Tag)
    → form ≡ Component name → tag ≡ tag_of around span name own f → Makes r (with_tag (length around.cells) tag s) after → Makes r (closed form span own f around locals s) after
unfolding closed
closed_component r form name span own f around locals s after tag is made makes =
    subst (λ z. Makes r (closed z span own f around locals s) after) (sym is) (subst (λ t. Makes r (with_tag (length around.cells) t s) after) made makes)
