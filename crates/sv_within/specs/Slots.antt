-- Whether there is a `<slot>` in markup, at any depth.
use Rattle.std.specs.Prelude.{Bool, true, false, ◌||◌, List, Option, None, Some, map}
use Rattle.std.specs.List.{list_any}
use Rattle.sv_ast.specs.declared.markup_tree.Branch.{Branch, Branch-F, fold-Branch}
use Rattle.sv_ast.specs.declared.markup_tree.Markup.{Markup, Markup-F, fold-Markup}

abbrev pub any : List Bool → Bool
any list = list_any (λ b. b) list

abbrev pub if_any : Option (List Bool) → Bool
if_any None = false
if_any (Some list) = any list

abbrev pub markup : Markup-F Bool Bool → Bool
markup (Markup-F.Text span text) = false
markup (Markup-F.Show span e) = false
markup (Markup-F.Element span name attrs children) = any children
markup (Markup-F.Comp span name attrs children) = any children
markup (Markup-F.Slot span name attrs children) = true
markup (Markup-F.If span arms last) = any arms || if_any last
markup (Markup-F.Each span list item index key body none) = any body || if_any none
markup (Markup-F.Key span e body) = any body

abbrev pub branch : Branch-F Bool Bool → Bool
branch b = any b.body

-- whether there is one in a node
abbrev pub has_slot : Markup → Bool
has_slot = fold-Markup Bool Bool markup branch

abbrev pub branch_has_slot : Branch → Bool
branch_has_slot = fold-Branch Bool Bool markup branch

-- or in one of some nodes
abbrev pub have_slot : List Markup → Bool
have_slot list = any (map has_slot list)
