-- A node is made before a child of its parent, or at the end.
use Rattle.std.specs.Prelude.{◌≡◌, ℕ, Option, drop}
use Rattle.sv_nodes.specs.Nodes.{Kind, Nodes, first_shown}
use Rattle.sv_nodes.specs.Steps.{IsBack, Adds}
use Rattle.sv_nodes.specs.declared.grow.Made.{Made}

-- the node was added at the place, with its parent's serial number and that of the next sibling that is seen
pub record Makes (old new : Nodes) (parent : ℕ) (before : Option ℕ) (serial : ℕ) (kind : Kind) (made : Made) : Type 0 where
  pub at : ℕ
  pub adds : Adds old new parent made.key at serial kind
  pub placed : IsBack before (drop at adds.cell.children)
  pub above_is : made.above ≡ adds.cell.serial
  pub follower_is : made.follower ≡ first_shown old (drop at adds.cell.children)
