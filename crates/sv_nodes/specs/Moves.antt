-- A node goes elsewhere among the children of its parent.
use Rattle.std.specs.Prelude.{◌≡◌, ◌≢◌, ℕ, suc, List, Option, Some, drop, remove}
use Rattle.sv_nodes.specs.Nodes.{Cell, Nodes, with_children, first_shown}
use Rattle.sv_nodes.specs.Steps.{Reorders}
use Rattle.sv_nodes.specs.declared.shift.Followers.{Followers}

-- the node was put elsewhere among its parent's children, with the serial numbers of the next siblings that are seen
pub record Moves (old new : Nodes) (key : ℕ) (before : Option ℕ) (followers : Followers) : Type 0 where
  pub cell : Cell
  pub was : old key ≡ Some cell
  pub above : Cell
  pub holder : old cell.parent.key ≡ Some above
  pub from : ℕ
  pub to : ℕ
  pub children : List ℕ
  pub reorders : Reorders key from to before above.children children
  pub is : new cell.parent.key ≡ Some (with_children above children)
  pub others : (k : ℕ) → k ≢ cell.parent.key → new k ≡ old k
  pub earlier_is : followers.earlier ≡ first_shown old (drop (suc from) above.children)
  pub later_is : followers.later ≡ first_shown old (drop to (remove above.children from))
