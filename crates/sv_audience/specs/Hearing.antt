-- What watchers hear of a page that comes to other nodes.
use Rattle.std.specs.Prelude.{List, Result, Ok, Err}
use Rattle.sv_base.specs.declared.memory.NoMemory.{NoMemory as Wants}
use Rattle.sv_document.specs.declared.tree.Node.{Node}
use Rattle.sv_follow.specs.Followed.{Tree, Follows}
use Rattle.sv_watch.specs.Ear.{Ear}
use Rattle.sv_watch.specs.Each.{TellsEach}

-- They hear each of its changes, in order; or those before one for which memory was wanting; or none, where the page itself found none.
pub data Hears (old : Tree) (nodes : List Node) : Result Tree Wants → (was now was_gone now_gone : List Ear) → Type 0 where
  all : {new : Tree} {was now was_gone now_gone : List Ear} → Follows old nodes new → TellsEach new.changes (Ok tt) was now was_gone now_gone → Hears old nodes (Ok new) was now was_gone now_gone
  some : {new : Tree} {was now was_gone now_gone : List Ear} {wants told : Wants} → Follows old nodes new → TellsEach new.changes (Err told) was now was_gone now_gone
      → Hears old nodes (Err wants) was now was_gone now_gone
  none : {list gone : List Ear} {wants : Wants} → Hears old nodes (Err wants) list list gone gone
