-- What watchers heard of pages that came one after another, from the empty one on.
use Rattle.std.specs.Prelude.{List, [], ◌∷◌, ◌++◌, Ok}
use Rattle.sv_audience.specs.Hearing.{Hears}
use Rattle.sv_document.specs.declared.tree.Node.{Node}
use Rattle.sv_follow.specs.Course.{Course}
use Rattle.sv_follow.specs.Followed.{Tree, blank}
use Rattle.sv_tokens.specs.declared.change.Change.{Change}
use Rattle.sv_watch.specs.Ear.{Ear}
use Rattle.sv_watch.specs.Each.{TellsEach}

-- all changes that made the pages, where the last of them left this page tree
pub record Listened (pages : List (List Node)) (tree : Tree) (was now was_gone now_gone : List Ear) : Type 0 where
  pub changes : List Change
  pub course : Course blank pages changes tree
  pub told : TellsEach changes (Ok tt) was now was_gone now_gone

-- Where they heard all of some pages and then of one more, they heard all of these.
pub record PagesAddUp : Type 0 where
  pub none : (list gone : List Ear) → Listened [] blank list list gone gone
  pub more : (pages : List (List Node)) (nodes : List Node) (tree new : Tree) (was mid now was_gone mid_gone now_gone : List Ear)
      → Listened pages tree was mid was_gone mid_gone → Hears tree nodes (Ok new) mid now mid_gone now_gone → Listened (pages ++ nodes ∷ []) new was now was_gone now_gone
