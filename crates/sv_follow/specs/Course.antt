-- A page tree that follows one page after another.
use Rattle.std.specs.Prelude.{List, [], ◌∷◌, ◌++◌}
use Rattle.sv_document.specs.declared.tree.Node.{Node}
use Rattle.sv_follow.specs.Followed.{Tree, Follows}
use Rattle.sv_tokens.specs.declared.change.Change.{Change}

-- It came to each of these pages in turn, and these are all the changes that were told.
pub data Course (old : Tree) : (pages : List (List Node)) (changes : List Change) (new : Tree) → Type 0 where
  begun : Course old [] [] old
  onward : {pages : List (List Node)} {nodes : List Node} {changes : List Change} {mid new : Tree}
      → Course old pages changes mid → Follows mid nodes new → Course old (pages ++ nodes ∷ []) (changes ++ new.changes) new
