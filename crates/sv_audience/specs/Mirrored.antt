-- What a mirror shows of pages that came one after another.
use Rattle.std.specs.Prelude.{◌≡◌, List, [], ◌∷◌, ◌++◌, None}
use Rattle.sv_document.specs.Printed.{html}
use Rattle.sv_document.specs.declared.tree.Node.{Node}
use Rattle.sv_follow.specs.Course.{Course}
use Rattle.sv_follow.specs.Followed.{Tree, blank}
use Rattle.sv_follow.specs.Slotted.{AreSlotted}
use Rattle.sv_tokens.specs.declared.change.Change.{Change}
use Rattle.sv_watch.specs.Mirror.{mirror_html}

-- It is the text of the last of them.
abbrev pub MirrorsShowPages : Type 0
MirrorsShowPages = (pages : List (List Node)) (nodes : List Node) (changes : List Change) (tree : Tree) → Course blank (pages ++ nodes ∷ []) changes tree → AreSlotted nodes → mirror_html changes ≡ html None nodes
