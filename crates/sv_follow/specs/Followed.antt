-- A page tree, and what becomes of it.
use Rattle.std.specs.Prelude.{◌≡◌, ◌≤◌, ◌+◌, List, [], false, None}
use Rattle.sv_commit.specs.Root.{IsPage, page_tokens}
use Rattle.sv_document.specs.Printed.{html as nodes_html}
use Rattle.sv_document.specs.declared.tree.Node.{Node}
use Rattle.sv_dom.specs.Dom.{empty_page}
use Rattle.sv_follow.specs.Outline.{outline}
use Rattle.sv_follow.specs.Slotted.{AreSlotted}
use Rattle.sv_html.specs.Html.{html}
use Rattle.sv_live.specs.Kept.{AreKept}
use Rattle.sv_live.specs.Shown.{Numbers, plainly_all}
use Rattle.sv_live.specs.Stands.{State, IsFresh, AreFelt}
use Rattle.sv_live.specs.declared.live.Live.{Live}
use Rattle.sv_tokens.specs.Counting.{times}
use Rattle.sv_tokens.specs.Numbering.{numbered}
use Rattle.sv_tokens.specs.Replay.{replay_all}
use Rattle.sv_tokens.specs.Seen.{seen, view_of, IsNumbered}
use Rattle.sv_tokens.specs.Token.{Page, lacks_number}
use Rattle.sv_tokens.specs.declared.change.Change.{Change}

-- the page, what it shows, node by node, and what was told of how it came to that
pub record Tree : Type 0 where
  pub page : Page
  pub lives : List Live
  pub changes : List Change

-- a page tree that shows nothing, of which nothing was told
abbrev pub blank : Tree
blank = record { page = empty_page; lives = []; changes = [] }

-- that of a screen which shows these
abbrev pub tree_of : State → List Live → Tree
tree_of screen lives = record { page = screen.page; lives = lives; changes = screen.changes }

-- The page shows these nodes and nothing else.
pub record Shows (tree : Tree) (nodes : List Node) : Type 0 where
  pub page : IsPage tree.page tree.lives
  pub lives : plainly_all tree.lives ≡ outline nodes

-- The page came from what it showed to these nodes.
pub record Follows (old : Tree) (nodes : List Node) (new : Tree) : Type 0 where
  -- it shows them and nothing else
  pub shown : Shows new nodes
  -- its text is that of the nodes, if their attributes stand by slot
  pub printed : AreSlotted nodes → html false new.page.tokens ≡ nodes_html None nodes
  -- what stays stands in the node in which it stood, with its serial number; what is new has one that none had
  pub kept : AreKept old.page.next old.lives new.lives
  -- it keeps its printed number, if it had one
  pub numbers : (numbers : Numbers) → IsFresh numbers old.page.next → old.page.tokens ≡ page_tokens numbers old.lives → new.page.tokens ≡ page_tokens numbers new.lives
  -- serial numbers go up, and no two nodes have one
  pub later : old.page.next ≤ new.page.next
  pub numbered : IsNumbered (seen new.page.tokens) new.page.next
  -- what was told makes the page of the old one, with its serial numbers
  pub told : replay_all new.changes (view_of old.page) ≡ view_of new.page
  -- each change changes what is seen
  pub felt : AreFelt new.changes (view_of old.page)

-- Each node that had no printed number took the next one, in document order.
pub record TakesNumbers (old new : Tree) : Type 0 where
  pub tokens : new.page.tokens ≡ numbered old.page.number old.page.tokens
  pub given : times lacks_number new.page.tokens ≡ 0
  pub number : new.page.number ≡ old.page.number + times lacks_number old.page.tokens
  pub next : new.page.next ≡ old.page.next
  pub lives : new.lives ≡ old.lives
  pub changes : new.changes ≡ old.changes
