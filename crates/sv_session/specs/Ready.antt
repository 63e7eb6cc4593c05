-- What holds of a session at each of its stages.
use Rattle.std.specs.Prelude.{◌≡◌, ◌≢◌, ◌≤◌, ℕ, List}
use Rattle.sv_document.specs.Marks.{marks}
use Rattle.sv_document.specs.declared.tree.Node.{Node}
use Rattle.sv_flush.specs.Page.{blank}
use Rattle.sv_page.specs.Turns.{nodes_of}
use Rattle.sv_places.specs.Numbers.{count}
use Rattle.sv_session.specs.Plays.{program_of}
use Rattle.sv_session.specs.Reached.{IsReached}
use Rattle.sv_session.specs.declared.session.Session.{Session}
use Rattle.sv_session.specs.declared.stage.Stage.{Stage}
use Rattle.sv_session.specs.declared.stage.Stage.TheVariants.{New, Running, Stopped}
use Rattle.sv_within.specs.Runnable.{IsRunnable}

-- no mark but 0 stands at two of the nodes; a node beside which nothing is recorded has 0
abbrev pub AreApart : List Node → Type 0
AreApart nodes = (mark : ℕ) → mark ≢ 0 → count mark (marks nodes) ≤ 1

-- events led to its page, and it shows the fresh page, whose nodes can be told by their marks
pub record IsUnderWay (s : Session) : Type 0 where
  pub reached : IsReached (program_of s) s.page
  pub shown : s.nodes ≡ nodes_of (program_of s) s.page
  pub apart : AreApart s.nodes

-- its page is blank, or it is under way, or nothing comes any more
abbrev pub StandsAt : Stage → Session → Type 0
StandsAt New s = s.page ≡ blank
StandsAt Running s = IsUnderWay s
StandsAt Stopped s = Unit {0}

pub record IsReady (s : Session) : Type 0 where
  pub runnable : IsRunnable (program_of s)
  pub stands : StandsAt s.stage s
