-- Pages before anything was done to them.
use Rattle.sv_flush.specs.Rounds.{no_rounds}
use Rattle.sv_flush.specs.declared.page.Page.{Page}
use Rattle.sv_parts.specs.Counters.{unspent}
use Rattle.sv_parts.specs.declared.counters.TheConstants.{WORK_LIMIT}
use Rattle.sv_shapes.specs.Showing.{nothing}
use Rattle.sv_world.specs.Turn as turn
use Rattle.sv_world.specs.World.{no_world}

-- nothing is there, and nothing is shown
abbrev pub blank : Page
blank = record { world = no_world; rounds = no_rounds; showing = nothing; counters = unspent; tally = record { count = 0 } }

-- the next turn: all steps and all work are there again, the log is empty, and no part was evaluated
abbrev pub begun : Page → Page
begun m = record m { world = record m.world { turn = turn.begun m.world.turn }; counters = record m.counters { work = WORK_LIMIT }; tally = record { count = 0 } }
