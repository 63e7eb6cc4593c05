-- What printing does to a session.
use Rattle.std.specs.Prelude.{Result, Ok, Err}
use Rattle.sv_play.specs.Run.{renumbered}
use Rattle.sv_play.specs.declared.flags.Flags.{Flags}
use Rattle.sv_session.specs.declared.session.Session.{Session}
use Rattle.sv_session.specs.declared.stage.TurnError.{TurnError}
use Rattle.sv_session.specs.declared.stage.Turned.{Turned}

-- what it shows is numbered, where numbers are asked for
abbrev pub counted : Flags → Session → Session
counted flags s = record s { numbers = renumbered flags s.nodes s.numbers }

-- a turn is printed
abbrev pub shown : Flags → Result Turned TurnError → Session → Session
shown flags (Ok turned) s = counted flags s
shown flags (Err error) s = s
