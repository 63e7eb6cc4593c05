-- Where watchers stand that were told of some changes.
use Rattle.std.specs.Prelude.{List, Result}
use Rattle.std.specs.Result.{is_ok}
use Rattle.sv_base.specs.declared.memory.NoMemory.{NoMemory as Wants}
use Rattle.sv_tokens.specs.declared.change.Change.{Change}
use Rattle.sv_watch.specs.Ear.{Ear}
use Rattle.sv_watch.specs.Each.{TellsEach, Parts}

-- Each is left, or it is gone.
abbrev pub WatchersStandOnce : Type 0
WatchersStandOnce = (changes : List Change) (result : Result (Unit {0}) Wants) (was now was_gone now_gone : List Ear) → TellsEach changes result was now was_gone now_gone
    → Parts (is_ok result) changes was now was_gone now_gone
