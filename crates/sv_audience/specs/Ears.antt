-- An audience, as those know it who tell it.
use Rattle.std.specs.Prelude.{List}
use Rattle.sv_audience.specs.declared.audience.Audience.{Audience}
use Rattle.sv_watch.specs.Ear.{Ear, ears_of}
use Rattle.sv_watch.specs.declared.watcher.Watcher.{Ghosts}

-- those who watch, and those that are gone
pub record Ears : Type 0 where
  pub left : List Ear
  pub gone : List Ear

-- of an audience whose watchers have these members
abbrev pub ears : {W : Type 0} → Ghosts W → Audience W → Ears
ears watcher audience = record { left = ears_of watcher audience.watchers.items; gone = ears_of watcher audience.gone.items }
