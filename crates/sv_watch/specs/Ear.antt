-- A watcher, as those know it who tell it.
use Rattle.std.specs.Prelude.{ℕ, List, map}
use Rattle.sv_tokens.specs.declared.change.Change.{Change}
use Rattle.sv_watch.specs.declared.watcher.Watcher.{Ghosts}

-- what it has heard, how many changes it has refused, and what it reports of changes
pub record Ear : Type 0 where
  pub heard : List Change
  pub faults : ℕ
  pub report_of : List Change → List ℕ

-- a value whose type is a watcher with these members
abbrev pub ear_of : {S : Type 0} → Ghosts S → S → Ear
ear_of watcher self = record { heard = watcher.heard self; faults = watcher.faults self; report_of = watcher.report_of self }

-- a list of them
abbrev pub ears_of : {S : Type 0} → Ghosts S → List S → List Ear
ears_of watcher list = map (ear_of watcher) list
