-- Who waits for an update.
use Rattle.std.specs.Prelude.{ℕ, suc, Bool, true, false, not, ◌&&◌, nat_eq, if◌then◌else◌, List, [], ◌∷◌, ◌++◌, Option, Some, None, is_some}
use Rattle.sv_numbered.specs.Numbered.{altered}
use Rattle.sv_instance.specs.Cells as cells
use Rattle.sv_instance.specs.declared.instance.Instance.{Instance}
use Rattle.sv_states.specs.States.{States, live}

abbrev pub is_waiting : Option Instance → Bool
is_waiting None = false
is_waiting (Some i) = i.queued

abbrev pub has_shown : Option Instance → Bool
has_shown None = false
has_shown (Some i) = is_some i.cells.seen

-- whether an instance goes into the queue now: it has had a snapshot, and isn't there
abbrev pub joins : Option Instance → Bool
joins None = false
joins (Some i) = is_some i.cells.seen && not i.queued

abbrev pub queued : Instance → Instance
queued i = record i { queued = true }

-- to the end of the queue, where the instance has had a snapshot and isn't there
abbrev pub enqueued : States → ℕ → States
enqueued s n = record s {
  lives = if joins (live s n) then altered queued s.lives n else s.lives;
  queue = if joins (live s n) then s.queue ++ n ∷ [] else s.queue;
}

-- the queue without an instance, which stands there once at most
abbrev pub without : List ℕ → ℕ → List ℕ
without [] n = []
without (m ∷ queue) n = if nat_eq m n then queue else m ∷ without queue n

-- how often an instance stands in the queue
abbrev pub times : List ℕ → ℕ → ℕ
times [] n = 0
times (m ∷ queue) n = if nat_eq m n then suc (times queue n) else times queue n

-- an instance after its snapshot
abbrev pub shown : Instance → Instance
shown i = record i { cells = cells.snapped i.cells; queued = false }

-- a snapshot of an instance is taken, and it leaves the queue
abbrev pub snapped : States → ℕ → States
snapped s n = record s { lives = altered shown s.lives n; queue = without s.queue n }
