-- The states as they are kept.
use Rattle.std.specs.Prelude.{◌≡◌, ℕ, ◌≤◌, length, List, Option, is_some, count_by}
use Rattle.sv_derived.specs.Order.{ids, AreBelow}
use Rattle.sv_numbered.specs.Numbered.{at}
use Rattle.sv_instance.specs.declared.instance.Instance.{Instance}
use Rattle.sv_states.specs.States.{States, count_in}
use Rattle.sv_states.specs.Waiting.{is_waiting}
use Rattle.sv_states.specs.Sound.{IsSound}
use Rattle.sv_states.specs.declared.board.Board.{Board}

abbrev pub seen_as : Board → States
seen_as b = record { lives = b.lives; stores = b.stores; derived = b.derived; queue = b.queue.order }

-- each derived store is a store
abbrev pub IsMade : States → Type 0
IsMade s = AreBelow (ids s.derived) (length s.stores)

-- no cell changed more often than the clock tells
abbrev pub IsCounted : ℕ → List (Option Instance) → Type 0
IsCounted clock lives = (n c : ℕ) → count_in (at lives n) c ≤ clock

-- whoever has to wait finds room in the queue, and each cell can count one more change while the clock can
pub record IsReady (b : Board) : Type 0 where
  pub synced : length b.queue.order ≡ count_by is_waiting b.lives
  pub fits : count_by is_some b.lives ≤ b.queue.room
  pub counted : IsCounted b.clock b.lives

pub record IsKept (b : Board) : Type 0 where
  pub ready : IsReady b
  pub sound : IsSound (seen_as b)
  pub made : IsMade (seen_as b)
