-- How cells are kept: what one holds, and beside it what it held at the last snapshot, where it changed since.
use Rattle.std.specs.Prelude.{Bool, true, false, List, map, Option, Some, None}
use Rattle.sv_view.specs.Cell.{Cell}
use Rattle.sv_instance.specs.declared.cells.Slot.{Slot}

abbrev pub now_of : Slot → Option Cell
now_of s = s.held

abbrev pub kept_or : Option Cell → Option Cell → Option Cell
kept_or None now = now
kept_or (Some c) now = Some c

-- what a cell held at the last snapshot
abbrev pub seen_at : Slot → Option Cell
seen_at s = kept_or s.kept s.held

abbrev pub slots_now : List Slot → List (Option Cell)
slots_now slots = map now_of slots

abbrev pub slots_seen : Bool → List Slot → Option (List (Option Cell))
slots_seen false slots = None
slots_seen true slots = Some (map seen_at slots)
