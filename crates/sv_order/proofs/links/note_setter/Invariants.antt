use Rattle.std.proofs.Common.{take}
use Rattle.sv_order.proofs.Setting.{IsNoting}
use Rattle.sv_order.proofs.links.note_setter.Given as goal

-- the statement was noted for the names so far
abbrev pub invariant-loop-name : goal.invariant-loop-name
invariant-loop-name l = IsNoting l.names.keys l.fn.setters.items (take l.name-index l.sets) l.statement l.setters.items
