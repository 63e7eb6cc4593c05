-- The element that an event names.
use Rattle.std.specs.Prelude.{List, Option}
use Rattle.sv_document.specs.Target.{Path, target, at_places}
use Rattle.sv_document.specs.declared.tree.Node.{Node}
use Rattle.sv_events.specs.declared.event.Target.{Target}
use Rattle.sv_events.specs.declared.event.Target.TheVariants as by

-- by its `id` the first in document order that shows it, by its places the one there; then each one round it, to the outermost
abbrev pub named : Target → List Node → Option Path
named (by.Id id) nodes = target id nodes
named (by.Path places) nodes = at_places places nodes
