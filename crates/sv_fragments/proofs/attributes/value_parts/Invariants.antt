use Rattle.std.proofs.Common.{◌≡◌, map, drop}
use Rattle.sv_names.specs.Locals.{names_of}
use Rattle.sv_fragments.specs.Around.{seen}
use Rattle.sv_fragments.specs.Attributes.{shown}
use Rattle.sv_lower.specs.Does.{each}
use Rattle.sv_lower.proofs.Loops.{ahead}
use Rattle.sv_fragments.proofs.attributes.value_parts.Given as goal

abbrev pub invariant-loop-of : goal.invariant-loop-of
invariant-loop-of l =
    each (map shown l.list) (seen l.around) (names_of l.locals) l.fn.tables ≡ ahead l.parts (each (map shown (drop l.of-index l.list)) (seen l.around) (names_of l.locals) l.tables)
