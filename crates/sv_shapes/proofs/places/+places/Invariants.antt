use Rattle.std.proofs.Common.{◌≡◌, ◌++◌, drop}
use Rattle.sv_shapes.specs.Places.{places_all, places_rows}
use Rattle.sv_shapes.proofs.places.+places.Given as goal

abbrev pub invariant-add_all-loop-part : goal.invariant-add_all-loop-part
invariant-add_all-loop-part l = l.fn.found ++ places_all l.parts ≡ l.found ++ places_all (drop l.part-index l.parts)

abbrev pub invariant-add_rows-loop-row : goal.invariant-add_rows-loop-row
invariant-add_rows-loop-row l = l.fn.found ++ places_rows l.rows ≡ l.found ++ places_rows (drop l.row-index l.rows)
