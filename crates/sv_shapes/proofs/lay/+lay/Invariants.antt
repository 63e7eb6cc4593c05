use Rattle.std.proofs.Common.{◌≡◌, take}
use Rattle.sv_shapes.specs.Typed.{laid_all, laid_rows}
use Rattle.sv_shapes.proofs.lay.+lay.Given as goal

abbrev pub invariant-lay_all-loop-part : goal.invariant-lay_all-loop-part
invariant-lay_all-loop-part l = l.all ≡ laid_all l.mark l.typed (take l.part-index l.parts)

abbrev pub invariant-lay_rows-loop-row : goal.invariant-lay_rows-loop-row
invariant-lay_rows-loop-row l = l.all ≡ laid_rows l.mark l.typed (take l.row-index l.rows)
