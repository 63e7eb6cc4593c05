-- The states that users leave in elements.
use Rattle.std.specs.Prelude.{ℕ, nat_eq, List, Some, map, if◌then◌else◌}
use Rattle.sv_shapes.specs.declared.shape.Row.{Row, Row-F, fold-Row}
use Rattle.sv_shapes.specs.declared.shape.Shape.{Shape, Shape-F, fold-Shape}
use Rattle.sv_shapes.specs.declared.shape.Shape.TheVariants as shape
use Rattle.sv_tokens.specs.declared.element.Typed.{Typed}

-- a state is laid down on the element with a mark
abbrev pub laid_shape : ℕ → Typed → Shape-F Shape Row → Shape
laid_shape at left (Shape-F.Literal mark) = shape.Literal mark
laid_shape at left (Shape-F.Text mark text) = shape.Text mark text
laid_shape at left (Shape-F.Element mark typed states parts) = shape.Element mark (if nat_eq mark at then Some left else typed) states parts
laid_shape at left (Shape-F.Tag place texts) = shape.Tag place texts
laid_shape at left Shape-F.Nothing = shape.Nothing
laid_shape at left (Shape-F.Slot props parts) = shape.Slot props parts
laid_shape at left (Shape-F.If arm parts) = shape.If arm parts
laid_shape at left (Shape-F.Each number rows none) = shape.Each number rows none
laid_shape at left (Shape-F.Key state parts) = shape.Key state parts

abbrev pub laid_row : Row-F Shape Row → Row
laid_row row = record { key = row.key; item = row.item; parts = row.parts }

-- the same in a shape
unfoldable pub laid : ℕ → Typed → Shape → Shape
laid at left = fold-Shape Shape Row (laid_shape at left) laid_row

-- the same in a row
unfoldable pub laid_in : ℕ → Typed → Row → Row
laid_in at left = fold-Row Shape Row (laid_shape at left) laid_row

-- the same in shapes beside one another
abbrev pub laid_all : ℕ → Typed → List Shape → List Shape
laid_all at left parts = map (laid at left) parts

-- the same in rows
abbrev pub laid_rows : ℕ → Typed → List Row → List Row
laid_rows at left rows = map (laid_in at left) rows
