-- The numbers that were given to lists and slot props, as shapes hold them: they are the versions of the names of rows and of content.
use Rattle.std.specs.Prelude.{ℕ, ◌<◌, List, [], ◌∷◌, ◌++◌, map}
use Rattle.sv_code.specs.Names.{Each}
use Rattle.sv_shapes.specs.Places.{joined}
use Rattle.sv_shapes.specs.declared.shape.Row.{Row, Row-F, fold-Row}
use Rattle.sv_shapes.specs.declared.shape.Shape.{Shape, Shape-F, fold-Shape}
use Rattle.sv_shapes.specs.declared.shape.SlotProp.{SlotProp}

-- those of slot props
abbrev pub of_props : List SlotProp → List ℕ
of_props props = map (λ prop. prop.number) props

-- those of a layer, whose parts have some
abbrev pub of_shape : Shape-F (List ℕ) (List ℕ) → List ℕ
of_shape (Shape-F.Literal mark) = []
of_shape (Shape-F.Text mark text) = []
of_shape (Shape-F.Element mark typed states parts) = joined parts
of_shape (Shape-F.Tag place texts) = []
of_shape Shape-F.Nothing = []
of_shape (Shape-F.Slot props parts) = of_props props ++ joined parts
of_shape (Shape-F.If arm parts) = joined parts
of_shape (Shape-F.Each number rows none) = number ∷ (joined rows ++ joined none)
of_shape (Shape-F.Key state parts) = joined parts

-- those of a row, whose parts have some
abbrev pub of_row : Row-F (List ℕ) (List ℕ) → List ℕ
of_row row = joined row.parts

-- those in a shape
unfoldable pub versions : Shape → List ℕ
versions = fold-Shape (List ℕ) (List ℕ) of_shape of_row

-- those in a row
unfoldable pub versions_in : Row → List ℕ
versions_in = fold-Row (List ℕ) (List ℕ) of_shape of_row

-- those in shapes beside one another
abbrev pub versions_all : List Shape → List ℕ
versions_all shapes = joined (map versions shapes)

-- those in rows
abbrev pub versions_rows : List Row → List ℕ
versions_rows rows = joined (map versions_in rows)

-- all of them were given before the next number
abbrev pub AreBelow : ℕ → List Shape → Type 0
AreBelow next shapes = Each (λ n. n < next) (versions_all shapes)
