-- The places of component tags in what is shown, in document order.
use Rattle.std.specs.Prelude.{ℕ, List, [], ◌∷◌, ◌++◌, map}
use Rattle.sv_shapes.specs.declared.shape.Row.{Row, Row-F, fold-Row}
use Rattle.sv_shapes.specs.declared.shape.Shape.{Shape, Shape-F, fold-Shape}

abbrev pub joined : List (List ℕ) → List ℕ
joined [] = []
joined (x ∷ xs) = x ++ joined xs

abbrev pub shape_places : Shape-F (List ℕ) (List ℕ) → List ℕ
shape_places (Shape-F.Literal mark) = []
shape_places (Shape-F.Text mark text) = []
shape_places (Shape-F.Element mark typed states parts) = joined parts
shape_places (Shape-F.Tag place texts) = place ∷ []
shape_places Shape-F.Nothing = []
shape_places (Shape-F.Slot props parts) = joined parts
shape_places (Shape-F.If arm parts) = joined parts
shape_places (Shape-F.Each number rows none) = joined rows ++ joined none
shape_places (Shape-F.Key state parts) = joined parts

abbrev pub row_places : Row-F (List ℕ) (List ℕ) → List ℕ
row_places row = joined row.parts

-- those of a shape
unfoldable pub places : Shape → List ℕ
places = fold-Shape (List ℕ) (List ℕ) shape_places row_places

-- those of shapes beside one another
unfoldable pub places_all : List Shape → List ℕ
places_all parts = joined (map places parts)

-- those of a row
unfoldable pub places_in : Row → List ℕ
places_in = fold-Row (List ℕ) (List ℕ) shape_places row_places

-- those of rows
unfoldable pub places_rows : List Row → List ℕ
places_rows rows = joined (map places_in rows)
