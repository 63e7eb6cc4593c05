-- The numbers of what is shown: the marks of texts and elements, and the places of component tags.
use Rattle.std.specs.Prelude.{ℕ, ◌≤◌, nat_eq, nat_le, nat_lt, ◌&&◌, List, [], ◌∷◌, ◌++◌, map}
use Rattle.sv_shapes.specs.Places.{joined}
use Rattle.sv_shapes.specs.declared.shape.Row.{Row, Row-F, fold-Row}
use Rattle.sv_shapes.specs.declared.shape.Shape.{Shape, Shape-F, fold-Shape}
use Rattle.sv_tokens.specs.Counting.{one, times}

abbrev pub shape_numbers : Shape-F (List ℕ) (List ℕ) → List ℕ
shape_numbers (Shape-F.Literal mark) = mark ∷ []
shape_numbers (Shape-F.Text mark text) = mark ∷ []
shape_numbers (Shape-F.Element mark typed states parts) = mark ∷ joined parts
shape_numbers (Shape-F.Tag place texts) = place ∷ []
shape_numbers Shape-F.Nothing = []
shape_numbers (Shape-F.Slot props parts) = joined parts
shape_numbers (Shape-F.If arm parts) = joined parts
shape_numbers (Shape-F.Each number rows none) = joined rows ++ joined none
shape_numbers (Shape-F.Key state parts) = joined parts

abbrev pub row_numbers : Row-F (List ℕ) (List ℕ) → List ℕ
row_numbers row = joined row.parts

-- those of a shape
unfoldable pub numbers : Shape → List ℕ
numbers = fold-Shape (List ℕ) (List ℕ) shape_numbers row_numbers

-- those of a row
unfoldable pub numbers_in : Row → List ℕ
numbers_in = fold-Row (List ℕ) (List ℕ) shape_numbers row_numbers

-- those of shapes beside one another
unfoldable pub numbers_all : List Shape → List ℕ
numbers_all parts = joined (map numbers parts)

-- how often a number stands in a list
abbrev pub count : ℕ → List ℕ → ℕ
count n list = times (nat_eq n) list

-- how often a number is given while the next number goes from one to another: once, if it lies between
abbrev pub given : ℕ → ℕ → ℕ → ℕ
given from to n = one (nat_le from n && nat_lt n to)

-- no number stands twice, and each lies below the next one
abbrev pub AreGivenOnce : List ℕ → ℕ → Type 0
AreGivenOnce list next = (n : ℕ) → count n list ≤ given 0 next n
