-- The loads of shapes, by their kinds.
use Rattle.std.proofs.Common.{◌≡◌, ℕ, ◌+◌, nat_eq, List, [], ◌∷◌, ◌++◌, map, Some, None, refl, ap}
use Rattle.sv_places.proofs.Changes.{Load, nowhere, both}
use Rattle.sv_places.proofs.Counting.{count-append}
use Rattle.sv_places.specs.Numbers.{numbers, numbers_in, numbers_all, count, shape_numbers, row_numbers}
use Rattle.sv_shapes.proofs.Tagging.{places-out, all-nil, all-cons, rows-nil, rows-cons}
use Rattle.sv_shapes.specs.Places.{joined, places, places_all, places_in, places_rows, shape_places}
use Rattle.sv_shapes.specs.Shapes.{Opened}
use Rattle.sv_shapes.specs.declared.shape.Row.{Row, fold_out-Row}
use Rattle.sv_shapes.specs.declared.shape.Shape.{Shape, Shape-F, out-Shape, fold_out-Shape, map-Shape}
use Rattle.sv_tokens.specs.Counting.{one}

unfoldable pub numbers_rows : List Row → List ℕ
numbers_rows rows = joined (map numbers_in rows)

-- one layer of a shape
pub numbers-out : (x : Shape) → numbers x ≡ shape_numbers (map-Shape _ _ _ _ numbers numbers_in (out-Shape x))
unfolding numbers numbers_in
numbers-out x = fold_out-Shape (List ℕ) (List ℕ) shape_numbers row_numbers x

pub numbers-row : (r : Row) → numbers_in r ≡ numbers_all r.parts
unfolding numbers numbers_in numbers_all
numbers-row r = fold_out-Row (List ℕ) (List ℕ) shape_numbers row_numbers r

pub numbers-nil : numbers_all [] ≡ []
unfolding numbers_all
numbers-nil = refl

pub numbers-cons : (x : Shape) (xs : List Shape) → numbers_all (x ∷ xs) ≡ numbers x ++ numbers_all xs
unfolding numbers_all
numbers-cons x xs = refl

numbers-rows_nil : numbers_rows [] ≡ []
unfolding numbers_rows
numbers-rows_nil = refl

numbers-rows_cons : (r : Row) (rs : List Row) → numbers_rows (r ∷ rs) ≡ numbers_all r.parts ++ numbers_rows rs
unfolding numbers_rows
numbers-rows_cons r rs = ap (λ ns. ns ++ numbers_rows rs) (numbers-row r)

-- ---- loads

module _ (n : ℕ) where
  abbrev pub load : Shape → Load
  load x = record { places = count n (places x); numbers = count n (numbers x) }

  abbrev pub loads : List Shape → Load
  loads xs = record { places = count n (places_all xs); numbers = count n (numbers_all xs) }

  abbrev pub row_loads : List Row → Load
  row_loads rs = record { places = count n (places_rows rs); numbers = count n (numbers_rows rs) }

  abbrev marked : ℕ → Load → Load
  marked mark l = record { places = l.places; numbers = one (nat_eq n mark) + l.numbers }

  -- that of a layer
  abbrev pub layer : Shape-F Shape Row → Load
  layer (Shape-F.Literal mark) = marked mark nowhere
  layer (Shape-F.Text mark text) = marked mark nowhere
  layer (Shape-F.Element mark typed states parts) = marked mark (loads parts)
  layer (Shape-F.Tag place texts) = record { places = one (nat_eq n place) + 0; numbers = one (nat_eq n place) + 0 }
  layer Shape-F.Nothing = nowhere
  layer (Shape-F.Slot props parts) = loads parts
  layer (Shape-F.If arm parts) = loads parts
  layer (Shape-F.Each number rows none) = both (row_loads rows) (loads none)
  layer (Shape-F.Key state parts) = loads parts

  -- that of what was shown, if anything was
  abbrev pub load_in : Opened → Load
  load_in None = nowhere
  load_in (Some x) = layer x

  pub load-nil : loads [] ≡ nowhere
  load-nil = rw (all-nil, numbers-nil) refl

  pub load-cons : (x : Shape) (xs : List Shape) → loads (x ∷ xs) ≡ both (load x) (loads xs)
  load-cons x xs = rw (all-cons, numbers-cons, count-append n (places x), count-append n (numbers x)) refl

  pub rows-nil-load : row_loads [] ≡ nowhere
  rows-nil-load = rw (rows-nil, numbers-rows_nil) refl

  pub rows-cons-load : (r : Row) (rs : List Row) → row_loads (r ∷ rs) ≡ both (loads r.parts) (row_loads rs)
  rows-cons-load r rs = rw (rows-cons, numbers-rows_cons, count-append n (places_all r.parts), count-append n (numbers_all r.parts)) refl

  layer-of : (y : Shape-F Shape Row) → record { places = count n (shape_places (map-Shape _ _ _ _ places places_in y)); numbers = count n (shape_numbers (map-Shape _ _ _ _ numbers numbers_in y)) } ≡ layer y
  unfolding places_all numbers_all places_rows numbers_rows
  layer-of (Shape-F.Literal mark) = refl
  layer-of (Shape-F.Text mark text) = refl
  layer-of (Shape-F.Element mark typed states parts) = refl
  layer-of (Shape-F.Tag place texts) = refl
  layer-of Shape-F.Nothing = refl
  layer-of (Shape-F.Slot props parts) = refl
  layer-of (Shape-F.If arm parts) = refl
  layer-of (Shape-F.Each number rows none) = rw (count-append n (places_rows rows), count-append n (numbers_rows rows)) refl
  layer-of (Shape-F.Key state parts) = refl

  pub load-out : (x : Shape) → load x ≡ layer (out-Shape x)
  load-out x = rw (places-out, numbers-out) (layer-of (out-Shape x))
