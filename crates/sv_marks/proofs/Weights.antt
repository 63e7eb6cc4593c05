-- What the shapes of an instance may give to a count of marks: how often the mark stands in them, and of how many places who stands there may give one.
use Rattle.std.proofs.Common.{◌≡◌, ℕ, ◌+◌, ◌≤◌, Bool, nat_eq, List, [], ◌∷◌, Option, Some, None, ap, ap₂, ◌∙◌, arith}
use Rattle.sv_places.proofs.Loads as loads
use Rattle.sv_places.specs.Numbers.{count, numbers, numbers_all}
use Rattle.sv_shapes.proofs.Tagging.{places-out, all-nil, all-cons, rows-nil, rows-cons}
use Rattle.sv_shapes.specs.Places.{places, places_all, places_in, places_rows, shape_places}
use Rattle.sv_shapes.specs.Shapes.{Opened, opened, rows_in, parts_in}
use Rattle.sv_shapes.specs.declared.shape.Row.{Row}
use Rattle.sv_shapes.specs.declared.shape.Shape.{Shape, Shape-F, out-Shape, map-Shape}
use Rattle.sv_tokens.proofs.Counting.{times-append}
use Rattle.sv_tokens.specs.Counting.{one, times}

module _ (k : ℕ) (at : ℕ → Bool) where
  -- that of a shape
  abbrev pub weight : Shape → ℕ
  weight x = count k (numbers x) + times at (places x)

  abbrev pub weight_of : Option Shape → ℕ
  weight_of None = 0
  weight_of (Some x) = weight x

  -- that of shapes beside one another
  abbrev pub weights : List Shape → ℕ
  weights xs = count k (numbers_all xs) + times at (places_all xs)

  abbrev pub row_weights : List Row → ℕ
  row_weights rows = count k (loads.numbers_rows rows) + times at (places_rows rows)

  -- that of a layer, in which the numbers of places don't count
  abbrev pub layer : Shape-F Shape Row → ℕ
  layer (Shape-F.Literal mark) = one (nat_eq k mark)
  layer (Shape-F.Text mark text) = one (nat_eq k mark)
  layer (Shape-F.Element mark typed states parts) = one (nat_eq k mark) + weights parts
  layer (Shape-F.Tag place texts) = one (at place)
  layer Shape-F.Nothing = 0
  layer (Shape-F.Slot props parts) = weights parts
  layer (Shape-F.If arm parts) = weights parts
  layer (Shape-F.Each number rows none) = row_weights rows + weights none
  layer (Shape-F.Key state parts) = weights parts

  abbrev pub layer_in : Opened → ℕ
  layer_in None = 0
  layer_in (Some y) = layer y

  pub weights-nil : weights [] ≡ 0
  weights-nil = ap₂ (λ a b. a + b) (ap (λ l. l.numbers) (loads.load-nil k)) (ap (times at) all-nil)

  pub weights-cons : (x : Shape) (xs : List Shape) → weights (x ∷ xs) ≡ weight x + weights xs
  weights-cons x xs =
      let a = ap (λ l. l.numbers) (loads.load-cons k x xs) in
      let b : times at (places_all (x ∷ xs)) ≡ times at (places x) + times at (places_all xs) = ap (times at) (all-cons x xs) ∙ times-append at (places x) (places_all xs) in
      omega (arith, a, b)

  pub row_weights-nil : row_weights [] ≡ 0
  row_weights-nil = ap₂ (λ a b. a + b) (ap (λ l. l.numbers) (loads.rows-nil-load k)) (ap (times at) rows-nil)

  pub row_weights-cons : (r : Row) (rows : List Row) → row_weights (r ∷ rows) ≡ weights r.parts + row_weights rows
  row_weights-cons r rows =
      let a = ap (λ l. l.numbers) (loads.rows-cons-load k r rows) in
      let b : times at (places_rows (r ∷ rows)) ≡ times at (places_all r.parts) + times at (places_rows rows) = ap (times at) (rows-cons r rows) ∙ times-append at (places_all r.parts) (places_rows rows) in
      omega (arith, a, b)

  layer_most : (y : Shape-F Shape Row) → layer y ≤ (loads.layer k y).numbers + times at (shape_places (map-Shape _ _ _ _ places places_in y))
  unfolding places_all places_rows
  layer_most (Shape-F.Literal mark) = omega arith
  layer_most (Shape-F.Text mark text) = omega arith
  layer_most (Shape-F.Element mark typed states parts) = omega arith
  layer_most (Shape-F.Tag place texts) = omega arith
  layer_most Shape-F.Nothing = omega arith
  layer_most (Shape-F.Slot props parts) = omega arith
  layer_most (Shape-F.If arm parts) = omega arith
  layer_most (Shape-F.Each number rows none) = let e = times-append at (places_rows rows) (places_all none) in omega (arith, e)
  layer_most (Shape-F.Key state parts) = omega arith

  layer_weight : (x : Shape) → layer (out-Shape x) ≤ weight x
  layer_weight x =
      let a = ap (λ l. l.numbers) (loads.load-out k x) in
      let b = ap (times at) (places-out x) in
      let c = layer_most (out-Shape x) in
      omega (arith, a, b, c)

  pub opened_weight : (o : Option Shape) → layer_in (opened o) ≤ weight_of o
  opened_weight None = omega arith
  opened_weight (Some x) = layer_weight x

  -- the content of a layer is no heavier than the layer
  pub parts_below : (old : Opened) → weights (parts_in old) ≤ layer_in old
  parts_below None = let e = weights-nil in omega (arith, e)
  parts_below (Some (Shape-F.Literal mark)) = let e = weights-nil in omega (arith, e)
  parts_below (Some (Shape-F.Text mark text)) = let e = weights-nil in omega (arith, e)
  parts_below (Some (Shape-F.Element mark typed states parts)) = omega arith
  parts_below (Some (Shape-F.Tag place texts)) = let e = weights-nil in omega (arith, e)
  parts_below (Some Shape-F.Nothing) = let e = weights-nil in omega (arith, e)
  parts_below (Some (Shape-F.Slot props parts)) = omega arith
  parts_below (Some (Shape-F.If arm parts)) = omega arith
  parts_below (Some (Shape-F.Each number rows none)) = omega arith
  parts_below (Some (Shape-F.Key state parts)) = omega arith

  -- nor are its rows
  pub rows_below : (old : Opened) → row_weights (rows_in old) ≤ layer_in old
  rows_below None = let e = row_weights-nil in omega (arith, e)
  rows_below (Some (Shape-F.Literal mark)) = let e = row_weights-nil in omega (arith, e)
  rows_below (Some (Shape-F.Text mark text)) = let e = row_weights-nil in omega (arith, e)
  rows_below (Some (Shape-F.Element mark typed states parts)) = let e = row_weights-nil in omega (arith, e)
  rows_below (Some (Shape-F.Tag place texts)) = let e = row_weights-nil in omega (arith, e)
  rows_below (Some Shape-F.Nothing) = let e = row_weights-nil in omega (arith, e)
  rows_below (Some (Shape-F.Slot props parts)) = let e = row_weights-nil in omega (arith, e)
  rows_below (Some (Shape-F.If arm parts)) = let e = row_weights-nil in omega (arith, e)
  rows_below (Some (Shape-F.Each number rows none)) = omega arith
  rows_below (Some (Shape-F.Key state parts)) = let e = row_weights-nil in omega (arith, e)
