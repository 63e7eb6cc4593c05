-- A state that a user leaves changes no place, no mark and no key.
use Rattle.std.proofs.Common.{◌≡◌, ℕ, nat_eq, List, [], ◌∷◌, map, Option, Some, refl, sym, ap, subst, ◌∙◌, if◌then◌else◌}
use Rattle.sv_places.specs.Numbers.{numbers, numbers_all, shape_numbers, row_numbers}
use Rattle.sv_shapes.proofs.Laying.{laid-out}
use Rattle.sv_shapes.specs.Places.{joined, places, places_all, shape_places, row_places}
use Rattle.sv_shapes.specs.Typed.{laid, laid_in, laid_all, laid_rows, laid_shape, laid_row}
use Rattle.sv_shapes.specs.declared.shape.Row.{Row, Row-F, roll-Row, map-Row, fold-Row, fold-roll-Row, fold_out-Row}
use Rattle.sv_shapes.specs.declared.shape.Shape.{Shape, Shape-F, out-Shape, roll-Shape, map-Shape, fold-Shape, fold-roll-Shape, fold_out-Shape, ind-Shape}
use Rattle.sv_shapes.specs.declared.shape.Shape.TheVariants as shape
use Rattle.sv_shapes.specs.declared.shape.AttrState.{AttrState}
use Rattle.sv_tokens.specs.declared.element.Typed.{Typed}

module _ (at : ℕ) (left : Typed) where
  -- what becomes of a layer
  abbrev pub relaid : Shape-F Shape Row → Shape-F Shape Row
  relaid (Shape-F.Literal mark) = Shape-F.Literal mark
  relaid (Shape-F.Text mark text) = Shape-F.Text mark text
  relaid (Shape-F.Element mark typed states parts) = Shape-F.Element mark (if nat_eq mark at then Some left else typed) states (laid_all at left parts)
  relaid (Shape-F.Tag place texts) = Shape-F.Tag place texts
  relaid Shape-F.Nothing = Shape-F.Nothing
  relaid (Shape-F.Slot props parts) = Shape-F.Slot props (laid_all at left parts)
  relaid (Shape-F.If arm parts) = Shape-F.If arm (laid_all at left parts)
  relaid (Shape-F.Each number rows none) = Shape-F.Each number (laid_rows at left rows) (laid_all at left none)
  relaid (Shape-F.Key state parts) = Shape-F.Key state (laid_all at left parts)

  layer-laid : (y : Shape-F Shape Row) → out-Shape (laid_shape at left (map-Shape _ _ _ _ (laid at left) (laid_in at left) y)) ≡ relaid y
  layer-laid (Shape-F.Literal mark) = rw shape.outs-Literal refl
  layer-laid (Shape-F.Text mark text) = rw shape.outs-Text refl
  layer-laid (Shape-F.Element mark typed states parts) = rw shape.outs-Element refl
  layer-laid (Shape-F.Tag place texts) = rw shape.outs-Tag refl
  layer-laid Shape-F.Nothing = rw shape.outs-Nothing refl
  layer-laid (Shape-F.Slot props parts) = rw shape.outs-Slot refl
  layer-laid (Shape-F.If arm parts) = rw shape.outs-If refl
  layer-laid (Shape-F.Each number rows none) = rw shape.outs-Each refl
  layer-laid (Shape-F.Key state parts) = rw shape.outs-Key refl

  pub out-laid : (x : Shape) → out-Shape (laid at left x) ≡ relaid (out-Shape x)
  out-laid x = ap out-Shape (laid-out at left x) ∙ layer-laid (out-Shape x)

  -- ---- numbers in shapes, where those of an element don't look at what a user left there

  module _ (f : Shape-F (List ℕ) (List ℕ) → List ℕ) (g : Row-F (List ℕ) (List ℕ) → List ℕ) (blind : (mark : ℕ) (typed typed' : Option Typed) (states : List AttrState) (parts : List (List ℕ)) → f (Shape-F.Element mark typed states parts) ≡ f (Shape-F.Element mark typed' states parts)) where
    abbrev of_shape : Shape → List ℕ
    of_shape = fold-Shape (List ℕ) (List ℕ) f g

    abbrev of_row : Row → List ℕ
    of_row = fold-Row (List ℕ) (List ℕ) f g

    abbrev SameShape : Shape → Type 0
    SameShape x = of_shape (laid at left x) ≡ of_shape x

    abbrev SameRow : Row → Type 0
    SameRow r = of_row (laid_in at left r) ≡ of_row r

    abbrev KnownShape : Type 0
    KnownShape = (x : Shape) × SameShape x

    abbrev KnownRow : Type 0
    KnownRow = (r : Row) × SameRow r

    abbrev bare_shape : Shape-F KnownShape KnownRow → Shape-F Shape Row
    bare_shape = map-Shape KnownShape KnownRow Shape Row (λ x. x.0) (λ x. x.0)

    abbrev bare_row : Row-F KnownShape KnownRow → Row-F Shape Row
    bare_row = map-Row KnownShape KnownRow Shape Row (λ x. x.0) (λ x. x.0)

    abbrev counted : Shape-F Shape Row → List ℕ
    counted y = f (map-Shape Shape Row (List ℕ) (List ℕ) of_shape of_row y)

    parts-same : (parts : List KnownShape) → map of_shape (laid_all at left (map (λ x. x.0) parts)) ≡ map of_shape (map (λ x. x.0) parts)
    parts-same [] = refl
    parts-same (x ∷ parts) = rw (x.1, parts-same parts) refl

    rows-same : (rows : List KnownRow) → map of_row (laid_rows at left (map (λ r. r.0) rows)) ≡ map of_row (map (λ r. r.0) rows)
    rows-same [] = refl
    rows-same (r ∷ rows) = rw (r.1, rows-same rows) refl

    layer-same : (y : Shape-F KnownShape KnownRow) → counted (relaid (bare_shape y)) ≡ counted (bare_shape y)
    layer-same (Shape-F.Literal mark) = refl
    layer-same (Shape-F.Text mark text) = refl
    layer-same (Shape-F.Element mark typed states parts) = blind mark (if nat_eq mark at then Some left else typed) typed states _ ∙ ap (λ ps. f (Shape-F.Element mark typed states ps)) (parts-same parts)
    layer-same (Shape-F.Tag place texts) = refl
    layer-same Shape-F.Nothing = refl
    layer-same (Shape-F.Slot props parts) = ap (λ ps. f (Shape-F.Slot props ps)) (parts-same parts)
    layer-same (Shape-F.If arm parts) = ap (λ ps. f (Shape-F.If arm ps)) (parts-same parts)
    layer-same (Shape-F.Each number rows none) = ap (λ rs. f (Shape-F.Each number rs (map of_shape (laid_all at left (map (λ x. x.0) none))))) (rows-same rows) ∙ ap (λ ps. f (Shape-F.Each number (map of_row (map (λ r. r.0) rows)) ps)) (parts-same none)
    layer-same (Shape-F.Key state parts) = ap (λ ps. f (Shape-F.Key state ps)) (parts-same parts)

    -- what is counted in a layer that was laid
    laid-counted : (x : Shape-F Shape Row) → of_shape (laid at left (roll-Shape x)) ≡ counted (relaid x)
    unfolding laid laid_in
    laid-counted x =
        ap of_shape (fold-roll-Shape Shape Row (laid_shape at left) laid_row x)
        ∙ (fold_out-Shape (List ℕ) (List ℕ) f g (laid_shape at left (map-Shape _ _ _ _ (laid at left) (laid_in at left) x)) ∙ ap counted (layer-laid x))

    shape-whole : (x : Shape-F Shape Row) (y : Shape-F KnownShape KnownRow) → bare_shape y ≡ x → SameShape (roll-Shape x)
    shape-whole x y e = laid-counted x ∙ (subst (λ z. counted (relaid z) ≡ counted z) e (layer-same y) ∙ sym (fold-roll-Shape (List ℕ) (List ℕ) f g x))

    abbrev counted_row : Row-F Shape Row → List ℕ
    counted_row x = g (map-Row Shape Row (List ℕ) (List ℕ) of_shape of_row x)

    abbrev relaid_row : Row-F Shape Row → Row-F Shape Row
    relaid_row x = record { key = x.key; item = x.item; parts = laid_all at left x.parts }

    row-same : (y : Row-F KnownShape KnownRow) → counted_row (relaid_row (bare_row y)) ≡ counted_row (bare_row y)
    row-same y = ap (λ ps. g (record { key = y.key; item = y.item; parts = ps })) (parts-same y.parts)

    laid-row_counted : (x : Row-F Shape Row) → of_row (laid_in at left (roll-Row x)) ≡ counted_row (relaid_row x)
    unfolding laid laid_in
    laid-row_counted x = ap of_row (fold-roll-Row Shape Row (laid_shape at left) laid_row x) ∙ fold_out-Row (List ℕ) (List ℕ) f g (laid_row (map-Row _ _ _ _ (laid at left) (laid_in at left) x))

    row-whole : (x : Row-F Shape Row) (y : Row-F KnownShape KnownRow) → bare_row y ≡ x → SameRow (roll-Row x)
    row-whole x y e = laid-row_counted x ∙ (subst (λ z. counted_row (relaid_row z) ≡ counted_row z) e (row-same y) ∙ sym (fold-roll-Row (List ℕ) (List ℕ) f g x))

    all-same : (parts : List Shape) → map of_shape (laid_all at left parts) ≡ map of_shape parts
    all-same [] = refl
    all-same (x ∷ parts) = rw (ind-Shape SameShape SameRow shape-whole row-whole x, all-same parts) refl

  pub places-laid : (parts : List Shape) → places_all (laid_all at left parts) ≡ places_all parts
  unfolding places places_all
  places-laid parts = ap joined (all-same shape_places row_places (λ mark typed typed' states ps. refl) parts)

  pub numbers-laid : (parts : List Shape) → numbers_all (laid_all at left parts) ≡ numbers_all parts
  unfolding numbers numbers_all
  numbers-laid parts = ap joined (all-same shape_numbers row_numbers (λ mark typed typed' states ps. refl) parts)
