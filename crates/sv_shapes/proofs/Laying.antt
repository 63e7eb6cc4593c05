-- States laid down, by the kind of a shape.
use Rattle.std.proofs.Common.{◌≡◌, ℕ, ◌+◌, ◌<◌, nat_eq, List, [], ◌∷◌, ◌++◌, length, take, get_or, Option, Some, refl, sym, ◌∙◌, if◌then◌else◌}
use Rattle.std.proofs.lemmas.List.{take_more, map-append}
use Rattle.sv_shapes.specs.Typed.{laid, laid_in, laid_all, laid_rows, laid_shape, laid_row}
use Rattle.sv_shapes.specs.declared.shape.Row.{Row, fold_out-Row}
use Rattle.sv_shapes.specs.declared.shape.Shape.{Shape, out-Shape, fold_out-Shape, map-Shape}
use Rattle.sv_shapes.specs.declared.shape.Shape.TheVariants as shape
use Rattle.sv_shapes.specs.declared.shape.AttrState.{AttrState}
use Rattle.sv_shapes.specs.declared.shape.KeyState.{KeyState}
use Rattle.sv_shapes.specs.declared.shape.SlotProp.{SlotProp}
use Rattle.sv_tokens.specs.declared.element.Typed.{Typed}

-- one layer of a shape
pub laid-out : (at : ℕ) (left : Typed) (x : Shape) → laid at left x ≡ laid_shape at left (map-Shape _ _ _ _ (laid at left) (laid_in at left) (out-Shape x))
unfolding laid laid_in
laid-out at left x = fold_out-Shape Shape Row (laid_shape at left) laid_row x

pub laid-row : (at : ℕ) (left : Typed) (r : Row) → laid_in at left r ≡ record { key = r.key; item = r.item; parts = laid_all at left r.parts }
unfolding laid laid_in
laid-row at left r = fold_out-Row Shape Row (laid_shape at left) laid_row r

-- ---- one lemma for each kind of shape: what its parts become makes what it becomes

module _ (at : ℕ) (left : Typed) (x : Shape) where
  pub in-Literal : (mark : ℕ) → x ≡ shape.Literal mark → shape.Literal mark ≡ laid at left x
  in-Literal mark is = rw (is, laid-out, shape.outs-Literal) refl

  pub in-Text : (mark : ℕ) (text text' : List ℕ) → x ≡ shape.Text mark text → text' ≡ text → shape.Text mark text' ≡ laid at left x
  in-Text mark text text' is e = rw (is, laid-out, shape.outs-Text, e) refl

  pub in-Nothing : x ≡ shape.Nothing → shape.Nothing ≡ laid at left x
  in-Nothing is = rw (is, laid-out, shape.outs-Nothing) refl

  pub in-Tag : (place : ℕ) (texts texts' : List (List (List ℕ))) → x ≡ shape.Tag place texts → texts' ≡ texts → shape.Tag place texts' ≡ laid at left x
  in-Tag place texts texts' is e = rw (is, laid-out, shape.outs-Tag, e) refl

  pub in-Element : (mark : ℕ) (typed typed' : Option Typed) (states states' : List AttrState) (parts parts' : List Shape) → x ≡ shape.Element mark typed states parts →
      typed' ≡ (if nat_eq mark at then Some left else typed) → states' ≡ states → parts' ≡ laid_all at left parts → shape.Element mark typed' states' parts' ≡ laid at left x
  in-Element mark typed typed' states states' parts parts' is e f g = rw (is, laid-out, shape.outs-Element, e, f, g) refl

  pub in-Slot : (props props' : List SlotProp) (parts parts' : List Shape) → x ≡ shape.Slot props parts → props' ≡ props → parts' ≡ laid_all at left parts → shape.Slot props' parts' ≡ laid at left x
  in-Slot props props' parts parts' is e f = rw (is, laid-out, shape.outs-Slot, e, f) refl

  pub in-If : (arm : ℕ) (parts parts' : List Shape) → x ≡ shape.If arm parts → parts' ≡ laid_all at left parts → shape.If arm parts' ≡ laid at left x
  in-If arm parts parts' is e = rw (is, laid-out, shape.outs-If, e) refl

  pub in-Each : (number : ℕ) (rows rows' : List Row) (none none' : List Shape) → x ≡ shape.Each number rows none → rows' ≡ laid_rows at left rows → none' ≡ laid_all at left none →
      shape.Each number rows' none' ≡ laid at left x
  in-Each number rows rows' none none' is e f = rw (is, laid-out, shape.outs-Each, e, f) refl

  pub in-Key : (state state' : KeyState) (parts parts' : List Shape) → x ≡ shape.Key state parts → state' ≡ state → parts' ≡ laid_all at left parts → shape.Key state' parts' ≡ laid at left x
  in-Key state state' parts parts' is e f = rw (is, laid-out, shape.outs-Key, e, f) refl

-- one more row
pub rows-more : (at : ℕ) (left : Typed) (all : List Row) (rows : List Row) (i : ℕ) (row row' : Row) → all ≡ laid_rows at left (take i rows) → i < length rows → row ≡ get_or rows i row →
    row' ≡ record { key = row.key; item = row.item; parts = laid_all at left row.parts } → all ++ row' ∷ [] ≡ laid_rows at left (take (i + 1) rows)
rows-more at left all rows i row row' h lt is e =
    let one : row' ≡ laid_in at left row = e ∙ sym (laid-row at left row) in
    rw (take_more rows i row lt, ← is, map-append (laid_in at left) (take i rows) (row ∷ []), h, one) refl
