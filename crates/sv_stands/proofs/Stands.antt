-- What is so of walks beside shapes: the places of holds are those of the shapes, and what users left in elements changes none.
use Rattle.std.proofs.Common.{◌≡◌, ℕ, suc, Bool, true, List, [], ◌∷◌, ◌++◌, map, Option, Some, None, refl, sym, ap, ◌∙◌}
use Rattle.std.proofs.lemmas.List.{map-append}
use Rattle.sv_places.proofs.Typing.{relaid, out-laid}
use Rattle.sv_places.proofs.Walks.{both-true}
use Rattle.sv_places.specs.Fits.{Fitter, AllFitter, fit_each, rows_fit}
use Rattle.sv_plan.specs.Lists.{Head, row_view}
use Rattle.sv_plan.specs.Slots.{content_view}
use Rattle.sv_shapes.proofs.Laying.{laid-row}
use Rattle.sv_shapes.proofs.Tagging.{places-out, all-nil, all-cons, rows-nil, rows-cons}
use Rattle.sv_shapes.specs.Places.{places, places_in, places_all, places_rows, shape_places}
use Rattle.sv_shapes.specs.Typed.{laid, laid_all, laid_rows}
use Rattle.sv_shapes.specs.declared.shape.Row.{Row}
use Rattle.sv_shapes.specs.declared.shape.Shape.{Shape, Shape-F, out-Shape, map-Shape}
use Rattle.sv_shapes.specs.declared.shape.SlotProp.{SlotProp}
use Rattle.sv_stands.proofs.Walks.{LayerHolder}
use Rattle.sv_stands.specs.Holds as holds
use Rattle.sv_stands.specs.Holds.{Hold, Holder, AllHolder, hold_each, rows_hold}
use Rattle.sv_tokens.specs.declared.element.Typed.{Typed}
use Rattle.sv_view.specs.Level.{View}

abbrev pub places_held : List Hold → List ℕ
places_held hs = map (λ h. h.place) hs

pub held_append : (xs ys : List Hold) → places_held (xs ++ ys) ≡ places_held xs ++ places_held ys
held_append xs ys = map-append (λ h. h.place) xs ys

-- the places in one layer of a shape
abbrev pub layer_places : Shape-F Shape Row → List ℕ
layer_places y = shape_places (map-Shape Shape Row (List ℕ) (List ℕ) places places_in y)

pub record Stands (fit : AllFitter) (hold : AllHolder) : Type 0 where
  pub places : (v : View) (shapes : List Shape) → fit shapes ≡ true → places_held (hold v shapes) ≡ places_all shapes
  pub same : (at : ℕ) (left : Typed) (v : View) (shapes : List Shape) → hold v (laid_all at left shapes) ≡ hold v shapes

pub record OneStands (fit : Fitter) (hold : Holder) : Type 0 where
  pub held : (v : View) (x : Shape) → fit x ≡ true → places_held (hold v x) ≡ places x
  pub same : (at : ℕ) (left : Typed) (v : View) (x : Shape) → hold v (laid at left x) ≡ hold v x

-- holders beside their fitters
abbrev pub EachStands : List Fitter → List Holder → Type 0
EachStands [] [] = Unit {0}
EachStands [] (hold ∷ holds) = ⊥
EachStands (fit ∷ fits) [] = ⊥
EachStands (fit ∷ fits) (hold ∷ holds) = OneStands fit hold × EachStands fits holds

each_places : (fits : List Fitter) (holds : List Holder) → EachStands fits holds → (v : View) (shapes : List Shape) → fit_each fits shapes ≡ true → places_held (hold_each holds v shapes) ≡ places_all shapes
each_places fits holds q v [] e = sym all-nil
each_places [] holds q v (x ∷ shapes) e = absurd (cc)
each_places (fit ∷ fits) [] q v (x ∷ shapes) e = elim q [ ]
each_places (fit ∷ fits) (hold ∷ holds) q v (x ∷ shapes) e =
    let both = both-true (fit x) (fit_each fits shapes) e in
    rw (held_append, q.0.held v x both.0, each_places fits holds q.1 v shapes both.1, all-cons) refl

each_same : (fits : List Fitter) (holds : List Holder) → EachStands fits holds → (at : ℕ) (left : Typed) (v : View) (shapes : List Shape) → hold_each holds v (laid_all at left shapes) ≡ hold_each holds v shapes
each_same fits holds q at left v [] = refl
each_same [] [] q at left v (x ∷ shapes) = refl
each_same [] (hold ∷ holds) q at left v (x ∷ shapes) = elim q [ ]
each_same (fit ∷ fits) [] q at left v (x ∷ shapes) = refl
each_same (fit ∷ fits) (hold ∷ holds) q at left v (x ∷ shapes) = rw (q.0.same at left v x, each_same fits holds q.1 at left v shapes) refl

pub each_stands : (fits : List Fitter) (holds : List Holder) → EachStands fits holds → Stands (fit_each fits) (hold_each holds)
each_stands fits holds q = record { places = each_places fits holds q; same = each_same fits holds q }

-- ---- one layer

pub record LayerStands (fit : Shape-F Shape Row → Bool) (hold : LayerHolder) : Type 0 where
  pub held : (v : View) (y : Shape-F Shape Row) → fit y ≡ true → places_held (hold v y) ≡ layer_places y
  pub same : (at : ℕ) (left : Typed) (v : View) (y : Shape-F Shape Row) → hold v (relaid at left y) ≡ hold v y

pub layer_stands : (fit : Shape-F Shape Row → Bool) (hold : LayerHolder) → LayerStands fit hold → OneStands (λ x. fit (out-Shape x)) (λ v x. hold v (out-Shape x))
layer_stands fit hold k = record {
  held = λ v x e. k.held v (out-Shape x) e ∙ sym (places-out x);
  same = λ at left v x. ap (hold v) (out-laid at left x) ∙ k.same at left v (out-Shape x);
}

-- ---- rows

module _ (h : Head) (fit : AllFitter) (hold : AllHolder) (k : Stands fit hold) (n : ℕ) where
  pub rows_places : (v : View) (i : ℕ) (rows : List Row) → rows_fit fit rows ≡ true → places_held (rows_hold h hold n v i rows) ≡ places_rows rows
  rows_places v i [] e = sym rows-nil
  rows_places v i (r ∷ rows) e =
      let both = both-true (fit r.parts) (rows_fit fit rows) e in
      rw (held_append, k.places (row_view h n i r.item v) r.parts both.0, rows_places v (suc i) rows both.1, rows-cons) refl

  pub rows_same : (at : ℕ) (left : Typed) (v : View) (i : ℕ) (rows : List Row) → rows_hold h hold n v i (laid_rows at left rows) ≡ rows_hold h hold n v i rows
  rows_same at left v i [] = refl
  rows_same at left v i (r ∷ rows) = rw (laid-row at left r, k.same at left (row_view h n i r.item v) r.parts, rows_same at left v (suc i) rows) refl

-- ---- slots

-- what is given to a slot, with each of its props
abbrev pub FilledStands : Option AllFitter → Option holds.Filled → Type 0
FilledStands None None = Unit {0}
FilledStands None (Some g) = ⊥
FilledStands (Some fit) None = ⊥
FilledStands (Some fit) (Some g) = (props : List SlotProp) → Stands fit (λ v shapes. g.walk (content_view g.lets props v) shapes)
