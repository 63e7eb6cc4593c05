-- The places of component tags by the kind of a shape.
use Rattle.std.proofs.Common.{◌≡◌, ℕ, zero, suc, ◌+◌, ◌<◌, ◌≤◌, List, [], ◌∷◌, ◌++◌, length, drop, get_or, refl, sym, ap, append_assoc, arith, drop-cons, add-one, Option, Result, OnOk}
use Rattle.std.proofs.lemmas.List.{append-nil}
use Rattle.sv_shapes.specs.Places.{places, places_all, places_in, places_rows, shape_places, row_places}
use Rattle.sv_shapes.specs.declared.shape.Row.{Row, fold_out-Row}
use Rattle.sv_shapes.specs.declared.shape.Shape.{Shape, out-Shape, fold_out-Shape, map-Shape}
use Rattle.sv_shapes.specs.declared.shape.Shape.TheVariants as shape
use Rattle.sv_shapes.specs.declared.shape.AttrState.{AttrState}
use Rattle.sv_shapes.specs.declared.shape.KeyState.{KeyState}
use Rattle.sv_shapes.specs.declared.shape.SlotProp.{SlotProp}
use Rattle.sv_tokens.specs.declared.element.Typed.{Typed}
use Rattle.sv_base.specs.declared.memory.NoMemory.{NoMemory}

-- one layer of a shape
pub places-out : (x : Shape) → places x ≡ shape_places (map-Shape _ _ _ _ places places_in (out-Shape x))
unfolding places places_in
places-out x = fold_out-Shape (List ℕ) (List ℕ) shape_places row_places x

pub places-row : (r : Row) → places_in r ≡ places_all r.parts
unfolding places places_in places_all
places-row r = fold_out-Row (List ℕ) (List ℕ) shape_places row_places r

pub all-nil : places_all [] ≡ []
unfolding places_all
all-nil = refl

pub all-cons : (x : Shape) (xs : List Shape) → places_all (x ∷ xs) ≡ places x ++ places_all xs
unfolding places_all
all-cons x xs = refl

pub rows-nil : places_rows [] ≡ []
unfolding places_rows
rows-nil = refl

pub rows-cons : (r : Row) (rs : List Row) → places_rows (r ∷ rs) ≡ places_all r.parts ++ places_rows rs
unfolding places_rows
rows-cons r rs = ap (λ ps. ps ++ places_rows rs) (places-row r)

over : {A : Type 0} (xs : List A) (k : ℕ) → length xs ≤ k → drop k xs ≡ []
over [] zero le = refl
over [] (suc k) le = refl
over (x ∷ xs) zero le = absurd (omega arith)
over (x ∷ xs) (suc k) le = over xs k (omega arith)

pub all-more : (found now : List ℕ) (xs : List Shape) (i : ℕ) (x : Shape) → i < length xs → x ≡ get_or xs i x → now ≡ found ++ places x →
    found ++ places_all (drop i xs) ≡ now ++ places_all (drop (i + 1) xs)
all-more found now xs i x lt is e = rw (drop-cons xs i x, ← is, all-cons, add-one, e) (sym (append_assoc found (places x) (places_all (drop (suc i) xs))))

pub all-end : (found : List ℕ) (xs : List Shape) (i : ℕ) → length xs ≤ i → found ++ places_all (drop i xs) ≡ found
all-end found xs i le = rw (over xs i le, all-nil) (append-nil found)

pub rows-more : (found now : List ℕ) (rs : List Row) (i : ℕ) (r : Row) → i < length rs → r ≡ get_or rs i r → now ≡ found ++ places_all r.parts →
    found ++ places_rows (drop i rs) ≡ now ++ places_rows (drop (i + 1) rs)
rows-more found now rs i r lt is e = rw (drop-cons rs i r, ← is, rows-cons, add-one, e) (sym (append_assoc found (places_all r.parts) (places_rows (drop (suc i) rs))))

pub rows-end : (found : List ℕ) (rs : List Row) (i : ℕ) → length rs ≤ i → found ++ places_rows (drop i rs) ≡ found
rows-end found rs i le = rw (over rs i le, rows-nil) (append-nil found)

-- ---- one lemma for each kind of shape: what was found in it is found in the whole

pub in-nothing : (found : List ℕ) (x : Shape) → places x ≡ [] → found ≡ found ++ places x
in-nothing found x e = rw e (sym (append-nil found))

pub in-Literal : (x : Shape) (mark : ℕ) → x ≡ shape.Literal mark → places x ≡ []
in-Literal x mark is = rw (is, places-out, shape.outs-Literal) refl

pub in-Text : (x : Shape) (mark : ℕ) (text : List ℕ) → x ≡ shape.Text mark text → places x ≡ []
in-Text x mark text is = rw (is, places-out, shape.outs-Text) refl

pub in-Nothing : (x : Shape) → x ≡ shape.Nothing → places x ≡ []
in-Nothing x is = rw (is, places-out, shape.outs-Nothing) refl

pub in-Tag : (x : Shape) (place : ℕ) (texts : List (List (List ℕ))) → x ≡ shape.Tag place texts → places x ≡ place ∷ []
in-Tag x place texts is = rw (is, places-out, shape.outs-Tag) refl

pub in-Element : (x : Shape) (mark : ℕ) (typed : Option Typed) (states : List AttrState) (parts : List Shape) → x ≡ shape.Element mark typed states parts → places x ≡ places_all parts
unfolding places_all
in-Element x mark typed states parts is = rw (is, places-out, shape.outs-Element) refl

pub in-Slot : (x : Shape) (props : List SlotProp) (parts : List Shape) → x ≡ shape.Slot props parts → places x ≡ places_all parts
unfolding places_all
in-Slot x props parts is = rw (is, places-out, shape.outs-Slot) refl

pub in-If : (x : Shape) (arm : ℕ) (parts : List Shape) → x ≡ shape.If arm parts → places x ≡ places_all parts
unfolding places_all
in-If x arm parts is = rw (is, places-out, shape.outs-If) refl

pub in-Each : (x : Shape) (number : ℕ) (rows : List Row) (none : List Shape) → x ≡ shape.Each number rows none → places x ≡ places_rows rows ++ places_all none
unfolding places_all places_rows
in-Each x number rows none is = rw (is, places-out, shape.outs-Each) refl

pub in-Key : (x : Shape) (state : KeyState) (parts : List Shape) → x ≡ shape.Key state parts → places x ≡ places_all parts
unfolding places_all
in-Key x state parts is = rw (is, places-out, shape.outs-Key) refl

pub finds : (r : Result (Unit {0}) NoMemory) (now found some : List ℕ) (x : Shape) → places x ≡ some → OnOk r (now ≡ found ++ some) → OnOk r (now ≡ found ++ places x)
finds r now found some x e h = rw e h

pub finds-both : (r : Result (Unit {0}) NoMemory) (now middle found first second : List ℕ) (x : Shape) → places x ≡ first ++ second → middle ≡ found ++ first → OnOk r (now ≡ middle ++ second) →
    OnOk r (now ≡ found ++ places x)
finds-both r now middle found first second x e m h = rw (e, ← append_assoc found first second, ← m) h
