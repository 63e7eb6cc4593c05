-- Rows that go.
use Rattle.std.proofs.Common.{◌≡◌, ℕ, zero, suc, ◌+◌, ◌<◌, ◌≤◌, Bool, true, false, List, [], ◌∷◌, ◌++◌, length, drop, get_or, map, refl, sym, ap, ◌∙◌, append_assoc, arith, Option, is_some, Result, Ok, drop-cons, add-one}
use Rattle.std.proofs.lemmas.List.{append-nil, map-append}
use Rattle.sv_keyed.specs.Keys.{place_of}
use Rattle.sv_parts.proofs.Steps.{along, goes}
use Rattle.sv_plan.specs.Lists.{gone_rows, gone_none, gone, keys_of, row_keys, place_at}
use Rattle.sv_parts.specs.State.{Outcome, andThen, Meets, destroyed}
use Rattle.sv_plan.specs.declared.lists.Entry.{Entry}
use Rattle.sv_parts.specs.declared.refusal.PatchError.{PatchError}
use Rattle.sv_parts.specs.declared.state.Effect.TheVariants.{Destroy}
use Rattle.sv_parts.specs.declared.state.State.{State}
use Rattle.sv_shapes.proofs.Tagging.{all-nil, all-cons}
use Rattle.sv_shapes.specs.Places.{places, places_all}
use Rattle.sv_shapes.specs.declared.shape.Row.{Row}
use Rattle.sv_shapes.specs.declared.shape.Shape.{Shape}
use Rattle.sv_value.specs.declared.key.Key.{Key}

all-append : (xs ys : List Shape) → places_all (xs ++ ys) ≡ places_all xs ++ places_all ys
all-append [] ys = rw all-nil refl
all-append (x ∷ xs) ys = all-cons x (xs ++ ys) ∙ ap (λ ps. places x ++ ps) (all-append xs ys) ∙ sym (append_assoc (places x) (places_all xs) (places_all ys)) ∙ ap (λ ps. ps ++ places_all ys) (sym (all-cons x xs))

-- nothing goes
destroyed-nil : (s : State) → destroyed [] s ≡ Ok (tt, s)
destroyed-nil s = rw all-nil (ap (λ es. Ok (tt, record s { effects = es })) (append-nil s.effects))

-- some shapes go, and then others
pub destroyed-append : (xs ys : List Shape) (s : State) → destroyed (xs ++ ys) s ≡ andThen (destroyed xs s) (λ _ v. destroyed ys v)
destroyed-append xs ys s = ap (λ ps. Ok (tt, record s { effects = s.effects ++ map Destroy ps })) (all-append xs ys) ∙ ap (λ es. Ok (tt, record s { effects = es })) (simp (map-append, append_assoc))

-- what was found for an item by its key
pub found-at : {A : Type 0} (find : Key → Option ℕ) (key : A → Key) (xs : List A) (i : ℕ) (x : A) → i < length xs → x ≡ get_or xs i x → place_at (map find (map key xs)) i ≡ find (key x)
found-at find key [] i x lt is = absurd (omega arith)
found-at find key (y ∷ xs) zero x lt is = ap (λ z. find (key z)) (sym is)
found-at find key (y ∷ xs) (suc i) x lt is = found-at find key xs i x (omega arith) is

pub looked-up : (keys olds : List Key) (places : List (Option ℕ)) (rows : List Row) (i : ℕ) (row : Row) (b : Bool) → i < length rows → row ≡ get_or rows i row → b ≡ is_some (place_at places i) → places ≡ map (place_of keys) olds →
    olds ≡ row_keys rows → b ≡ is_some (place_of keys row.key)
looked-up keys olds places rows i row b lt is e p o =
    e ∙ ap (λ ps. is_some (place_at ps i)) (p ∙ ap (λ ks. map (place_of keys) ks) o) ∙ ap is_some (found-at (place_of keys) (λ r. r.key) rows i row lt is)

module _ (keys : List Key) (rows : List Row) (i : ℕ) (row : Row) (all : Outcome (Unit {0})) (s : State) (h : all ≡ destroyed (gone_rows keys (drop i rows)) s) (lt : i < length rows) (is : row ≡ get_or rows i row)
    (b : Bool) (found : b ≡ is_some (place_of keys row.key)) where
  stays-at : b ≡ true → gone_rows keys (row ∷ drop (suc i) rows) ≡ gone_rows keys (drop (suc i) rows)
  stays-at e = rw (← found, e) refl

  goes-at : b ≡ false → gone_rows keys (row ∷ drop (suc i) rows) ≡ row.parts ++ gone_rows keys (drop (suc i) rows)
  goes-at e = rw (← found, e) refl

  cut : drop i rows ≡ row ∷ drop (suc i) rows
  cut = rw (drop-cons rows i row, ← is) refl

  -- a row that stays
  pub row-stays : b ≡ true → all ≡ destroyed (gone_rows keys (drop (i + 1) rows)) s
  row-stays e = h ∙ ap (λ xs. destroyed (gone_rows keys xs) s) cut ∙ ap (λ xs. destroyed xs s) (stays-at e) ∙ rw add-one refl

  -- a row that goes
  pub row-goes : b ≡ false → (v : State) (parts : List Shape) → parts ≡ row.parts → Meets {A = Unit {0}} (Ok tt) v (destroyed parts s) → all ≡ destroyed (gone_rows keys (drop (i + 1) rows)) v
  row-goes e v parts p m =
      h ∙ ap (λ xs. destroyed (gone_rows keys xs) s) cut ∙ ap (λ xs. destroyed xs s) (goes-at e) ∙ destroyed-append row.parts (gone_rows keys (drop (suc i) rows)) s
      ∙ ap (λ xs. andThen (destroyed xs s) (λ _ v. destroyed (gone_rows keys (drop (suc i) rows)) v)) (sym p) ∙ ap (λ o. andThen o (λ _ v. destroyed (gone_rows keys (drop (suc i) rows)) v)) m.meets ∙ rw add-one refl

over : {A : Type 0} (xs : List A) (k : ℕ) → length xs ≤ k → drop k xs ≡ []
over [] zero le = refl
over [] (suc k) le = refl
over (x ∷ xs) zero le = absurd (omega arith)
over (x ∷ xs) (suc k) le = over xs k (omega arith)

pub rows-end : (keys : List Key) (rows : List Row) (i : ℕ) (all : Outcome (Unit {0})) (s : State) → all ≡ destroyed (gone_rows keys (drop i rows)) s → length rows ≤ i → Meets (Ok tt) s all
rows-end keys rows i all s h le = record { meets = h ∙ ap (λ xs. destroyed (gone_rows keys xs) s) (over rows i le) ∙ destroyed-nil s }

-- rows, and then the branch for no rows
pub none-goes : (r : Result (Unit {0}) PatchError) (keys : List Key) (entries : List Entry) (rows : List Row) (none : List Shape) (s v u : State) → keys ≡ keys_of entries → Meets (Ok tt) v (destroyed (gone_rows keys rows) s) →
    Meets r u (destroyed (gone_none entries none) v) → Meets r u (destroyed (gone entries rows none) s)
none-goes r keys entries rows none s v u e m n =
    along r u _ _ (destroyed-append (gone_rows (keys_of entries) rows) (gone_none entries none) s ∙ ap (λ ks. andThen (destroyed (gone_rows ks rows) s) (λ _ v. destroyed (gone_none entries none) v)) (sym e))
    (goes tt v u r (destroyed (gone_rows keys rows) s) (λ _ w. destroyed (gone_none entries none) w) m n)
