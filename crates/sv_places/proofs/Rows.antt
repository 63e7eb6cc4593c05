-- What each blocks change: rows that take over old ones, rows that go, and the branch for no rows.
use Rattle.std.proofs.Common.{◌≡◌, ℕ, zero, suc, ◌+◌, Bool, true, ◌||◌, List, [], ◌∷◌, ◌++◌, map, Option, Some, None, option_map, is_none, Ok, refl, sym, ap, subst, ◌∙◌, arith, slice_get, unwrap_or}
use Rattle.sv_code.specs.declared.program.Program.{Program}
use Rattle.sv_keyed.proofs.Repeats.{distinct_of}
use Rattle.sv_keyed.specs.Keys.{IsDistinct, first_repeat, place_of}
use Rattle.sv_parts.specs.Sides.{Sides, moved}
use Rattle.sv_parts.specs.State.{each, one}
use Rattle.sv_parts.specs.declared.state.State.{State}
use Rattle.sv_places.proofs.Changes.{Load, nowhere, both, Change, Ends, ends-then, ends-as, ends-if, change-on, change-as, quiet-change}
use Rattle.sv_places.proofs.Counting.{count-append, joined-map}
use Rattle.sv_places.proofs.Listing.{Lists, enumerated-ends}
use Rattle.sv_places.proofs.Loads.{loads, row_loads, load_in, load-nil, rows-nil-load, rows-cons-load}
use Rattle.sv_places.proofs.Matching.{in_rows, taken_over, none_kept, keys-kept, taken-all, same-none}
use Rattle.sv_places.proofs.Quiet.{quiet-same}
use Rattle.sv_places.proofs.Steps.{destroyed-change, after-quiet}
use Rattle.sv_places.proofs.Walks.{Follows, Walks, Makes, both-true}
use Rattle.sv_places.specs.Fits.{AllFitter, is_empty, are_once, rows_fit, each_fits}
use Rattle.sv_places.specs.Numbers.{count, numbers, numbers_all}
use Rattle.sv_plan.specs.Lists.{Head, keys_of, row_keys, gone, entry_of, enumerated, listed_anew, list_step}
use Rattle.sv_plan.specs.Plan.{Walker, row_step, rows_step, none_step, each_step}
use Rattle.sv_plan.specs.Rows.{old_found, old_row, old_parts, row_sides}
use Rattle.sv_plan.specs.declared.lists.Entry.{Entry}
use Rattle.sv_plan.specs.declared.lists.Listing.{Listing}
use Rattle.sv_shapes.specs.Places.{places, places_all}
use Rattle.sv_shapes.specs.declared.shape.Row.{Row}
use Rattle.sv_shapes.specs.Shapes.{Opened, list_in, rows_in, parts_in}
use Rattle.sv_shapes.specs.declared.shape.Shape.{Shape, Shape-F}
use Rattle.sv_shapes.specs.declared.shape.Shape.TheVariants as shape
use Rattle.sv_value.specs.declared.key.Key.{Key}

-- ---- old rows fit

abbrev parts_at : List Row → ℕ → List Shape
parts_at [] i = []
parts_at (r ∷ rs) zero = r.parts
parts_at (r ∷ rs) (suc i) = parts_at rs i

parts-at : (rows : List Row) (i j : ℕ) → old_parts (option_map (λ r. record { index = j; row = r }) (slice_get rows i)) ≡ parts_at rows i
parts-at [] i j = refl
parts-at (r ∷ rs) zero j = refl
parts-at (r ∷ rs) (suc i) j = parts-at rs i j

at-fits : (fit : AllFitter) → fit [] ≡ true → (rows : List Row) → rows_fit fit rows ≡ true → (i : ℕ) → fit (parts_at rows i) ≡ true
at-fits fit empty [] e i = empty
at-fits fit empty (r ∷ rs) e zero = (both-true (fit r.parts) (rows_fit fit rs) e).0
at-fits fit empty (r ∷ rs) e (suc i) = at-fits fit empty rs (both-true (fit r.parts) (rows_fit fit rs) e).1 i

old-fits : (fit : AllFitter) → fit [] ≡ true → (rows : List Row) → rows_fit fit rows ≡ true → (place : Option ℕ) → fit (old_parts (old_found rows place)) ≡ true
old-fits fit empty rows e None = empty
old-fits fit empty rows e (Some i) = ap fit (parts-at rows i i) ∙ at-fits fit empty rows e i

none-is : (found : Option Key) → is_none found ≡ true → found ≡ None
none-is None e = refl
none-is (Some k) e = absurd (cc)

-- ---- loads by measures

places-append : (n : ℕ) (xs ys : List Shape) → count n (places_all (xs ++ ys)) ≡ count n (places_all xs) + count n (places_all ys)
unfolding places_all
places-append n xs ys = ap (count n) (joined-map places xs ys) ∙ count-append n (places_all xs) (places_all ys)

numbers-append : (n : ℕ) (xs ys : List Shape) → count n (numbers_all (xs ++ ys)) ≡ count n (numbers_all xs) + count n (numbers_all ys)
unfolding numbers_all
numbers-append n xs ys = ap (count n) (joined-map numbers xs ys) ∙ count-append n (numbers_all xs) (numbers_all ys)

module _ (n : ℕ) where
  abbrev of_places : List Shape → ℕ
  of_places xs = count n (places_all xs)

  abbrev of_numbers : List Shape → ℕ
  of_numbers xs = count n (numbers_all xs)

  no-places : of_places [] ≡ 0
  no-places = ap (λ (l : Load). l.places) (load-nil n)

  no-numbers : of_numbers [] ≡ 0
  no-numbers = ap (λ (l : Load). l.numbers) (load-nil n)

  -- what rows with some keys take over
  abbrev taken : List Row → List Key → Load
  taken rows ks = record { places = taken_over of_places no-places (places-append n) rows ks; numbers = taken_over of_numbers no-numbers (numbers-append n) rows ks }

  rows-places : (rows : List Row) → (row_loads n rows).places ≡ in_rows of_places no-places (places-append n) rows
  rows-places [] = ap (λ (l : Load). l.places) (rows-nil-load n)
  rows-places (r ∷ rs) = ap (λ (l : Load). l.places) (rows-cons-load n r rs) ∙ ap (λ k. of_places r.parts + k) (rows-places rs)

  rows-numbers : (rows : List Row) → (row_loads n rows).numbers ≡ in_rows of_numbers no-numbers (numbers-append n) rows
  rows-numbers [] = ap (λ (l : Load). l.numbers) (rows-nil-load n)
  rows-numbers (r ∷ rs) = ap (λ (l : Load). l.numbers) (rows-cons-load n r rs) ∙ ap (λ k. of_numbers r.parts + k) (rows-numbers rs)

  -- ---- rows to come

  record RowsFollow (fit : AllFitter) (rows : List Row) (ks : List Key) (s : State) (rs : List Row) (t : State) : Type 0 where
    pub keys : row_keys rs ≡ ks
    pub fits : rows_fit fit rs ≡ true
    pub change : Change n (taken rows ks) (row_loads n rs) s t

  rows-cons : (fit : AllFitter) (rows : List Row) (k : Key) (ks : List Key) (r : Row) (rs : List Row) (s t u : State) → r.key ≡ k → fit r.parts ≡ true → Change n (loads n (old_parts (old_row rows k))) (loads n r.parts) s t →
      RowsFollow fit rows ks t rs u → RowsFollow fit rows (k ∷ ks) s (r ∷ rs) u
  rows-cons fit rows k ks r rs s t u e f c l = record {
    keys = ap (λ z. z ∷ row_keys rs) e ∙ ap (λ z. k ∷ z) l.keys;
    fits = rw (f, l.fits) refl;
    change = subst (λ b. Change n (taken rows (k ∷ ks)) b s u) (sym (rows-cons-load n r rs)) (change-on n _ _ _ _ s t u c l.change);
  }

  -- a row to come with a key
  abbrev IsOne : AllFitter → List Row → Key → State → Row → State → Type 0
  IsOne fit rows key s r t = (r.key ≡ key) × (fit r.parts ≡ true) × Change n (loads n (old_parts (old_row rows key))) (loads n r.parts) s t

  abbrev IsRow : AllFitter → List Row → Key → State → List Row → State → Type 0
  IsRow fit rows key s ys t = (r : Row) × (ys ≡ r ∷ []) × IsOne fit rows key s r t

  rows-ends : (h : Head) (fit : AllFitter) (walk : Walker) → Walks n fit walk → (at : Sides) (m num : ℕ) (rows : List Row) → rows_fit fit rows ≡ true → (i : ℕ) (entries : List Entry) (s : State) →
      Ends (RowsFollow fit rows (keys_of entries) s) (each (λ e j u. one (row_step h walk at m num (old_row rows e.key) j e u)) i entries s)
  rows-ends h fit walk k at m num rows f i [] s = record { keys = refl; fits = refl; change = subst (λ b. Change n nowhere b s s) (sym (rows-nil-load n)) (quiet-change n s s (quiet-same s)) }
  rows-ends h fit walk k at m num rows f i (e ∷ entries) s =
      ends-then (IsRow fit rows e.key s) (RowsFollow fit rows (keys_of (e ∷ entries)) s) (one (row_step h walk at m num (old_row rows e.key) i e s)) _
      (ends-then (IsOne fit rows e.key s) (IsRow fit rows e.key s) (row_step h walk at m num (old_row rows e.key) i e s) _
      (ends-then (Follows n fit (old_parts (old_row rows e.key)) s) (IsOne fit rows e.key s) (walk (row_sides h m num (old_row rows e.key) i e.item at) (old_parts (old_row rows e.key)) s) _ (k.ends _ (old_parts (old_row rows e.key)) s (old-fits fit k.empty rows f (place_of (row_keys rows) e.key))) (λ parts t c. (refl, c.0, c.1)))
      (λ r t c. (r, refl, c)))
      (λ ys t c. ends-then (RowsFollow fit rows (keys_of entries) t) (RowsFollow fit rows (keys_of (e ∷ entries)) s) _ _ (rows-ends h fit walk k at m num rows f (suc i) entries t)
      (λ rs u l. subst (λ zs. RowsFollow fit rows (keys_of (e ∷ entries)) s (zs ++ rs) u) (sym c.1) (rows-cons fit rows e.key (keys_of entries) c.0 rs s t u c.2.0 c.2.1 c.2.2 l)))

  -- ---- the branch for no rows

  record NoneFollows (last : AllFitter) (entries : List Entry) (olds : List Shape) (s : State) (none : List Shape) (t : State) : Type 0 where
    pub fits : last none ≡ true
    pub either : (is_empty entries || is_empty none) ≡ true
    pub change : Change n (loads n (none_kept entries olds)) (loads n none) s t

  none-ends : (last : AllFitter) (walk : Walker) → Walks n last walk → (at : Sides) (entries : List Entry) (olds : List Shape) (s : State) → last olds ≡ true → Ends (NoneFollows last entries olds s) (none_step walk at entries olds s)
  none-ends last walk k at [] olds s e = ends-as (Follows n last olds s) (NoneFollows last [] olds s) (walk at olds s) (λ none t l. record { fits = l.0; either = refl; change = l.1 }) (k.ends at olds s e)
  none-ends last walk k at (x ∷ entries) olds s e = record { fits = k.empty; either = refl; change = subst (λ l. Change n l l s s) (sym (load-nil n)) (quiet-change n s s (quiet-same s)) }

  -- ---- lists

  record Listed (rows : List Row) (none : List Shape) (s : State) (x : Listing) (t : State) : Type 0 where
    pub once : first_repeat (keys_of x.entries) ≡ None
    pub change : Change n (loads n (gone x.entries rows none)) nowhere s t

  anew-ends : (p : Program) (h : Head) (at : Sides) (rows : List Row) (none : List Shape) (s : State) → Ends (Listed rows none s) (listed_anew p h at rows none s)
  anew-ends p h at rows none s =
      ends-then (Lists s) (Listed rows none s) (enumerated p h at s) _ (enumerated-ends p h at s)
      (λ x t l. record { once = l.once; change = after-quiet n (loads n (gone x.entries rows none)) nowhere s t _ l.quiet (destroyed-change n (gone x.entries rows none) t) })

  -- a list that stays as it is
  same-listed : (number : ℕ) (rows : List Row) (none : List Shape) (s : State) → are_once rows ≡ true → (is_empty rows || is_empty none) ≡ true → Listed rows none s (record { number = number; entries = map entry_of rows }) s
  same-listed number rows none s o e = record {
    once = ap first_repeat (keys-kept rows) ∙ none-is (first_repeat (row_keys rows)) o;
    change = change-as n nowhere nowhere (loads n (gone (map entry_of rows) rows none)) nowhere s s (same-none of_places no-places (places-append n) rows none e) (same-none of_numbers no-numbers (numbers-append n) rows none e) refl refl (quiet-change n s s (quiet-same s));
  }

  list-ends : (p : Program) (h : Head) (at : Sides) (number : Option ℕ) (rows : List Row) (none : List Shape) (s : State) → are_once rows ≡ true → (is_empty rows || is_empty none) ≡ true → Ends (Listed rows none s) (list_step p h at number rows none s)
  list-ends p h at None rows none s o e = anew-ends p h at rows none s
  list-ends p h at (Some number) rows none s o e =
      ends-if (Listed rows none s) (moved h.list.reads at) (listed_anew p h at rows none s) (Ok (record { number = number; entries = map entry_of rows }, s)) (anew-ends p h at rows none s) (same-listed number rows none s o e)

  -- ---- each blocks as a whole

  -- what there was of one
  pub record WasList (body last : AllFitter) (old : Opened) : Type 0 where
    pub once : are_once (rows_in old) ≡ true
    pub rows : rows_fit body (rows_in old) ≡ true
    pub none : last (parts_in old) ≡ true
    pub either : (is_empty (rows_in old) || is_empty (parts_in old)) ≡ true
    pub places : (load_in n old).places ≡ (row_loads n (rows_in old)).places + (loads n (parts_in old)).places
    pub numbers : (load_in n old).numbers ≡ (row_loads n (rows_in old)).numbers + (loads n (parts_in old)).numbers

  pub list-was-not : (body last : AllFitter) → last [] ≡ true → WasList body last None
  list-was-not body last e = record {
    once = refl;
    rows = refl;
    none = e;
    either = refl;
    places = omega (arith, ap (λ (l : Load). l.places) (rows-nil-load n), no-places);
    numbers = omega (arith, ap (λ (l : Load). l.numbers) (rows-nil-load n), no-numbers);
  }

  pub list-was : (body last : AllFitter) (number : ℕ) (rows : List Row) (none : List Shape) → each_fits body last rows none ≡ true → WasList body last (Some (Shape-F.Each number rows none))
  list-was body last number rows none e =
      let a = both-true _ _ e in
      let b = both-true _ _ a.0 in
      let c = both-true _ _ b.0 in
      record { once = c.0; rows = c.1; none = b.1; either = a.1; places = refl; numbers = refl }

  -- rows and the branch for no rows, where the list is there
  list-made : (fit : Shape-F Shape Row → Bool) (body last : AllFitter) → ((number : ℕ) (rows : List Row) (none : List Shape) → fit (Shape-F.Each number rows none) ≡ each_fits body last rows none) → (old : Opened) → WasList body last old →
      (x : Listing) (rs : List Row) (none : List Shape) (s t u w : State) → Listed (rows_in old) (parts_in old) s x t → RowsFollow body (rows_in old) (keys_of x.entries) t rs u → NoneFollows last x.entries (parts_in old) u none w →
      Makes n fit old s (shape.Each x.number rs none) w
  list-made fit body last is old was x rs none s t u w c r m = record {
    over = Shape-F.Each x.number rs none;
    out = rw shape.outs-Each refl;
    fits = is x.number rs none ∙ rw (once, r.fits, m.fits, no_both x.entries rs r.keys m.either) refl;
    change =
        change-as n _ _ (load_in n old) (both (row_loads n rs) (loads n none)) s w (omega (arith, was.places, all_places, rows-places (rows_in old))) (omega (arith, was.numbers, all_numbers, rows-numbers (rows_in old))) (omega arith) (omega arith)
        (change-on n (loads n (gone x.entries (rows_in old) (parts_in old))) nowhere _ _ s t w c.change (change-on n (taken (rows_in old) (keys_of x.entries)) (row_loads n rs) (loads n (none_kept x.entries (parts_in old))) (loads n none) t u w r.change m.change));
  }
    where
      once : are_once rs ≡ true
      once = ap (λ ks. is_none (first_repeat ks)) r.keys ∙ ap is_none c.once

      old_once : IsDistinct (row_keys (rows_in old))
      old_once = distinct_of (row_keys (rows_in old)) (none-is (first_repeat (row_keys (rows_in old))) was.once)

      all_places : of_places (gone x.entries (rows_in old) (parts_in old)) + ((taken (rows_in old) (keys_of x.entries)).places + of_places (none_kept x.entries (parts_in old))) ≡ in_rows of_places no-places (places-append n) (rows_in old) + of_places (parts_in old)
      all_places = taken-all of_places no-places (places-append n) (rows_in old) (parts_in old) x.entries old_once (distinct_of (keys_of x.entries) c.once)

      all_numbers : of_numbers (gone x.entries (rows_in old) (parts_in old)) + ((taken (rows_in old) (keys_of x.entries)).numbers + of_numbers (none_kept x.entries (parts_in old))) ≡ in_rows of_numbers no-numbers (numbers-append n) (rows_in old) + of_numbers (parts_in old)
      all_numbers = taken-all of_numbers no-numbers (numbers-append n) (rows_in old) (parts_in old) x.entries old_once (distinct_of (keys_of x.entries) c.once)

      no_both : (entries : List Entry) (rs : List Row) → row_keys rs ≡ keys_of entries → (is_empty entries || is_empty none) ≡ true → (is_empty rs || is_empty none) ≡ true
      no_both [] [] e f = refl
      no_both [] (r ∷ rs) e f = absurd (cc)
      no_both (x ∷ entries) [] e f = refl
      no_both (x ∷ entries) (r ∷ rs) e f = f

  pub each-ends : (p : Program) (h : Head) (fit : Shape-F Shape Row → Bool) (body last : AllFitter) → ((number : ℕ) (rows : List Row) (none : List Shape) → fit (Shape-F.Each number rows none) ≡ each_fits body last rows none) → (walk none_walk : Walker) →
      Walks n body walk → Walks n last none_walk → (at : Sides) (old : Opened) (s : State) → WasList body last old → Ends (Makes n fit old s) (each_step p h walk none_walk at old s)
  each-ends p h fit body last is walk none_walk k l at old s was =
      ends-then (Listed (rows_in old) (parts_in old) s) (Makes n fit old s) (list_step p h at (list_in old) (rows_in old) (parts_in old) s) _ (list-ends p h at (list_in old) (rows_in old) (parts_in old) s was.once was.either)
      (λ x t c. ends-then (RowsFollow body (rows_in old) (keys_of x.entries) t) (Makes n fit old s) (rows_step h walk at (unwrap_or (list_in old) 0) x (rows_in old) t) _ (rows-ends h body walk k at (unwrap_or (list_in old) 0) x.number (rows_in old) was.rows 0 x.entries t)
      (λ rs u r. ends-then (NoneFollows last x.entries (parts_in old) u) (Makes n fit old s) (none_step none_walk at x.entries (parts_in old) u) _ (none-ends last none_walk l at x.entries (parts_in old) u was.none)
      (λ none w m. list-made fit body last is old was x rs none s t u w c r m)))
