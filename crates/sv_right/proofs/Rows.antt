-- The rows of each blocks, and the branch for no rows.
use Rattle.std.proofs.Common.{◌≡◌, ◌⊎◌, inl, inr, ℕ, zero, suc, ◌<◌, ◌≤◌, List, [], ◌∷◌, map, Option, Some, None, option_map, unwrap_or, refl, sym, ap, ◌∙◌, subst, arith, Ok}
use Rattle.std.specs.Prelude.{slice_get}
use Rattle.sv_code.proofs.Each.{each_front, each_back, each_append}
use Rattle.sv_code.specs.Names.{Each}
use Rattle.sv_code.specs.declared.program.Program.{Program}
use Rattle.sv_keyed.specs.Keys.{first_repeat, place_of}
use Rattle.sv_local.specs.Versions.{AreVersions}
use Rattle.sv_parts.specs.Sides.{Sides}
use Rattle.sv_parts.specs.State.{andThen}
use Rattle.sv_parts.specs.declared.state.State.{State}
use Rattle.sv_plan.specs.Lists.{Head, row_view, row_keys, entry_of, list_step}
use Rattle.sv_plan.specs.Plan as plans
use Rattle.sv_plan.specs.Rows.{OldRow, old_found, old_row, row_sides, old_parts}
use Rattle.sv_plan.specs.declared.lists.Entry.{Entry}
use Rattle.sv_plan.specs.declared.lists.Listing.{Listing}
use Rattle.sv_right.proofs.Forms.{Content}
use Rattle.sv_right.proofs.Keys.{place_is}
use Rattle.sv_right.proofs.Listing.{IsListed, Lists, WereRows, HeadFits, list_after}
use Rattle.sv_right.proofs.Lists.{Along, Matched, along_mono, along_of, along_at, each_there, some_same, matched_mono, matched_same, each_after}
use Rattle.sv_right.proofs.Standing.{Start, WasTrue, StaysTrue, Layer, WasLayer, StaysLayer, NowAll, Below, WereAll, StayAll, made, layer_versions, parts_below, below_on, were_on, holds_on, joined_at, versions_row, each_along, along_each}
use Rattle.sv_right.proofs.Steps.{After, then_after, more_after, Grows, grows_same, grows_on}
use Rattle.sv_right.proofs.Views.{row_later}
use Rattle.sv_right.specs.Claims.{Walker, OfEach, rows_claims, none_claims, each_claims}
use Rattle.sv_right.specs.Given.{versions_in, versions_all, versions_rows}
use Rattle.sv_right.specs.Later.{AreAllLater}
use Rattle.sv_right.specs.Right.{IsThere, IsNoneIdle, AreRowsTrue, key_at}
use Rattle.sv_shapes.specs.Shapes.{Opened, list_in, rows_in, parts_in}
use Rattle.sv_shapes.specs.declared.shape.Row.{Row}
use Rattle.sv_shapes.specs.declared.shape.Shape.{Shape, Shape-F}
use Rattle.sv_shapes.specs.declared.shape.Shape.TheVariants as shape
use Rattle.sv_view.specs.Level.{View}

-- ---- the row that had a key

-- it stands where it was found
found_there : (rows : List Row) (place : Option ℕ) (old : OldRow) → old_found rows place ≡ Some old → slice_get rows old.index ≡ Some old.row
found_there rows None old e = absurd (cc)
found_there rows (Some i) old e = by (slice_get rows i) refl e
  where
    by : (o : Option Row) → slice_get rows i ≡ o → option_map (λ r. record { index = i; row = r }) o ≡ Some old → slice_get rows old.index ≡ Some old.row
    by None is q = absurd (cc)
    by (Some r) is q = subst (λ (z : OldRow). slice_get rows z.index ≡ Some z.row) (some_same q) is

-- a row whose key stands once is found where it stands
row_again : (rows : List Row) (i : ℕ) (row : Row) → first_repeat (row_keys rows) ≡ None → slice_get rows i ≡ Some row → old_row rows row.key ≡ Some (record { index = i; row = row })
row_again rows i row once e = ap (old_found rows) (place_is (row_keys rows) i row.key once (key_there rows i e)) ∙ ap (option_map (λ r. record { index = i; row = r })) e
  where
    key_there : (rs : List Row) (j : ℕ) → slice_get rs j ≡ Some row → slice_get (row_keys rs) j ≡ Some row.key
    key_there [] j q = absurd (cc)
    key_there (r ∷ rs) zero q = ap (option_map (λ z. z.key)) q
    key_there (r ∷ rs) (suc j) q = key_there rs j q

-- ---- rows to come

-- what is known of the rows that were there, as far as their content goes
record WereParts (p : Program) (start : Start) (h : Head) (claims : Walker) (at : Sides) (m k : ℕ) (rows : List Row) : Type 0 where
  since : start.next ≤ k
  later : AreAllLater start.views at.old at.new
  right : Along (λ (row : Row) i. Each (WasTrue p start) (claims (row_view h m i row.item at.old) row.parts)) 0 rows
  below : Below k (versions_rows rows)

-- the content of the row that had the key of an entry
abbrev WasRow : Program → Start → Head → Walker → Sides → ℕ → ℕ → List Row → ℕ → Entry → ℕ → Type 0
WasRow p start h claims at m n rows k e i = WereAll p start claims (row_sides h m n (old_row rows e.key) i e.item at) k (old_parts (old_row rows e.key))

-- a row of the same list is the same row
abbrev IsSameRow : ℕ → ℕ → List Row → Entry → ℕ → Type 0
IsSameRow m n rows e i = (old : OldRow) → old_row rows e.key ≡ Some old → m ≡ n → (old.row.item ≡ e.item) × (old.index ≡ i)

was_row : (p : Program) (start : Start) (h : Head) (claims : Walker) (at : Sides) (m n k : ℕ) (rows : List Row) (e : Entry) (i : ℕ) → WereParts p start h claims at m k rows → m ≤ n → IsSameRow m n rows e i →
    WasRow p start h claims at m n rows k e i
was_row p start h claims at m n k rows e i were le same = by (old_row rows e.key) refl
  where
    by : (o : Option OldRow) → old_row rows e.key ≡ o → WereAll p start claims (row_sides h m n o i e.item at) k (old_parts o)
    by None is = (were.since, inl refl)
    by (Some old) is =
        let there = found_there rows (place_of (row_keys rows) e.key) old is in (
          were.since,
          inr (
            row_later start.views h m n old.index i old.row.item e.item at.old at.new le (λ q. (same old is q).0) (λ q. (same old is q).1) were.later,
            record {
              right = along_at (λ (row : Row) j. Each (WasTrue p start) (claims (row_view h m j row.item at.old) row.parts)) rows old.index old.row were.right there;
              below = subst (Below k) (versions_row old.row) (joined_at (λ z. z < k) versions_in rows old.index old.row were.below there);
            },
          ),
        )

-- where the list has another number, rows are other ones
apart_rows : (m n : ℕ) (rows : List Row) (entries : List Entry) → m < n → Along (IsSameRow m n rows) 0 entries
apart_rows m n rows entries lt = along_of (IsSameRow m n rows) (λ e i old is q. absurd (omega (arith, lt, q))) 0 entries

-- where they stay, each is the one that it was
same_rows : (m n : ℕ) (rows : List Row) → first_repeat (row_keys rows) ≡ None → Along (IsSameRow m n rows) 0 (map entry_of rows)
same_rows m n rows once = go 0 rows (each_there rows)
  where
    go : (i : ℕ) (rs : List Row) → Along (λ row j. slice_get rows j ≡ Some row) i rs → Along (IsSameRow m n rows) i (map entry_of rs)
    go i [] q = tt
    go i (row ∷ rs) q = (
      (λ old is _. let same = some_same (sym (row_again rows i row once q.0) ∙ is) in (ap (λ (z : OldRow). z.row.item) (sym same), ap (λ (z : OldRow). z.index) (sym same))),
      go (suc i) rs q.1,
    )

-- a row has its entry's key and item, and its content is right on its view
record IsRow (p : Program) (start : Start) (h : Head) (claims : Walker) (n : ℕ) (v : View) (k : ℕ) (e : Entry) (i : ℕ) (row : Row) : Type 0 where
  key : row.key ≡ e.key
  item : row.item ≡ e.item
  now : NowAll p start claims (row_view h n i row.item v) k row.parts

-- each row has the content of its entry
abbrev AreRows : Program → Start → Head → Walker → ℕ → View → ℕ → ℕ → List Entry → List Row → Type 0
AreRows p start h claims n v k i entries rows = Matched (IsRow p start h claims n v k) i entries rows

row_after : (p : Program) (start : Start) (h : Head) (walk : plans.Walker) (claims : Walker) (at : Sides) (m n : ℕ) (rows : List Row) (e : Entry) (i : ℕ) (s : State) → StayAll p start walk claims →
    WasRow p start h claims at m n rows s.counters.next e i →
    After (plans.row_step h walk at m n (old_row rows e.key) i e s) (λ row u. IsRow p start h claims n at.new u.counters.next e i row × Grows s u)
row_after p start h walk claims at m n rows e i s stay was =
    then_after (walk (row_sides h m n (old_row rows e.key) i e.item at) (old_parts (old_row rows e.key)) s) (λ parts u. Ok (record { key = e.key; item = e.item; parts = parts }, u))
    (Content p start claims (row_view h n i e.item at.new) s) (λ row u. IsRow p start h claims n at.new u.counters.next e i row × Grows s u)
    (stay (row_sides h m n (old_row rows e.key) i e.item at) (old_parts (old_row rows e.key)) s was) (λ parts u q. (record { key = refl; item = refl; now = q.0 }, q.1))

row_on : (p : Program) (start : Start) (h : Head) (claims : Walker) (n : ℕ) (v : View) (k k' : ℕ) (e : Entry) (i : ℕ) (row : Row) → k ≤ k' → IsRow p start h claims n v k e i row → IsRow p start h claims n v k' e i row
row_on p start h claims n v k k' e i row le r = record { key = r.key; item = r.item; now = holds_on (StaysTrue p start) (claims (row_view h n i row.item v) row.parts) k k' (versions_all row.parts) le r.now }

rows_after : (p : Program) (start : Start) (h : Head) (walk : plans.Walker) (claims : Walker) (at : Sides) (m : ℕ) (x : Listing) (rows : List Row) (s : State) → StayAll p start walk claims →
    Along (WasRow p start h claims at m x.number rows s.counters.next) 0 x.entries → After (plans.rows_step h walk at m x rows s) (λ rs u. AreRows p start h claims x.number at.new u.counters.next 0 x.entries rs × Grows s u)
rows_after p start h walk claims at m x rows s stay were =
    each_after (λ e i u. plans.row_step h walk at m x.number (old_row rows e.key) i e u) (WasRow p start h claims at m x.number rows) (IsRow p start h claims x.number at.new)
    (λ e i k k' le q. were_on p start claims (row_sides h m x.number (old_row rows e.key) i e.item at) k k' le (old_parts (old_row rows e.key)) q)
    (λ e i row k k' le q. row_on p start h claims x.number at.new k k' e i row le q) (λ e i u q. row_after p start h walk claims at m x.number rows e i u stay q) 0 x.entries s were

-- ---- what follows of rows

rows_right : (p : Program) (start : Start) (h : Head) (claims : Walker) (n : ℕ) (v : View) (k i : ℕ) (entries : List Entry) (rows : List Row) → AreRows p start h claims n v k i entries rows →
    Along (λ (row : Row) j. Each (StaysTrue p start) (claims (row_view h n j row.item v) row.parts)) i rows
rows_right p start h claims n v k i [] [] are = tt
rows_right p start h claims n v k i [] (r ∷ rows) are = absurd are
rows_right p start h claims n v k i (e ∷ entries) [] are = absurd are
rows_right p start h claims n v k i (e ∷ entries) (r ∷ rows) are = (are.0.now.right, rows_right p start h claims n v k (suc i) entries rows are.1)

rows_below : (p : Program) (start : Start) (h : Head) (claims : Walker) (n : ℕ) (v : View) (k i : ℕ) (entries : List Entry) (rows : List Row) → AreRows p start h claims n v k i entries rows → Below k (versions_rows rows)
rows_below p start h claims n v k i [] [] are = tt
rows_below p start h claims n v k i [] (r ∷ rows) are = absurd are
rows_below p start h claims n v k i (e ∷ entries) [] are = absurd are
rows_below p start h claims n v k i (e ∷ entries) (r ∷ rows) are =
    each_append (λ z. z < k) (versions_in r) (versions_rows rows) (subst (Below k) (sym (versions_row r)) are.0.now.below) (rows_below p start h claims n v k (suc i) entries rows are.1)

rows_keyed : (p : Program) (start : Start) (h : Head) (claims : Walker) (n : ℕ) (v : View) (k i : ℕ) (entries : List Entry) (rows : List Row) → AreRows p start h claims n v k i entries rows →
    Along (λ (e : Entry) j. key_at p h n v j e.item ≡ Some e.key) i entries → Along (λ (row : Row) j. key_at p h n v j row.item ≡ Some row.key) i rows
rows_keyed p start h claims n v k i [] [] are keys = tt
rows_keyed p start h claims n v k i [] (r ∷ rows) are keys = absurd are
rows_keyed p start h claims n v k i (e ∷ entries) [] are keys = absurd are
rows_keyed p start h claims n v k i (e ∷ entries) (r ∷ rows) are keys =
    (ap (key_at p h n v i) are.0.item ∙ keys.0 ∙ ap Some (sym are.0.key), rows_keyed p start h claims n v k (suc i) entries rows are.1 keys.1)

rows_true : (p : Program) (start : Start) (h : Head) (claims : Walker) (v : View) (k : ℕ) (x : Listing) (rows : List Row) (none : List Shape) → IsListed p h v x → AreRows p start h claims x.number v k 0 x.entries rows → IsNoneIdle rows none →
    AreRowsTrue p h v (Some (Shape-F.Each x.number rows none))
rows_true p start h claims v k x rows none listed are idle = record {
  is = tt;
  items = listed.items ∙ ap Some (sym (matched_same (λ (e : Entry). e.item) (λ (row : Row). row.item) 0 x.entries rows (matched_mono (IsRow p start h claims x.number v k) (λ e i row. row.item ≡ e.item) (λ e i row r. r.item) 0 x.entries rows are)));
  keys = λ i row e. along_at (λ (r : Row) j. key_at p h x.number v j r.item ≡ Some r.key) rows i row (rows_keyed p start h claims x.number v k 0 x.entries rows are listed.keys) e;
  once = ap first_repeat (matched_same (λ (e : Entry). e.key) (λ (row : Row). row.key) 0 x.entries rows (matched_mono (IsRow p start h claims x.number v k) (λ e i row. row.key ≡ e.key) (λ e i row r. r.key) 0 x.entries rows are)) ∙ listed.once;
  idle = idle;
}

-- ---- the branch for no rows

-- it is right where there are no rows, and else nothing is held of it
record IsNone (p : Program) (start : Start) (claims : Walker) (v : View) (rows : List Row) (s : State) (parts : List Shape) (u : State) : Type 0 where
  right : Each (StaysTrue p start) (none_claims claims v rows parts)
  idle : IsNoneIdle rows parts
  below : Below u.counters.next (versions_all parts)
  grows : Grows s u

none_after : (p : Program) (start : Start) (h : Head) (body : Walker) (walk : plans.Walker) (claims : Walker) (at : Sides) (n k : ℕ) (entries : List Entry) (rows : List Row) (parts : List Shape) (s : State) →
    AreRows p start h body n at.new k 0 entries rows → StayAll p start walk claims → WereAll p start claims at s.counters.next parts → After (plans.none_step walk at entries parts s) (IsNone p start claims at.new rows s)
none_after p start h body walk claims at n k [] [] parts s are stay were =
    more_after (walk at parts s) (Content p start claims at.new s) (IsNone p start claims at.new [] s) (stay at parts s were) (λ xs u q. record { right = q.0.right; idle = tt; below = q.0.below; grows = q.1 })
none_after p start h body walk claims at n k [] (r ∷ rows) parts s are stay were = absurd are
none_after p start h body walk claims at n k (e ∷ entries) [] parts s are stay were = absurd are
none_after p start h body walk claims at n k (e ∷ entries) (r ∷ rows) parts s are stay were = record { right = tt; idle = refl; below = tt; grows = grows_same s }

-- ---- each blocks

-- what is claimed of an each block
abbrev pub each_layer : Head → Walker → Walker → Layer
each_layer h claims none v held = OfEach h v held ∷ each_claims h claims none v held

-- what is known of an each block that was there
numbers_below : (k n : ℕ) (o : Shape-F Shape Row) → Below k (layer_versions o) → list_in (Some o) ≡ Some n → n < k
numbers_below k n (Shape-F.Each number rows none) h e = subst (λ z. z < k) (some_same e) h.0
numbers_below k n (Shape-F.Literal mark) h e = absurd (cc)
numbers_below k n (Shape-F.Text mark text) h e = absurd (cc)
numbers_below k n (Shape-F.Element mark typed states parts) h e = absurd (cc)
numbers_below k n (Shape-F.Tag place texts) h e = absurd (cc)
numbers_below k n Shape-F.Nothing h e = absurd (cc)
numbers_below k n (Shape-F.Slot props parts) h e = absurd (cc)
numbers_below k n (Shape-F.If arm parts) h e = absurd (cc)
numbers_below k n (Shape-F.Key state parts) h e = absurd (cc)

olds_below : (k : ℕ) (o : Shape-F Shape Row) → Below k (layer_versions o) → Below k (versions_rows (rows_in (Some o)))
olds_below k (Shape-F.Each number rows none) h = each_front (λ z. z < k) (versions_rows rows) (versions_all none) h.1
olds_below k (Shape-F.Literal mark) h = tt
olds_below k (Shape-F.Text mark text) h = tt
olds_below k (Shape-F.Element mark typed states parts) h = tt
olds_below k (Shape-F.Tag place texts) h = tt
olds_below k Shape-F.Nothing h = tt
olds_below k (Shape-F.Slot props parts) h = tt
olds_below k (Shape-F.If arm parts) h = tt
olds_below k (Shape-F.Key state parts) h = tt

were_rows : (p : Program) (start : Start) (h : Head) (claims none : Walker) (at : Sides) (k n : ℕ) (held : Opened) → WasLayer p start (each_layer h claims none) at k held → list_in held ≡ Some n → WereRows p h at n k (rows_in held)
were_rows p start h claims none at k n None was e = absurd (cc)
were_rows p start h claims none at k n (Some o) was e = record {
  versions = was.1.0.own.versions;
  items = was.1.1.right.0.0.items;
  keys = λ i row q. subst (λ z. key_at p h z at.old i row.item ≡ Some row.key) (ap (λ z. unwrap_or z 0) e) (was.1.1.right.0.0.keys i row q);
  once = was.1.1.right.0.0.once;
  below = numbers_below k n o was.1.1.below e;
}

were_contents : (p : Program) (start : Start) (h : Head) (claims none : Walker) (at : Sides) (k k' : ℕ) (o : Shape-F Shape Row) → WasLayer p start (each_layer h claims none) at k (Some o) → k ≤ k' →
    WereParts p start h claims at (unwrap_or (list_in (Some o)) 0) k' (rows_in (Some o))
were_contents p start h claims none at k k' o was le = record {
  since = omega (arith, was.0, le);
  later = was.1.0;
  right = along_each (WasTrue p start) (λ (row : Row) i. claims (row_view h (unwrap_or (list_in (Some o)) 0) i row.item at.old) row.parts) 0 (rows_in (Some o))
      (each_front (WasTrue p start) (rows_claims h claims (unwrap_or (list_in (Some o)) 0) at.old (rows_in (Some o))) (none_claims none at.old (rows_in (Some o)) (parts_in (Some o))) was.1.1.right.1);
  below = below_on k k' le (versions_rows (rows_in (Some o))) (olds_below k o was.1.1.below);
}

is_there : (o : Option ℕ) → IsThere o → o ≡ Some (unwrap_or o 0)
is_there None h = absurd h
is_there (Some n) h = refl

were_each : (p : Program) (start : Start) (h : Head) (claims none : Walker) (at : Sides) (held : Opened) (s v : State) (x : Listing) → WasLayer p start (each_layer h claims none) at s.counters.next held →
    Lists p h at (list_in held) (rows_in held) s x v → Along (WasRow p start h claims at (unwrap_or (list_in held) 0) x.number (rows_in held) v.counters.next) 0 x.entries
were_each p start h claims none at None s v x was l = along_of (WasRow p start h claims at 0 x.number [] v.counters.next) (λ e i. (omega (arith, was.0, l.grows), inl refl)) 0 x.entries
were_each p start h claims none at (Some o) s v x was l = by l.numbered
  where
    with_same : unwrap_or (list_in (Some o)) 0 ≤ x.number → Along (IsSameRow (unwrap_or (list_in (Some o)) 0) x.number (rows_in (Some o))) 0 x.entries →
        Along (WasRow p start h claims at (unwrap_or (list_in (Some o)) 0) x.number (rows_in (Some o)) v.counters.next) 0 x.entries
    with_same le same =
        along_mono (IsSameRow (unwrap_or (list_in (Some o)) 0) x.number (rows_in (Some o))) (WasRow p start h claims at (unwrap_or (list_in (Some o)) 0) x.number (rows_in (Some o)) v.counters.next)
        (λ e i q. was_row p start h claims at (unwrap_or (list_in (Some o)) 0) x.number v.counters.next (rows_in (Some o)) e i
        (were_contents p start h claims none at s.counters.next v.counters.next o was l.grows) le q) 0 x.entries same

    by : (s.counters.next ≤ x.number) ⊎ (AreVersions at.old at.new × ((list_in (Some o) ≡ Some x.number) × (x.entries ≡ map entry_of (rows_in (Some o))))) →
        Along (WasRow p start h claims at (unwrap_or (list_in (Some o)) 0) x.number (rows_in (Some o)) v.counters.next) 0 x.entries
    by (inl le) =
        let lt = numbers_below s.counters.next (unwrap_or (list_in (Some o)) 0) o was.1.1.below (is_there (list_in (Some o)) was.1.1.right.0.0.is) in
        with_same (omega (arith, lt, le)) (apart_rows (unwrap_or (list_in (Some o)) 0) x.number (rows_in (Some o)) x.entries (omega (arith, lt, le)))
    by (inr q) =
        let same : unwrap_or (list_in (Some o)) 0 ≡ x.number = ap (λ z. unwrap_or z 0) q.1.0 in
        with_same (omega (arith, same))
        (subst (λ es. Along (IsSameRow (unwrap_or (list_in (Some o)) 0) x.number (rows_in (Some o))) 0 es) (sym q.1.1)
        (same_rows (unwrap_or (list_in (Some o)) 0) x.number (rows_in (Some o)) was.1.1.right.0.0.once))

were_none : (p : Program) (start : Start) (h : Head) (claims none : Walker) (at : Sides) (k : ℕ) (held : Opened) → WasLayer p start (each_layer h claims none) at k held → WereAll p start none at k (parts_in held)
were_none p start h claims none at k None was = (was.0, inl refl)
were_none p start h claims none at k (Some o) was =
    by (rows_in (Some o)) was.1.1.right.0.0.idle
    (each_back (WasTrue p start) (rows_claims h claims (unwrap_or (list_in (Some o)) 0) at.old (rows_in (Some o))) (none_claims none at.old (rows_in (Some o)) (parts_in (Some o))) was.1.1.right.1)
  where
    by : (rows : List Row) → IsNoneIdle rows (parts_in (Some o)) → Each (WasTrue p start) (none_claims none at.old rows (parts_in (Some o))) → WereAll p start none at k (parts_in (Some o))
    by [] idle h = (was.0, inr (was.1.0, record { right = h; below = parts_below k o was.1.1.below }))
    by (r ∷ rows) idle h = (was.0, inl idle)

pub each_stays : (p : Program) (start : Start) (h : Head) (walk : plans.Walker) (claims : Walker) (none_walk : plans.Walker) (none : Walker) → HeadFits p h → StayAll p start walk claims → StayAll p start none_walk none →
    StaysLayer p start (λ at held s. plans.each_step p h walk none_walk at held s) (each_layer h claims none)
each_stays p start h walk claims none_walk none fits stay stay_none at held s was =
    then_after (list_step p h at (list_in held) (rows_in held) (parts_in held) s) (λ x v. plans.listed_step h walk none_walk at (list_in held) (rows_in held) (parts_in held) x v)
    (Lists p h at (list_in held) (rows_in held) s) _
    (list_after p h at (list_in held) (rows_in held) (parts_in held) s fits (λ n e. were_rows p start h claims none at s.counters.next n held was e))
    (λ x v l. then_after (plans.rows_step h walk at (unwrap_or (list_in held) 0) x (rows_in held) v) (λ rs w. andThen (plans.none_step none_walk at x.entries (parts_in held) w) (λ idle u. Ok (shape.Each x.number rs idle, u)))
    (λ rs w. AreRows p start h claims x.number at.new w.counters.next 0 x.entries rs × Grows v w) _
    (rows_after p start h walk claims at (unwrap_or (list_in held) 0) x (rows_in held) v stay (were_each p start h claims none at held s v x was l))
    (λ rs w r. then_after (plans.none_step none_walk at x.entries (parts_in held) w) (λ idle u. Ok (shape.Each x.number rs idle, u)) (IsNone p start none at.new rs w) _
    (none_after p start h claims none_walk none at x.number w.counters.next x.entries rs (parts_in held) w r.0 stay_none
    (were_on p start none at s.counters.next w.counters.next (grows_on s v w l.grows r.1) (parts_in held) (were_none p start h claims none at s.counters.next held was)))
    (λ idle u q. (
      made p start (each_layer h claims none) at.new u.counters.next (shape.Each x.number rs idle) (Shape-F.Each x.number rs idle) (shape.outs-Each x.number rs idle)
          (record {
            right = (
              (rows_true p start h claims at.new w.counters.next x rs idle l.listed r.0 q.idle, tt),
              each_append (StaysTrue p start) (rows_claims h claims x.number at.new rs) (none_claims none at.new rs idle)
                  (each_along (StaysTrue p start) (λ (row : Row) i. claims (row_view h x.number i row.item at.new) row.parts) 0 rs (rows_right p start h claims x.number at.new w.counters.next 0 x.entries rs r.0)) q.right,
            );
            below = (
              omega (arith, l.below, r.1, q.grows),
              each_append (λ z. z < u.counters.next) (versions_rows rs) (versions_all idle)
                  (below_on w.counters.next u.counters.next q.grows (versions_rows rs) (rows_below p start h claims x.number at.new w.counters.next 0 x.entries rs r.0)) q.below,
            );
          }),
      grows_on s v u l.grows (grows_on v w u r.1 q.grows),
    ))))
