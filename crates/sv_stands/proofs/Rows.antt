-- What each blocks lend: rows that take over old ones, and the branch for no rows.
use Rattle.std.proofs.Common.{◌≡◌, ℕ, zero, suc, ◌+◌, true, List, [], ◌∷◌, ◌++◌, map, Option, Some, None, option_map, Ok, refl, sym, subst, ◌∙◌, arith, slice_get}
use Rattle.sv_code.specs.declared.program.Program.{Program}
use Rattle.sv_keyed.specs.Keys.{place_of}
use Rattle.sv_parts.specs.Sides.{Sides, moved}
use Rattle.sv_parts.specs.State.{each, one}
use Rattle.sv_parts.specs.declared.state.State.{State}
use Rattle.sv_places.proofs.Changes.{Ends, ends-then, ends-if}
use Rattle.sv_places.proofs.Listing.{Lists, enumerated-ends}
use Rattle.sv_places.proofs.Walks.{both-true}
use Rattle.sv_places.specs.Fits.{AllFitter, rows_fit}
use Rattle.sv_plan.specs.Lists.{Head, row_view, row_keys, gone, entry_of, enumerated, listed_anew, list_step}
use Rattle.sv_plan.specs.Plan.{Walker, row_step, none_step}
use Rattle.sv_plan.specs.Rows.{OldRow, old_found, old_row, old_view, old_parts, row_sides}
use Rattle.sv_plan.specs.declared.lists.Entry.{Entry}
use Rattle.sv_shapes.specs.declared.shape.Row.{Row}
use Rattle.sv_shapes.specs.declared.shape.Shape.{Shape}
use Rattle.sv_stands.proofs.Lending.{Within, within_same, within_front, within_back, within_on, within_none, within_both, lent_within, lent_on, Silent, quiet_silent, silent_same, silent_on, lent_none}
use Rattle.sv_stands.proofs.Walks.{Walks, Lending, destroyed_silent}
use Rattle.sv_stands.specs.Holds.{Hold, AllHolder, rows_hold}
use Rattle.sv_stands.specs.Lent.{PlanLends}
use Rattle.sv_view.specs.Level.{View}

-- ---- old rows

module _ (p : Program) (h : Head) (fit : AllFitter) (hold : AllHolder) (walk : Walker) (k : Walks p fit hold walk) where
  -- the holds in a row that there was
  abbrev held_old : ℕ → View → Option OldRow → List Hold
  held_old m v old = hold (old_view h m old v) (old_parts old)

  abbrev found : ℕ → Option Row → Option OldRow
  found j o = option_map (λ r. record { index = j; row = r }) o

  -- they are among those of all rows
  found_within : (m : ℕ) (v : View) (rows : List Row) (i j n : ℕ) → n ≡ i + j → Within (held_old m v (found n (slice_get rows j))) (rows_hold h hold m v i rows)
  found_within m v [] i j n e = subst (λ hs. Within hs []) (sym (k.none v)) (within_same [])
  found_within m v (r ∷ rows) i zero n e = subst (λ z. Within (hold (row_view h m z r.item v) r.parts) (rows_hold h hold m v i (r ∷ rows))) (sym (e ∙ omega arith)) (within_front (hold (row_view h m i r.item v) r.parts) (rows_hold h hold m v (suc i) rows))
  found_within m v (r ∷ rows) i (suc j) n e =
      within_on (held_old m v (found n (slice_get rows j))) (rows_hold h hold m v (suc i) rows) (rows_hold h hold m v i (r ∷ rows)) (found_within m v rows (suc i) j n (e ∙ omega arith)) (within_back (hold (row_view h m i r.item v) r.parts) (rows_hold h hold m v (suc i) rows))

  old_within : (m : ℕ) (v : View) (rows : List Row) (place : Option ℕ) → Within (held_old m v (old_found rows place)) (rows_hold h hold m v 0 rows)
  old_within m v rows None = subst (λ hs. Within hs (rows_hold h hold m v 0 rows)) (sym (k.none v)) (within_none (rows_hold h hold m v 0 rows))
  old_within m v rows (Some j) = found_within m v rows 0 j j (omega arith)

  -- they fit
  found_fits : (rows : List Row) (j n : ℕ) → rows_fit fit rows ≡ true → fit (old_parts (found n (slice_get rows j))) ≡ true
  found_fits [] j n e = k.empty
  found_fits (r ∷ rows) zero n e = (both-true (fit r.parts) (rows_fit fit rows) e).0
  found_fits (r ∷ rows) (suc j) n e = found_fits rows j n (both-true (fit r.parts) (rows_fit fit rows) e).1

  old_fits : (rows : List Row) (place : Option ℕ) → rows_fit fit rows ≡ true → fit (old_parts (old_found rows place)) ≡ true
  old_fits rows None e = k.empty
  old_fits rows (Some j) e = found_fits rows j j e

  -- ---- rows to come

  module _ (at : Sides) (m n : ℕ) (rows : List Row) (f : rows_fit fit rows ≡ true) where
    abbrev befores : List Hold
    befores = rows_hold h hold m at.old 0 rows

    -- a row to come with a number
    abbrev IsRow : ℕ → State → Row → State → Type 0
    IsRow i s r t = PlanLends p befores (hold (row_view h n i r.item at.new) r.parts) s t

    abbrev AreRows : ℕ → State → List Row → State → Type 0
    AreRows i s rs t = PlanLends p befores (rows_hold h hold n at.new i rs) s t

    row_ends : (i : ℕ) (e : Entry) (s : State) → Ends (IsRow i s) (row_step h walk at m n (old_row rows e.key) i e s)
    row_ends i e s =
        ends-then (Lending p hold (row_sides h m n (old_row rows e.key) i e.item at) (old_parts (old_row rows e.key)) s) (IsRow i s) (walk (row_sides h m n (old_row rows e.key) i e.item at) (old_parts (old_row rows e.key)) s) _
        (k.ends (row_sides h m n (old_row rows e.key) i e.item at) (old_parts (old_row rows e.key)) s (old_fits rows (place_of (row_keys rows) e.key) f))
        (λ parts t l. lent_within p (held_old m at.old (old_row rows e.key)) befores (hold (row_view h n i e.item at.new) parts) s t (old_within m at.old rows (place_of (row_keys rows) e.key)) l)

    rows_cons : (i : ℕ) (r : Row) (rs : List Row) (s t u : State) → IsRow i s r t → AreRows (suc i) t rs u → AreRows i s (r ∷ rs) u
    rows_cons i r rs s t u c l =
        lent_within p (befores ++ befores) befores (rows_hold h hold n at.new i (r ∷ rs)) s u (within_both befores befores befores (within_same befores) (within_same befores))
        (lent_on p befores (hold (row_view h n i r.item at.new) r.parts) befores (rows_hold h hold n at.new (suc i) rs) s t u c l)

    pub rows_end : (i : ℕ) (entries : List Entry) (s : State) → Ends (AreRows i s) (each (λ e j u. one (row_step h walk at m n (old_row rows e.key) j e u)) i entries s)
    rows_end i [] s = lent_none p befores s s (silent_same p s)
    rows_end i (e ∷ entries) s =
        ends-then (λ ys t. (r : Row) × (ys ≡ r ∷ []) × IsRow i s r t) (AreRows i s) (one (row_step h walk at m n (old_row rows e.key) i e s)) _
        (ends-then (IsRow i s) (λ ys t. (r : Row) × (ys ≡ r ∷ []) × IsRow i s r t) (row_step h walk at m n (old_row rows e.key) i e s) _ (row_ends i e s) (λ r t c. (r, refl, c)))
        (λ ys t c. ends-then (AreRows (suc i) t) (AreRows i s) _ _ (rows_end (suc i) entries t) (λ rs u l. subst (λ zs. AreRows i s (zs ++ rs) u) (sym c.1) (rows_cons i c.0 rs s t u c.2 l)))

-- ---- the branch for no rows

pub none_ends : (p : Program) (fit : AllFitter) (hold : AllHolder) (walk : Walker) → Walks p fit hold walk → (at : Sides) (entries : List Entry) (olds : List Shape) (s : State) → fit olds ≡ true → Ends (Lending p hold at olds s) (none_step walk at entries olds s)
none_ends p fit hold walk k at [] olds s e = k.ends at olds s e
none_ends p fit hold walk k at (x ∷ entries) olds s e = subst (λ hs. PlanLends p (hold at.old olds) hs s s) (sym (k.none at.new)) (lent_none p (hold at.old olds) s s (silent_same p s))

-- ---- lists

module _ (p : Program) (h : Head) (at : Sides) where
  anew_silent : (rows : List Row) (none : List Shape) (s : State) → Ends (λ _ t. Silent p s t) (listed_anew p h at rows none s)
  anew_silent rows none s =
      ends-then (Lists s) (λ _ t. Silent p s t) (enumerated p h at s) _ (enumerated-ends p h at s) (λ x t l. silent_on p s t _ (quiet_silent p s t l.quiet) (destroyed_silent p (gone x.entries rows none) t))

  pub list_silent : (number : Option ℕ) (rows : List Row) (none : List Shape) (s : State) → Ends (λ _ t. Silent p s t) (list_step p h at number rows none s)
  list_silent None rows none s = anew_silent rows none s
  list_silent (Some number) rows none s =
      ends-if (λ _ t. Silent p s t) (moved h.list.reads at) (listed_anew p h at rows none s) (Ok (record { number = number; entries = map entry_of rows }, s)) (anew_silent rows none s) (silent_same p s)
