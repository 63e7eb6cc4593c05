-- The lists of each blocks, evaluated anew or not.
use Rattle.std.proofs.Common.{◌≡◌, ◌⊎◌, inl, inr, ℕ, suc, ◌<◌, ◌≤◌, false, pos, nat_le, List, [], ◌∷◌, map, length, Option, Some, None, refl, sym, ap, ap₂, ◌∙◌, subst, arith, Ok}
use Rattle.std.specs.Option.{option_and_then}
use Rattle.std.specs.Prelude.{slice_get}
use Rattle.sv_code.specs.Within.{IsWithin}
use Rattle.sv_code.specs.declared.parts.Part.{Part}
use Rattle.sv_code.specs.declared.program.Program.{Program}
use Rattle.sv_fresh.specs.Blocks as fresh
use Rattle.sv_fresh.specs.Sources.{row_items}
use Rattle.sv_fresh.specs.Values.{value_at}
use Rattle.sv_keyed.specs.Keys.{first_repeat}
use Rattle.sv_local.specs.Versions.{AreVersions}
use Rattle.sv_parts.specs.Parts.{evaluated}
use Rattle.sv_parts.specs.Sides.{Sides, moved}
use Rattle.sv_parts.specs.State.{andThen, spent, numbered, destroyed}
use Rattle.sv_parts.specs.declared.state.State.{State}
use Rattle.sv_plan.specs.Lists.{Head, row_view, key_or, row_key, entry_step, entries_step, keys_of, row_keys, refuse, once, items_in, items_or, listing_of, enumerated, gone, listed_anew, entry_of, list_step}
use Rattle.sv_plan.specs.declared.lists.Entry.{Entry}
use Rattle.sv_plan.specs.declared.lists.Listing.{Listing}
use Rattle.sv_right.proofs.Keys.{compiled_head, IsKeyWithin, still_key, counted_once}
use Rattle.sv_right.proofs.Lists.{Along, Matched, along_of, along_get, along_map, some_same, plain_after}
use Rattle.sv_right.proofs.Steps.{After, then_after, more_after, if_after, Grows, Up, grows_same, grows_on}
use Rattle.sv_right.proofs.Values.{Valued, evaluated_after, still_value}
use Rattle.sv_within.specs.Keys.{IsHeadSeen}
use Rattle.sv_right.specs.Right.{key_by, key_at}
use Rattle.sv_shapes.specs.declared.shape.Row.{Row}
use Rattle.sv_shapes.specs.declared.shape.Shape.{Shape}
use Rattle.sv_value.specs.Key.{key_of}
use Rattle.sv_value.specs.Value.{Val, undefined, null, boolean, number, text, list, object, function, store}
use Rattle.sv_value.specs.declared.key.Key.{Key}
use Rattle.sv_value.specs.declared.key.Key.TheVariants.{Num}
use Rattle.sv_view.specs.Level.{View}

-- ---- lists

-- the rows to come are those of the list on a view, each under its key, and no key stands twice
pub record IsListed (p : Program) (h : Head) (v : View) (x : Listing) : Type 0 where
  pub items : option_and_then items_in (value_at p v h.list) ≡ Some (map (λ e. e.item) x.entries)
  pub keys : Along (λ (e : Entry) i. key_at p h x.number v i e.item ≡ Some e.key) 0 x.entries
  pub once : first_repeat (keys_of x.entries) ≡ None

-- the items of a value
item_list : (v : Val) (vs : List Val) → items_in v ≡ Some vs → fresh.items_in (Some v) ≡ vs
item_list undefined vs e = absurd (cc)
item_list null vs e = absurd (cc)
item_list (boolean b) vs e = absurd (cc)
item_list (number n) vs e = absurd (cc)
item_list (text t) vs e = absurd (cc)
item_list (list xs) vs e = some_same e
item_list (object fs) vs e = absurd (cc)
item_list (function c o xs) vs e = absurd (cc)
item_list (store s) vs e = absurd (cc)

-- those of a part, where its value is a list
pub listed_items : (o : Option Val) (vs : List Val) → option_and_then items_in o ≡ Some vs → fresh.items_in o ≡ vs
listed_items None vs e = absurd (cc)
listed_items (Some v) vs e = item_list v vs e

items_after : (part : Part) (o : Option (List Val)) (s : State) → After (items_or part o s) (λ vs u. (o ≡ Some vs) × Grows s u)
items_after part None s = tt
items_after part (Some vs) s = (refl, grows_same s)

spent_up : (n : ℕ) (s : State) → After (spent n s) (Up s)
spent_up n s = if_after (nat_le n s.counters.work) _ _ (Up s) (λ _. grows_same s) (λ _. tt)

-- ---- entries

-- an entry has the item, and its key
abbrev IsEntry : Program → Head → ℕ → View → Val → ℕ → Entry → Type 0
IsEntry p h n v item i e = (e.item ≡ item) × (key_at p h n v i e.item ≡ Some e.key)

key_given : (part : Part) (o : Option Key) (s : State) → After (key_or part o s) (λ k u. (o ≡ Some k) × Grows s u)
key_given part None s = tt
key_given part (Some k) s = (refl, grows_same s)

key_after : (p : Program) (h : Head) (key : Option Part) (at : Sides) (n i : ℕ) (item : Val) (s : State) → After (row_key p h key at n i item s) (λ k u. (key_by p h key n at.new i item ≡ Some k) × Grows s u)
key_after p h None at n i item s = (refl, grows_same s)
key_after p h (Some part) at n i item s =
    then_after (evaluated p part (record at { new = row_view h n i item at.new }) s) (λ v u. key_or part (key_of v) u) (Valued p part (row_view h n i item at.new) s)
    (λ k u. (key_by p h (Some part) n at.new i item ≡ Some k) × Grows s u) (evaluated_after p part (record at { new = row_view h n i item at.new }) s)
    (λ x v e. more_after (key_or part (key_of x) v) (λ k u. (key_of x ≡ Some k) × Grows v u) (λ k u. (key_by p h (Some part) n at.new i item ≡ Some k) × Grows s u) (key_given part (key_of x) v)
    (λ k u q. (ap (option_and_then key_of) e.0 ∙ q.0, grows_on s v u e.1 q.1)))

entry_after : (p : Program) (h : Head) (at : Sides) (n i : ℕ) (item : Val) (s : State) → After (entry_step p h at n i item s) (λ e u. IsEntry p h n at.new item i e × Grows s u)
entry_after p h at n i item s =
    then_after (row_key p h h.key at n i item s) (λ key u. Ok (record { key = key; item = item }, u)) (λ k u. (key_by p h h.key n at.new i item ≡ Some k) × Grows s u)
    (λ e u. IsEntry p h n at.new item i e × Grows s u) (key_after p h h.key at n i item s) (λ k u q. ((refl, q.0), q.1))

-- each entry has its item, and its key
abbrev AreEntries : Program → Head → ℕ → View → ℕ → List Val → List Entry → Type 0
AreEntries p h n v i vs entries = Matched (IsEntry p h n v) i vs entries

entries_after : (p : Program) (h : Head) (at : Sides) (n : ℕ) (vs : List Val) (s : State) → After (entries_step p h at n vs s) (λ entries u. AreEntries p h n at.new 0 vs entries × Grows s u)
entries_after p h at n vs s =
    plain_after (λ item i u. entry_step p h at n i item u) (λ item i. Unit {0}) (IsEntry p h n at.new) (λ item i u _. entry_after p h at n i item u) 0 vs s (along_of (λ item i. Unit {0}) (λ item i. tt) 0 vs)

entry_items : (p : Program) (h : Head) (n : ℕ) (v : View) (i : ℕ) (vs : List Val) (entries : List Entry) → AreEntries p h n v i vs entries → map (λ e. e.item) entries ≡ vs
entry_items p h n v i [] [] are = refl
entry_items p h n v i [] (e ∷ entries) are = absurd are
entry_items p h n v i (x ∷ vs) [] are = absurd are
entry_items p h n v i (x ∷ vs) (e ∷ entries) are = ap₂ (λ y ys. y ∷ ys) are.0.0 (entry_items p h n v (suc i) vs entries are.1)

entry_keys : (p : Program) (h : Head) (n : ℕ) (v : View) (i : ℕ) (vs : List Val) (entries : List Entry) → AreEntries p h n v i vs entries → Along (λ (e : Entry) j. key_at p h n v j e.item ≡ Some e.key) i entries
entry_keys p h n v i [] [] are = tt
entry_keys p h n v i [] (e ∷ entries) are = absurd are
entry_keys p h n v i (x ∷ vs) [] are = absurd are
entry_keys p h n v i (x ∷ vs) (e ∷ entries) are = (are.0.1, entry_keys p h n v (suc i) vs entries are.1)

-- where there is no key, rows have their numbers
number_keys : (p : Program) (h : Head) (n : ℕ) (v : View) (i : ℕ) (entries : List Entry) → h.key ≡ None → Along (λ (e : Entry) j. key_at p h n v j e.item ≡ Some e.key) i entries →
    Along (λ k j. Num (pos j) ≡ k) i (keys_of entries)
number_keys p h n v i [] none are = tt
number_keys p h n v i (e ∷ entries) none are = (some_same (subst (λ o. key_by p h o n v i e.item ≡ Some e.key) none are.0), number_keys p h n v (suc i) entries none are.1)

refuse_after : (part : Part) (o : Option Key) (s : State) → After (refuse part o s) (λ _ u. (o ≡ None) × Grows s u)
refuse_after part None s = (refl, grows_same s)
refuse_after part (Some key) s = tt

once_after : (key : Option Part) (entries : List Entry) (s : State) → (key ≡ None → first_repeat (keys_of entries) ≡ None) → After (once key entries s) (λ _ u. (first_repeat (keys_of entries) ≡ None) × Grows s u)
once_after None entries s own = (own refl, grows_same s)
once_after (Some part) entries s own = refuse_after part (first_repeat (keys_of entries)) s

-- ---- the rows to come

-- the list is evaluated and gets a new number, or its rows stay and its number does
abbrev IsNumbered : Sides → Option ℕ → List Row → State → Listing → Type 0
IsNumbered at old rows s x = (s.counters.next ≤ x.number) ⊎ (AreVersions at.old at.new × ((old ≡ Some x.number) × (x.entries ≡ map entry_of rows)))

-- the rows to come are listed, in a list that is new or stayed
pub record Lists (p : Program) (h : Head) (at : Sides) (old : Option ℕ) (rows : List Row) (s : State) (x : Listing) (u : State) : Type 0 where
  pub listed : IsListed p h at.new x
  pub numbered : IsNumbered at old rows s x
  pub below : x.number < u.counters.next
  pub grows : Grows s u

listing_after : (p : Program) (h : Head) (at : Sides) (old : Option ℕ) (rows : List Row) (vs : List Val) (s : State) → option_and_then items_in (value_at p at.new h.list) ≡ Some vs →
    After (listing_of p h at vs s) (Lists p h at old rows s)
listing_after p h at old rows vs s is =
    then_after (spent (length vs) s) (λ _ s1. andThen (numbered s1) (λ n s2. andThen (entries_step p h at n vs s2) (λ entries s3. andThen (once h.key entries s3) (λ _ s4. Ok (record { number = n; entries = entries }, s4)))))
    (Up s) (Lists p h at old rows s) (spent_up (length vs) s)
    (λ _ s1 g1. then_after (numbered s1) (λ n s2. andThen (entries_step p h at n vs s2) (λ entries s3. andThen (once h.key entries s3) (λ _ s4. Ok (record { number = n; entries = entries }, s4))))
    (λ n s2. (s1.counters.next ≤ n) × (n < s2.counters.next)) (Lists p h at old rows s) (omega arith, omega arith)
    (λ n s2 g2. then_after (entries_step p h at n vs s2) (λ entries s3. andThen (once h.key entries s3) (λ _ s4. Ok (record { number = n; entries = entries }, s4)))
    (λ entries s3. AreEntries p h n at.new 0 vs entries × Grows s2 s3) (Lists p h at old rows s) (entries_after p h at n vs s2)
    (λ entries s3 g3. then_after (once h.key entries s3) (λ _ s4. Ok (record { number = n; entries = entries }, s4)) (λ _ s4. (first_repeat (keys_of entries) ≡ None) × Grows s3 s4) (Lists p h at old rows s)
    (once_after h.key entries s3 (λ none. counted_once (keys_of entries) (number_keys p h n at.new 0 entries none (entry_keys p h n at.new 0 vs entries g3.0))))
    (λ _ s4 g4. record {
      listed = record { items = is ∙ ap Some (sym (entry_items p h n at.new 0 vs entries g3.0)); keys = entry_keys p h n at.new 0 vs entries g3.0; once = g4.0 };
      numbered = inl (omega (arith, g1, g2.0));
      below = omega (arith, g2.1, g3.1, g4.1);
      grows = omega (arith, g1, g2.0, g2.1, g3.1, g4.1);
    }))))

lists_on : (p : Program) (h : Head) (at : Sides) (old : Option ℕ) (rows : List Row) (s v : State) (x : Listing) (u : State) → Grows s v → Lists p h at old rows v x u → Lists p h at old rows s x u
lists_on p h at old rows s v x u g l = record { listed = l.listed; numbered = on l.numbered; below = l.below; grows = grows_on s v u g l.grows }
  where
    on : IsNumbered at old rows v x → IsNumbered at old rows s x
    on (inl le) = inl (omega (arith, le, g))
    on (inr q) = inr q

enumerated_after : (p : Program) (h : Head) (at : Sides) (old : Option ℕ) (rows : List Row) (s : State) → After (enumerated p h at s) (Lists p h at old rows s)
enumerated_after p h at old rows s =
    then_after (evaluated p h.list at s) (λ v u. andThen (items_or h.list (items_in v) u) (listing_of p h at)) (Valued p h.list at.new s) (Lists p h at old rows s) (evaluated_after p h.list at s)
    (λ x v e. then_after (items_or h.list (items_in x) v) (listing_of p h at) (λ vs u. (items_in x ≡ Some vs) × Grows v u) (Lists p h at old rows s) (items_after h.list (items_in x) v)
    (λ vs u q. more_after (listing_of p h at vs u) (Lists p h at old rows u) (Lists p h at old rows s) (listing_after p h at old rows vs u (ap (option_and_then items_in) e.0 ∙ q.0))
    (λ y w l. lists_on p h at old rows s u y w (grows_on s v u e.1 q.1) l)))

anew_after : (p : Program) (h : Head) (at : Sides) (old : Option ℕ) (rows : List Row) (none : List Shape) (s : State) → After (listed_anew p h at rows none s) (Lists p h at old rows s)
anew_after p h at old rows none s =
    then_after (enumerated p h at s) (λ x u. andThen (destroyed (gone x.entries rows none) u) (λ _ v. Ok (x, v))) (Lists p h at old rows s) (Lists p h at old rows s) (enumerated_after p h at old rows s)
    (λ x u l. record { listed = l.listed; numbered = l.numbered; below = l.below; grows = l.grows })

-- ---- rows that stay

-- what is known of the rows of a list with a number
pub record WereRows (p : Program) (h : Head) (at : Sides) (n k : ℕ) (rows : List Row) : Type 0 where
  pub versions : AreVersions at.old at.new
  pub items : option_and_then items_in (value_at p at.old h.list) ≡ Some (row_items rows)
  pub keys : (i : ℕ) (row : Row) → slice_get rows i ≡ Some row → key_at p h n at.old i row.item ≡ Some row.key
  pub once : first_repeat (row_keys rows) ≡ None
  pub below : n < k

items_again : (rows : List Row) → map (λ e. e.item) (map entry_of rows) ≡ row_items rows
items_again [] = refl
items_again (row ∷ rows) = ap (λ xs. row.item ∷ xs) (items_again rows)

keys_again : (rows : List Row) → keys_of (map entry_of rows) ≡ row_keys rows
keys_again [] = refl
keys_again (row ∷ rows) = ap (λ xs. row.key ∷ xs) (keys_again rows)

-- what compiling promises of the head of an each block
pub record HeadFits (p : Program) (h : Head) : Type 0 where
  pub list : IsWithin p h.list
  pub key : IsKeyWithin p h.key
  pub seen : IsHeadSeen (compiled_head h) h.key

rows_stay : (p : Program) (h : Head) (at : Sides) (n : ℕ) (rows : List Row) (s : State) → HeadFits p h → WereRows p h at n s.counters.next rows → moved h.list.reads at ≡ false →
    Lists p h at (Some n) rows s (record { number = n; entries = map entry_of rows }) s
rows_stay p h at n rows s fits were still = record {
  listed = record {
    items = sym (ap (option_and_then items_in) (still_value p h.list at fits.list were.versions still)) ∙ were.items ∙ ap Some (sym (items_again rows));
    keys = along_map (λ (e : Entry) i. key_at p h n at.new i e.item ≡ Some e.key) entry_of 0 rows
        (along_get (λ (row : Row) i. key_at p h n at.new i row.item ≡ Some row.key) rows
        (λ i row e. sym (still_key p h h.key n i row.item at fits.seen fits.key were.versions still) ∙ were.keys i row e));
    once = ap first_repeat (keys_again rows) ∙ were.once;
  };
  numbered = inr (were.versions, (refl, refl));
  below = were.below;
  grows = grows_same s;
}

pub list_after : (p : Program) (h : Head) (at : Sides) (old : Option ℕ) (rows : List Row) (none : List Shape) (s : State) → HeadFits p h → ((n : ℕ) → old ≡ Some n → WereRows p h at n s.counters.next rows) →
    After (list_step p h at old rows none s) (Lists p h at old rows s)
list_after p h at None rows none s fits were = anew_after p h at None rows none s
list_after p h at (Some n) rows none s fits were =
    if_after (moved h.list.reads at) (listed_anew p h at rows none s) (Ok (record { number = n; entries = map entry_of rows }, s)) (Lists p h at (Some n) rows s) (λ _. anew_after p h at (Some n) rows none s)
    (λ still. rows_stay p h at n rows s fits (were n refl) still)
