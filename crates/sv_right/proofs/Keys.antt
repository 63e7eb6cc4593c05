-- Keys that stand once, and the key of a row that stays.
use Rattle.std.proofs.Common.{◌≡◌, ◌⊎◌, inl, inr, ℕ, zero, suc, ◌+◌, ◌<◌, ◌≤◌, Bool, true, false, ◌||◌, ◌==◌, nat_eq, pos, List, [], ◌∷◌, ◌++◌, Option, Some, None, refl, sym, ap, ◌∙◌, subst, arith, eqb-true, eq-eqb, true≢false, if◌then◌else◌}
use Rattle.std.specs.Option.{option_and_then}
use Rattle.std.specs.Prelude.{slice_get}
use Rattle.std.specs.Result.{result_ok}
use Rattle.sv_base.specs.declared.names.Name.{Name}
use Rattle.sv_code.specs.Content.{row_names, is_bound}
use Rattle.sv_code.specs.Within.{IsWithin, has_local}
use Rattle.sv_code.specs.declared.parts.Part.{Part}
use Rattle.sv_code.specs.declared.program.Program.{Program}
use Rattle.sv_fresh.specs.Values.{value_at}
use Rattle.sv_keyed.proofs.Repeats.{distinct_of}
use Rattle.sv_keyed.proofs.Times.{same_key-self, times-append, times-cons, times-one, times-self, same_key-true}
use Rattle.sv_keyed.specs.Keys.{same_key, times, IsDistinct, repeat_after, first_repeat, place_after, place_of}
use Rattle.sv_local.proofs.Parts.{by_looks, still_cells, still_locals}
use Rattle.sv_local.specs.Looks.{AreAlikeAt}
use Rattle.sv_local.specs.Versions.{AreVersions}
use Rattle.sv_meaning.specs.Moved.{has_moved}
use Rattle.sv_meaning.specs.Moved as views
use Rattle.sv_parts.specs.Sides.{Sides, moved}
use Rattle.sv_plan.specs.Lists.{Head, row_view, with_index, index_value}
use Rattle.sv_right.proofs.Lists.{Along, some_same}
use Rattle.sv_right.proofs.Views.{version_in, row_versions}
use Rattle.sv_within.specs.Keys as compiled
use Rattle.sv_within.specs.Keys.{IsKeySeen, IsHeadSeen}
use Rattle.sv_right.specs.Right.{key_by}
use Rattle.sv_value.specs.Key.{key_of}
use Rattle.sv_value.specs.Value.{Val}
use Rattle.sv_value.specs.declared.key.Key.{Key}
use Rattle.sv_value.specs.declared.key.Key.TheVariants.{Num}
use Rattle.sv_view.specs.Level.{View}
use Rattle.sv_view.specs.Local.{Local, local_at}
use Rattle.sv_view.specs.View.{version, with_local}
use Rattle.sv_view.specs.declared.view.At.TheVariants as at

-- ---- places

not_there : (found : Option ℕ) (n : ℕ) (keys : List Key) (k : Key) → times k keys ≡ 0 → place_after found n keys k ≡ found
not_there found n [] k none = refl
not_there found n (x ∷ keys) k none = by (same_key x k) refl (λ o e. not_there o (n + 1) keys k e)
  where
    by : (b : Bool) → same_key x k ≡ b → ((o : Option ℕ) → times k keys ≡ 0 → place_after o (n + 1) keys k ≡ o) → place_after (if b then Some n else found) (n + 1) keys k ≡ found
    by true e more = let same : x ≡ k = same_key-true x k e in absurd (omega (arith, none, times-cons k x keys, times-self k, ap (λ z. times k (z ∷ [])) same))
    by false e more = more found (omega (arith, none, times-cons k x keys))

place_from : (found : Option ℕ) (n i : ℕ) (keys : List Key) (k : Key) → IsDistinct keys → slice_get keys i ≡ Some k → place_after found n keys k ≡ Some (n + i)
place_from found n i [] k once e = absurd (cc)
place_from found n zero (x ∷ keys) k once e =
    let same : x ≡ k = some_same e in
    ap (λ b. place_after (if b then Some n else found) (n + 1) keys k) (ap (λ z. same_key z k) same ∙ same_key-self k)
    ∙ not_there (Some n) (n + 1) keys k (omega (arith, once k, times-cons k x keys, times-self k, ap (λ z. times k (z ∷ [])) same))
    ∙ ap Some (omega arith)
place_from found n (suc i) (x ∷ keys) k once e =
    place_from (if same_key x k then Some n else found) (n + 1) i keys k (λ z. omega (arith, once z, times-cons z x keys)) e ∙ ap Some (omega arith)

-- where no key stands twice, each is found where it stands
pub place_is : (keys : List Key) (i : ℕ) (k : Key) → first_repeat keys ≡ None → slice_get keys i ≡ Some k → place_of keys k ≡ Some i
place_is keys i k once e = place_from None 0 i keys k (distinct_of keys once) e ∙ ap Some (omega arith)

-- ---- numbers as keys

other_number : (i j : ℕ) → i < j → times (Num (pos j)) (Num (pos i) ∷ []) ≡ 0
other_number i j lt = by (times-one (Num (pos j)) (Num (pos i)))
  where
    by : ((Num (pos j) ≡ Num (pos i)) × (times (Num (pos j)) (Num (pos i) ∷ []) ≡ 1)) ⊎ (times (Num (pos j)) (Num (pos i) ∷ []) ≡ 0) → times (Num (pos j)) (Num (pos i) ∷ []) ≡ 0
    by (inl h) = let same : j ≡ i = cc in absurd (omega (arith, same, lt))
    by (inr h) = h

repeat_on : (seen keys : List Key) (k : Key) → times k seen ≡ 0 → repeat_after seen (k ∷ keys) ≡ repeat_after (seen ++ k ∷ []) keys
repeat_on seen keys k e = ap (λ n. if n == 0 then repeat_after (seen ++ k ∷ []) keys else Some k) e

counted_from : (seen : List Key) (i : ℕ) (keys : List Key) → Along (λ k j. Num (pos j) ≡ k) i keys → ((j : ℕ) → i ≤ j → times (Num (pos j)) seen ≡ 0) → repeat_after seen keys ≡ None
counted_from seen i [] are new = refl
counted_from seen i (k ∷ keys) are new =
    repeat_on seen keys k (subst (λ z. times z seen ≡ 0) are.0 (new i (omega arith)))
    ∙ counted_from (seen ++ k ∷ []) (suc i) keys are.1
    (λ j le. subst (λ z. times (Num (pos j)) (seen ++ z ∷ []) ≡ 0) are.0 (omega (arith, times-append (Num (pos j)) seen (Num (pos i) ∷ []), new j (omega (arith, le)), other_number i j (omega (arith, le)))))

-- the numbers of rows are different keys
pub counted_once : (keys : List Key) → Along (λ k j. Num (pos j) ≡ k) 0 keys → first_repeat keys ≡ None
counted_once keys are = counted_from [] 0 keys are (λ j le. refl)

-- ---- names of a row

other : (a b : ℕ) → nat_eq a b ≡ false → nat_eq b a ≡ false
other a b e = by (nat_eq b a) refl
  where
    by : (c : Bool) → nat_eq b a ≡ c → c ≡ false
    by true q = absurd (true≢false (sym (eq-eqb a b (sym (eqb-true b a q))) ∙ e))
    by false q = refl

version_over : (b : Bool) (l : Local) (o o' : Option Local) → (b ≡ false → version_in o ≡ version_in o') → version_in (if b then Some l else o) ≡ version_in (if b then Some l else o')
version_over true l o o' h = refl
version_over false l o o' h = h refl

or_both : (a b : Bool) → a ≡ false → b ≡ false → (a || b) ≡ false
or_both true b e h = absurd (true≢false e)
or_both false b e h = h

-- a cell has the same version in a row
cell_in_index : (index : Option Name) (n i c : ℕ) (v : View) → version (with_index index n i v) (at.Cell c) ≡ version v (at.Cell c)
cell_in_index None n i c v = refl
cell_in_index (Some name) n i c v = refl

cell_in_row : (h : Head) (n i c : ℕ) (item : Val) (v : View) → version (row_view h n i item v) (at.Cell c) ≡ version v (at.Cell c)
cell_in_row h n i c item v = cell_in_index h.index n i c (with_local v h.item.0 item n)

-- a name that isn't one of the row, too
local_in_row : (list : Part) (item : Name) (index : Option Name) (key : Option Part) (n i : ℕ) (x : Val) (y : Name) (v v' : View) →
    (is_bound y (row_names item index) ≡ false → version v (at.Local y) ≡ version v' (at.Local y)) →
    version (row_view (record { list = list; item = item; index = index; key = key }) n i x v) (at.Local y) ≡ version (row_view (record { list = list; item = item; index = index; key = key }) n i x v') (at.Local y)
local_in_row list item None key n i x y v v' h =
    version_over (nat_eq item.0 y.0) (record { name = item.0; value = x; number = n }) (local_at v.own.locals y.0) (local_at v'.own.locals y.0) (λ e. h (or_both (nat_eq y.0 item.0) false (other item.0 y.0 e) refl))
local_in_row list item (Some name) key n i x y v v' h =
    version_over (nat_eq name.0 y.0) (record { name = name.0; value = index_value i; number = n })
    (if nat_eq item.0 y.0 then Some (record { name = item.0; value = x; number = n }) else local_at v.own.locals y.0)
    (if nat_eq item.0 y.0 then Some (record { name = item.0; value = x; number = n }) else local_at v'.own.locals y.0)
    (λ q. version_over (nat_eq item.0 y.0) (record { name = item.0; value = x; number = n }) (local_at v.own.locals y.0) (local_at v'.own.locals y.0)
    (λ e. h (or_both (nat_eq y.0 item.0) (nat_eq y.0 name.0 || false) (other item.0 y.0 e) (or_both (nat_eq y.0 name.0) false (other name.0 y.0 q) refl))))

or_second : (a b : Bool) → (a || b) ≡ true → a ≡ false → b ≡ true
or_second true b h e = absurd (true≢false e)
or_second false b h e = h

-- the head of a block, as compiling has it
abbrev pub compiled_head : Head → compiled.Head
compiled_head h = record { list = h.list; item = h.item; index = h.index; key = h.key }

-- what a key looks at is alike in a row on two views of which nothing moved that the list looks at
key_alike : (h : Head) (key : Part) (n i : ℕ) (item : Val) (v v' : View) → IsKeySeen (compiled_head h) key → AreVersions v v' → views.moved h.list.reads v v' ≡ false →
    AreAlikeAt key.reads (row_view h n i item v) (row_view h n i item v')
key_alike h key n i item v v' seen all still =
    let rows = row_versions h n n i i item item v v' (λ _. refl) (λ _. refl) all in
    record {
      one = rows.one;
      cells = λ c k. rows.cells c (cell_in_row h n i c item v ∙ still_cells h.list.reads v v' c still (seen.cells c k) ∙ sym (cell_in_row h n i c item v'));
      locals = λ x k. rows.locals x
          (local_in_row h.list h.item h.index h.key n i item x v v' (λ e. still_locals h.list.reads v v' x still (or_second (is_bound x (row_names h.item h.index)) (has_local h.list.reads x) (seen.locals x k) e)));
    }

-- a key reads nothing but what it looks at
abbrev pub IsKeyWithin : Program → Option Part → Type 0
IsKeyWithin p None = Unit {0}
IsKeyWithin p (Some key) = IsWithin p key

pub still_key : (p : Program) (h : Head) (key : Option Part) (n i : ℕ) (item : Val) (at : Sides) → IsHeadSeen (compiled_head h) key → IsKeyWithin p key → AreVersions at.old at.new → moved h.list.reads at ≡ false →
    key_by p h key n at.old i item ≡ key_by p h key n at.new i item
unfolding value_at moved
still_key p h None n i item at seen within all still = refl
still_key p h (Some key) n i item at seen within all still =
    ap (λ r. option_and_then key_of (result_ok r)) (by_looks p key (row_view h n i item at.old) (row_view h n i item at.new) within (key_alike h key n i item at.old at.new seen all still))
