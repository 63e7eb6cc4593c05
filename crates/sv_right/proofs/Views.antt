-- Views whose versions tell values apart, and later views, with one more name and of owners.
use Rattle.std.proofs.Common.{◌≡◌, ◌≤◌, ℕ, Bool, true, false, nat_eq, List, [], ◌∷◌, Option, Some, None, option_map, unwrap_or, refl, ap, arith, if◌then◌else◌}
use Rattle.sv_base.specs.declared.names.Name.{Name}
use Rattle.sv_code.specs.declared.fragments.LetName.{LetName}
use Rattle.sv_local.specs.Versions.{AreVersions}
use Rattle.sv_plan.specs.Lists.{Head, row_view, with_index, index_value}
use Rattle.sv_plan.specs.Slots.{prop_named, let_by, with_lets, outer, content_view}
use Rattle.sv_right.specs.Later.{ViewCells, AreOwnersLater, AreAllLater}
use Rattle.sv_shapes.specs.declared.shape.SlotProp.{SlotProp}
use Rattle.sv_value.specs.Value.{Val, undefined}
use Rattle.sv_view.specs.Level.{Level, View}
use Rattle.sv_view.specs.Local.{Local, local_at}
use Rattle.sv_view.specs.View.{with_local, view_from}

-- the value of a local
abbrev pub value_in : Option Local → Option Val
value_in o = option_map (λ l. l.value) o

-- the number of a local, or 0
abbrev pub version_in : Option Local → ℕ
version_in o = unwrap_or (option_map (λ l. l.number) o) 0

local_over : (b : Bool) (l l' : Local) (o o' : Option Local) → (l.number ≡ l'.number → l.value ≡ l'.value) → (version_in o ≡ version_in o' → value_in o ≡ value_in o') →
    version_in (if b then Some l else o) ≡ version_in (if b then Some l' else o') → value_in (if b then Some l else o) ≡ value_in (if b then Some l' else o')
local_over true l l' o o' same h e = ap Some (same e)
local_over false l l' o o' same h e = h e

local_versions : (name n n' : ℕ) (was now : Val) (v v' : View) → (n ≡ n' → was ≡ now) → AreVersions v v' → AreVersions (with_local v name was n) (with_local v' name now n')
local_versions name n n' was now v v' same h = record {
  one = record { inst = h.one.inst; constants = h.one.constants; modules = h.one.modules };
  cells = h.cells;
  locals = λ x e. local_over (nat_eq name x.0) (record { name = name; value = was; number = n }) (record { name = name; value = now; number = n' }) (local_at v.own.locals x.0) (local_at v'.own.locals x.0) same (h.locals x) e;
}

number_over : (b : Bool) (l l' : Local) (o o' : Option Local) → l.number ≤ l'.number → version_in o ≤ version_in o' → version_in (if b then Some l else o) ≤ version_in (if b then Some l' else o')
number_over true l l' o o' le h = le
number_over false l l' o o' le h = h

local_later : (views : ViewCells) (name n n' : ℕ) (was now : Val) (v v' : View) → n ≤ n' → (n ≡ n' → was ≡ now) → AreAllLater views v v' → AreAllLater views (with_local v name was n) (with_local v' name now n')
local_later views name n n' was now v v' le same h = record {
  own = record {
    versions = local_versions name n n' was now v v' same h.own.versions;
    cells = h.own.cells;
    locals = λ x. number_over (nat_eq name x.0) (record { name = name; value = was; number = n }) (record { name = name; value = now; number = n' }) (local_at v.own.locals x.0) (local_at v'.own.locals x.0) le (h.own.locals x);
    owners = h.own.owners;
  };
  owners = h.owners;
}

-- ---- rows

-- what holds of two views holds with one more name, in lists with two numbers
abbrev Keeps : (View → View → Type 0) → ℕ → ℕ → Type 0
Keeps R m n = (name : ℕ) (was now : Val) (v v' : View) → (m ≡ n → was ≡ now) → R v v' → R (with_local v name was m) (with_local v' name now n)

index_keeps : (R : View → View → Type 0) (m n : ℕ) → Keeps R m n → (name : Option Name) (j i : ℕ) (v v' : View) → (m ≡ n → j ≡ i) → R v v' → R (with_index name m j v) (with_index name n i v')
index_keeps R m n keep None j i v v' place h = h
index_keeps R m n keep (Some name) j i v v' place h = keep name.0 (index_value j) (index_value i) v v' (λ e. ap index_value (place e)) h

-- then it holds of the views of two rows, which are the same row in lists of one number
row_keeps : (R : View → View → Type 0) (m n : ℕ) → Keeps R m n → (h : Head) (j i : ℕ) (was now : Val) (v v' : View) → (m ≡ n → was ≡ now) → (m ≡ n → j ≡ i) → R v v' →
    R (row_view h m j was v) (row_view h n i now v')
row_keeps R m n keep h j i was now v v' same place k =
    index_keeps R m n keep h.index j i (with_local v h.item.0 was m) (with_local v' h.item.0 now n) place (keep h.item.0 was now v v' same k)

pub row_versions : (h : Head) (m n j i : ℕ) (was now : Val) (v v' : View) → (m ≡ n → was ≡ now) → (m ≡ n → j ≡ i) → AreVersions v v' → AreVersions (row_view h m j was v) (row_view h n i now v')
row_versions h m n = row_keeps AreVersions m n (λ name was now v v' same k. local_versions name m n was now v v' same k) h

pub row_later : (views : ViewCells) (h : Head) (m n j i : ℕ) (was now : Val) (v v' : View) → m ≤ n → (m ≡ n → was ≡ now) → (m ≡ n → j ≡ i) → AreAllLater views v v' →
    AreAllLater views (row_view h m j was v) (row_view h n i now v')
row_later views h m n j i was now v v' le =
    row_keeps (AreAllLater views) m n (λ name x y w w' same k. local_later views name m n x y w w' le same k) h j i was now v v'

-- ---- content

outer_over : (views : ViewCells) (v v' : View) (ls ls' : List Level) → AreAllLater views v v' → AreOwnersLater views v.modules v'.modules ls ls' →
    AreAllLater views (unwrap_or (view_from ls v.modules) v) (unwrap_or (view_from ls' v'.modules) v')
outer_over views v v' [] [] h k = h
outer_over views v v' [] (l' ∷ ls') h k = absurd k
outer_over views v v' (l ∷ ls) [] h k = absurd k
outer_over views v v' (l ∷ ls) (l' ∷ ls') h k = record { own = k.0; owners = k.1 }

outer_later : (views : ViewCells) (v v' : View) → AreAllLater views v v' → AreAllLater views (outer v) (outer v')
outer_later views v v' h = outer_over views v v' v.owners v'.owners h h.owners

-- the number didn't fall, and the same number means the same value
abbrev pub IsLaterProp : SlotProp → SlotProp → Type 0
IsLaterProp old new = (old.number ≤ new.number) × (old.number ≡ new.number → old.value ≡ new.value)

-- both are there or none is
abbrev pub AreLaterProps : Option SlotProp → Option SlotProp → Type 0
AreLaterProps None None = Unit {0}
AreLaterProps None (Some new) = ⊥
AreLaterProps (Some old) None = ⊥
AreLaterProps (Some old) (Some new) = IsLaterProp old new

let_later : (views : ViewCells) (name : LetName) (old new : Option SlotProp) (v v' : View) → AreLaterProps old new → AreAllLater views v v' → AreAllLater views (let_by name old v) (let_by name new v')
let_later views name None None v v' later h = local_later views name.local.0 0 0 undefined undefined v v' (omega arith) (λ _. refl) h
let_later views name None (Some new) v v' later h = absurd later
let_later views name (Some old) None v v' later h = absurd later
let_later views name (Some old) (Some new) v v' later h = local_later views name.local.0 old.number new.number old.value new.value v v' later.0 later.1 h

lets_later : (views : ViewCells) (lets : List LetName) (olds props : List SlotProp) (v v' : View) → ((x : Name) → AreLaterProps (prop_named x olds) (prop_named x props)) → AreAllLater views v v' →
    AreAllLater views (with_lets lets olds v) (with_lets lets props v')
lets_later views [] olds props v v' later h = h
lets_later views (name ∷ lets) olds props v v' later h =
    lets_later views lets olds props (let_by name (prop_named name.prop olds) v) (let_by name (prop_named name.prop props) v') later
    (let_later views name (prop_named name.prop olds) (prop_named name.prop props) v v' (later name.prop) h)

pub content_later : (views : ViewCells) (lets : List LetName) (olds props : List SlotProp) (v v' : View) → ((x : Name) → AreLaterProps (prop_named x olds) (prop_named x props)) → AreAllLater views v v' →
    AreAllLater views (content_view lets olds v) (content_view lets props v')
unfolding content_view
content_later views lets olds props v v' later h = lets_later views lets olds props (outer v) (outer v') later (outer_later views v v' h)
