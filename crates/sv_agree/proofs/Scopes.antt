-- What agrees within a scope agrees at what a look looks at, and in the scopes of rows and of content.
use Rattle.std.proofs.Common.{◌≡◌, ℕ, Bool, true, false, ◌||◌, nat_eq, List, [], ◌∷◌, ◌++◌, Option, Some, None, option_map, refl, sym, ap, ◌∙◌, subst, eqb-true, eq-eqb, true≢false, if◌then◌else◌}
use Rattle.std.specs.List.{list_any}
use Rattle.std.specs.Result.{result_ok}
use Rattle.sv_agree.specs.Agreeing.{OfOwners, AgreesWith}
use Rattle.sv_agree.specs.Scopes.{Scope, may_read_cell, may_read_local, AgreesAt, StaysIn}
use Rattle.sv_base.specs.declared.names.Name.{Name}
use Rattle.sv_code.specs.Content.{Look, ByPart, IsSeenBy, is_bound, row_names, let_names}
use Rattle.sv_code.specs.Names.{Each}
use Rattle.sv_code.specs.Within.{IsWithin, has_cell, has_local}
use Rattle.sv_code.specs.declared.fragments.LetName.{LetName}
use Rattle.sv_code.specs.declared.parts.Part.{Part}
use Rattle.sv_code.specs.declared.parts.Reading.{Reading}
use Rattle.sv_code.specs.declared.program.Program.{Program}
use Rattle.sv_fresh.specs.Values.{value_at}
use Rattle.sv_local.proofs.Parts.{by_looks}
use Rattle.sv_local.specs.Looks.{AreAlikeAt}
use Rattle.sv_plan.specs.Lists.{Head, row_view, with_index, index_value}
use Rattle.sv_plan.specs.Slots.{prop_named, let_by, with_lets}
use Rattle.sv_shapes.specs.declared.shape.SlotProp.{SlotProp}
use Rattle.sv_value.specs.Value.{Val, undefined}
use Rattle.sv_view.specs.Level.{View}
use Rattle.sv_view.specs.Local.{Local, local_at}
use Rattle.sv_view.specs.View.{with_local, owner_of}

-- ---- looks

-- what is so of each is so of one that is found
found_in : {A G : Type 0} (Q : A → Type 0) (is_it : A → Bool) (xs : List A) → Each Q xs → list_any is_it xs ≡ true → ((x : A) → is_it x ≡ true → Q x → G) → G
found_in Q is_it [] h e f = absurd (true≢false (sym e))
found_in {A = A} {G = G} Q is_it (x ∷ xs) h e f = by (is_it x) refl e (λ q. found_in Q is_it xs h.1 q f)
  where
    by : (b : Bool) → is_it x ≡ b → (b || list_any is_it xs) ≡ true → (list_any is_it xs ≡ true → G) → G
    by true is q more = f x is h.0
    by false is q more = more q

pub or_true : (a b : Bool) → b ≡ true → (a || b) ≡ true
or_true true b e = refl
or_true false b e = e

-- a look stays within a reading, if one bounds it
abbrev pub IsSeenIn : Option Reading → Look → Type 0
IsSeenIn None look = Unit {0}
IsSeenIn (Some reads) look = IsSeenBy reads look

pub seen_in : (p : Program) (reading : Option Reading) (look : Look) → StaysIn p reading look → IsSeenIn reading look
seen_in p None look h = tt
seen_in p (Some reads) look h = h.0

pub cell_in : (reading : Option Reading) (look : Look) (n : ℕ) → IsSeenIn reading look → has_cell look.reads n ≡ true → may_read_cell reading n ≡ true
cell_in None look n h e = refl
cell_in (Some reads) look n h e =
    found_in (λ m. has_cell reads m ≡ true) (nat_eq n) look.reads.cells h.cells e (λ m q k. subst (λ z. has_cell reads z ≡ true) (sym (eqb-true n m q)) k)

local_in : (reading : Option Reading) (look : Look) (x : Name) → IsSeenIn reading look → has_local look.reads x ≡ true → (is_bound x look.bound || may_read_local reading x) ≡ true
local_in None look x h e = or_true (is_bound x look.bound) true refl
local_in (Some reads) look x h e =
    found_in (λ y. (is_bound y look.bound || has_local reads y) ≡ true) (λ y. nat_eq x.0 y.0) look.reads.locals h.locals e
    (λ y q k. subst (λ z. (list_any (λ w. nat_eq z w.0) look.bound || list_any (λ w. nat_eq z w.0) reads.locals) ≡ true) (sym (eqb-true x.0 y.0 q)) k)

-- views that agree within a scope are alike at what a look in there looks at
pub alike_at : (reading : Option Reading) (look : Look) (v v' : View) → IsSeenIn reading look → AgreesAt (record { reading = reading; bound = look.bound }) v v' → AreAlikeAt look.reads v v'
alike_at reading look v v' seen h = record { one = h.one; cells = λ n e. h.cells n (cell_in reading look n seen e); locals = λ x e. h.locals x (local_in reading look x seen e) }

-- a look of a part inside some names
abbrev pub part_look : List Name → Part → Look
part_look bound part = record { by = ByPart; bound = bound; reads = part.reads }

-- a part in there has the same value on both
pub value_same : (p : Program) (scope : Scope) (part : Part) (v v' : View) → IsWithin p part → IsSeenIn scope.reading (part_look scope.bound part) → AgreesAt scope v v' →
    value_at p v part ≡ value_at p v' part
unfolding value_at
value_same p scope part v v' within seen h = ap result_ok (by_looks p part v v' within (alike_at scope.reading (part_look scope.bound part) v v' seen h))

-- ---- one more name

-- the scope in which some more names are bound
abbrev pub inside : List Name → Scope → Scope
inside names scope = record scope { bound = names ++ scope.bound }

other : (a b : ℕ) → nat_eq a b ≡ false → nat_eq b a ≡ false
other a b e = by (nat_eq b a) refl
  where
    by : (c : Bool) → nat_eq b a ≡ c → c ≡ false
    by true q = absurd (true≢false (sym (eq-eqb a b (sym (eqb-true b a q))) ∙ e))
    by false q = refl

abbrev value_in : Option Local → Option Val
value_in o = option_map (λ l. l.value) o

value_over : (b : Bool) (l : Local) (o o' : Option Local) → (b ≡ false → value_in o ≡ value_in o') → value_in (if b then Some l else o) ≡ value_in (if b then Some l else o')
value_over true l o o' h = refl
value_over false l o o' h = h refl

or_rest : (a b c : Bool) → ((a || b) || c) ≡ true → a ≡ false → (b || c) ≡ true
or_rest true b c h e = absurd (true≢false e)
or_rest false b c h e = h

pub local_agrees : (scope : Scope) (name : Name) (x : Val) (n : ℕ) (v v' : View) → AgreesAt scope v v' → AgreesAt (inside (name ∷ []) scope) (with_local v name.0 x n) (with_local v' name.0 x n)
local_agrees scope name x n v v' h = record {
  one = record { inst = h.one.inst; constants = h.one.constants; modules = h.one.modules };
  cells = h.cells;
  locals = λ y e. value_over (nat_eq name.0 y.0) (record { name = name.0; value = x; number = n }) (local_at v.own.locals y.0) (local_at v'.own.locals y.0)
      (λ q. h.locals y (or_rest (nat_eq y.0 name.0) (is_bound y scope.bound) (may_read_local scope.reading y) e (other name.0 y.0 q)));
}

or_swap : (a b c : Bool) → (a || (b || c)) ≡ (b || (a || c))
or_swap true true c = refl
or_swap true false c = refl
or_swap false true c = refl
or_swap false false c = refl

bound_between : (y name : Name) (xs ys : List Name) → is_bound y (name ∷ (xs ++ ys)) ≡ is_bound y (xs ++ (name ∷ ys))
bound_between y name [] ys = refl
bound_between y name (x ∷ xs) ys = or_swap (nat_eq y.0 name.0) (nat_eq y.0 x.0) (is_bound y (xs ++ ys)) ∙ ap (λ b. nat_eq y.0 x.0 || b) (bound_between y name xs ys)

-- the order in which names are bound doesn't matter
agrees_between : (scope : Scope) (name : Name) (xs : List Name) (v v' : View) → AgreesAt (inside xs (inside (name ∷ []) scope)) v v' → AgreesAt (inside (name ∷ xs) scope) v v'
agrees_between scope name xs v v' h =
    record { one = h.one; cells = h.cells; locals = λ y e. h.locals y (ap (λ b. b || may_read_local scope.reading y) (sym (bound_between y name xs scope.bound)) ∙ e) }

-- ---- rows

index_agrees : (scope : Scope) (item : Name) (index : Option Name) (n i : ℕ) (v v' : View) → AgreesAt (inside (item ∷ []) scope) v v' →
    AgreesAt (inside (row_names item index) scope) (with_index index n i v) (with_index index n i v')
index_agrees scope item None n i v v' h = h
index_agrees scope item (Some name) n i v v' h =
    agrees_between scope item (name ∷ []) (with_local v name.0 (index_value i) n) (with_local v' name.0 (index_value i) n) (local_agrees (inside (item ∷ []) scope) name (index_value i) n v v' h)

pub row_agrees : (scope : Scope) (h : Head) (n i : ℕ) (x : Val) (v v' : View) → AgreesAt scope v v' → AgreesAt (inside (row_names h.item h.index) scope) (row_view h n i x v) (row_view h n i x v')
row_agrees scope h n i x v v' a = index_agrees scope h.item h.index n i (with_local v h.item.0 x n) (with_local v' h.item.0 x n) (local_agrees scope h.item x n v v' a)

index_owner : (index : Option Name) (n i : ℕ) (v : View) → owner_of (with_index index n i v) ≡ owner_of v
index_owner None n i v = refl
index_owner (Some name) n i v = refl

-- ---- content

let_agrees : (scope : Scope) (name : LetName) (o : Option SlotProp) (v v' : View) → AgreesAt scope v v' → AgreesAt (inside (name.local ∷ []) scope) (let_by name o v) (let_by name o v')
let_agrees scope name None v v' h = local_agrees scope name.local undefined 0 v v' h
let_agrees scope name (Some prop) v v' h = local_agrees scope name.local prop.value prop.number v v' h

lets_agree : (scope : Scope) (lets : List LetName) (props : List SlotProp) (v v' : View) → AgreesAt scope v v' → AgreesAt (inside (let_names lets) scope) (with_lets lets props v) (with_lets lets props v')
lets_agree scope [] props v v' h = h
lets_agree scope (name ∷ lets) props v v' h =
    agrees_between scope name.local (let_names lets) (with_lets (name ∷ lets) props v) (with_lets (name ∷ lets) props v')
    (lets_agree (inside (name.local ∷ []) scope) lets props (let_by name (prop_named name.prop props) v) (let_by name (prop_named name.prop props) v') (let_agrees scope name (prop_named name.prop props) v v' h))

let_owner : (name : LetName) (o : Option SlotProp) (v : View) → owner_of (let_by name o v) ≡ owner_of v
let_owner name None v = refl
let_owner name (Some prop) v = refl

lets_owner : (lets : List LetName) (props : List SlotProp) (v : View) → owner_of (with_lets lets props v) ≡ owner_of v
lets_owner [] props v = refl
lets_owner (name ∷ lets) props v = lets_owner lets props (let_by name (prop_named name.prop props) v) ∙ let_owner name (prop_named name.prop props) v

-- ---- with what holds of owners

same_owners : (owners : OfOwners) (v v' w w' : View) → owner_of w ≡ owner_of v → owner_of w' ≡ owner_of v' → owners (owner_of v) (owner_of v') → owners (owner_of w) (owner_of w')
same_owners owners v v' w w' e e' h = subst (λ o. owners o (owner_of w')) (sym e) (subst (owners (owner_of v)) (sym e') h)

pub row_with : (scope : Scope) (slot : Bool) (owners : OfOwners) (h : Head) (n i : ℕ) (x : Val) (v v' : View) → AgreesWith scope slot owners v v' →
    AgreesWith (inside (row_names h.item h.index) scope) slot owners (row_view h n i x v) (row_view h n i x v')
row_with scope slot owners h n i x v v' a = (
  row_agrees scope h n i x v v' a.0,
  λ e. same_owners owners v v' (row_view h n i x v) (row_view h n i x v') (index_owner h.index n i (with_local v h.item.0 x n)) (index_owner h.index n i (with_local v' h.item.0 x n)) (a.1 e),
)

pub lets_with : (scope : Scope) (slot : Bool) (owners : OfOwners) (lets : List LetName) (props : List SlotProp) (v v' : View) → AgreesWith scope slot owners v v' →
    AgreesWith (inside (let_names lets) scope) slot owners (with_lets lets props v) (with_lets lets props v')
lets_with scope slot owners lets props v v' a = (
  lets_agree scope lets props v v' a.0,
  λ e. same_owners owners v v' (with_lets lets props v) (with_lets lets props v') (lets_owner lets props v) (lets_owner lets props v') (a.1 e),
)
