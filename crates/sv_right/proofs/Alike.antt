-- Views that give the same values, and what follows of evaluations on them.
use Rattle.std.proofs.Common.{◌≡◌, ℕ, suc, Bool, true, false, nat_eq, List, [], ◌∷◌, ◌++◌, Option, Some, None, option_map, unwrap_or, refl, sym, ap, ap₂, ◌∙◌, subst, if◌then◌else◌}
use Rattle.std.specs.Option.{option_and_then, option_to_list}
use Rattle.std.specs.Result.{result_ok}
use Rattle.sv_attributes.specs.Attr.{is_boolean, attr_of}
use Rattle.sv_attributes.specs.Values.{alone, is_literal}
use Rattle.sv_base.specs.declared.names.Name.{Name}
use Rattle.sv_code.proofs.Each.{each_of}
use Rattle.sv_code.specs.Names.{of_code, of_body}
use Rattle.sv_code.specs.declared.fragments.FragAttr.{FragAttr}
use Rattle.sv_code.specs.declared.fragments.FragAttr.TheVariants as attr
use Rattle.sv_code.specs.declared.fragments.FragValue.{FragValue}
use Rattle.sv_code.specs.declared.fragments.FragValue.TheVariants as value
use Rattle.sv_code.specs.declared.fragments.FragValuePart.{FragValuePart}
use Rattle.sv_code.specs.declared.fragments.FragValuePart.TheVariants as piece
use Rattle.sv_code.specs.declared.fragments.LetName.{LetName}
use Rattle.sv_code.specs.declared.known.Known.{Known}
use Rattle.sv_code.specs.declared.known.Known.TheVariants as known
use Rattle.sv_code.specs.declared.parts.Part.{Part}
use Rattle.sv_code.specs.declared.program.Program.{Program}
use Rattle.sv_fresh.specs.Blocks.{choose}
use Rattle.sv_fresh.specs.Slots.{passed_value, prop_with, prop_of, props}
use Rattle.sv_fresh.specs.Sources.{plain_props}
use Rattle.sv_fresh.specs.States.{parts_state, attr_state, states, shown_at, with_texts}
use Rattle.sv_fresh.specs.Values.{value_at, text_at, holds_at, is_truthy, piece_text, texts_after, value_by}
use Rattle.sv_local.proofs.Parts.{by_names}
use Rattle.sv_local.specs.Looks as looks
use Rattle.sv_ops.specs.Texts.{between}
use Rattle.sv_parts.specs.Tags.{passed_name}
use Rattle.sv_plan.specs.Lists.{Head, row_view, with_index, index_value}
use Rattle.sv_plan.specs.Slots.{prop_named, let_by, with_lets, outer, content_view}
use Rattle.sv_right.proofs.Lists.{some_same}
use Rattle.sv_right.proofs.Views.{value_in}
use Rattle.sv_right.specs.Drawing.{AreAlike, AreOwnersAlike, AreAllAlike, AreLevelsNamed, AreNamed}
use Rattle.sv_right.specs.Right.{IsProp, or_first, first_passing}
use Rattle.sv_shapes.specs.declared.shape.AttrState.TheVariants as state
use Rattle.sv_shapes.specs.declared.shape.SlotProp.{SlotProp}
use Rattle.sv_value.specs.Value.{Val, undefined, text}
use Rattle.sv_value.specs.Words.{text_of}
use Rattle.sv_view.specs.Level.{Level, View}
use Rattle.sv_view.specs.Local.{Local, local_at}
use Rattle.sv_view.specs.View.{with_local, view_from}

-- ---- values

known_alike : (v v' : View) → AreAlike v v' → (x : Known) → looks.IsAlike v v' x
known_alike v v' h (known.Cell n) = h.cells n
known_alike v v' h (known.Local x) = h.locals x
known_alike v v' h (known.Constant n) = tt
known_alike v v' h (known.Export file n) = tt
known_alike v v' h (known.Life l) = tt
known_alike v v' h known.Writable = tt
known_alike v v' h known.Derived = tt
known_alike v v' h (known.BuiltIn b) = tt

cell_alike : (v v' : View) → AreAlike v v' → (x : Known) → looks.IsCellAlike v v' x
cell_alike v v' h (known.Cell n) = h.cells n
cell_alike v v' h (known.Local x) = tt
cell_alike v v' h (known.Constant n) = tt
cell_alike v v' h (known.Export file n) = tt
cell_alike v v' h (known.Life l) = tt
cell_alike v v' h known.Writable = tt
cell_alike v v' h known.Derived = tt
cell_alike v v' h (known.BuiltIn b) = tt

pub value_alike : (p : Program) (v v' : View) → AreAlike v v' → (part : Part) → value_at p v part ≡ value_at p v' part
unfolding value_at
value_alike p v v' h part =
    ap result_ok
    (by_names p part v v' (record {
      one = h.one;
      code = each_of (looks.IsAlike v v') (known_alike v v' h) (of_code p.functions part.code);
      bodies = λ n f _ _. each_of (looks.IsCellAlike v v') (cell_alike v v' h) (of_body p.functions f.body);
    }))

-- where each part has the same value, so has all that is made of values
module _ (p : Program) (v v' : View) (same : (part : Part) → value_at p v part ≡ value_at p v' part) where
  pub text_alike : (part : Part) → text_at p v part ≡ text_at p v' part
  text_alike part = ap (option_and_then text_of) (same part)

  holds_alike : (part : Part) → holds_at p v part ≡ holds_at p v' part
  holds_alike part = ap is_truthy (same part)

  piece_alike : (x : FragValuePart) → piece_text p v x ≡ piece_text p v' x
  piece_alike (piece.Text t) = refl
  piece_alike (piece.Show part) = text_alike part

  texts_from : (o : Option (List ℕ)) (k k' : List ℕ → Option (List (List ℕ))) → ((t : List ℕ) → k t ≡ k' t) → option_and_then k o ≡ option_and_then k' o
  texts_from None k k' h = refl
  texts_from (Some t) k k' h = h t

  texts_alike : (parts : List FragValuePart) (passed : List (List ℕ)) → texts_after p v passed parts ≡ texts_after p v' passed parts
  texts_alike [] passed = refl
  texts_alike (x ∷ parts) passed =
      texts_from (piece_text p v x) (λ t. texts_after p v (passed ++ t ∷ []) parts) (λ t. texts_after p v' (passed ++ t ∷ []) parts) (λ t. texts_alike parts (passed ++ t ∷ []))
      ∙ ap (option_and_then (λ t. texts_after p v' (passed ++ t ∷ []) parts)) (piece_alike x)

  value_by_alike : (parts : List FragValuePart) (o : Option Part) → value_by p v parts o ≡ value_by p v' parts o
  value_by_alike parts None = ap (option_map (λ texts. text (between [] texts))) (texts_alike parts [])
  value_by_alike parts (Some part) = same part

  passed_alike : (x : FragValue) → passed_value p v x ≡ passed_value p v' x
  passed_alike value.Bare = refl
  passed_alike (value.Parts parts) = value_by_alike parts (alone parts)

  pub prop_alike : (a : FragAttr) → prop_of p v a ≡ prop_of p v' a
  prop_alike (attr.Plain span name x) = ap (option_map (prop_with name)) (passed_alike x)
  prop_alike (attr.On handler reads) = refl
  prop_alike (attr.Bind span name part) = ap (option_map (prop_with name)) (same part)
  prop_alike (attr.Class span name part) = refl

  shown_alike : (name : Name) (part : Part) → shown_at p v name part ≡ shown_at p v' name part
  shown_alike name part = ap (λ o. state.Shows (option_and_then (attr_of (is_boolean p name)) o)) (same part)

  parts_alike : (name : Name) (parts : List FragValuePart) (o : Option Part) → parts_state p v name parts o ≡ parts_state p v' name parts o
  parts_alike name parts None = ap (λ o. if is_literal parts then state.Written else with_texts o) (texts_alike parts [])
  parts_alike name parts (Some part) = shown_alike name part

  state_alike : (a : FragAttr) → attr_state p v a ≡ attr_state p v' a
  state_alike (attr.Plain span name value.Bare) = refl
  state_alike (attr.Plain span name (value.Parts parts)) = parts_alike name parts (alone parts)
  state_alike (attr.On handler reads) = refl
  state_alike (attr.Bind span name part) = shown_alike name part
  state_alike (attr.Class span name part) = ap state.Holds (holds_alike part)

  pub states_alike : (attrs : List FragAttr) → states p v attrs ≡ states p v' attrs
  states_alike [] = refl
  states_alike (a ∷ attrs) = ap₂ (λ st sts. st ∷ sts) (state_alike a) (states_alike attrs)

  pub choose_alike : (ts : List Part) (i : ℕ) → choose p v ts i ≡ choose p v' ts i
  choose_alike [] i = refl
  choose_alike (t ∷ ts) i = ap₂ (λ b n. if b then i else n) (holds_alike t) (choose_alike ts (suc i))

-- ---- views with one more name, and of owners

value_over : (b : Bool) (l l' : Local) (o o' : Option Local) → l.value ≡ l'.value → value_in o ≡ value_in o' → value_in (if b then Some l else o) ≡ value_in (if b then Some l' else o')
value_over true l l' o o' e h = ap Some e
value_over false l l' o o' e h = h

local_alike : (name n n' : ℕ) (x x' : Val) (v v' : View) → x ≡ x' → AreAllAlike v v' → AreAllAlike (with_local v name x n) (with_local v' name x' n')
local_alike name n n' x x' v v' e h = record {
  own = record {
    one = record { inst = h.own.one.inst; constants = h.own.one.constants; modules = h.own.one.modules };
    cells = h.own.cells;
    locals = λ y. value_over (nat_eq name y.0) (record { name = name; value = x; number = n }) (record { name = name; value = x'; number = n' }) (local_at v.own.locals y.0) (local_at v'.own.locals y.0) e (h.own.locals y);
  };
  owners = h.owners;
}

index_alike : (name : Option Name) (n n' i : ℕ) (v v' : View) → AreAllAlike v v' → AreAllAlike (with_index name n i v) (with_index name n' i v')
index_alike None n n' i v v' h = h
index_alike (Some name) n n' i v v' h = local_alike name.0 n n' (index_value i) (index_value i) v v' refl h

pub row_alike : (h : Head) (n n' i : ℕ) (x : Val) (v v' : View) → AreAllAlike v v' → AreAllAlike (row_view h n i x v) (row_view h n' i x v')
row_alike h n n' i x v v' all = index_alike h.index n n' i (with_local v h.item.0 x n) (with_local v' h.item.0 x n') (local_alike h.item.0 n n' x x v v' refl all)

outer_over : (v v' : View) (ls ls' : List Level) → AreAllAlike v v' → AreOwnersAlike v.modules v'.modules ls ls' → AreAllAlike (unwrap_or (view_from ls v.modules) v) (unwrap_or (view_from ls' v'.modules) v')
outer_over v v' [] [] h k = h
outer_over v v' [] (l' ∷ ls') h k = absurd k
outer_over v v' (l ∷ ls) [] h k = absurd k
outer_over v v' (l ∷ ls) (l' ∷ ls') h k = record { own = k.0; owners = k.1 }

-- both are there or none is, with the same value
abbrev pub IsAlikeProp : Option SlotProp → Option SlotProp → Type 0
IsAlikeProp None None = Unit {0}
IsAlikeProp None (Some b) = ⊥
IsAlikeProp (Some a) None = ⊥
IsAlikeProp (Some a) (Some b) = a.value ≡ b.value

let_alike : (name : LetName) (a b : Option SlotProp) (v v' : View) → IsAlikeProp a b → AreAllAlike v v' → AreAllAlike (let_by name a v) (let_by name b v')
let_alike name None None v v' e h = local_alike name.local.0 0 0 undefined undefined v v' refl h
let_alike name None (Some b) v v' e h = absurd e
let_alike name (Some a) None v v' e h = absurd e
let_alike name (Some a) (Some b) v v' e h = local_alike name.local.0 a.number b.number a.value b.value v v' e h

lets_alike : (lets : List LetName) (olds news : List SlotProp) (v v' : View) → ((x : Name) → IsAlikeProp (prop_named x olds) (prop_named x news)) → AreAllAlike v v' → AreAllAlike (with_lets lets olds v) (with_lets lets news v')
lets_alike [] olds news v v' e h = h
lets_alike (name ∷ lets) olds news v v' e h =
    lets_alike lets olds news (let_by name (prop_named name.prop olds) v) (let_by name (prop_named name.prop news) v') e (let_alike name (prop_named name.prop olds) (prop_named name.prop news) v v' (e name.prop) h)

pub content_alike : (lets : List LetName) (olds news : List SlotProp) (v v' : View) → ((x : Name) → IsAlikeProp (prop_named x olds) (prop_named x news)) → AreAllAlike v v' →
    AreAllAlike (content_view lets olds v) (content_view lets news v')
unfolding content_view
content_alike lets olds news v v' e h = lets_alike lets olds news (outer v) (outer v') e (outer_over v v' v.owners v'.owners h h.owners)

-- ---- the same names

named_local : (name n n' : ℕ) (x x' : Val) (v v' : View) → x ≡ x' → n ≡ n' → AreNamed v v' → AreNamed (with_local v name x n) (with_local v' name x' n')
named_local name n n' x x' v v' e q h =
    ((h.0.0, ap₂ (λ (l : Local) ls. l ∷ ls) (ap₂ (λ y k. record { name = name; value = y; number = k }) e q) h.0.1), h.1)

named_index : (name : Option Name) (n i : ℕ) (v v' : View) → AreNamed v v' → AreNamed (with_index name n i v) (with_index name n i v')
named_index None n i v v' h = h
named_index (Some name) n i v v' h = named_local name.0 n n (index_value i) (index_value i) v v' refl refl h

pub named_row : (h : Head) (n i : ℕ) (x : Val) (v v' : View) → AreNamed v v' → AreNamed (row_view h n i x v) (row_view h n i x v')
named_row h n i x v v' all = named_index h.index n i (with_local v h.item.0 x n) (with_local v' h.item.0 x n) (named_local h.item.0 n n x x v v' refl refl all)

named_over : (v v' : View) (ls ls' : List Level) → AreNamed v v' → AreLevelsNamed ls ls' → AreNamed (unwrap_or (view_from ls v.modules) v) (unwrap_or (view_from ls' v'.modules) v')
named_over v v' [] [] h k = h
named_over v v' [] (l' ∷ ls') h k = absurd k
named_over v v' (l ∷ ls) [] h k = absurd k
named_over v v' (l ∷ ls) (l' ∷ ls') h k = k

-- both are there or none is, with the same value and number
abbrev pub IsSameProp : Option SlotProp → Option SlotProp → Type 0
IsSameProp None None = Unit {0}
IsSameProp None (Some b) = ⊥
IsSameProp (Some a) None = ⊥
IsSameProp (Some a) (Some b) = (a.value ≡ b.value) × (a.number ≡ b.number)

named_let : (name : LetName) (a b : Option SlotProp) (v v' : View) → IsSameProp a b → AreNamed v v' → AreNamed (let_by name a v) (let_by name b v')
named_let name None None v v' e h = named_local name.local.0 0 0 undefined undefined v v' refl refl h
named_let name None (Some b) v v' e h = absurd e
named_let name (Some a) None v v' e h = absurd e
named_let name (Some a) (Some b) v v' e h = named_local name.local.0 a.number b.number a.value b.value v v' e.0 e.1 h

named_lets : (lets : List LetName) (olds news : List SlotProp) (v v' : View) → ((x : Name) → IsSameProp (prop_named x olds) (prop_named x news)) → AreNamed v v' → AreNamed (with_lets lets olds v) (with_lets lets news v')
named_lets [] olds news v v' e h = h
named_lets (name ∷ lets) olds news v v' e h =
    named_lets lets olds news (let_by name (prop_named name.prop olds) v) (let_by name (prop_named name.prop news) v') e (named_let name (prop_named name.prop olds) (prop_named name.prop news) v v' (e name.prop) h)

pub named_content : (lets : List LetName) (olds news : List SlotProp) (v v' : View) → ((x : Name) → IsSameProp (prop_named x olds) (prop_named x news)) → AreNamed v v' →
    AreNamed (content_view lets olds v) (content_view lets news v')
unfolding content_view
named_content lets olds news v v' e h = named_lets lets olds news (outer v) (outer v') e (named_over v v' v.owners v'.owners h h.1)

-- ---- the props of a slot

-- a prop that an attribute gives has its name, and no number
abbrev IsPlainProp : Name → Option SlotProp → Type 0
IsPlainProp name None = Unit {0}
IsPlainProp name (Some prop) = (prop.name.0 ≡ name.0) × (prop.number ≡ 0)

prop_plain : (name : Name) (o : Option Val) → IsPlainProp name (option_map (prop_with name) o)
prop_plain name None = tt
prop_plain name (Some x) = (refl, refl)

given_plain : (p : Program) (v : View) (a : FragAttr) (own : Name) → passed_name a ≡ Some own → IsPlainProp own (prop_of p v a)
given_plain p v (attr.Plain span name x) own e = subst (λ z. IsPlainProp z (option_map (prop_with name) (passed_value p v x))) (some_same e) (prop_plain name (passed_value p v x))
given_plain p v (attr.On handler reads) own e = absurd (cc)
given_plain p v (attr.Bind span name part) own e = subst (λ z. IsPlainProp z (option_map (prop_with name) (value_at p v part))) (some_same e) (prop_plain name (value_at p v part))
given_plain p v (attr.Class span name part) own e = absurd (cc)

gives_none : (p : Program) (v : View) (a : FragAttr) → passed_name a ≡ None → prop_of p v a ≡ None
gives_none p v (attr.Plain span name x) e = absurd (cc)
gives_none p v (attr.On handler reads) e = refl
gives_none p v (attr.Bind span name part) e = absurd (cc)
gives_none p v (attr.Class span name part) e = refl

-- the prop of a name is what the first attribute of that name gives, if it gives something
abbrev pub GivesFirst : Program → View → Option FragAttr → Type 0
GivesFirst p v None = Unit {0}
GivesFirst p v (Some a) = prop_of p v a ≡ None → ⊥

named_more : (name : Name) (prop : SlotProp) (more : List SlotProp) (own : Name) (b : Bool) → prop.name.0 ≡ own.0 → nat_eq own.0 name.0 ≡ b → prop_named name (prop ∷ more) ≡ (if b then Some prop else prop_named name more)
named_more name prop more own b e q = ap (λ c. if c then Some prop else prop_named name more) (ap (λ n. nat_eq n name.0) e ∙ q)

props_more : (p : Program) (v : View) (name : Name) (a : FragAttr) (attrs : List FragAttr) → (GivesFirst p v (first_passing name attrs) → prop_named name (props p v attrs) ≡ option_and_then (prop_of p v) (first_passing name attrs)) →
    GivesFirst p v (first_passing name (a ∷ attrs)) → prop_named name (option_to_list (prop_of p v a) ++ props p v attrs) ≡ option_and_then (prop_of p v) (first_passing name (a ∷ attrs))
props_more p v name a attrs rest gives = by (passed_name a) refl gives
  where
    over : (own : Name) (b : Bool) (o : Option SlotProp) → prop_of p v a ≡ o → IsPlainProp own o → nat_eq own.0 name.0 ≡ b → GivesFirst p v (if b then Some a else first_passing name attrs) →
        prop_named name (option_to_list o ++ props p v attrs) ≡ option_and_then (prop_of p v) (if b then Some a else first_passing name attrs)
    over own true None is plain e g = absurd (g is)
    over own true (Some prop) is plain e g = named_more name prop (props p v attrs) own true plain.0 e ∙ sym is
    over own false None is plain e g = rest g
    over own false (Some prop) is plain e g = named_more name prop (props p v attrs) own false plain.0 e ∙ rest g

    by : (o : Option Name) → passed_name a ≡ o → GivesFirst p v (or_first name a o (first_passing name attrs)) →
        prop_named name (option_to_list (prop_of p v a) ++ props p v attrs) ≡ option_and_then (prop_of p v) (or_first name a o (first_passing name attrs))
    by None is g = ap (λ o. prop_named name (option_to_list o ++ props p v attrs)) (gives_none p v a is) ∙ rest g
    by (Some own) is g = over own (nat_eq own.0 name.0) (prop_of p v a) refl (given_plain p v a own is) refl g

props_first : (p : Program) (v : View) (name : Name) (attrs : List FragAttr) → GivesFirst p v (first_passing name attrs) → prop_named name (props p v attrs) ≡ option_and_then (prop_of p v) (first_passing name attrs)
props_first p v name [] gives = refl
props_first p v name (a ∷ attrs) gives = props_more p v name a attrs (λ g. props_first p v name attrs g) gives

plain_named : (name : Name) (olds : List SlotProp) → prop_named name (plain_props olds) ≡ option_map (λ prop. prop_with prop.name prop.value) (prop_named name olds)
plain_named name [] = refl
plain_named name (prop ∷ olds) = by (nat_eq prop.name.0 name.0) (plain_named name olds)
  where
    by : (b : Bool) → prop_named name (plain_props olds) ≡ option_map (λ q. prop_with q.name q.value) (prop_named name olds) →
        (if b then Some (prop_with prop.name prop.value) else prop_named name (plain_props olds)) ≡ option_map (λ q. prop_with q.name q.value) (if b then Some prop else prop_named name olds)
    by true e = refl
    by false e = e

-- the first attribute of a name passes a value of that name
first_named : (name : Name) (attrs : List FragAttr) (a : FragAttr) → first_passing name attrs ≡ Some a → passed_name a ≡ None → ⊥
first_named name [] a e none = absurd (cc)
first_named name (x ∷ attrs) a e none = by (passed_name x) refl e (first_named name attrs a)
  where
    over : (b : Bool) (own : Name) → passed_name x ≡ Some own → (if b then Some x else first_passing name attrs) ≡ Some a → (first_passing name attrs ≡ Some a → passed_name a ≡ None → ⊥) → ⊥
    over true own is q rest = absurd (cc (sym (ap passed_name (some_same q)) ∙ is, none))
    over false own is q rest = rest q none

    by : (o : Option Name) → passed_name x ≡ o → or_first name x o (first_passing name attrs) ≡ Some a → (first_passing name attrs ≡ Some a → passed_name a ≡ None → ⊥) → ⊥
    by None is q rest = rest q none
    by (Some own) is q rest = over (nat_eq own.0 name.0) own is q rest

-- where the props that are held are those that attributes pass on a view, those that are given on a view with the same values are alike
module _ (p : Program) (v now : View) (attrs : List FragAttr) (held : List SlotProp) (same : (part : Part) → value_at p v part ≡ value_at p now part)
    (right : (name : Name) → IsProp p v (first_passing name attrs) (prop_named name held)) where
  -- the value of a prop
  abbrev value_of : Option SlotProp → Option Val
  value_of o = option_map (λ prop. prop.value) o

  gives : (first : Option FragAttr) (old : Option SlotProp) → IsProp p v first old → GivesFirst p now first
  gives None old h = tt
  gives (Some a) None h = absurd h
  gives (Some a) (Some prop) h = λ e. absurd (cc (sym (ap value_of (prop_alike p v now same a ∙ e)) ∙ h.0))

  both : (first : Option FragAttr) (old new : Option SlotProp) → IsProp p v first old → new ≡ option_and_then (prop_of p now) first → IsAlikeProp old new
  both None None new h e = subst (IsAlikeProp None) (sym e) tt
  both None (Some prop) new h e = absurd (cc)
  both (Some a) None new h e = absurd h
  both (Some a) (Some prop) None h e = absurd (cc (ap value_of (e ∙ sym (prop_alike p v now same a)) ∙ h.0))
  both (Some a) (Some prop) (Some q) h e = some_same (sym h.0 ∙ ap value_of (prop_alike p v now same a ∙ sym e))

  pub props_alike : (name : Name) → IsAlikeProp (prop_named name held) (prop_named name (props p now attrs))
  props_alike name =
      both (first_passing name attrs) (prop_named name held) (prop_named name (props p now attrs)) (right name) (props_first p now name attrs (gives (first_passing name attrs) (prop_named name held) (right name)))

  no_number : (first : Option FragAttr) (new : Option SlotProp) → ((a : FragAttr) → first ≡ Some a → passed_name a ≡ None → ⊥) → new ≡ option_and_then (prop_of p now) first → (prop : SlotProp) → new ≡ Some prop → prop.number ≡ 0
  no_number None new named e prop q = absurd (cc)
  no_number (Some a) new named e prop q = by (passed_name a) refl
    where
      by : (o : Option Name) → passed_name a ≡ o → prop.number ≡ 0
      by None is = absurd (named a refl is)
      by (Some own) is = (subst (IsPlainProp own) (sym e ∙ q) (given_plain p now a own is)).1

  same_plain : (old new : Option SlotProp) → IsAlikeProp old new → ((prop : SlotProp) → new ≡ Some prop → prop.number ≡ 0) → IsSameProp new (option_map (λ prop. prop_with prop.name prop.value) old)
  same_plain None None h k = tt
  same_plain None (Some b) h k = h
  same_plain (Some a) None h k = h
  same_plain (Some a) (Some b) h k = (sym h, k b refl)

  pub props_same : (name : Name) → IsSameProp (prop_named name (props p now attrs)) (prop_named name (plain_props held))
  props_same name =
      subst (IsSameProp (prop_named name (props p now attrs))) (sym (plain_named name held))
      (same_plain (prop_named name held) (prop_named name (props p now attrs)) (props_alike name)
      (no_number (first_passing name attrs) (prop_named name (props p now attrs)) (first_named name attrs) (props_first p now name attrs (gives (first_passing name attrs) (prop_named name held) (right name)))))
