-- What is made of expressions and of attributes adds the functions of the expressions that stand there, of which its parts are made.
use Rattle.std.proofs.Common.{◌≡◌, ℕ, Bool, true, false, List, [], ◌∷◌, ◌++◌, Option, None, Some, append-nil, append_assoc, length, map, option_map, refl, sym, ap, subst, ◌∙◌}
use Rattle.std.specs.Prelude.{if◌then◌else◌}
use Rattle.std.specs.Option.{option_to_list}
use Rattle.sv_ast.specs.declared.markup_tree.AttrKind.{AttrKind}
use Rattle.sv_ast.specs.declared.markup_tree.AttrKind.TheVariants as kind
use Rattle.sv_ast.specs.declared.markup_tree.AttrPart.{AttrPart}
use Rattle.sv_ast.specs.declared.markup_tree.AttrPart.TheVariants as attr_part
use Rattle.sv_ast.specs.declared.markup_tree.AttrValue.{AttrValue}
use Rattle.sv_ast.specs.declared.markup_tree.AttrValue.TheVariants as attr_value
use Rattle.sv_ast.specs.declared.markup_tree.TagAttr.{TagAttr}
use Rattle.sv_ast.specs.declared.names.Named.{Named}
use Rattle.sv_ast.specs.declared.names.Ref.{Ref}
use Rattle.sv_ast.specs.declared.script_tree.Expr.{Expr}
use Rattle.sv_code.proofs.Each.{each_append}
use Rattle.sv_code.specs.Names.{Each}
use Rattle.sv_code.specs.Parts as parts
use Rattle.sv_code.specs.declared.fragments.Frag.{Frag as AnyFrag}
use Rattle.sv_code.specs.declared.fragments.FragArm.{FragArm}
use Rattle.sv_code.specs.declared.fragments.FragAttr.{FragAttr}
use Rattle.sv_code.specs.declared.fragments.FragAttr.TheVariants as frag_attr
use Rattle.sv_code.specs.declared.fragments.FragValue.{FragValue}
use Rattle.sv_code.specs.declared.fragments.FragValue.TheVariants as frag_value
use Rattle.sv_code.specs.declared.fragments.FragValuePart.{FragValuePart}
use Rattle.sv_code.specs.declared.fragments.FragValuePart.TheVariants as value_part
use Rattle.sv_code.specs.declared.parts.Part.{Part as AnyPart}
use Rattle.sv_code.specs.declared.tags.Handler.{Handler}
use Rattle.sv_lower.specs.Does.{just, of_one, of_two, each, given, followed, within}
use Rattle.sv_lower.specs.Lower.{of_expr}
use Rattle.sv_scopes.specs.Attributes.{lets as declared_lets}
use Rattle.sv_scopes.specs.Parts.{names_of}
use Rattle.sv_scopes.specs.Rows.{row_names}
use Rattle.sv_scopes.specs.declared.scope.Declared.{Declared}
use Rattle.sv_fragments.specs.declared.around.Tables.{Tables}
use Rattle.sv_fragments.specs.Builds.{Around, Builds}
use Rattle.sv_fragments.specs.Expressions.{part_of, part}
use Rattle.sv_fragments.specs.Attributes.{shown, value, expr_of, directive, handler, with_handler, attr_of, attr, attrs}
use Rattle.sv_fragments.specs.Tags.{Form, let_refs, own_refs, has_own_lets}
use Rattle.sv_fragments.specs.Frags.{row_refs}
use Rattle.sv_source.specs.Open.{IsPlain, AreOfTop}
use Rattle.sv_meant.specs.Meant.{arrows_behind, OneByOne}
use Rattle.sv_meant.specs.Pieces.{Lists}
use Rattle.sv_meant.specs.Pieces as lists
use Rattle.sv_meant.specs.Spots as spots
use Rattle.sv_meant.specs.Spots.{Spread, OfHandler, OfTag, none, one, hears, holds}
use Rattle.sv_meant.proofs.Spreading.{spread_both}
use Rattle.sv_meant.proofs.Made.{Contents, IsMade, Placed, Sound, Grown, Made, one_by_one, all_stay, one_more, grown_none, grown_both, grown_handler, spread_on}
use Rattle.sv_within.proofs.Keeping.{last_stands}
use Rattle.sv_source.specs.Programs.{Piece, Part}
use Rattle.sv_source.proofs.Names.{each_with_names}
use Rattle.sv_within.proofs.Contents.{Filled, Head, Row, text_empty, show_same, element_same, slot_parts, tag_parts, named_same, if_same, each_same, key_same, arm_same}
use Rattle.sv_within.proofs.Contents as contents

-- ---- what there is in each

abbrev pub alone : Contents AnyPart
alone = record { parts = λ p. p ∷ []; spots = spots.alone }

abbrev pub optional : {A : Type 0} → Contents A → Contents (Option A)
optional of = record { parts = parts.if_any of.parts; spots = spots.if_any of.spots }

abbrev pub several : {A : Type 0} → Contents A → Contents (List A)
several of = record { parts = λ xs. parts.in_turn (map of.parts xs); spots = λ xs. spots.in_turn (map of.spots xs) }

abbrev of_value_part : Contents FragValuePart
of_value_part = record { parts = parts.of_value_part; spots = spots.of_value_part }

abbrev of_value : Contents FragValue
of_value = record { parts = parts.of_value; spots = spots.of_value }

abbrev of_attr : Contents FragAttr
of_attr = record { parts = parts.of_attr; spots = spots.of_attr }

abbrev pub of_attrs : Contents (List FragAttr)
of_attrs = record { parts = parts.of_attrs; spots = spots.of_attrs }

abbrev pub of_handler : Contents Handler
of_handler = record { parts = parts.of_handler; spots = spots.of_handler }

abbrev pub of_frag : Contents AnyFrag
of_frag = record { parts = parts.of_frag; spots = spots.of_frag }

abbrev pub of_frags : Contents (List AnyFrag)
of_frags = record { parts = parts.of_frags; spots = spots.of_frags }

abbrev pub of_arm : Contents FragArm
of_arm = record { parts = contents.of_arm.parts; spots = spots.of_arm }

abbrev pub in_filled : Contents Filled
in_filled = record { parts = λ f. parts.of_attrs f.attrs ++ parts.of_frags f.content; spots = λ f. spots.of_attrs f.attrs ++ spots.of_frags f.content }

abbrev pub in_head : Contents Head
in_head = record { parts = λ h. h.list ∷ parts.if_any alone.parts h.key; spots = λ h. spots.alone h.list ++ spots.if_any spots.alone h.key }

abbrev pub in_row : Contents Row
in_row = record { parts = λ r. r.list ∷ (parts.if_any alone.parts r.key ++ parts.of_frags r.body); spots = λ r. spots.alone r.list ++ (spots.if_any spots.alone r.key ++ spots.of_frags r.body) }

-- what is in a thing is what is in another one, or in nothing, or in two
abbrev pub Same : {A B : Type 0} → Contents A → A → Contents B → B → Type 0
Same na a nb b = (nb.parts b ≡ na.parts a) × (nb.spots b ≡ na.spots a)

abbrev pub IsBare : {A : Type 0} → Contents A → A → Type 0
IsBare of x = (of.parts x ≡ []) × (of.spots x ≡ [])

abbrev pub Beside : {A B C : Type 0} → Contents A → A → Contents B → B → Contents C → C → Type 0
Beside na a nb b nc c = (nc.parts c ≡ na.parts a ++ nb.parts b) × (nc.spots c ≡ na.spots a ++ nb.spots b)

module _ (before : List Piece) (around : Around) (proper : AreOfTop around.tops) where
  -- short forms
  abbrev pub Here : List Piece → AnyPart → Type 0
  Here = Placed before around.tops

  abbrev pub Makes : {A : Type 0} → Contents A → (own more : List Piece) → Tables → A × Tables → Type 0
  Makes of own more t made = Made before around.tops of own more t made

  -- inside whatever scopes, what is made adds the functions of what is listed
  abbrev pub Add : {A : Type 0} → Contents A → Lists → Builds A → Type 0
  Add of wants make = (locals : List Ref) → Each IsPlain locals → (own : List Piece) (t : Tables) → Sound before around.tops own t → Makes of own (wants around.tops locals) t (make around locals t)

  -- ---- combinators

  -- the same may be listed in another form
  pub same_add : {A : Type 0} (of : Contents A) (ws vs : Lists) (make : Builds A) → ((locals : List Ref) → ws around.tops locals ≡ vs around.tops locals) → Add of ws make → Add of vs make
  same_add of ws vs make e k locals plain own t h = subst (λ z. Makes of own z t (make around locals t)) (e locals) (k locals plain own t h)

  pub just_add : {A : Type 0} (of : Contents A) (x : A) → IsBare of x → Add of lists.nothing (just x)
  just_add of x e locals plain own t h = record {
    later = own;
    is = sym (append-nil own);
    sound = h;
    grown = grown_none before around.tops own t t refl refl;
    parts = subst (Each (Here own)) (sym e.0) tt;
    in_order = [];
    spread = subst (λ z. Spread t.tags t.handlers z []) (sym e.1) none;
    one_by_one = tt;
  }

  pub one_add : {A B : Type 0} (na : Contents A) (nb : Contents B) (ws : Lists) (make : A → B) (of : Builds A) → ((a : A) → Same na a nb (make a)) → Add na ws of → Add nb ws (of_one make of)
  one_add na nb ws make of e k locals plain own t h =
      let m : Makes na own (ws around.tops locals) t (of around locals t) = k locals plain own t h in
      let a = (of around locals t).0 in
      let s : Tables = (of around locals t).1 in
      record {
        later = m.later;
        is = m.is;
        sound = m.sound;
        grown = m.grown;
        parts = subst (Each (Here m.later)) (sym (e a).0) m.parts;
        in_order = m.in_order;
        spread = subst (λ z. Spread s.tags s.handlers z m.in_order) (sym (e a).1) m.spread;
        one_by_one = m.one_by_one;
      }

  pub two_add : {A B C : Type 0} (na : Contents A) (nb : Contents B) (nc : Contents C) (ws vs : Lists) (make : A → B → C) (first : Builds A) (second : Builds B) → ((a : A) (b : B) → Beside na a nb b nc (make a b))
      → Add na ws first → Add nb vs second → Add nc (lists.followed ws vs) (of_two make first second)
  two_add na nb nc ws vs make first second e k l locals plain own t h =
      let xs : List Piece = ws around.tops locals in
      let ys : List Piece = vs around.tops locals in
      let m : Makes na own xs t (first around locals t) = k locals plain own t h in
      let a = (first around locals t).0 in
      let s : Tables = (first around locals t).1 in
      let n : Makes nb m.later ys s (second around locals s) = l locals plain m.later s m.sound in
      let b = (second around locals s).0 in
      let u : Tables = (second around locals s).1 in
      record {
        later = n.later;
        is = n.is ∙ ap (λ z. z ++ ys) m.is ∙ append_assoc own xs ys;
        sound = n.sound;
        grown = grown_both before around.tops m.later n.later ys n.is t s u m.grown n.grown;
        parts = subst (Each (Here n.later)) (sym (e a b).0) (each_append (Here n.later) (na.parts a) (nb.parts b) (all_stay before around.tops m.later n.later ys n.is (na.parts a) m.parts) n.parts);
        in_order = m.in_order ++ n.in_order;
        spread = subst (λ z. Spread u.tags u.handlers z (m.in_order ++ n.in_order)) (sym (e a b).1)
            (spread_both u.tags u.handlers (na.spots a) (nb.spots b) m.in_order n.in_order (spread_on before around.tops n.later s u n.grown (na.spots a) m.in_order m.spread) n.spread);
        one_by_one = one_by_one IsMade (before ++ own) xs ys m.in_order n.in_order m.one_by_one
            (subst (λ z. OneByOne IsMade z ys n.in_order) (ap (λ z. before ++ z) m.is ∙ sym (append_assoc before own xs)) n.one_by_one);
      }

  pub given_add : {A B : Type 0} (of : Contents B) (ws : A → Lists) (make : A → Builds B) (o : Option A) → ((a : A) → Add of (ws a) (make a)) → Add (optional of) (lists.given ws o) (given (option_map make o))
  given_add of ws make None h = just_add (optional of) None (refl, refl)
  given_add of ws make (Some a) h = one_add of (optional of) (ws a) Some (make a) (λ b. (refl, refl)) (h a)

  pub within_add : {A : Type 0} (of : Contents A) (ws : Lists) (names : List Ref) (make : Builds A) → Each IsPlain names → Add of ws make → Add of (lists.within names ws) (within names make)
  within_add of ws names make plain h locals more own t s = h (names ++ locals) (each_append IsPlain names locals plain more) own t s

  -- ---- names

  pub row_plain : (item : Named) (index : Option Named) → Each IsPlain (row_refs item index)
  row_plain item None = each_with_names IsPlain [] (row_names item None) tt (tt, tt)
  row_plain item (Some index) = each_with_names IsPlain [] (row_names item (Some index)) tt (tt, (tt, tt))

  lets_plain : (ds : List Declared) → Each IsPlain (names_of ds)
  lets_plain [] = tt
  lets_plain (d ∷ ds) = (tt, lets_plain ds)

  pub refs_plain : (list : List TagAttr) → Each IsPlain (let_refs list)
  refs_plain list = each_with_names IsPlain [] (names_of (declared_lets list)) tt (lets_plain (declared_lets list))

  pub own_plain : (form : Form) (list : List TagAttr) → Each IsPlain (own_refs form list)
  own_plain form list = by (has_own_lets form list)
    where
      by : (b : Bool) → Each IsPlain (if b then let_refs list else [])
      by true = refs_plain list
      by false = tt

  -- ---- expressions and attributes

  pub part_of_adds : (names : List Ref) (e : Expr) → Add alone (lists.alone e) (part_of names e)
  unfolding part_of
  part_of_adds names e locals plain own t h =
      let piece : Piece = Part around.tops locals e in
      let made = part_of names e around locals t in
      let is : IsMade (before ++ own) around.tops locals e made.0 = record { span = refl; code_is = ap (λ fs. (of_expr e around.tops locals fs).0) h.functions; arrows = ap (arrows_behind around.tops locals e) h.functions } in
      record {
        later = own ++ piece ∷ [];
        is = refl;
        sound = one_more before around.tops own piece t (proper, plain) h;
        grown = grown_none before around.tops (own ++ piece ∷ []) t made.1 refl refl;
        parts = (record { front = own; back = []; locals = locals; expression = e; place = refl; is = is }, tt);
        in_order = made.0 ∷ [];
        spread = one made.0 [] [] none;
        one_by_one = (is, tt);
      }

  pub part_adds : (e : Expr) → Add alone (lists.alone e) (part e)
  part_adds e = part_of_adds _ e

  shown_adds : (p : AttrPart) → Add of_value_part (lists.shown p) (shown p)
  shown_adds (attr_part.Text text) = just_add of_value_part (value_part.Text text) (refl, refl)
  shown_adds (attr_part.Show span e) = one_add alone of_value_part (lists.alone e) value_part.Show (part e) (λ p. (refl, refl)) (part_adds e)

  all_shown : (list : List AttrPart) → Add (several of_value_part) (lists.in_turn (map lists.shown list)) (each (map shown list))
  all_shown [] = just_add (several of_value_part) [] (refl, refl)
  all_shown (p ∷ list) = two_add of_value_part (several of_value_part) (several of_value_part) (lists.shown p) (lists.in_turn (map lists.shown list)) (λ x xs. x ∷ xs) (shown p) (each (map shown list)) (λ x xs. (refl, refl)) (shown_adds p) (all_shown list)

  value_adds : (v : AttrValue) → Add of_value (lists.value v) (value v)
  value_adds attr_value.Bare = just_add of_value frag_value.Bare (refl, refl)
  value_adds (attr_value.Parts list) = one_add (several of_value_part) of_value (lists.in_turn (map lists.shown list)) frag_value.Parts (each (map shown list)) (λ p. (refl, refl)) (all_shown list)

  directive_adds : (count : ℕ) (a : TagAttr) (e : Option Expr) → Add alone (lists.directive count a e) (directive count a e)
  directive_adds count a None = part_adds _
  directive_adds count a (Some e) = part_adds e

  handler_adds : (a : TagAttr) → Add of_handler (lists.given lists.alone (expr_of a.value)) (handler a)
  handler_adds a =
      one_add (optional alone) of_handler (lists.given lists.alone (expr_of a.value)) (λ p. record { span = a.span; name = a.name; modifiers = a.modifiers; listener = p }) (given (option_map part (expr_of a.value))) (λ p. (refl, refl)) (given_add alone lists.alone part (expr_of a.value) part_adds)

  -- a handler behind those that there are
  on_adds : (a : TagAttr) → Add of_attr (lists.given lists.alone (expr_of a.value)) (followed (handler a) with_handler)
  on_adds a locals plain own t h =
      let m : Makes of_handler own (lists.given lists.alone (expr_of a.value) around.tops locals) t (handler a around locals t) = handler_adds a locals plain own t h in
      let made : Handler = (handler a around locals t).0 in
      let s : Tables = (handler a around locals t).1 in
      let u : Tables = record s { handlers = s.handlers ++ made ∷ [] } in
      let g : Grown before around.tops m.later s u = grown_handler before around.tops m.later s made m.parts in
      let n : ℕ = length s.handlers in
      record {
        later = m.later;
        is = m.is;
        sound = record { proper = m.sound.proper; functions = m.sound.functions };
        grown = grown_both before around.tops m.later m.later [] (sym (append-nil m.later)) t s u m.grown g;
        parts = tt;
        in_order = m.in_order;
        spread = subst (Spread u.tags u.handlers (OfHandler n ∷ [])) (append-nil m.in_order)
            (hears n made m.in_order [] [] (last_stands s.handlers made) (spread_on before around.tops m.later s u g (spots.of_handler made) m.in_order m.spread) none);
        one_by_one = m.one_by_one;
      }

  attr_of_adds : (k : AttrKind) (a : TagAttr) → Add (optional of_attr) (lists.attribute_of k a) (attr_of k a)
  attr_of_adds kind.Plain a = one_add of_value (optional of_attr) (lists.value a.value) (λ v. Some (frag_attr.Plain a.span a.name v)) (value a.value) (λ v. (refl, refl)) (value_adds a.value)
  attr_of_adds kind.On a = one_add of_attr (optional of_attr) (lists.given lists.alone (expr_of a.value)) Some (followed (handler a) with_handler) (λ p. (refl, refl)) (on_adds a)
  attr_of_adds kind.Bind a = one_add alone (optional of_attr) (lists.directive 5 a (expr_of a.value)) (λ p. Some (frag_attr.Bind a.span a.name p)) (directive 5 a (expr_of a.value)) (λ p. (refl, refl)) (directive_adds 5 a (expr_of a.value))
  attr_of_adds kind.Class a = one_add alone (optional of_attr) (lists.directive 6 a (expr_of a.value)) (λ p. Some (frag_attr.Class a.span a.name p)) (directive 6 a (expr_of a.value)) (λ p. (refl, refl)) (directive_adds 6 a (expr_of a.value))
  attr_of_adds kind.Let a = just_add (optional of_attr) None (refl, refl)
  attr_of_adds kind.Slot a = just_add (optional of_attr) None (refl, refl)

  own_first : (a : Option FragAttr) (more : List FragAttr) → Beside (optional of_attr) a of_attrs more of_attrs (option_to_list a ++ more)
  own_first None more = (refl, refl)
  own_first (Some a) more = (refl, refl)

  pub attrs_add : (list : List TagAttr) → Add of_attrs (lists.attributes list) (attrs list)
  attrs_add [] = just_add of_attrs [] (refl, refl)
  attrs_add (a ∷ list) = two_add (optional of_attr) of_attrs of_attrs (lists.attribute a) (lists.attributes list) (λ one more. option_to_list one ++ more) (attr a) (attrs list) own_first (attr_of_adds a.kind a) (attrs_add list)
