-- What is made of markup reads nothing but what it looks at, and its looks are right: an induction over markup, a lemma a form.
use Rattle.std.proofs.Common.{◌≡◌, ℕ, ◌<◌, Bool, true, false, List, [], ◌∷◌, ◌++◌, Option, None, Some, length, map, option_map, refl, sym, subst, ◌∙◌}
use Rattle.std.specs.List.{All}
use Rattle.std.specs.Prelude.{⊤, not, ◌||◌, if◌then◌else◌, filter}
use Rattle.std.specs.Option.{option_to_list}
use Rattle.std.proofs.lemmas.List.Elements.{All-nil, All-cons, All-head, All-tail}
use Rattle.sv_ast.specs.declared.markup_tree.AttrKind.{AttrKind}
use Rattle.sv_ast.specs.declared.markup_tree.AttrKind.TheVariants as kind
use Rattle.sv_ast.specs.declared.markup_tree.AttrPart.{AttrPart}
use Rattle.sv_ast.specs.declared.markup_tree.AttrPart.TheVariants as attr_part
use Rattle.sv_ast.specs.declared.markup_tree.AttrValue.{AttrValue}
use Rattle.sv_ast.specs.declared.markup_tree.AttrValue.TheVariants as attr_value
use Rattle.sv_ast.specs.declared.markup_tree.Branch.{Branch, Branch-F, roll-Branch, map-Branch, fold-roll-Branch}
use Rattle.sv_ast.specs.declared.markup_tree.Markup.{Markup, Markup-F, roll-Markup, map-Markup, fold-roll-Markup, ind-Markup}
use Rattle.sv_ast.specs.declared.markup_tree.TagAttr.{TagAttr}
use Rattle.sv_ast.specs.declared.names.Named.{Named}
use Rattle.sv_ast.specs.declared.names.Ref.{Ref}
use Rattle.sv_ast.specs.declared.script_tree.Expr.{Expr}
use Rattle.sv_base.specs.declared.names.Name.{Name}
use Rattle.sv_base.specs.declared.span.Span.{Span}
use Rattle.sv_code.proofs.Each.{each_append, each_front, each_back, each_mono}
use Rattle.sv_code.specs.declared.fragments.Frag.{Frag as AnyFrag}
use Rattle.sv_code.specs.declared.fragments.Frag.TheVariants as frag
use Rattle.sv_code.specs.declared.fragments.FragArm.{FragArm}
use Rattle.sv_code.specs.declared.fragments.FragAttr.TheVariants as frag_attr
use Rattle.sv_code.specs.declared.fragments.FragValue.TheVariants as frag_value
use Rattle.sv_code.specs.declared.fragments.FragValuePart.TheVariants as value_part
use Rattle.sv_code.specs.declared.fragments.LetName.{LetName}
use Rattle.sv_code.specs.declared.tags.Handler.{Handler}
use Rattle.sv_code.specs.declared.tags.Tag.{Tag}
use Rattle.sv_code.specs.Content as looks
use Rattle.sv_code.specs.Content.{Look, IsTold, IsContentSeen, SeesView}
use Rattle.sv_code.specs.Names.{Each}
use Rattle.sv_code.specs.Parts.{of_tag}
use Rattle.sv_deps.specs.Looks as deps
use Rattle.sv_deps.specs.Looks.{tag_looks}
use Rattle.sv_deps.specs.Reading.{reading}
use Rattle.sv_lower.specs.Does.{each, given, followed, within}
use Rattle.sv_lower.specs.Lower.{of_expr}
use Rattle.sv_names.proofs.Same.{has-append, has-firsts, has-head}
use Rattle.sv_names.specs.Distinct.{has}
use Rattle.sv_names.specs.Uses.{free_names}
use Rattle.sv_scopes.specs.Attributes.{is_slotted}
use Rattle.sv_scopes.specs.declared.scope.TheConstants.{VIEW}
use Rattle.sv_white.specs.declared.pieces.Piece.TheVariants.{Words, Apart, Other}
use Rattle.sv_white.specs.White.{kept}
use Rattle.sv_fragments.specs.declared.around.Tables.{Tables}
use Rattle.sv_fragments.specs.Builds.{Around, Builds}
use Rattle.sv_fragments.specs.Expressions.{part_of, part, list_names}
use Rattle.sv_fragments.specs.Attributes.{shown, value, expr_of, directive, handler, heard, with_handler, attr_of, attr, attrs, lets}
use Rattle.sv_fragments.specs.Content.{Node, piece, content, nodes}
use Rattle.sv_fragments.specs.Tags.{Form, Element, Component, Slot, let_refs, own_lets, own_refs, strips, filled, tag_of, with_tag, closed, whole, named_by, tag}
use Rattle.sv_fragments.specs.Frags.{if_block, row_refs, head, row_of, row, with_none, each_block, key_block, markup, branch, node, arm, fragments}
use Rattle.sv_fragments.proofs.Kept.{kept_all}
use Rattle.sv_fragments.proofs.Looking.{numbers_within}
use Rattle.sv_within.proofs.Bools.{or_first, or_second}
use Rattle.sv_within.proofs.Contents.{Filled, alone, of_value_part, of_value, of_attr, of_attrs, of_handler, of_frag, of_frags, of_arm, of_filled, of_head, of_row, own_attrs, text_empty, show_same, element_same, slot_parts, slot_node_looks, tag_parts, tag_node_looks, named_same, if_same, each_same, key_same, arm_same}
use Rattle.sv_within.proofs.Keeping.{begins_with_more, last_stands, view_stays, HidesNoView, grows_not, more_functions, more_handlers, more_tags, tables_stay, one_handler_more, one_tag_more, Same, several, optional, inside, Keeps, just_keeps, one_keeps, two_keeps, followed_keeps, within_keeps, inside_keeps, each_by, each_keeps, mapped, given_keeps}
use Rattle.sv_within.proofs.Looking.{cell_has}
use Rattle.sv_within.proofs.Parts.{outside, parts_made_within}
use Rattle.sv_within.proofs.Seeing.{each_from_all, each_in_content}
use Rattle.sv_within.proofs.Telling.{IsBelow, heard_seen, heard_below, gathered_below, content_seen, tag_seen, part_views, handler_views, slot_views, tag_views, rows_free, lets_free, own_free}
use Rattle.sv_within.specs.Slots as slots
use Rattle.sv_within.specs.Slots.{any, has_slot, branch_has_slot, have_slot}
use Rattle.sv_within.specs.Staying.{IsTopOf, IsViewOf, StaysWithin, AreWithin, Begins, IsRight, Contents, IsMadeWithin, HasFree}

-- a piece of content is text, or what is made of it reads nothing but what it looks at
abbrev pub PieceKeeps : Around → Node → Type 0
PieceKeeps around (Words text) = ⊤
PieceKeeps around (Apart make) = Keeps around of_frag make
PieceKeeps around (Other make) = Keeps around of_frag make

-- a list looks at its own names, with a key too
list_free : (row : List Ref) (list : Expr) (key : Option Expr) → HasFree (list_names row list key) list
list_free row list None n h = h
list_free row list (Some key) n h =
    let others = filter (λ name. not (has name row)) (free_names key) in
    has-firsts n (free_names list ++ others) ∙ (has-append n (free_names list) others ∙ or_first (has n (free_names list)) (has n others) h)

-- the same parts, and the same looks inside whatever scopes
alike : {A B : Type 0} {na : Contents A} {nb : Contents B} {a : A} {b : B} → nb.parts b ≡ na.parts a → ((bound : List Name) → nb.looks b bound ≡ na.looks a bound) → Same na a nb b
alike p l = record { parts = p; looks = l }

module _ (around : Around) (top : IsTopOf around.tops around.cells) where
  abbrev Keep : {A : Type 0} → Contents A → Builds A → Type 0
  Keep of make = Keeps around of make

  abbrev Piece : Node → Type 0
  Piece p = PieceKeeps around p

  -- how many cells there are
  abbrev count : ℕ
  count = length around.cells

  abbrev Right : Tables → Look → Type 0
  Right s look = IsRight around.cells s look

  -- ---- expressions

  part_of_keeps : (names : List Ref) (e : Expr) → HasFree names e → Keep alone (part_of names e)
  unfolding part_of
  part_of_keeps names e own locals free before sound =
      let code = outside around.tops around.cells locals names top e before.functions own in
      let more : Begins before.functions (of_expr e around.tops locals before.functions).1 = record { added = code.added; is = code.is } in
      record {
        grows = more_functions before (of_expr e around.tops locals before.functions).1 more;
        parts = (parts_made_within around locals names e before top own, tt);
        looks = λ bound. (record { below = each_from_all (λ n. n < count) _ (numbers_within around.cells _); told = tt; views = λ view at depth. part_views _ view depth bound _ }, tt);
        tables = tables_stay before (of_expr e around.tops locals before.functions).1 more sound;
      }

  part_keeps : (e : Expr) → Keep alone (part e)
  part_keeps e = part_of_keeps (free_names e) e (λ n h. h)

  maybe_keeps : (e : Option Expr) → Keep (optional alone) (given (option_map part e))
  maybe_keeps e = given_keeps around alone part e part_keeps

  -- ---- attributes

  shown_keeps : (p : AttrPart) → Keep of_value_part (shown p)
  shown_keeps (attr_part.Text text) = just_keeps around of_value_part (value_part.Text text) (record { parts = refl; looks = λ bound. refl })
  shown_keeps (attr_part.Show span e) = one_keeps around alone of_value_part value_part.Show (part e) (λ p. alike refl (λ bound. refl)) (part_keeps e)

  value_keeps : (v : AttrValue) → Keep of_value (value v)
  value_keeps attr_value.Bare = just_keeps around of_value frag_value.Bare (record { parts = refl; looks = λ bound. refl })
  value_keeps (attr_value.Parts list) =
      one_keeps around (several of_value_part) of_value frag_value.Parts (each (map shown list)) (λ p. alike refl (λ bound. refl)) (each_keeps around of_value_part (map shown list) (mapped around of_value_part shown list shown_keeps))

  directive_keeps : (front : ℕ) (a : TagAttr) (e : Option Expr) → Keep alone (directive front a e)
  directive_keeps front a None = part_keeps _
  directive_keeps front a (Some e) = part_keeps e

  handler_keeps : (a : TagAttr) → Keep of_handler (handler a)
  handler_keeps a =
      one_keeps around (optional alone) of_handler (λ p. record { span = a.span; name = a.name; modifiers = a.modifiers; listener = p }) (given (option_map part (expr_of a.value))) (λ p. alike refl (λ bound. refl)) (maybe_keeps (expr_of a.value))

  -- what is right is at cells
  all_below : (s : Tables) (list : List Look) → Each (Right s) list → Each (IsBelow count) list
  all_below s list h = each_mono (Right s) (IsBelow count) (λ look is. is.below) list h

  -- and is told
  told_there : (s : Tables) (list : List Look) → Each (Right s) list → Each (IsTold s.tags s.handlers) list
  told_there s list h = each_mono (Right s) (IsTold s.tags s.handlers) (λ look is. is.told) list h

  handler_added : (s : Tables) → AreWithin s → (h : Handler) → Each (StaysWithin s.functions) (of_handler.parts h) → ((bound : List Name) → Each (Right s) (of_handler.looks h bound)) → IsMadeWithin around.cells of_attr s (with_handler h s)
  handler_added s sound h own right = record {
    grows = more_handlers s h;
    parts = tt;
    looks = λ bound. (
      record {
        below = heard_below count h.listener (all_below s (of_handler.looks h []) (right []));
        told = record { item = h; there = last_stands s.handlers h; holds = heard_seen h.listener };
        views = λ view at depth. handler_views s.tags view depth (length s.handlers) bound (heard h.listener);
      },
      tt,
    );
    tables = one_handler_more s h sound own;
  }

  attr_of_keeps : (k : AttrKind) (a : TagAttr) → Keep (optional of_attr) (attr_of k a)
  attr_of_keeps kind.Plain a = one_keeps around of_value (optional of_attr) (λ v. Some (frag_attr.Plain a.span a.name v)) (value a.value) (λ v. alike refl (λ bound. refl)) (value_keeps a.value)
  attr_of_keeps kind.On a =
      one_keeps around of_attr (optional of_attr) Some (followed (handler a) with_handler) (λ p. alike refl (λ bound. refl))
      (λ locals. followed_keeps around of_handler of_attr (handler a) with_handler locals handler_added (handler_keeps a))
  attr_of_keeps kind.Bind a = one_keeps around alone (optional of_attr) (λ p. Some (frag_attr.Bind a.span a.name p)) (directive 5 a (expr_of a.value)) (λ p. alike refl (λ bound. refl)) (directive_keeps 5 a (expr_of a.value))
  attr_of_keeps kind.Class a = one_keeps around alone (optional of_attr) (λ p. Some (frag_attr.Class a.span a.name p)) (directive 6 a (expr_of a.value)) (λ p. alike refl (λ bound. refl)) (directive_keeps 6 a (expr_of a.value))
  attr_of_keeps kind.Let a = just_keeps around (optional of_attr) None (record { parts = refl; looks = λ bound. refl })
  attr_of_keeps kind.Slot a = just_keeps around (optional of_attr) None (record { parts = refl; looks = λ bound. refl })

  attrs_keep : (list : List TagAttr) → Keep of_attrs (attrs list)
  attrs_keep [] = just_keeps around of_attrs [] (record { parts = refl; looks = λ bound. refl })
  attrs_keep (a ∷ list) = two_keeps around (optional of_attr) of_attrs of_attrs (λ own more. option_to_list own ++ more) (attr a) (attrs list) own_attrs (attr_of_keeps a.kind a) (attrs_keep list)

  -- ---- content

  piece_keeps : (names : List Ref) (p : Node) → HidesNoView names → Piece p → Keep of_frag (piece names p)
  piece_keeps names (Words text) own h = just_keeps around of_frag (frag.Text text) (text_empty text)
  piece_keeps names (Apart make) own h = h
  piece_keeps names (Other make) own h = within_keeps around of_frag names make own h

  pieces_keep : (names : List Ref) (list : List Node) → HidesNoView names → All Piece list → All (Keep of_frag) (map (piece names) list)
  pieces_keep names [] own h = All-nil (Keep of_frag)
  pieces_keep names (p ∷ list) own h = All-cons (Keep of_frag) (piece names p) (map (piece names) list) (piece_keeps names p own (All-head Piece p list h)) (pieces_keep names list own (All-tail Piece p list h))

  content_keeps : (strip : Bool) (names : List Ref) (list : List Node) → HidesNoView names → All Piece list → Keep of_frags (content strip names list)
  unfolding content
  content_keeps strip names list own h =
      each_by around of_frag of_frags (record { parts = refl; looks = λ bound. refl }) (λ x xs. alike refl (λ bound. refl)) (map (piece names) (kept strip list))
      (pieces_keep names (kept strip list) own (kept_all Piece (λ text. tt) strip list h))

  -- ---- tags

  filled_keeps : (form : Form) (list : List TagAttr) (children : List Node) → All Piece children → Keep of_filled (filled form list children)
  unfolding filled
  filled_keeps form list children h =
      two_keeps around of_attrs of_frags of_filled (λ xs made. record { attrs = xs; content = made }) (attrs list) (content (strips form) (own_refs form list) children) (λ a b. alike refl (λ bound. refl))
      (attrs_keep list) (content_keeps (strips form) (own_refs form list) children (own_free form list) h)

  -- its `<slot>`s look at the owner's view, behind one tag more too
  views_there : (s : Tables) (t : Tag) (view : Option ℕ) → (has VIEW around.cells ≡ true → IsViewOf around.cells view) → (depth : ℕ) → Each (Right s) (looks.of_tag t) → Each (SeesView (s.tags ++ t ∷ []) view depth) (looks.of_tag t)
  views_there s t view at depth h =
      each_mono (Right s) (SeesView (s.tags ++ t ∷ []) view depth) (λ look is. view_stays s.tags (s.tags ++ t ∷ []) (begins_with_more s.tags (t ∷ [])) view depth look (is.views view at depth)) (looks.of_tag t) h

  tag_added : (s : Tables) (t : Tag) → AreWithin s → Each (StaysWithin s.functions) (of_tag t) → Each (Right s) (looks.of_tag t) → IsContentSeen t → Each (λ n. n < count) t.reads.cells → IsMadeWithin around.cells of_frag s (with_tag count t s)
  tag_added s t sound own right seen below =
      let reads = tag_looks count t.attrs t.reads in
      let front = each_front (Right s) (looks.of_attrs t.attrs []) (looks.of_content t.lets t.content) right in
      record {
        grows = more_tags s t;
        parts = subst (Each (StaysWithin s.functions)) (sym (tag_parts (length s.tags) reads)) tt;
        looks = λ bound. subst (Each (Right (with_tag count t s).1)) (sym (tag_node_looks (length s.tags) reads bound)) (
          record {
            below = gathered_below count (deps.both (deps.attrs t.attrs) (deps.read t.reads) []);
            told = record { item = t; there = last_stands s.tags t; holds = tag_seen count t (all_below s (looks.of_attrs t.attrs []) front) below };
            views = λ view at depth. tag_views (s.tags ++ t ∷ []) view depth (length s.tags) bound reads t (last_stands s.tags t) (λ d. views_there s t view at d right);
          },
          tt,
        );
        tables = one_tag_more s t sound own seen (told_there s (looks.of_tag t) right);
      }

  component_closed : (span : Span) (name : Name) (own : List LetName) (f : Filled) (s : Tables) → AreWithin s → Each (StaysWithin s.functions) (of_filled.parts f) → ((bound : List Name) → Each (Right s) (of_filled.looks f bound))
      → IsMadeWithin around.cells of_frag s (with_tag count (tag_of around span name own f) s)
  component_closed span name own f s sound h right =
      let front = looks.of_attrs f.attrs in
      let back = looks.of_frags f.content in
      let stands = each_in_content (Right s) own f.content (λ bound. each_back (Right s) (front bound) (back bound) (right bound)) in
      let whole = each_append (Right s) (front []) (looks.of_content own f.content) (each_front (Right s) (front []) (back []) (right [])) stands in
      tag_added s (tag_of around span name own f) sound h whole (content_seen count own f.content (all_below s (looks.of_content own f.content) stands)) (gathered_below count (deps.content (deps.let_names own) f.content []))

  -- the owner's view is among the cells
  abbrev HasViewCell : Type 0
  HasViewCell = has VIEW around.cells ≡ true

  -- so it is for a `<slot>`
  abbrev IsShown : Form → Type 0
  IsShown (Element name) = ⊤
  IsShown (Component name) = ⊤
  IsShown (Slot name) = HasViewCell

  slot_closed : (span : Span) (name : List ℕ) (f : Filled) (locals : List Ref) → HidesNoView locals → HasViewCell → (s : Tables) → AreWithin s → Each (StaysWithin s.functions) (of_filled.parts f) → ((bound : List Name) → Each (Right s) (of_filled.looks f bound))
      → IsMadeWithin around.cells of_frag s (frag.Slot span name f.attrs f.content (reading around.tops around.cells locals (VIEW ∷ [])), s)
  slot_closed span name f locals free shows s sound h right =
      let reads = reading around.tops around.cells locals (VIEW ∷ []) in
      record {
        grows = grows_not s;
        parts = subst (Each (StaysWithin s.functions)) (sym (slot_parts span name f.attrs f.content reads)) h;
        looks = λ bound. subst (Each (Right s)) (sym (slot_node_looks span name f.attrs f.content reads bound)) (
          record {
            below = each_from_all (λ n. n < count) reads.cells (numbers_within around.cells _);
            told = tt;
            views = λ view at depth. slot_views s.tags view (at shows).cell depth bound reads (at shows).is (cell_has around.cells locals (VIEW ∷ []) VIEW (at shows).cell (at shows).stands (has-head VIEW VIEW [] refl) free);
          },
          right bound,
        );
        tables = sound;
      }

  closed_keeps : (form : Form) (span : Span) (own : List LetName) (f : Filled) (locals : List Ref) → HidesNoView locals → IsShown form → (s : Tables) → AreWithin s → Each (StaysWithin s.functions) (of_filled.parts f) → ((bound : List Name) → Each (Right s) (of_filled.looks f bound))
      → IsMadeWithin around.cells of_frag s (closed form span own f around locals s)
  unfolding closed
  closed_keeps (Element name) span own f locals free shows s sound h right =
      let same = element_same span name f.attrs f.content in
      record { grows = grows_not s; parts = subst (Each (StaysWithin s.functions)) (sym same.parts) h; looks = λ bound. subst (Each (Right s)) (sym (same.looks bound)) (right bound); tables = sound }
  closed_keeps (Component name) span own f locals free shows s sound h right = component_closed span name own f s sound h right
  closed_keeps (Slot name) span own f locals free shows s sound h right = slot_closed span name f locals free shows s sound h right

  whole_keeps : (form : Form) (span : Span) (list : List TagAttr) (children : List Node) → IsShown form → All Piece children → Keep of_frag (whole form span list children)
  unfolding whole
  whole_keeps form span list children shows h locals free =
      followed_keeps around of_filled of_frag (filled form list children) (λ f. closed form span (own_lets form list) f around locals) locals
      (λ s sound f there right. closed_keeps form span (own_lets form list) f locals free shows s sound there right) (filled_keeps form list children h) free

  apart_or_other : (b : Bool) (x y : Builds AnyFrag) → Keep of_frag x → Keep of_frag y → Piece (if b then Apart x else Other y)
  apart_or_other true x y h k = h
  apart_or_other false x y h k = k

  tag_keeps : (form : Form) (span : Span) (list : List TagAttr) (children : List Node) → IsShown form → All Piece children → Piece (tag form span list children)
  unfolding tag
  tag_keeps form span list children shows h =
      let make = whole form span list children in
      let keeps = whole_keeps form span list children shows h in
      let names = looks.let_names (lets list) in
      apart_or_other (is_slotted list) _ make
      (one_keeps around (inside names of_frag) of_frag (named_by list) (within (let_refs list) make) (named_same list)
      (inside_keeps around of_frag names (within (let_refs list) make) (within_keeps around of_frag (let_refs list) make (lets_free list) keeps))) keeps

  -- ---- blocks

  head_keeps : (names : List Ref) (bound : List Name) (list : Expr) (key : Option Expr) → HidesNoView names → Keep (of_head bound) (head names list key)
  unfolding head
  head_keeps names bound list key own =
      two_keeps around alone (inside bound (optional alone)) (of_head bound) (λ l k. record { list = l; key = k }) (part_of (list_names names list key) list) (within names (given (option_map part key))) (λ a b. alike refl (λ bound. refl))
      (part_of_keeps (list_names names list key) list (list_free names list key))
      (inside_keeps around (optional alone) bound (within names (given (option_map part key))) (within_keeps around (optional alone) names (given (option_map part key)) own (maybe_keeps key)))

  row_keeps : (list : Expr) (item : Named) (index : Option Named) (key : Option Expr) (body : List Node) → All Piece body → Keep of_row (row list item index key body)
  unfolding row
  row_keeps list item index key body h =
      let names = row_refs item index in
      let bound = looks.row_names item.name (option_map (λ i. i.name) index) in
      two_keeps around (of_head bound) (inside bound of_frags) of_row (row_of item index) (head names list key) (within names (nodes true body)) (λ a b. alike refl (λ bound. refl))
      (head_keeps names bound list key (rows_free item index)) (inside_keeps around of_frags bound (within names (nodes true body)) (within_keeps around of_frags names (nodes true body) (rows_free item index) (content_keeps true [] body refl h)))

  -- content that may be absent
  abbrev LastKeeps : Option (List Node) → Type 0
  LastKeeps None = ⊤
  LastKeeps (Some list) = All Piece list

  last_keeps : (last : Option (List Node)) → LastKeeps last → Keep (optional of_frags) (given (option_map (nodes true) last))
  last_keeps None h = just_keeps around (optional of_frags) None (record { parts = refl; looks = λ bound. refl })
  last_keeps (Some list) h = one_keeps around of_frags (optional of_frags) Some (nodes true list) (λ y. alike refl (λ bound. refl)) (content_keeps true [] list refl h)

  if_keeps : (arms : List (Builds FragArm)) (last : Option (List Node)) → All (Keep of_arm) arms → LastKeeps last → Keep of_frag (if_block arms last)
  if_keeps arms last h k = two_keeps around (several of_arm) (optional of_frags) of_frag frag.If (each arms) (given (option_map (nodes true) last)) if_same (each_keeps around of_arm arms h) (last_keeps last k)

  rows_keep : (list : Expr) (item : Named) (index : Option Named) (key : Option Expr) (body : List Node) (none : Option (List Node)) → All Piece body → LastKeeps none → Keep of_frag (each_block list item index key body none)
  rows_keep list item index key body none h k =
      two_keeps around of_row (optional of_frags) of_frag with_none (row list item index key body) (given (option_map (nodes true) none)) each_same
      (row_keeps list item index key body h) (last_keeps none k)

  key_keeps : (e : Expr) (body : List Node) → All Piece body → Keep of_frag (key_block e body)
  key_keeps e body h = two_keeps around alone of_frags of_frag frag.Key (part e) (nodes true body) key_same (part_keeps e) (content_keeps true [] body refl h)

  -- ---- each form, with what is known of its parts

  -- where a test is passed, the owner's view is among the cells
  abbrev Shows : Bool → Type 0
  Shows b = b ≡ true → HasViewCell

  abbrev MarkupKeeps : Markup → Type 0
  MarkupKeeps x = Shows (has_slot x) → Piece (node x)

  abbrev BranchKeeps : Branch → Type 0
  BranchKeeps x = Shows (branch_has_slot x) → Keep of_arm (arm x)

  abbrev KnownNode : Type 0
  KnownNode = (x : Markup) × MarkupKeeps x

  abbrev KnownBranch : Type 0
  KnownBranch = (x : Branch) × BranchKeeps x

  known_nodes : (list : List KnownNode) → Shows (have_slot (map (λ p. p.0) list)) → All Piece (map node (map (λ p. p.0) list))
  known_nodes [] s = All-nil Piece
  known_nodes (x ∷ list) s =
      All-cons Piece (node x.0) (map node (map (λ p. p.0) list)) (x.1 (λ h. s (or_first (has_slot x.0) (have_slot (map (λ p. p.0) list)) h)))
      (known_nodes list (λ h. s (or_second (has_slot x.0) (have_slot (map (λ p. p.0) list)) h)))

  known_branches : (list : List KnownBranch) → Shows (any (map branch_has_slot (map (λ p. p.0) list))) → All (Keep of_arm) (map arm (map (λ p. p.0) list))
  known_branches [] s = All-nil (Keep of_arm)
  known_branches (x ∷ list) s =
      All-cons (Keep of_arm) (arm x.0) (map arm (map (λ p. p.0) list)) (x.1 (λ h. s (or_first (branch_has_slot x.0) (any (map branch_has_slot (map (λ p. p.0) list))) h)))
      (known_branches list (λ h. s (or_second (branch_has_slot x.0) (any (map branch_has_slot (map (λ p. p.0) list))) h)))

  abbrev bare_markup : Markup-F KnownNode KnownBranch → Markup-F Markup Branch
  bare_markup = map-Markup KnownNode KnownBranch Markup Branch (λ p. p.0) (λ p. p.0)

  abbrev done_markup : Markup-F Markup Branch → Markup-F Node (Builds FragArm)
  done_markup = map-Markup Markup Branch Node (Builds FragArm) node arm

  abbrev slot_markup : Markup-F Markup Branch → Bool
  slot_markup x = slots.markup (map-Markup Markup Branch Bool Bool has_slot branch_has_slot x)

  abbrev bare_branch : Branch-F KnownNode KnownBranch → Branch-F Markup Branch
  bare_branch = map-Branch KnownNode KnownBranch Markup Branch (λ p. p.0) (λ p. p.0)

  abbrev done_branch : Branch-F Markup Branch → Branch-F Node (Builds FragArm)
  done_branch = map-Branch Markup Branch Node (Builds FragArm) node arm

  abbrev slot_branch : Branch-F Markup Branch → Bool
  slot_branch x = slots.branch (map-Branch Markup Branch Bool Bool has_slot branch_has_slot x)

  shows_first : (a b : Bool) → Shows (a || b) → Shows a
  shows_first a b s h = s (or_first a b h)

  shows_second : (a b : Bool) → Shows (a || b) → Shows b
  shows_second a b s h = s (or_second a b h)

  markup_keeps : (y : Markup-F KnownNode KnownBranch) → Shows (slot_markup (bare_markup y)) → Piece (markup (done_markup (bare_markup y)))
  markup_keeps (Markup-F.Text span text) s = tt
  markup_keeps (Markup-F.Show span e) s = one_keeps around alone of_frag frag.Show (part e) show_same (part_keeps e)
  markup_keeps (Markup-F.Element span name list children) s = tag_keeps (Element name) span list _ tt (known_nodes children s)
  markup_keeps (Markup-F.Comp span name list children) s = tag_keeps (Component name) span list _ tt (known_nodes children s)
  markup_keeps (Markup-F.Slot span name list children) s = tag_keeps (Slot name) span list _ (s refl) (known_nodes children (λ h. s refl))
  markup_keeps (Markup-F.If span arms None) s = if_keeps _ None (known_branches arms (shows_first (any (map branch_has_slot (map (λ p. p.0) arms))) false s)) tt
  markup_keeps (Markup-F.If span arms (Some last)) s =
      if_keeps _ (Some _) (known_branches arms (shows_first (any (map branch_has_slot (map (λ p. p.0) arms))) (have_slot (map (λ p. p.0) last)) s))
      (known_nodes last (shows_second (any (map branch_has_slot (map (λ p. p.0) arms))) (have_slot (map (λ p. p.0) last)) s))
  markup_keeps (Markup-F.Each span list item index key body None) s = rows_keep list item index key _ None (known_nodes body (shows_first (have_slot (map (λ p. p.0) body)) false s)) tt
  markup_keeps (Markup-F.Each span list item index key body (Some none)) s =
      rows_keep list item index key _ (Some _) (known_nodes body (shows_first (have_slot (map (λ p. p.0) body)) (have_slot (map (λ p. p.0) none)) s))
      (known_nodes none (shows_second (have_slot (map (λ p. p.0) body)) (have_slot (map (λ p. p.0) none)) s))
  markup_keeps (Markup-F.Key span e body) s = key_keeps e _ (known_nodes body s)

  branch_keeps : (y : Branch-F KnownNode KnownBranch) → Shows (slot_branch (bare_branch y)) → Keep of_arm (branch (done_branch (bare_branch y)))
  branch_keeps y s = two_keeps around alone of_frags of_arm (λ test body. record { test = test; body = body }) (part y.test) (nodes true _) arm_same (part_keeps y.test) (content_keeps true [] _ refl (known_nodes y.body s))

  -- ---- whole trees

  markup_step : (x : Markup-F Markup Branch) (y : Markup-F KnownNode KnownBranch) → bare_markup y ≡ x → MarkupKeeps (roll-Markup x)
  markup_step x y e s =
      subst Piece (sym (fold-roll-Markup Node (Builds FragArm) markup branch x))
      (subst (λ z. Shows (slot_markup z) → Piece (markup (done_markup z))) e (markup_keeps y) (subst Shows (fold-roll-Markup Bool Bool slots.markup slots.branch x) s))

  branch_step : (x : Branch-F Markup Branch) (y : Branch-F KnownNode KnownBranch) → bare_branch y ≡ x → BranchKeeps (roll-Branch x)
  branch_step x y e s =
      subst (Keep of_arm) (sym (fold-roll-Branch Node (Builds FragArm) markup branch x))
      (subst (λ z. Shows (slot_branch z) → Keep of_arm (branch (done_branch z))) e (branch_keeps y) (subst Shows (fold-roll-Branch Bool Bool slots.markup slots.branch x) s))

  node_keeps : (x : Markup) → MarkupKeeps x
  node_keeps = ind-Markup MarkupKeeps BranchKeeps markup_step branch_step

  nodes_keep : (list : List Markup) → Shows (have_slot list) → All Piece (map node list)
  nodes_keep [] s = All-nil Piece
  nodes_keep (x ∷ list) s = All-cons Piece (node x) (map node list) (node_keeps x (shows_first (has_slot x) (have_slot list) s)) (nodes_keep list (shows_second (has_slot x) (have_slot list) s))

  -- the fragments of a component read nothing but what they look at, their looks are right, and so it is of the tables then
  pub markup_within : (list : List Markup) → Shows (have_slot list) → Keeps around of_frags (fragments list)
  markup_within list s = content_keeps true [] (map node list) refl (nodes_keep list s)
