-- Each list in what is made of markup looks at what its key looks at: an induction over markup, a lemma a form.
use Rattle.std.proofs.Common.{◌≡◌, ℕ, Bool, true, false, List, [], ◌∷◌, ◌++◌, Option, None, Some, length, map, option_map, refl, sym, subst}
use Rattle.std.specs.List.{All}
use Rattle.std.specs.Prelude.{⊤, if◌then◌else◌}
use Rattle.std.specs.Option.{option_to_list}
use Rattle.std.proofs.lemmas.List.Elements.{All-nil, All-cons, All-head, All-tail}
use Rattle.sv_ast.specs.declared.markup_tree.AttrKind.{AttrKind}
use Rattle.sv_ast.specs.declared.markup_tree.AttrKind.TheVariants as kind
use Rattle.sv_ast.specs.declared.markup_tree.AttrPart.{AttrPart}
use Rattle.sv_ast.specs.declared.markup_tree.AttrPart.TheVariants as attr_part
use Rattle.sv_ast.specs.declared.markup_tree.AttrValue.{AttrValue}
use Rattle.sv_ast.specs.declared.markup_tree.AttrValue.TheVariants as attr_value
use Rattle.sv_ast.specs.declared.markup_tree.Branch.{Branch, Branch-F, roll-Branch, map-Branch, fold-roll-Branch}
use Rattle.sv_ast.specs.declared.markup_tree.Markup.{Markup, Markup-F, roll-Markup, map-Markup, fold-roll-Markup, ind-Markup}
use Rattle.sv_ast.specs.declared.markup_tree.TagAttr.{TagAttr}
use Rattle.sv_ast.specs.declared.names.Named.{Named}
use Rattle.sv_ast.specs.declared.names.Ref.{Ref}
use Rattle.sv_ast.specs.declared.script_tree.Expr.{Expr}
use Rattle.sv_base.specs.declared.span.Span.{Span}
use Rattle.sv_code.proofs.Each.{each_append}
use Rattle.sv_code.specs.declared.fragments.Frag.{Frag as AnyFrag}
use Rattle.sv_code.specs.declared.fragments.Frag.TheVariants as frag
use Rattle.sv_code.specs.declared.fragments.FragArm.{FragArm}
use Rattle.sv_code.specs.declared.fragments.FragAttr.TheVariants as frag_attr
use Rattle.sv_code.specs.declared.fragments.FragValue.TheVariants as frag_value
use Rattle.sv_code.specs.declared.fragments.FragValuePart.TheVariants as value_part
use Rattle.sv_code.specs.declared.fragments.LetName.{LetName}
use Rattle.sv_deps.specs.Looks.{tag_looks}
use Rattle.sv_deps.specs.Reading.{reading}
use Rattle.sv_lower.specs.Does.{each, given, followed, within}
use Rattle.sv_scopes.specs.Attributes.{is_slotted}
use Rattle.sv_scopes.specs.declared.scope.TheConstants.{VIEW}
use Rattle.sv_white.specs.declared.pieces.Piece.TheVariants.{Words, Apart, Other}
use Rattle.sv_white.specs.White.{kept}
use Rattle.sv_fragments.specs.declared.around.Tables.{Tables}
use Rattle.sv_fragments.specs.Builds.{Around, Builds}
use Rattle.sv_fragments.specs.Expressions.{part_of, part}
use Rattle.sv_fragments.specs.Attributes.{shown, value, expr_of, directive, handler, with_handler, attr_of, attr, attrs}
use Rattle.sv_fragments.specs.Content.{Node, piece, content, nodes}
use Rattle.sv_fragments.specs.Tags.{Form, Element, Component, Slot, let_refs, own_lets, own_refs, strips, filled, tag_of, closed, whole, named_by, tag}
use Rattle.sv_fragments.specs.Frags.{if_block, row_refs, head, row_of, row, with_none, each_block, key_block, markup, branch, node, arm, fragments}
use Rattle.sv_fragments.proofs.Kept.{kept_all}
use Rattle.sv_within.proofs.Contents.{Filled}
use Rattle.sv_within.proofs.Heads.{Heads, nothing, several, heads_if, of_arm, of_filled, of_head, of_row, text_heads, show_heads, element_heads, tag_heads, named_heads, slot_heads, if_heads, each_heads, key_heads, arm_is, Keeps, just_keeps, one_keeps, two_keeps, followed_keeps, within_keeps, each_keeps, mapped, given_keeps}
use Rattle.sv_within.proofs.Keys.{key_cells, key_locals}
use Rattle.sv_within.specs.Keys.{heads_of, heads_all, AreSeen, AreKeysSeen, AreTagKeysSeen, AreMadeSeen}

-- a piece of content is text, or each list in what is made of it looks at what its key looks at
abbrev pub PieceKeeps : Around → Node → Type 0
PieceKeeps around (Words text) = ⊤
PieceKeeps around (Apart make) = Keeps around heads_of make
PieceKeeps around (Other make) = Keeps around heads_of make

module _ (around : Around) where
  abbrev Keep : {A : Type 0} → Heads A → Builds A → Type 0
  Keep of make = Keeps around of make

  abbrev Piece : Node → Type 0
  Piece p = PieceKeeps around p

  -- ---- expressions and attributes, in which there is no list

  part_of_keeps : (names : List Ref) (e : Expr) → Keep nothing (part_of names e)
  unfolding part_of
  part_of_keeps names e locals before seen = record { heads = tt; tags = seen }

  part_keeps : (e : Expr) → Keep nothing (part e)
  part_keeps e = part_of_keeps _ e

  shown_keeps : (p : AttrPart) → Keep nothing (shown p)
  shown_keeps (attr_part.Text text) = just_keeps around nothing (value_part.Text text) refl
  shown_keeps (attr_part.Show span e) = one_keeps around nothing nothing value_part.Show (part e) (λ p. refl) (part_keeps e)

  value_keeps : (v : AttrValue) → Keep nothing (value v)
  value_keeps attr_value.Bare = just_keeps around nothing frag_value.Bare refl
  value_keeps (attr_value.Parts list) =
      one_keeps around nothing nothing frag_value.Parts (each (map shown list)) (λ p. refl) (each_keeps around nothing nothing refl (λ x xs. refl) (map shown list) (mapped around nothing shown list shown_keeps))

  directive_keeps : (front : ℕ) (a : TagAttr) (e : Option Expr) → Keep nothing (directive front a e)
  directive_keeps front a None = part_keeps _
  directive_keeps front a (Some e) = part_keeps e

  handler_keeps : (a : TagAttr) → Keep nothing (handler a)
  handler_keeps a =
      one_keeps around nothing nothing (λ p. record { span = a.span; name = a.name; modifiers = a.modifiers; listener = p }) (given (option_map part (expr_of a.value))) (λ p. refl) (given_keeps around part (expr_of a.value) part_keeps)

  attr_of_keeps : (k : AttrKind) (a : TagAttr) → Keep nothing (attr_of k a)
  attr_of_keeps kind.Plain a = one_keeps around nothing nothing (λ v. Some (frag_attr.Plain a.span a.name v)) (value a.value) (λ v. refl) (value_keeps a.value)
  attr_of_keeps kind.On a =
      one_keeps around nothing nothing Some (followed (handler a) with_handler) (λ p. refl)
      (λ locals. followed_keeps around nothing nothing (handler a) with_handler locals (λ s seen h none. record { heads = tt; tags = seen }) (handler_keeps a))
  attr_of_keeps kind.Bind a = one_keeps around nothing nothing (λ p. Some (frag_attr.Bind a.span a.name p)) (directive 5 a (expr_of a.value)) (λ p. refl) (directive_keeps 5 a (expr_of a.value))
  attr_of_keeps kind.Class a = one_keeps around nothing nothing (λ p. Some (frag_attr.Class a.span a.name p)) (directive 6 a (expr_of a.value)) (λ p. refl) (directive_keeps 6 a (expr_of a.value))
  attr_of_keeps kind.Let a = just_keeps around nothing None refl
  attr_of_keeps kind.Slot a = just_keeps around nothing None refl

  attrs_keep : (list : List TagAttr) → Keep nothing (attrs list)
  attrs_keep [] = just_keeps around nothing [] refl
  attrs_keep (a ∷ list) = two_keeps around nothing nothing nothing (λ own more. option_to_list own ++ more) (attr a) (attrs list) (λ own more. refl) (attr_of_keeps a.kind a) (attrs_keep list)

  -- ---- content

  piece_keeps : (names : List Ref) (p : Node) → Piece p → Keep heads_of (piece names p)
  piece_keeps names (Words text) h = just_keeps around heads_of (frag.Text text) (text_heads text)
  piece_keeps names (Apart make) h = h
  piece_keeps names (Other make) h = within_keeps around heads_of names make h

  pieces_keep : (names : List Ref) (list : List Node) → All Piece list → All (Keep heads_of) (map (piece names) list)
  pieces_keep names [] h = All-nil (Keep heads_of)
  pieces_keep names (p ∷ list) h = All-cons (Keep heads_of) (piece names p) (map (piece names) list) (piece_keeps names p (All-head Piece p list h)) (pieces_keep names list (All-tail Piece p list h))

  content_keeps : (strip : Bool) (names : List Ref) (list : List Node) → All Piece list → Keep heads_all (content strip names list)
  unfolding content
  content_keeps strip names list h =
      each_keeps around heads_of heads_all refl (λ x xs. refl) (map (piece names) (kept strip list)) (pieces_keep names (kept strip list) (kept_all Piece (λ text. tt) strip list h))

  -- ---- tags

  filled_keeps : (form : Form) (list : List TagAttr) (children : List Node) → All Piece children → Keep of_filled (filled form list children)
  unfolding filled
  filled_keeps form list children h =
      two_keeps around nothing heads_all of_filled (λ xs made. record { attrs = xs; content = made }) (attrs list) (content (strips form) (own_refs form list) children) (λ a b. refl)
      (attrs_keep list) (content_keeps (strips form) (own_refs form list) children h)

  closed_keeps : (form : Form) (span : Span) (own : List LetName) (f : Filled) (locals : List Ref) (s : Tables) → AreTagKeysSeen s.tags → AreKeysSeen f.content → AreMadeSeen heads_of (closed form span own f around locals s)
  unfolding closed
  closed_keeps (Element name) span own f locals s seen h = record { heads = subst AreSeen (sym (element_heads span name f.attrs f.content)) h; tags = seen }
  closed_keeps (Component name) span own f locals s seen h =
      let t = tag_of around span name own f in
      record { heads = subst AreSeen (sym (tag_heads (length s.tags) (tag_looks (length around.cells) t.attrs t.reads))) tt; tags = each_append (λ x. AreKeysSeen x.content) s.tags (t ∷ []) seen (h, tt) }
  closed_keeps (Slot name) span own f locals s seen h =
      record { heads = subst AreSeen (sym (slot_heads span name f.attrs f.content (reading around.tops around.cells locals (VIEW ∷ [])))) h; tags = seen }

  whole_keeps : (form : Form) (span : Span) (list : List TagAttr) (children : List Node) → All Piece children → Keep heads_of (whole form span list children)
  unfolding whole
  whole_keeps form span list children h locals =
      followed_keeps around of_filled heads_of (filled form list children) (λ f. closed form span (own_lets form list) f around locals) locals (λ s seen f there. closed_keeps form span (own_lets form list) f locals s seen there) (filled_keeps form list children h)

  apart_or_other : (b : Bool) (x y : Builds AnyFrag) → Keep heads_of x → Keep heads_of y → Piece (if b then Apart x else Other y)
  apart_or_other true x y h k = h
  apart_or_other false x y h k = k

  tag_keeps : (form : Form) (span : Span) (list : List TagAttr) (children : List Node) → All Piece children → Piece (tag form span list children)
  unfolding tag
  tag_keeps form span list children h =
      let make = whole form span list children in
      let keeps = whole_keeps form span list children h in
      apart_or_other (is_slotted list) _ make (one_keeps around heads_of heads_of (named_by list) (within (let_refs list) make) (named_heads list) (within_keeps around heads_of (let_refs list) make keeps)) keeps

  -- ---- blocks

  head_keeps : (item : Named) (index : Option Named) (list : Expr) (key : Option Expr) → Keep (of_head item.name (option_map (λ i. i.name) index)) (head (row_refs item index) list key)
  unfolding head part_of
  head_keeps item index list None locals before seen = record { heads = (tt, tt); tags = seen }
  head_keeps item index list (Some key) locals before seen = record {
    heads = (
      record {
        cells = key_cells around.tops around.cells locals item index list key;
        locals = key_locals around.tops around.cells locals item index list key;
      },
      tt,
    );
    tags = seen;
  }

  row_keeps : (list : Expr) (item : Named) (index : Option Named) (key : Option Expr) (body : List Node) → All Piece body → Keep of_row (row list item index key body)
  unfolding row
  row_keeps list item index key body h =
      let names = row_refs item index in
      two_keeps around (of_head item.name (option_map (λ i. i.name) index)) heads_all of_row (row_of item index) (head names list key) (within names (nodes true body)) (λ a b. refl)
      (head_keeps item index list key) (within_keeps around heads_all names (nodes true body) (content_keeps true [] body h))

  -- content that may be absent
  abbrev LastKeeps : Option (List Node) → Type 0
  LastKeeps None = ⊤
  LastKeeps (Some list) = All Piece list

  last_keeps : (last : Option (List Node)) → LastKeeps last → Keep heads_if (given (option_map (nodes true) last))
  last_keeps None h = just_keeps around heads_if None refl
  last_keeps (Some list) h = one_keeps around heads_all heads_if Some (nodes true list) (λ y. refl) (content_keeps true [] list h)

  if_keeps : (arms : List (Builds FragArm)) (last : Option (List Node)) → All (Keep of_arm) arms → LastKeeps last → Keep heads_of (if_block arms last)
  if_keeps arms last h k =
      two_keeps around (several of_arm) heads_if heads_of frag.If (each arms) (given (option_map (nodes true) last)) if_heads (each_keeps around of_arm (several of_arm) refl (λ x xs. refl) arms h) (last_keeps last k)

  rows_keep : (list : Expr) (item : Named) (index : Option Named) (key : Option Expr) (body : List Node) (none : Option (List Node)) → All Piece body → LastKeeps none → Keep heads_of (each_block list item index key body none)
  rows_keep list item index key body none h k =
      two_keeps around of_row heads_if heads_of with_none (row list item index key body) (given (option_map (nodes true) none)) each_heads (row_keeps list item index key body h) (last_keeps none k)

  key_keeps : (e : Expr) (body : List Node) → All Piece body → Keep heads_of (key_block e body)
  key_keeps e body h = two_keeps around nothing heads_all heads_of frag.Key (part e) (nodes true body) key_heads (part_keeps e) (content_keeps true [] body h)

  -- ---- each form, with what is known of its parts

  abbrev MarkupKeeps : Markup → Type 0
  MarkupKeeps x = Piece (node x)

  abbrev BranchKeeps : Branch → Type 0
  BranchKeeps x = Keep of_arm (arm x)

  abbrev KnownNode : Type 0
  KnownNode = (x : Markup) × MarkupKeeps x

  abbrev KnownBranch : Type 0
  KnownBranch = (x : Branch) × BranchKeeps x

  known_nodes : (list : List KnownNode) → All Piece (map node (map (λ p. p.0) list))
  known_nodes [] = All-nil Piece
  known_nodes (x ∷ list) = All-cons Piece (node x.0) (map node (map (λ p. p.0) list)) x.1 (known_nodes list)

  known_branches : (list : List KnownBranch) → All (Keep of_arm) (map arm (map (λ p. p.0) list))
  known_branches [] = All-nil (Keep of_arm)
  known_branches (x ∷ list) = All-cons (Keep of_arm) (arm x.0) (map arm (map (λ p. p.0) list)) x.1 (known_branches list)

  abbrev bare_markup : Markup-F KnownNode KnownBranch → Markup-F Markup Branch
  bare_markup = map-Markup KnownNode KnownBranch Markup Branch (λ p. p.0) (λ p. p.0)

  abbrev done_markup : Markup-F Markup Branch → Markup-F Node (Builds FragArm)
  done_markup = map-Markup Markup Branch Node (Builds FragArm) node arm

  abbrev bare_branch : Branch-F KnownNode KnownBranch → Branch-F Markup Branch
  bare_branch = map-Branch KnownNode KnownBranch Markup Branch (λ p. p.0) (λ p. p.0)

  abbrev done_branch : Branch-F Markup Branch → Branch-F Node (Builds FragArm)
  done_branch = map-Branch Markup Branch Node (Builds FragArm) node arm

  markup_keeps : (y : Markup-F KnownNode KnownBranch) → Piece (markup (done_markup (bare_markup y)))
  markup_keeps (Markup-F.Text span text) = tt
  markup_keeps (Markup-F.Show span e) = one_keeps around nothing heads_of frag.Show (part e) show_heads (part_keeps e)
  markup_keeps (Markup-F.Element span name list children) = tag_keeps (Element name) span list _ (known_nodes children)
  markup_keeps (Markup-F.Comp span name list children) = tag_keeps (Component name) span list _ (known_nodes children)
  markup_keeps (Markup-F.Slot span name list children) = tag_keeps (Slot name) span list _ (known_nodes children)
  markup_keeps (Markup-F.If span arms None) = if_keeps _ None (known_branches arms) tt
  markup_keeps (Markup-F.If span arms (Some last)) = if_keeps _ (Some _) (known_branches arms) (known_nodes last)
  markup_keeps (Markup-F.Each span list item index key body None) = rows_keep list item index key _ None (known_nodes body) tt
  markup_keeps (Markup-F.Each span list item index key body (Some none)) = rows_keep list item index key _ (Some _) (known_nodes body) (known_nodes none)
  markup_keeps (Markup-F.Key span e body) = key_keeps e _ (known_nodes body)

  branch_keeps : (y : Branch-F KnownNode KnownBranch) → Keep of_arm (branch (done_branch (bare_branch y)))
  branch_keeps y = two_keeps around nothing heads_all of_arm (λ test body. record { test = test; body = body }) (part y.test) (nodes true _) arm_is (part_keeps y.test) (content_keeps true [] _ (known_nodes y.body))

  -- ---- whole trees

  markup_step : (x : Markup-F Markup Branch) (y : Markup-F KnownNode KnownBranch) → bare_markup y ≡ x → MarkupKeeps (roll-Markup x)
  markup_step x y e = subst Piece (sym (fold-roll-Markup Node (Builds FragArm) markup branch x)) (subst (λ z. Piece (markup (done_markup z))) e (markup_keeps y))

  branch_step : (x : Branch-F Markup Branch) (y : Branch-F KnownNode KnownBranch) → bare_branch y ≡ x → BranchKeeps (roll-Branch x)
  branch_step x y e = subst (Keep of_arm) (sym (fold-roll-Branch Node (Builds FragArm) markup branch x)) (subst (λ z. Keep of_arm (branch (done_branch z))) e (branch_keeps y))

  node_keeps : (x : Markup) → MarkupKeeps x
  node_keeps = ind-Markup MarkupKeeps BranchKeeps markup_step branch_step

  nodes_keep : (list : List Markup) → All Piece (map node list)
  nodes_keep [] = All-nil Piece
  nodes_keep (x ∷ list) = All-cons Piece (node x) (map node list) (node_keeps x) (nodes_keep list)

  -- each list in the fragments of a component looks at what its key looks at, and so it is in the tags then
  pub fragments_see : (list : List Markup) → Keeps around heads_all (fragments list)
  fragments_see list = content_keeps true [] (map node list) (nodes_keep list)
