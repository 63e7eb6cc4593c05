-- What is made of markup names what is there: an induction over markup, a lemma a form.
use Rattle.std.proofs.Common.{◌≡◌, ℕ, ◌<◌, Bool, true, false, List, [], ◌∷◌, ◌++◌, Option, None, Some, length, map, option_map, refl, sym, subst, append_assoc}
use Rattle.std.specs.List.{All}
use Rattle.std.specs.Prelude.{⊤, if◌then◌else◌, unwrap_or}
use Rattle.std.specs.Option.{option_to_list}
use Rattle.std.proofs.lemmas.List.Elements.{All-nil, All-cons, All-append, All-head, All-tail}
use Rattle.sv_ast.specs.declared.markup_tree.AttrKind.{AttrKind}
use Rattle.sv_ast.specs.declared.markup_tree.AttrKind.TheVariants as kind
use Rattle.sv_ast.specs.declared.markup_tree.AttrPart.{AttrPart}
use Rattle.sv_ast.specs.declared.markup_tree.AttrPart.TheVariants as attr_part
use Rattle.sv_ast.specs.declared.markup_tree.AttrValue.{AttrValue}
use Rattle.sv_ast.specs.declared.markup_tree.AttrValue.TheVariants as attr_value
use Rattle.sv_ast.specs.declared.markup_tree.Branch.{Branch, Branch-F, roll-Branch, map-Branch, fold-roll-Branch}
use Rattle.sv_ast.specs.declared.markup_tree.Markup.{Markup, Markup-F, roll-Markup, map-Markup, fold-roll-Markup, ind-Markup}
use Rattle.sv_ast.specs.declared.markup_tree.TagAttr.{TagAttr}
use Rattle.sv_ast.specs.declared.names.Named.{Named}
use Rattle.sv_ast.specs.declared.names.Ref.{Ref}
use Rattle.sv_ast.specs.declared.script_tree.Expr.{Expr}
use Rattle.sv_base.specs.declared.names.Name.{Name}
use Rattle.sv_base.specs.declared.span.Span.{Span}
use Rattle.sv_code.specs.declared.fragments.Frag
use Rattle.sv_code.specs.declared.fragments.Frag.{Frag as AnyFrag, Frag-F, fold-roll-Frag}
use Rattle.sv_code.specs.declared.fragments.Frag.TheVariants as frag
use Rattle.sv_code.specs.declared.fragments.FragArm.{FragArm, fold-roll-FragArm}
use Rattle.sv_code.specs.declared.fragments.FragAttr.{FragAttr}
use Rattle.sv_code.specs.declared.fragments.FragAttr.TheVariants as frag_attr
use Rattle.sv_code.specs.declared.fragments.FragValue.TheVariants as frag_value
use Rattle.sv_code.specs.declared.fragments.FragValuePart.TheVariants as value_part
use Rattle.sv_code.specs.declared.fragments.LetName.{LetName}
use Rattle.sv_code.specs.declared.parts.Part.{Part}
use Rattle.sv_code.specs.declared.parts.Reading.{Reading}
use Rattle.sv_code.specs.declared.tags.Handler.{Handler}
use Rattle.sv_code.specs.declared.tags.Tag.{Tag}
use Rattle.sv_code.specs.Numbers as numbers
use Rattle.sv_code.specs.Numbers.{Number, OfFile, OfTag, OfHandler, Size, IsThere, joined, given as given_numbers, of_code, of_reading, of_part, of_value_part, of_value, of_attr, of_attrs, of_frag, of_branch, of_frags, of_tag, of_handler}
use Rattle.sv_lower.specs.Does.{just, of_one, of_two, each, given, followed, within}
use Rattle.sv_lower.specs.Lower.{of_expr}
use Rattle.sv_lower.proofs.Lowering.{of_expr_keeps}
use Rattle.sv_lower.proofs.Keeping.{Kept, Keeps, just_keeps, one_keeps, two_keeps, followed_keeps, each_keeps, no_more, still_there}
use Rattle.sv_deps.specs.Looks.{both, read, let_names, attrs as look_at, content as looks}
use Rattle.sv_deps.specs.Reading.{reading}
use Rattle.sv_scopes.specs.Attributes.{is_slotted}
use Rattle.sv_scopes.specs.declared.scope.TheConstants.{VIEW}
use Rattle.sv_names.specs.NameMap.{Entries, number_of}
use Rattle.sv_names.specs.Distinct.{same_ref}
use Rattle.sv_white.specs.declared.pieces.Piece.TheVariants.{Words, Apart, Other}
use Rattle.sv_white.specs.White.{kept}
use Rattle.sv_fragments.specs.declared.around.Tables.{Tables}
use Rattle.sv_fragments.specs.declared.rows.Head.{Head}
use Rattle.sv_fragments.specs.declared.rows.Row.{Row}
use Rattle.sv_fragments.specs.declared.tags.Filled.{Filled}
use Rattle.sv_fragments.specs.Builds.{Around, Builds, lowered}
use Rattle.sv_fragments.specs.Expressions.{part_of, part, list_names}
use Rattle.sv_fragments.specs.Attributes.{shown, value, expr_of, directive, handler, heard, with_handler, attr_of, attr, attrs}
use Rattle.sv_fragments.specs.Content.{Node, piece, content, nodes}
use Rattle.sv_fragments.specs.Tags.{Form, Element, Component, Slot, let_refs, own_lets, own_refs, strips, filled, tag_of, with_tag, closed, whole, named_by, tag}
use Rattle.sv_fragments.specs.Frags.{if_block, row_refs, head, row_of, row, with_none, each_block, key_block, markup, branch, node, arm, fragments}
use Rattle.sv_fragments.proofs.Kept.{kept_all}
use Rattle.sv_fragments.proofs.Looking.{reading_there, gathered_there}
use Rattle.sv_fragments.proofs.Sound.{counted, IsSound, Fits, at_least, lowered_keeps, one_longer, more_handlers, handlers_sound, more_tags, tags_sound}

abbrev Ns : Type 0
Ns = List Number

-- what is made in a component names what is there, inside whatever scopes
abbrev pub BuildsKeep : {A : Type 0} → List Size → ℕ → Around → (A → List Number) → Builds A → Type 0
BuildsKeep sizes file around of make = (locals : List Ref) → Keeps (counted sizes file) (IsSound sizes) around locals of make

-- a piece of content is text, or what is made of it names what is there
abbrev pub NodeKeeps : List Size → ℕ → Around → Node → Type 0
NodeKeeps sizes file around (Words text) = ⊤
NodeKeeps sizes file around (Apart make) = BuildsKeep sizes file around of_frag make
NodeKeeps sizes file around (Other make) = BuildsKeep sizes file around of_frag make

regroup : (P : Number → Type 0) (xs ys zs : List Number) → All P ((xs ++ ys) ++ zs) → All P (xs ++ (ys ++ zs))
regroup P xs ys zs h = subst (All P) (append_assoc xs ys zs) h

module _ (sizes : List Size) (file : ℕ) (around : Around) (fits : Fits sizes file around) where
  -- the words of `Keeping` for this component
  abbrev There : Tables → List Number → Type 0
  There s ns = All (IsThere (counted sizes file s)) ns

  abbrev Keep : {A : Type 0} → (A → List Number) → Builds A → Type 0
  Keep of make = BuildsKeep sizes file around of make

  abbrev Piece : Node → Type 0
  Piece p = NodeKeeps sizes file around p

  just_none : {A : Type 0} (of : A → List Number) (x : A) → of x ≡ [] → Keep of (just x)
  just_none of x e locals = just_keeps (counted sizes file) (IsSound sizes) around locals of x e

  one : {A B : Type 0} (na : A → List Number) (nb : B → List Number) (make : A → B) (first : Builds A) → ((a : A) → nb (make a) ≡ na a) → Keep na first → Keep nb (of_one make first)
  one na nb make first e k locals = one_keeps (counted sizes file) (IsSound sizes) around locals na nb make first e (k locals)

  two : {A B C : Type 0} (na : A → List Number) (nb : B → List Number) (nc : C → List Number) (make : A → B → C) (first : Builds A) (second : Builds B) → ((a : A) (b : B) → nc (make a b) ≡ na a ++ nb b)
      → Keep na first → Keep nb second → Keep nc (of_two make first second)
  two na nb nc make first second e k l locals = two_keeps (counted sizes file) (IsSound sizes) around locals na nb nc make first second e (k locals) (l locals)

  -- ---- parts in turn

  all_at : {A : Type 0} (of : A → List Number) (locals : List Ref) (parts : List (Builds A)) → All (Keep of) parts → All (Keeps (counted sizes file) (IsSound sizes) around locals of) parts
  all_at of locals [] h = All-nil (Keeps (counted sizes file) (IsSound sizes) around locals of)
  all_at of locals (p ∷ parts) h =
      All-cons (Keeps (counted sizes file) (IsSound sizes) around locals of) p parts (All-head (Keep of) p parts h locals) (all_at of locals parts (All-tail (Keep of) p parts h))

  all_keep : {A : Type 0} (of : A → List Number) (parts : List (Builds A)) → All (Keep of) parts → Keep (λ ys. joined (map of ys)) (each parts)
  all_keep of parts h locals = each_keeps (counted sizes file) (IsSound sizes) around locals of parts (all_at of locals parts h)

  mapped : {X A : Type 0} (of : A → List Number) (f : X → Builds A) (xs : List X) → ((x : X) → Keep of (f x)) → All (Keep of) (map f xs)
  mapped of f [] h = All-nil (Keep of)
  mapped of f (x ∷ xs) h = All-cons (Keep of) (f x) (map f xs) (h x) (mapped of f xs h)

  given_keeps : {X A : Type 0} (of : A → List Number) (f : X → Builds A) (x : Option X) → ((x : X) → Keep of (f x)) → Keep (λ y. given_numbers (option_map of y)) (given (option_map f x))
  given_keeps of f None h = just_none (λ y. given_numbers (option_map of y)) None refl
  given_keeps of f (Some x) h = one of (λ y. given_numbers (option_map of y)) Some (f x) (λ y. refl) (h x)

  within_keeps : {A : Type 0} (of : A → List Number) (names : List Ref) (make : Builds A) → Keep of make → Keep of (within names make)
  within_keeps of names make h locals = h (names ++ locals)

  -- ---- expressions

  part_of_keeps : (names : List Ref) (e : Expr) → Keep of_part (part_of names e)
  unfolding part_of
  part_of_keeps names e locals before sound =
      let k = lowered_keeps sizes file around locals of_code (of_expr e) (of_expr_keeps sizes file around.tops fits.tops e locals) before sound in
      let made = lowered (of_expr e) around locals before in
      let reads = reading around.tops around.cells locals names in
      record {
        more = k.more;
        there = All-append (IsThere (counted sizes file made.1)) (of_code made.0) (of_reading reads) k.there (reading_there (counted sizes file made.1) around.tops around.cells locals names fits.cells);
        sound = k.sound;
      }

  -- ---- attributes

  shown_keeps : (p : AttrPart) → Keep of_value_part (shown p)
  shown_keeps (attr_part.Text text) = just_none of_value_part (value_part.Text text) refl
  shown_keeps (attr_part.Show span e) = one of_part of_value_part value_part.Show (part e) (λ p. refl) (part_of_keeps _ e)

  value_keeps : (v : AttrValue) → Keep of_value (value v)
  value_keeps attr_value.Bare = just_none of_value frag_value.Bare refl
  value_keeps (attr_value.Parts parts) = one (λ ys. joined (map of_value_part ys)) of_value frag_value.Parts (each (map shown parts)) (λ p. refl) (all_keep of_value_part (map shown parts) (mapped of_value_part shown parts shown_keeps))

  directive_keeps : (front : ℕ) (a : TagAttr) (e : Option Expr) → Keep of_part (directive front a e)
  directive_keeps front a None = part_of_keeps _ _
  directive_keeps front a (Some e) = part_of_keeps _ e

  handler_keeps : (a : TagAttr) → Keep of_handler (handler a)
  handler_keeps a =
      one (λ y. given_numbers (option_map of_part y)) of_handler (λ p. record { span = a.span; name = a.name; modifiers = a.modifiers; listener = p }) (given (option_map part (expr_of a.value))) (λ p. refl)
      (given_keeps of_part part (expr_of a.value) (λ e. part_of_keeps _ e))

  behind : (P : Number → Type 0) (xs ys : List Number) → All P (xs ++ ys) → All P ys
  behind P [] ys h = h
  behind P (x ∷ xs) ys h = behind P xs ys (All-tail P x (xs ++ ys) h)

  heard_there : (s : Tables) (listener : Option Part) → There s (given_numbers (option_map of_part listener)) → There s (of_reading (heard listener))
  heard_there s None h = All-nil (IsThere (counted sizes file s))
  heard_there s (Some p) h = behind (IsThere (counted sizes file s)) (of_code p.code) (of_reading p.reads) h

  handler_added : (s : Tables) → IsSound sizes s → (h : Handler) → There s (of_handler h) → Kept (counted sizes file) (IsSound sizes) of_attr s (with_handler h s)
  handler_added s sound h there =
      let after = (with_handler h s).1 in
      let grows = more_handlers h s in
      let reads = still_there (counted sizes file s) (counted sizes file after) (at_least sizes file s after grows) (of_reading (heard h.listener)) (heard_there s h.listener there) in
      record {
        more = at_least sizes file s after grows;
        there = All-cons (IsThere (counted sizes file after)) (OfHandler (length s.handlers)) (of_reading (heard h.listener)) (one_longer s.handlers h) reads;
        sound = handlers_sound sizes file h s sound there;
      }

  attr_of_keeps : (k : AttrKind) (a : TagAttr) → Keep (λ y. given_numbers (option_map of_attr y)) (attr_of k a)
  attr_of_keeps kind.Plain a = one of_value (λ y. given_numbers (option_map of_attr y)) (λ v. Some (frag_attr.Plain a.span a.name v)) (value a.value) (λ v. refl) (value_keeps a.value)
  attr_of_keeps kind.On a =
      one of_attr (λ y. given_numbers (option_map of_attr y)) Some (followed (handler a) with_handler) (λ p. refl)
      (λ locals. followed_keeps (counted sizes file) (IsSound sizes) around locals of_handler of_attr (handler a) with_handler handler_added (handler_keeps a locals))
  attr_of_keeps kind.Bind a = one of_part (λ y. given_numbers (option_map of_attr y)) (λ p. Some (frag_attr.Bind a.span a.name p)) (directive 5 a (expr_of a.value)) (λ p. refl) (directive_keeps 5 a (expr_of a.value))
  attr_of_keeps kind.Class a = one of_part (λ y. given_numbers (option_map of_attr y)) (λ p. Some (frag_attr.Class a.span a.name p)) (directive 6 a (expr_of a.value)) (λ p. refl) (directive_keeps 6 a (expr_of a.value))
  attr_of_keeps kind.Let a = just_none (λ y. given_numbers (option_map of_attr y)) None refl
  attr_of_keeps kind.Slot a = just_none (λ y. given_numbers (option_map of_attr y)) None refl

  own_attrs : (own : Option FragAttr) (more : List FragAttr) → of_attrs (option_to_list own ++ more) ≡ given_numbers (option_map of_attr own) ++ of_attrs more
  own_attrs None more = refl
  own_attrs (Some a) more = refl

  attrs_keep : (list : List TagAttr) → Keep of_attrs (attrs list)
  attrs_keep [] = just_none of_attrs [] refl
  attrs_keep (a ∷ list) = two (λ y. given_numbers (option_map of_attr y)) of_attrs of_attrs (λ own more. option_to_list own ++ more) (attr a) (attrs list) own_attrs (attr_of_keeps a.kind a) (attrs_keep list)

  -- ---- content

  text_numbers : (text : List ℕ) → of_frag (frag.Text text) ≡ []
  unfolding Frag.roll-Frag denote.Hole.Carrier.roll
  text_numbers text = fold-roll-Frag Ns Ns numbers.frag numbers.branch (Frag-F.Text text)

  piece_keeps : (names : List Ref) (p : Node) → Piece p → Keep of_frag (piece names p)
  piece_keeps names (Words text) h = just_none of_frag (frag.Text text) (text_numbers text)
  piece_keeps names (Apart make) h = h
  piece_keeps names (Other make) h = within_keeps of_frag names make h

  pieces_keep : (names : List Ref) (list : List Node) → All Piece list → All (Keep of_frag) (map (piece names) list)
  pieces_keep names [] h = All-nil (Keep of_frag)
  pieces_keep names (p ∷ list) h = All-cons (Keep of_frag) (piece names p) (map (piece names) list) (piece_keeps names p (All-head Piece p list h)) (pieces_keep names list (All-tail Piece p list h))

  content_keeps : (strip : Bool) (names : List Ref) (list : List Node) → All Piece list → Keep of_frags (content strip names list)
  unfolding content
  content_keeps strip names list h = all_keep of_frag (map (piece names) (kept strip list)) (pieces_keep names (kept strip list) (kept_all Piece (λ text. tt) strip list h))

  -- ---- tags

  abbrev of_filled : Filled → List Number
  of_filled f = of_attrs f.attrs ++ of_frags f.content

  filled_keeps : (form : Form) (list : List TagAttr) (children : List Node) → All Piece children → Keep of_filled (filled form list children)
  unfolding filled
  filled_keeps form list children h =
      two of_attrs of_frags of_filled (λ xs made. record { attrs = xs; content = made }) (attrs list) (content (strips form) (own_refs form list) children) (λ a b. refl)
      (attrs_keep list) (content_keeps (strips form) (own_refs form list) children h)

  element_numbers : (span : Span) (name : List ℕ) (a : List FragAttr) (b : List AnyFrag) → of_frag (frag.Element span name a b) ≡ of_attrs a ++ of_frags b
  unfolding Frag.roll-Frag denote.Hole.Carrier.roll
  element_numbers span name a b = fold-roll-Frag Ns Ns numbers.frag numbers.branch (Frag-F.Element span name a b)

  slot_numbers : (span : Span) (name : List ℕ) (a : List FragAttr) (own : List AnyFrag) (reads : Reading) → of_frag (frag.Slot span name a own reads) ≡ of_attrs a ++ (of_frags own ++ of_reading reads)
  unfolding Frag.roll-Frag denote.Hole.Carrier.roll
  slot_numbers span name a own reads = fold-roll-Frag Ns Ns numbers.frag numbers.branch (Frag-F.Slot span name a own reads)

  tag_numbers : (n : ℕ) (reads : Reading) → of_frag (frag.Tag n reads) ≡ OfTag n ∷ of_reading reads
  unfolding Frag.roll-Frag denote.Hole.Carrier.roll
  tag_numbers n reads = fold-roll-Frag Ns Ns numbers.frag numbers.branch (Frag-F.Tag n reads)

  this_or_that : (b : Bool) (this : ℕ) (that : Option ℕ) → this < length sizes → unwrap_or that 0 < length sizes
      → unwrap_or (if b then Some this else that) 0 < length sizes
  this_or_that true this that h k = h
  this_or_that false this that h k = k

  file_there : (points : Entries) (name : Ref) → All (λ k. k.1 < length sizes) points → unwrap_or (number_of points name) 0 < length sizes
  file_there [] name h = fits.first
  file_there (k ∷ points) name h =
      this_or_that (same_ref name k.0) k.1 (number_of points name) (All-head (λ k. k.1 < length sizes) k points h)
      (file_there points name (All-tail (λ k. k.1 < length sizes) k points h))

  tag_there : (span : Span) (name : Name) (own : List LetName) (f : Filled) (s : Tables) → There s (of_filled f) → There s (of_tag (tag_of around span name own f))
  tag_there span name own f s h =
      let P = IsThere (counted sizes file s) in
      let t = tag_of around span name own f in
      All-cons P (OfFile t.file) (of_attrs f.attrs ++ (of_frags f.content ++ of_reading t.reads)) (file_there around.children _ fits.children)
      (regroup P (of_attrs f.attrs) (of_frags f.content) (of_reading t.reads) (All-append P (of_filled f) (of_reading t.reads) h (gathered_there (counted sizes file s) (length around.cells) (looks (let_names own) f.content []) fits.cells)))

  tag_added : (t : Tag) (s : Tables) → IsSound sizes s → There s (of_tag t) → Kept (counted sizes file) (IsSound sizes) of_frag s (with_tag (length around.cells) t s)
  tag_added t s sound there =
      let after = (with_tag (length around.cells) t s).1 in
      let grows = more_tags t s in
      let P = IsThere (counted sizes file after) in
      let looked = both (look_at t.attrs) (read t.reads) [] in
      let reads = gathered_there (counted sizes file after) (length around.cells) looked fits.cells in
      record {
        more = at_least sizes file s after grows;
        there = subst (All P) (sym (tag_numbers (length s.tags) _)) (All-cons P (OfTag (length s.tags)) _ (one_longer s.tags t) reads);
        sound = tags_sound sizes file t s sound there;
      }

  closed_keeps : (form : Form) (span : Span) (own : List LetName) (f : Filled) (locals : List Ref) (s : Tables) → IsSound sizes s → There s (of_filled f)
      → Kept (counted sizes file) (IsSound sizes) of_frag s (closed form span own f around locals s)
  unfolding closed
  closed_keeps (Element name) span own f locals s sound h =
      record { more = no_more (counted sizes file s); there = subst (All (IsThere (counted sizes file s))) (sym (element_numbers span name f.attrs f.content)) h; sound = sound }
  closed_keeps (Component name) span own f locals s sound h = tag_added (tag_of around span name own f) s sound (tag_there span name own f s h)
  closed_keeps (Slot name) span own f locals s sound h =
      let P = IsThere (counted sizes file s) in
      let reads = reading around.tops around.cells locals (VIEW ∷ []) in
      record {
        more = no_more (counted sizes file s);
        there = subst (All P) (sym (slot_numbers span name f.attrs f.content reads))
            (regroup P (of_attrs f.attrs) (of_frags f.content) (of_reading reads) (All-append P (of_filled f) (of_reading reads) h (reading_there (counted sizes file s) around.tops around.cells locals (VIEW ∷ []) fits.cells)));
        sound = sound;
      }

  whole_keeps : (form : Form) (span : Span) (list : List TagAttr) (children : List Node) → All Piece children → Keep of_frag (whole form span list children)
  unfolding whole
  whole_keeps form span list children h locals =
      followed_keeps (counted sizes file) (IsSound sizes) around locals of_filled of_frag (filled form list children) (λ f. closed form span (own_lets form list) f around locals)
      (λ s sound f there. closed_keeps form span (own_lets form list) f locals s sound there) (filled_keeps form list children h locals)

  named_numbers : (list : List TagAttr) (made : AnyFrag) → of_frag (named_by list made) ≡ of_frag made
  unfolding Frag.roll-Frag denote.Hole.Carrier.roll
  named_numbers list made = fold-roll-Frag Ns Ns numbers.frag numbers.branch (Frag-F.Named _ _ made)

  apart_or_other : (b : Bool) (x y : Builds AnyFrag) → Keep of_frag x → Keep of_frag y → Piece (if b then Apart x else Other y)
  apart_or_other true x y h k = h
  apart_or_other false x y h k = k

  tag_keeps : (form : Form) (span : Span) (list : List TagAttr) (children : List Node) → All Piece children → Piece (tag form span list children)
  unfolding tag
  tag_keeps form span list children h =
      let make = whole form span list children in
      let keeps = whole_keeps form span list children h in
      apart_or_other (is_slotted list) _ make (one of_frag of_frag (named_by list) (within (let_refs list) make) (named_numbers list) (within_keeps of_frag (let_refs list) make keeps)) keeps

  -- ---- blocks

  if_numbers : (arms : List FragArm) (last : Option (List AnyFrag)) → of_frag (frag.If arms last) ≡ joined (map of_branch arms) ++ given_numbers (option_map of_frags last)
  unfolding Frag.roll-Frag denote.Hole.Carrier.roll
  if_numbers arms None = fold-roll-Frag Ns Ns numbers.frag numbers.branch (Frag-F.If arms None)
  if_numbers arms (Some last) = fold-roll-Frag Ns Ns numbers.frag numbers.branch (Frag-F.If arms (Some last))

  abbrev of_row : Row → List Number
  of_row r = of_part r.list ++ (given_numbers (option_map of_part r.key) ++ of_frags r.body)

  each_numbers : (r : Row) (none : Option (List AnyFrag)) → of_frag (with_none r none) ≡ of_row r ++ given_numbers (option_map of_frags none)
  unfolding Frag.roll-Frag denote.Hole.Carrier.roll
  each_numbers r None = fold-roll-Frag Ns Ns numbers.frag numbers.branch (Frag-F.Each r.list r.item r.index r.key r.body None)
  each_numbers r (Some none) = fold-roll-Frag Ns Ns numbers.frag numbers.branch (Frag-F.Each r.list r.item r.index r.key r.body (Some none))

  key_numbers : (shown : Part) (body : List AnyFrag) → of_frag (frag.Key shown body) ≡ of_part shown ++ of_frags body
  unfolding Frag.roll-Frag denote.Hole.Carrier.roll
  key_numbers shown body = fold-roll-Frag Ns Ns numbers.frag numbers.branch (Frag-F.Key shown body)

  show_numbers : (shown : Part) → of_frag (frag.Show shown) ≡ of_part shown
  unfolding Frag.roll-Frag denote.Hole.Carrier.roll
  show_numbers shown = fold-roll-Frag Ns Ns numbers.frag numbers.branch (Frag-F.Show shown)

  branch_numbers : (test : Part) (body : List AnyFrag) → of_branch (record { test = test; body = body }) ≡ of_part test ++ of_frags body
  branch_numbers test body = fold-roll-FragArm Ns Ns numbers.frag numbers.branch (record { test = test; body = body })

  abbrev of_head : Head → List Number
  of_head h = of_part h.list ++ given_numbers (option_map of_part h.key)

  head_keeps : (names : List Ref) (list : Expr) (key : Option Expr) → Keep of_head (head names list key)
  unfolding head
  head_keeps names list key =
      two of_part (λ y. given_numbers (option_map of_part y)) of_head (λ l k. record { list = l; key = k }) (part_of (list_names names list key) list) (within names (given (option_map part key))) (λ a b. refl)
      (part_of_keeps (list_names names list key) list) (λ locals. given_keeps of_part part key (λ e. part_of_keeps _ e) (names ++ locals))

  row_keeps : (list : Expr) (item : Named) (index : Option Named) (key : Option Expr) (body : List Node) → All Piece body → Keep of_row (row list item index key body)
  unfolding row
  row_keeps list item index key body h =
      let names = row_refs item index in
      two of_head of_frags of_row (row_of item index) (head names list key) (within names (nodes true body))
      (λ a b. sym (append_assoc (of_part a.list) (given_numbers (option_map of_part a.key)) (of_frags b)))
      (head_keeps names list key) (λ locals. content_keeps true [] body h (names ++ locals))

  -- content that may be absent
  abbrev LastKeeps : Option (List Node) → Type 0
  LastKeeps None = ⊤
  LastKeeps (Some list) = All Piece list

  last_keeps : (last : Option (List Node)) → LastKeeps last → Keep (λ y. given_numbers (option_map of_frags y)) (given (option_map (nodes true) last))
  last_keeps None h = just_none (λ y. given_numbers (option_map of_frags y)) None refl
  last_keeps (Some list) h = one of_frags (λ y. given_numbers (option_map of_frags y)) Some (nodes true list) (λ y. refl) (content_keeps true [] list h)

  if_keeps : (arms : List (Builds FragArm)) (last : Option (List Node)) → All (Keep of_branch) arms → LastKeeps last → Keep of_frag (if_block arms last)
  if_keeps arms last h k =
      two (λ ys. joined (map of_branch ys)) (λ y. given_numbers (option_map of_frags y)) of_frag frag.If (each arms) (given (option_map (nodes true) last)) if_numbers (all_keep of_branch arms h) (last_keeps last k)

  rows_keep : (list : Expr) (item : Named) (index : Option Named) (key : Option Expr) (body : List Node) (none : Option (List Node)) → All Piece body → LastKeeps none → Keep of_frag (each_block list item index key body none)
  rows_keep list item index key body none h k =
      two of_row (λ y. given_numbers (option_map of_frags y)) of_frag with_none (row list item index key body) (given (option_map (nodes true) none)) each_numbers
      (row_keeps list item index key body h) (last_keeps none k)

  key_keeps : (e : Expr) (body : List Node) → All Piece body → Keep of_frag (key_block e body)
  key_keeps e body h = two of_part of_frags of_frag frag.Key (part e) (nodes true body) key_numbers (part_of_keeps _ e) (content_keeps true [] body h)

  -- ---- each form, with what is known of its parts

  abbrev KnownNode : Type 0
  KnownNode = (x : Markup) × Piece (node x)

  abbrev KnownBranch : Type 0
  KnownBranch = (x : Branch) × Keep of_branch (arm x)

  known_nodes : (list : List KnownNode) → All (Piece) (map node (map (λ p. p.0) list))
  known_nodes [] = All-nil (Piece)
  known_nodes (x ∷ list) = All-cons (Piece) (node x.0) (map node (map (λ p. p.0) list)) x.1 (known_nodes list)

  known_branches : (list : List KnownBranch) → All (Keep of_branch) (map arm (map (λ p. p.0) list))
  known_branches [] = All-nil (Keep of_branch)
  known_branches (x ∷ list) = All-cons (Keep of_branch) (arm x.0) (map arm (map (λ p. p.0) list)) x.1 (known_branches list)

  abbrev bare_markup : Markup-F KnownNode KnownBranch → Markup-F Markup Branch
  bare_markup = map-Markup KnownNode KnownBranch Markup Branch (λ p. p.0) (λ p. p.0)

  abbrev done_markup : Markup-F Markup Branch → Markup-F Node (Builds FragArm)
  done_markup = map-Markup Markup Branch Node (Builds FragArm) node arm

  abbrev bare_branch : Branch-F KnownNode KnownBranch → Branch-F Markup Branch
  bare_branch = map-Branch KnownNode KnownBranch Markup Branch (λ p. p.0) (λ p. p.0)

  abbrev done_branch : Branch-F Markup Branch → Branch-F Node (Builds FragArm)
  done_branch = map-Branch Markup Branch Node (Builds FragArm) node arm

  markup_keeps : (y : Markup-F KnownNode KnownBranch) → Piece (markup (done_markup (bare_markup y)))
  markup_keeps (Markup-F.Text span text) = tt
  markup_keeps (Markup-F.Show span e) = one of_part of_frag frag.Show (part e) show_numbers (part_of_keeps _ e)
  markup_keeps (Markup-F.Element span name list children) = tag_keeps (Element name) span list _ (known_nodes children)
  markup_keeps (Markup-F.Comp span name list children) = tag_keeps (Component name) span list _ (known_nodes children)
  markup_keeps (Markup-F.Slot span name list children) = tag_keeps (Slot name) span list _ (known_nodes children)
  markup_keeps (Markup-F.If span arms None) = if_keeps _ None (known_branches arms) tt
  markup_keeps (Markup-F.If span arms (Some last)) = if_keeps _ (Some _) (known_branches arms) (known_nodes last)
  markup_keeps (Markup-F.Each span list item index key body None) = rows_keep list item index key _ None (known_nodes body) tt
  markup_keeps (Markup-F.Each span list item index key body (Some none)) = rows_keep list item index key _ (Some _) (known_nodes body) (known_nodes none)
  markup_keeps (Markup-F.Key span e body) = key_keeps e _ (known_nodes body)

  branch_keeps : (y : Branch-F KnownNode KnownBranch) → Keep of_branch (branch (done_branch (bare_branch y)))
  branch_keeps y = two of_part of_frags of_branch (λ test body. record { test = test; body = body }) (part y.test) (nodes true _) branch_numbers (part_of_keeps _ y.test) (content_keeps true [] _ (known_nodes y.body))

  -- ---- whole trees

  abbrev MarkupKeeps : Markup → Type 0
  MarkupKeeps x = Piece (node x)

  abbrev BranchKeeps : Branch → Type 0
  BranchKeeps x = Keep of_branch (arm x)

  markup_step : (x : Markup-F Markup Branch) (y : Markup-F KnownNode KnownBranch) → bare_markup y ≡ x → MarkupKeeps (roll-Markup x)
  markup_step x y e = subst (Piece) (sym (fold-roll-Markup Node (Builds FragArm) markup branch x)) (subst (λ z. Piece (markup (done_markup z))) e (markup_keeps y))

  branch_step : (x : Branch-F Markup Branch) (y : Branch-F KnownNode KnownBranch) → bare_branch y ≡ x → BranchKeeps (roll-Branch x)
  branch_step x y e = subst (Keep of_branch) (sym (fold-roll-Branch Node (Builds FragArm) markup branch x)) (subst (λ z. Keep of_branch (branch (done_branch z))) e (branch_keeps y))

  node_keeps : (x : Markup) → MarkupKeeps x
  node_keeps = ind-Markup MarkupKeeps BranchKeeps markup_step branch_step

  nodes_keep : (list : List Markup) → All (Piece) (map node list)
  nodes_keep [] = All-nil (Piece)
  nodes_keep (x ∷ list) = All-cons (Piece) (node x) (map node list) (node_keeps x) (nodes_keep list)

  -- the fragments of a component name what is there, and so do the tables then
  pub fragments_keep : (list : List Markup) → BuildsKeep sizes file around of_frags (fragments list)
  fragments_keep list = content_keeps true [] (map node list) (nodes_keep list)
