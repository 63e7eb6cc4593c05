-- Nodes by their numbers.
use Rattle.std.proofs.Common.{◌≡◌, ℕ, ◌+◌, ◌<◌, Bool, true, false, List, [], ◌∷◌, ◌++◌, Some, length, map, take, get_or, refl, ap, sym, subst, ◌∙◌}
use Rattle.std.specs.List.{All}
use Rattle.std.specs.Prelude.{slice_get}
use Rattle.std.proofs.lemmas.List.{map-append, take_more}
use Rattle.std.proofs.lemmas.List.Elements.{All-nil, All-cons, All-append}
use Rattle.std.proofs.lemmas.Option.{slice_get_read}
use Rattle.std.specs.Option.{option_map_or}
use Rattle.sv_ast.specs.declared.markup_tree.Markup
use Rattle.sv_ast.specs.declared.markup_tree.Markup.{Markup as AnyMarkup, Markup-F, fold-roll-Markup}
use Rattle.sv_ast.specs.declared.markup_tree.TagAttr.{TagAttr}
use Rattle.sv_base.specs.declared.names.Name.{Name}
use Rattle.sv_base.specs.declared.span.Span.{Span}
use Rattle.sv_code.specs.declared.fragments.FragArm.{FragArm}
use Rattle.sv_scopes.specs.Attributes.{is_slotted}
use Rattle.sv_white.specs.declared.pieces.Piece.{Piece}
use Rattle.sv_white.specs.declared.pieces.Piece.TheVariants.{Words, Apart, Other}
use Rattle.sv_white.specs.White.{kept}
use Rattle.sv_fragments.specs.Content.{Node}
use Rattle.sv_fragments.specs.Frags.{node, markup, branch}
use Rattle.sv_fragments.specs.Builds.{Builds}
use Rattle.sv_fragments.specs.Tags.{Form, Element, Component, Slot, tag}
use Rattle.sv_fragments.specs.Pieces.{made_of, made_at, made, numbered, numbered_tag, IsNumber}
use Rattle.sv_fragments.proofs.Natural.{kept_lifted}

-- what is made of a node where it stands, by its number
pub made_at_number : (nodes : List AnyMarkup) (n : ℕ) (x : AnyMarkup) → slice_get nodes n ≡ Some x → made_at nodes n ≡ made_of (node x)
made_at_number nodes n x is = ap (λ o. made_of (option_map_or node o (Words []))) is

made_numbered_by : (nodes : List AnyMarkup) (n : ℕ) (m : Node) → made_at nodes n ≡ made_of m → made nodes (numbered n m) ≡ m
made_numbered_by nodes n (Words text) is = refl
made_numbered_by nodes n (Apart make) is = ap Apart is
made_numbered_by nodes n (Other make) is = ap Other is

-- a node by its number is that node
pub made_numbered : (nodes : List AnyMarkup) (n : ℕ) (x : AnyMarkup) → slice_get nodes n ≡ Some x → made nodes (numbered n (node x)) ≡ node x
made_numbered nodes n x is = made_numbered_by nodes n (node x) (made_at_number nodes n x is)

-- its number is one of them
pub number_numbered : (count n : ℕ) (m : Node) → n < count → IsNumber count (numbered n m)
number_numbered count n (Words text) below = tt
number_numbered count n (Apart make) below = below
number_numbered count n (Other make) below = below

numbered_tag_by : (n : ℕ) (form : Form) (span : Span) (attrs : List TagAttr) (children : List Node) (b : Bool) → is_slotted attrs ≡ b → numbered n (tag form span attrs children) ≡ numbered_tag n attrs
unfolding tag
numbered_tag_by n form span attrs children true e = rw (e) refl
numbered_tag_by n form span attrs children false e = rw (e) refl

-- the number of a tag
pub numbered_tag_is : (n : ℕ) (form : Form) (span : Span) (attrs : List TagAttr) (children : List Node) → numbered n (tag form span attrs children) ≡ numbered_tag n attrs
numbered_tag_is n form span attrs children = numbered_tag_by n form span attrs children (is_slotted attrs) refl

element_node : (span : Span) (name : List ℕ) (attrs : List TagAttr) (children : List AnyMarkup) → node (Markup.Element span name attrs children) ≡ tag (Element name) span attrs (map node children)
unfolding Markup.roll-Markup denote.Hole.Carrier.roll
element_node span name attrs children = fold-roll-Markup Node (Builds FragArm) markup branch (Markup-F.Element span name attrs children)

component_node : (span : Span) (name : Name) (attrs : List TagAttr) (children : List AnyMarkup) → node (Markup.Comp span name attrs children) ≡ tag (Component name) span attrs (map node children)
unfolding Markup.roll-Markup denote.Hole.Carrier.roll
component_node span name attrs children = fold-roll-Markup Node (Builds FragArm) markup branch (Markup-F.Comp span name attrs children)

slot_node : (span : Span) (name : List ℕ) (attrs : List TagAttr) (children : List AnyMarkup) → node (Markup.Slot span name attrs children) ≡ tag (Slot name) span attrs (map node children)
unfolding Markup.roll-Markup denote.Hole.Carrier.roll
slot_node span name attrs children = fold-roll-Markup Node (Builds FragArm) markup branch (Markup-F.Slot span name attrs children)

tag_number : (n : ℕ) (m x : AnyMarkup) (form : Form) (span : Span) (attrs : List TagAttr) (children : List Node) → m ≡ x → node x ≡ tag form span attrs children → numbered n (node m) ≡ numbered_tag n attrs
tag_number n m x form span attrs children is made = ap (λ y. numbered n (node y)) is ∙ ap (numbered n) made ∙ numbered_tag_is n form span attrs children

-- the numbers of tags
pub numbered_element : (n : ℕ) (m : AnyMarkup) (span : Span) (name : List ℕ) (attrs : List TagAttr) (children : List AnyMarkup) → m ≡ Markup.Element span name attrs children → numbered n (node m) ≡ numbered_tag n attrs
numbered_element n m span name attrs children is = tag_number n m _ _ span attrs _ is (element_node span name attrs children)

pub numbered_component : (n : ℕ) (m : AnyMarkup) (span : Span) (name : Name) (attrs : List TagAttr) (children : List AnyMarkup) → m ≡ Markup.Comp span name attrs children → numbered n (node m) ≡ numbered_tag n attrs
numbered_component n m span name attrs children is = tag_number n m _ _ span attrs _ is (component_node span name attrs children)

pub numbered_slot : (n : ℕ) (m : AnyMarkup) (span : Span) (name : List ℕ) (attrs : List TagAttr) (children : List AnyMarkup) → m ≡ Markup.Slot span name attrs children → numbered n (node m) ≡ numbered_tag n attrs
numbered_slot n m span name attrs children is = tag_number n m _ _ span attrs _ is (slot_node span name attrs children)

-- the pieces of one node more
pub more_pieces : (nodes : List AnyMarkup) (n : ℕ) (x : AnyMarkup) (pieces all : List (Piece ℕ)) (p : Piece ℕ) → n < length nodes → x ≡ get_or nodes n x → p ≡ numbered n (node x) → all ≡ pieces ++ p ∷ []
    → (map (made nodes) pieces ≡ map node (take n nodes)) × All (IsNumber (length nodes)) pieces
    → (map (made nodes) all ≡ map node (take (n + 1) nodes)) × All (IsNumber (length nodes)) all
more_pieces nodes n x pieces all p within is number pushed (so_far, numbers) =
    let there : slice_get nodes n ≡ Some x = slice_get_read nodes (length nodes) n x refl within is in
    let own : made nodes p ≡ node x = ap (made nodes) number ∙ made_numbered nodes n x there in
    let below : IsNumber (length nodes) p = subst (IsNumber (length nodes)) (sym number) (number_numbered (length nodes) n (node x) within) in (
      ap (map (made nodes)) pushed
          ∙ map-append (made nodes) pieces (p ∷ [])
          ∙ ap (λ l. l ++ made nodes p ∷ []) so_far
          ∙ ap (λ y. map node (take n nodes) ++ y ∷ []) own
          ∙ sym (map-append node (take n nodes) (x ∷ []))
          ∙ ap (map node) (ap (λ y. take n nodes ++ y ∷ []) is ∙ sym (take_more nodes n x within)),
      subst (All (IsNumber (length nodes))) (sym pushed)
          (All-append (IsNumber (length nodes)) pieces (p ∷ []) numbers (All-cons (IsNumber (length nodes)) p [] below (All-nil (IsNumber (length nodes))))),
    )

-- what is kept of nodes is what is kept of their numbers
pub kept_made : (nodes : List AnyMarkup) (strips : Bool) (pieces left : List (Piece ℕ)) → left ≡ kept strips pieces → map (made nodes) pieces ≡ map node nodes
    → map (made nodes) left ≡ kept strips (map node nodes)
kept_made nodes strips pieces left is all = ap (map (made nodes)) is ∙ sym (kept_lifted (made_at nodes) strips pieces) ∙ ap (kept strips) all
