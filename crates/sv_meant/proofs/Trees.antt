-- What is made of the markup of a component adds the functions of the expressions that stand in it, of which its parts are made: an induction over markup, a
-- lemma a form.
use Rattle.std.proofs.Common.{◌≡◌, ℕ, Bool, true, false, List, [], ◌∷◌, ◌++◌, Option, None, Some, append-nil, append_assoc, length, map, option_map, refl, sym, ap, subst, ◌∙◌}
use Rattle.std.specs.List.{All}
use Rattle.std.specs.Prelude.{⊤, not, if◌then◌else◌}
use Rattle.std.proofs.lemmas.List.Elements.{All-nil, All-cons, All-head, All-tail}
use Rattle.sv_ast.specs.declared.markup_tree.Branch.{Branch, Branch-F, roll-Branch, map-Branch, fold-roll-Branch}
use Rattle.sv_ast.specs.declared.markup_tree.Markup.{Markup, Markup-F, roll-Markup, map-Markup, fold-roll-Markup, ind-Markup}
use Rattle.sv_ast.specs.declared.markup_tree.TagAttr.{TagAttr}
use Rattle.sv_ast.specs.declared.names.Named.{Named}
use Rattle.sv_ast.specs.declared.names.Ref.{Ref}
use Rattle.sv_ast.specs.declared.script_tree.Expr.{Expr}
use Rattle.sv_base.specs.declared.span.Span.{Span}
use Rattle.sv_code.specs.Names.{Each}
use Rattle.sv_code.specs.Parts as parts
use Rattle.sv_code.specs.declared.fragments.Frag.{Frag as AnyFrag}
use Rattle.sv_code.specs.declared.fragments.Frag.TheVariants as frag
use Rattle.sv_code.specs.declared.fragments.FragArm.{FragArm}
use Rattle.sv_code.specs.declared.fragments.LetName.{LetName}
use Rattle.sv_code.specs.declared.parts.Part.{Part as AnyPart}
use Rattle.sv_code.specs.declared.tags.Tag.{Tag}
use Rattle.sv_deps.specs.Looks.{tag_looks}
use Rattle.sv_deps.specs.Reading.{reading}
use Rattle.sv_lower.specs.Does.{of_one, of_two, each, given, within}
use Rattle.sv_scopes.specs.Attributes.{is_slotted}
use Rattle.sv_scopes.specs.declared.scope.TheConstants.{VIEW}
use Rattle.sv_white.specs.declared.pieces.Piece.{Piece as WhitePiece}
use Rattle.sv_white.specs.declared.pieces.Piece.TheVariants.{Words, Apart, Other}
use Rattle.sv_white.specs.White.{kept}
use Rattle.sv_fragments.specs.declared.around.Tables.{Tables}
use Rattle.sv_fragments.specs.Builds.{Around, Builds}
use Rattle.sv_fragments.specs.Expressions.{part_of, part, list_names}
use Rattle.sv_fragments.specs.Attributes.{attrs}
use Rattle.sv_fragments.specs.Content.{Node, piece, content, nodes}
use Rattle.sv_fragments.specs.Tags.{Form, Element, Component, Slot, let_refs, own_lets, own_refs, strips, filled, tag_of, closed, whole, named_by, tag}
use Rattle.sv_fragments.specs.Frags.{if_block, row_refs, head, row_of, row, with_none, each_block, key_block, markup, branch, node, arm, fragments}
use Rattle.sv_fragments.proofs.Kept.{kept_all}
use Rattle.sv_fragments.proofs.Natural.{kept_lifted}
use Rattle.sv_fragments.specs.Pieces.{lifted}
use Rattle.sv_source.specs.Open.{IsPlain, AreOfTop}
use Rattle.sv_meant.specs.Pieces.{Lists}
use Rattle.sv_meant.specs.Pieces as lists
use Rattle.sv_meant.specs.Spots as spots
use Rattle.sv_meant.specs.Spots.{Spread, OfHandler, OfTag, none, one, hears, holds}
use Rattle.sv_meant.proofs.Spreading.{text_spots, show_spots, element_spots, slot_spots, tag_spots, named_spots, if_spots, each_spots, key_spots, arm_spots}
use Rattle.sv_meant.proofs.Made.{Sound, Grown, grown_none, grown_both, grown_tag, spread_on}
use Rattle.sv_within.proofs.Keeping.{last_stands}
use Rattle.sv_meant.proofs.White.{all, kept_same}
use Rattle.sv_source.specs.Programs.{Piece}
use Rattle.sv_within.proofs.Contents.{Filled, text_empty, show_same, element_same, slot_parts, tag_parts, named_same, if_same, each_same, key_same, arm_same}
use Rattle.sv_meant.proofs.Adding.{Here, Makes, Add, same_add, just_add, one_add, two_add, given_add, within_add, row_plain, refs_plain, own_plain, part_of_adds, part_adds, attrs_add, alone, optional, several, of_attrs, of_frag, of_frags, of_arm, in_filled, in_head, in_row}

module _ (before : List Piece) (around : Around) (proper : AreOfTop around.tops) where
  -- ---- content

  -- what is made of a node as white space sees it, with what stands in it
  abbrev Both : Type 0
  Both = WhitePiece (Builds AnyFrag × Lists)

  abbrev making : Both → Node
  making = lifted (λ b. b.0)

  abbrev listing : Both → lists.Node
  listing (Words text) = lists.inside lists.nothing
  listing (Apart b) = lists.apart b.1
  listing (Other b) = lists.inside b.1

  abbrev BothAdd : Both → Type 0
  BothAdd (Words text) = ⊤
  BothAdd (Apart b) = Add before around proper of_frag b.1 b.0
  BothAdd (Other b) = Add before around proper of_frag b.1 b.0

  piece_adds : (names : List Ref) (b : Both) → Each IsPlain names → BothAdd b → Add before around proper of_frag (listing b names) (piece names (making b))
  piece_adds names (Words text) plain h = just_add before around proper of_frag (frag.Text text) ((text_empty text).parts, text_spots text)
  piece_adds names (Apart b) plain h = h
  piece_adds names (Other b) plain h = within_add before around proper of_frag b.1 names b.0 plain h

  pieces_add : (names : List Ref) (list : List Both) → Each IsPlain names → All BothAdd list → Add before around proper of_frags (lists.content names (map listing list)) (each (map (piece names) (map making list)))
  pieces_add names [] plain h = just_add before around proper of_frags [] (refl, refl)
  pieces_add names (b ∷ list) plain h =
      two_add before around proper of_frag of_frags of_frags (listing b names) (lists.content names (map listing list)) (λ x xs. x ∷ xs) (piece names (making b)) (each (map (piece names) (map making list))) (λ x xs. (refl, refl))
      (piece_adds names b plain (All-head BothAdd b list h)) (pieces_add names list plain (All-tail BothAdd b list h))

  -- what is listed of some nodes in turn, and the same without the texts that go
  listed : (names locals : List Ref) (list : List Both) → lists.content names (map listing list) around.tops locals ≡ all (λ b. listing b names around.tops locals) (λ text. refl) list
  listed names locals [] = refl
  listed names locals (b ∷ list) = ap (λ z. listing b names around.tops locals ++ z) (listed names locals list)

  kept_listed : (strip : Bool) (names locals : List Ref) (list : List Both) → lists.content names (map listing (kept strip list)) around.tops locals ≡ lists.content names (map listing list) around.tops locals
  kept_listed strip names locals list = listed names locals (kept strip list) ∙ kept_same (λ b. listing b names around.tops locals) (λ text. refl) strip list ∙ sym (listed names locals list)

  both_adds : (strip : Bool) (names : List Ref) (list : List Both) → Each IsPlain names → All BothAdd list → Add before around proper of_frags (lists.content names (map listing list)) (content strip names (map making list))
  unfolding content
  both_adds strip names list plain h =
      same_add before around proper of_frags (lists.content names (map listing (kept strip list))) (lists.content names (map listing list)) (each (map (piece names) (kept strip (map making list)))) (λ locals. kept_listed strip names locals list)
      (subst (λ z. Add before around proper of_frags (lists.content names (map listing (kept strip list))) (each (map (piece names) z))) (sym (kept_lifted (λ b. b.0) strip list))
      (pieces_add names (kept strip list) plain (kept_all BothAdd (λ text. tt) strip list h)))

  -- a node, and some nodes, with what stands in them
  record Known (node : Node) (wants : lists.Node) : Type 0 where
    both : Both
    makes : making both ≡ node
    lists_it : listing both ≡ wants
    adds : BothAdd both

  record AllKnown (nodes : List Node) (wants : List lists.Node) : Type 0 where
    both : List Both
    makes : map making both ≡ nodes
    lists_it : map listing both ≡ wants
    adds : All BothAdd both

  none_known : AllKnown [] []
  none_known = record { both = []; makes = refl; lists_it = refl; adds = All-nil BothAdd }

  more_known : (n : Node) (w : lists.Node) (ns : List Node) (ws : List lists.Node) → Known n w → AllKnown ns ws → AllKnown (n ∷ ns) (w ∷ ws)
  more_known n w ns ws h k = record {
    both = h.both ∷ k.both;
    makes = ap (λ z. z ∷ map making k.both) h.makes ∙ ap (λ z. n ∷ z) k.makes;
    lists_it = ap (λ z. z ∷ map listing k.both) h.lists_it ∙ ap (λ z. w ∷ z) k.lists_it;
    adds = All-cons BothAdd h.both k.both h.adds k.adds;
  }

  content_adds : (strip : Bool) (names : List Ref) (nodes : List Node) (wants : List lists.Node) → Each IsPlain names → AllKnown nodes wants → Add before around proper of_frags (lists.content names wants) (content strip names nodes)
  content_adds strip names nodes wants plain k =
      subst (λ vs. Add before around proper of_frags (lists.content names vs) (content strip names nodes)) k.lists_it
      (subst (λ ns. Add before around proper of_frags (lists.content names (map listing k.both)) (content strip names ns)) k.makes (both_adds strip names k.both plain k.adds))

  -- ---- tags

  filled_adds : (form : Form) (list : List TagAttr) (children : List Node) (wants : List lists.Node) → AllKnown children wants → Add before around proper in_filled (lists.filled list (own_refs form list) wants) (filled form list children)
  unfolding filled
  filled_adds form list children wants h =
      two_add before around proper of_attrs of_frags in_filled (lists.attributes list) (lists.content (own_refs form list) wants) (λ xs made. record { attrs = xs; content = made }) (attrs list) (content (strips form) (own_refs form list) children) (λ a b. (refl, refl))
      (attrs_add before around proper list) (content_adds (strips form) (own_refs form list) children wants (own_plain before around proper form list) h)

  -- a tag with what stands in it adds none of its own
  record Closed (own : List Piece) (t : Tables) (in_order : List AnyPart) (made : AnyFrag × Tables) : Type 0 where
    sound : Sound before around.tops own made.1
    grown : Grown before around.tops own t made.1
    parts : Each (Here before around proper own) (parts.of_frag made.0)
    spread : Spread made.1.tags made.1.handlers (spots.of_frag made.0) in_order

  closed_adds : (form : Form) (span : Span) (lets : List LetName) (f : Filled) (locals : List Ref) (own : List Piece) (t : Tables) → Sound before around.tops own t → Each (Here before around proper own) (in_filled.parts f)
      → (ps : List AnyPart) → Spread t.tags t.handlers (in_filled.spots f) ps → Closed own t ps (closed form span lets f around locals t)
  unfolding closed
  closed_adds (Element name) span lets f locals own t s h ps k = record {
    sound = s;
    grown = grown_none before around.tops own t t refl refl;
    parts = subst (Each (Here before around proper own)) (sym (element_same span name f.attrs f.content).parts) h;
    spread = subst (λ z. Spread t.tags t.handlers z ps) (sym (element_spots span name f.attrs f.content)) k;
  }
  closed_adds (Component name) span lets f locals own t s h ps k =
      let made : Tag = tag_of around span name lets f in
      let u : Tables = record t { tags = t.tags ++ made ∷ [] } in
      let g : Grown before around.tops own t u = grown_tag before around.tops own t made h in
      let n : ℕ = length t.tags in
      let reads = tag_looks (length around.cells) made.attrs made.reads in
      record {
        sound = record { proper = s.proper; functions = s.functions };
        grown = g;
        parts = subst (Each (Here before around proper own)) (sym (tag_parts n reads)) tt;
        spread = subst (λ z. Spread u.tags u.handlers z ps) (sym (tag_spots n reads))
            (subst (Spread u.tags u.handlers (OfTag n ∷ [])) (append-nil ps) (holds n made ps [] [] (last_stands t.tags made) (spread_on before around.tops own t u g (in_filled.spots f) ps k) none));
      }
  closed_adds (Slot name) span lets f locals own t s h ps k =
      let reads = reading around.tops around.cells locals (VIEW ∷ []) in
      record {
        sound = s;
        grown = grown_none before around.tops own t t refl refl;
        parts = subst (Each (Here before around proper own)) (sym (slot_parts span name f.attrs f.content reads)) h;
        spread = subst (λ z. Spread t.tags t.handlers z ps) (sym (slot_spots span name f.attrs f.content reads)) k;
      }

  whole_adds : (form : Form) (span : Span) (list : List TagAttr) (children : List Node) (wants : List lists.Node) → AllKnown children wants → Add before around proper of_frag (lists.filled list (own_refs form list) wants) (whole form span list children)
  unfolding whole
  whole_adds form span list children wants h locals plain own t s =
      let made = filled form list children around locals t in
      let m : Makes before around proper in_filled own (lists.filled list (own_refs form list) wants around.tops locals) t made = filled_adds form list children wants h locals plain own t s in
      let all = closed form span (own_lets form list) made.0 around locals made.1 in
      let c : Closed m.later made.1 m.in_order all = closed_adds form span (own_lets form list) made.0 locals m.later made.1 m.sound m.parts m.in_order m.spread in
      record {
        later = m.later;
        is = m.is;
        sound = c.sound;
        grown = grown_both before around.tops m.later m.later [] (sym (append-nil m.later)) t made.1 all.1 m.grown c.grown;
        parts = c.parts;
        in_order = m.in_order;
        spread = c.spread;
        one_by_one = m.one_by_one;
      }

  -- the names of the default content of a tag without a `slot` attribute
  abbrev own_names : Form → List TagAttr → List Ref
  own_names (Element name) list = []
  own_names (Component name) list = lists.let_names list
  own_names (Slot name) list = []

  -- a choice between the same, and one that is turned about
  same_by : (b : Bool) (names : List Ref) → names ≡ if b then names else names
  same_by true names = refl
  same_by false names = refl

  unless : (b : Bool) (names : List Ref) → (if not b then names else []) ≡ if b then [] else names
  unless true names = refl
  unless false names = refl

  own_same : (form : Form) (list : List TagAttr) → own_refs form list ≡ if is_slotted list then [] else own_names form list
  own_same (Element name) list = same_by (is_slotted list) []
  own_same (Component name) list = unless (is_slotted list) (lists.let_names list)
  own_same (Slot name) list = same_by (is_slotted list) []

  apart_or_inside : (b : Bool) (list : List TagAttr) (own : List Ref) (wants : List lists.Node) (make : Builds AnyFrag) → Add before around proper of_frag (lists.filled list (if b then [] else own) wants) make
      → Known (if b then Apart (of_one (named_by list) (within (let_refs list) make)) else Other make) (if b then lists.apart (lists.within (lists.let_names list) (lists.filled list [] wants)) else lists.inside (lists.filled list own wants))
  apart_or_inside true list own wants make h =
      let ws : Lists = lists.filled list [] wants in
      record {
        both = Apart (of_one (named_by list) (within (let_refs list) make), lists.within (lists.let_names list) ws);
        makes = refl;
        lists_it = refl;
        adds = one_add before around proper of_frag of_frag (lists.within (lists.let_names list) ws) (named_by list) (within (let_refs list) make) (λ made. ((named_same list made).parts, named_spots list made)) (within_add before around proper of_frag ws (let_refs list) make (refs_plain before around proper list) h);
      }
  apart_or_inside false list own wants make h = record { both = Other (make, lists.filled list own wants); makes = refl; lists_it = refl; adds = h }

  tag_adds : (form : Form) (span : Span) (list : List TagAttr) (children : List Node) (wants : List lists.Node) → AllKnown children wants → Known (tag form span list children) (lists.tag list (own_names form list) wants)
  unfolding tag
  tag_adds form span list children wants h =
      apart_or_inside (is_slotted list) list (own_names form list) wants (whole form span list children)
      (subst (λ names. Add before around proper of_frag (lists.filled list names wants) (whole form span list children)) (own_same form list) (whole_adds form span list children wants h))

  -- ---- blocks

  head_adds : (names : List Ref) (list : Expr) (key : Option Expr) → Each IsPlain names → Add before around proper in_head (lists.followed (lists.alone list) (lists.within names (lists.given lists.alone key))) (head names list key)
  unfolding head
  head_adds names list key plain =
      two_add before around proper alone (optional alone) in_head (lists.alone list) (lists.within names (lists.given lists.alone key)) (λ l k. record { list = l; key = k }) (part_of (list_names names list key) list) (within names (given (option_map part key))) (λ l k. (refl, refl))
      (part_of_adds before around proper _ list) (within_add before around proper (optional alone) (lists.given lists.alone key) names (given (option_map part key)) plain (given_add before around proper alone lists.alone part key (part_adds before around proper)))

  row_adds : (list : Expr) (item : Named) (index : Option Named) (key : Option Expr) (body : List Node) (wants : List lists.Node) → AllKnown body wants → Add before around proper in_row (lists.rows list (lists.each_names item index) key wants) (row list item index key body)
  unfolding row
  row_adds list item index key body wants h =
      let names : List Ref = row_refs item index in
      let ws : Lists = lists.followed (lists.alone list) (lists.within names (lists.given lists.alone key)) in
      let vs : Lists = lists.within names (lists.content [] wants) in
      same_add before around proper in_row (lists.followed ws vs) (lists.rows list names key wants) (of_two (row_of item index) (head names list key) (within names (nodes true body))) (λ locals. append_assoc (lists.alone list around.tops locals) (lists.given lists.alone key around.tops (names ++ locals)) (lists.content [] wants around.tops (names ++ locals)))
      (two_add before around proper in_head of_frags in_row ws vs (row_of item index) (head names list key) (within names (nodes true body)) (λ a b. (refl, refl))
      (head_adds names list key (row_plain before around proper item index)) (within_add before around proper of_frags (lists.content [] wants) names (nodes true body) (row_plain before around proper item index) (content_adds true [] body wants tt h)))

  -- content that may be absent
  abbrev LastKnown : Option (List Node) → Option (List lists.Node) → Type 0
  LastKnown None None = ⊤
  LastKnown (Some nodes) (Some wants) = AllKnown nodes wants
  LastKnown _ _ = ⊥

  last_adds : (last : Option (List Node)) (wants : Option (List lists.Node)) → LastKnown last wants → Add before around proper (optional of_frags) (lists.given (lists.content []) wants) (given (option_map (nodes true) last))
  last_adds None None h = just_add before around proper (optional of_frags) None (refl, refl)
  last_adds (Some list) (Some wants) h = one_add before around proper of_frags (optional of_frags) (lists.content [] wants) Some (nodes true list) (λ y. (refl, refl)) (content_adds true [] list wants tt h)
  last_adds None (Some wants) h = absurd h
  last_adds (Some list) None h = absurd h

  -- a node of the default part
  inside_known : (make : Builds AnyFrag) (ws : Lists) → Add before around proper of_frag ws make → Known (Other make) (lists.inside ws)
  inside_known make ws h = record { both = Other (make, ws); makes = refl; lists_it = refl; adds = h }

  if_known : (arms : List (Builds FragArm)) (ws : List Lists) (last : Option (List Node)) (wants : Option (List lists.Node)) → Add before around proper (several of_arm) (lists.in_turn ws) (each arms) → LastKnown last wants
      → Known (Other (if_block arms last)) (lists.inside (lists.followed (lists.in_turn ws) (lists.given (lists.content []) wants)))
  if_known arms ws last wants h k =
      inside_known (if_block arms last) (lists.followed (lists.in_turn ws) (lists.given (lists.content []) wants))
      (two_add before around proper (several of_arm) (optional of_frags) of_frag (lists.in_turn ws) (lists.given (lists.content []) wants) frag.If (each arms) (given (option_map (nodes true) last)) (λ a b. ((if_same a b).parts, if_spots a b)) h (last_adds last wants k))

  each_block_known : (list : Expr) (item : Named) (index : Option Named) (key : Option Expr) (body : List Node) (last : Option (List Node)) (ws : List lists.Node) (wants : Option (List lists.Node)) → AllKnown body ws → LastKnown last wants
      → Known (Other (each_block list item index key body last)) (lists.inside (lists.followed (lists.rows list (lists.each_names item index) key ws) (lists.given (lists.content []) wants)))
  each_block_known list item index key body last ws wants h k =
      let rows : Lists = lists.rows list (lists.each_names item index) key ws in
      inside_known (each_block list item index key body last) (lists.followed rows (lists.given (lists.content []) wants))
      (two_add before around proper in_row (optional of_frags) of_frag rows (lists.given (lists.content []) wants) with_none (row list item index key body) (given (option_map (nodes true) last)) (λ a b. ((each_same a b).parts, each_spots a b)) (row_adds list item index key body ws h) (last_adds last wants k))

  key_known : (e : Expr) (body : List Node) (wants : List lists.Node) → AllKnown body wants → Known (Other (key_block e body)) (lists.inside (lists.followed (lists.alone e) (lists.content [] wants)))
  key_known e body wants h =
      inside_known (key_block e body) (lists.followed (lists.alone e) (lists.content [] wants))
      (two_add before around proper alone of_frags of_frag (lists.alone e) (lists.content [] wants) frag.Key (part e) (nodes true body) (λ a b. ((key_same a b).parts, key_spots a b)) (part_adds before around proper e) (content_adds true [] body wants tt h))

  -- ---- each form, with what is known of its parts

  abbrev MarkupAdds : Markup → Type 0
  MarkupAdds x = Known (node x) (lists.node x)

  abbrev BranchAdds : Branch → Type 0
  BranchAdds x = Add before around proper of_arm (lists.arm x) (arm x)

  abbrev KnownNode : Type 0
  KnownNode = (x : Markup) × MarkupAdds x

  abbrev KnownBranch : Type 0
  KnownBranch = (x : Branch) × BranchAdds x

  abbrev bare_nodes : List KnownNode → List Markup
  bare_nodes list = map (λ p. p.0) list

  abbrev bare_arms : List KnownBranch → List Branch
  bare_arms list = map (λ p. p.0) list

  all_known : (list : List KnownNode) → AllKnown (map node (bare_nodes list)) (map lists.node (bare_nodes list))
  all_known [] = none_known
  all_known (x ∷ list) = more_known (node x.0) (lists.node x.0) (map node (bare_nodes list)) (map lists.node (bare_nodes list)) x.1 (all_known list)

  known_branches : (list : List KnownBranch) → Add before around proper (several of_arm) (lists.in_turn (map lists.arm (bare_arms list))) (each (map arm (bare_arms list)))
  known_branches [] = just_add before around proper (several of_arm) [] (refl, refl)
  known_branches (x ∷ list) = two_add before around proper of_arm (several of_arm) (several of_arm) (lists.arm x.0) (lists.in_turn (map lists.arm (bare_arms list))) (λ y ys. y ∷ ys) (arm x.0) (each (map arm (bare_arms list))) (λ y ys. (refl, refl)) x.1 (known_branches list)

  abbrev bare_markup : Markup-F KnownNode KnownBranch → Markup-F Markup Branch
  bare_markup = map-Markup KnownNode KnownBranch Markup Branch (λ p. p.0) (λ p. p.0)

  abbrev done_markup : Markup-F Markup Branch → Markup-F Node (Builds FragArm)
  done_markup = map-Markup Markup Branch Node (Builds FragArm) node arm

  abbrev listed_markup : Markup-F Markup Branch → Markup-F lists.Node Lists
  listed_markup = map-Markup Markup Branch lists.Node Lists lists.node lists.arm

  abbrev bare_branch : Branch-F KnownNode KnownBranch → Branch-F Markup Branch
  bare_branch = map-Branch KnownNode KnownBranch Markup Branch (λ p. p.0) (λ p. p.0)

  abbrev done_branch : Branch-F Markup Branch → Branch-F Node (Builds FragArm)
  done_branch = map-Branch Markup Branch Node (Builds FragArm) node arm

  abbrev listed_branch : Branch-F Markup Branch → Branch-F lists.Node Lists
  listed_branch = map-Branch Markup Branch lists.Node Lists lists.node lists.arm

  markup_adds : (y : Markup-F KnownNode KnownBranch) → Known (markup (done_markup (bare_markup y))) (lists.markup (listed_markup (bare_markup y)))
  markup_adds (Markup-F.Text span text) = record { both = Words text; makes = refl; lists_it = refl; adds = tt }
  markup_adds (Markup-F.Show span e) = inside_known (of_one frag.Show (part e)) (lists.alone e) (one_add before around proper alone of_frag (lists.alone e) frag.Show (part e) (λ p. ((show_same p).parts, show_spots p)) (part_adds before around proper e))
  markup_adds (Markup-F.Element span name list children) = tag_adds (Element name) span list _ _ (all_known children)
  markup_adds (Markup-F.Comp span name list children) = tag_adds (Component name) span list _ _ (all_known children)
  markup_adds (Markup-F.Slot span name list children) = tag_adds (Slot name) span list _ _ (all_known children)
  markup_adds (Markup-F.If span arms None) = if_known (map arm (bare_arms arms)) (map lists.arm (bare_arms arms)) None None (known_branches arms) tt
  markup_adds (Markup-F.If span arms (Some last)) = if_known (map arm (bare_arms arms)) (map lists.arm (bare_arms arms)) (Some _) (Some _) (known_branches arms) (all_known last)
  markup_adds (Markup-F.Each span list item index key body None) = each_block_known list item index key _ None _ None (all_known body) tt
  markup_adds (Markup-F.Each span list item index key body (Some last)) = each_block_known list item index key _ (Some _) _ (Some _) (all_known body) (all_known last)
  markup_adds (Markup-F.Key span e body) = key_known e _ _ (all_known body)

  branch_adds : (y : Branch-F KnownNode KnownBranch) → Add before around proper of_arm (lists.branch (listed_branch (bare_branch y))) (branch (done_branch (bare_branch y)))
  branch_adds y =
      let wants : List lists.Node = map lists.node (bare_nodes y.body) in
      two_add before around proper alone of_frags of_arm (lists.alone y.test) (lists.content [] wants) (λ test body. record { test = test; body = body }) (part y.test) (nodes true (map node (bare_nodes y.body))) (λ a b. ((arm_same a b).parts, arm_spots a b))
      (part_adds before around proper y.test) (content_adds true [] (map node (bare_nodes y.body)) wants tt (all_known y.body))

  -- ---- whole trees

  markup_step : (x : Markup-F Markup Branch) (y : Markup-F KnownNode KnownBranch) → bare_markup y ≡ x → MarkupAdds (roll-Markup x)
  markup_step x y e =
      subst (λ n. Known n (lists.node (roll-Markup x))) (sym (fold-roll-Markup Node (Builds FragArm) markup branch x))
      (subst (λ w. Known (markup (done_markup x)) w) (sym (fold-roll-Markup lists.Node Lists lists.markup lists.branch x))
      (subst (λ z. Known (markup (done_markup z)) (lists.markup (listed_markup z))) e (markup_adds y)))

  branch_step : (x : Branch-F Markup Branch) (y : Branch-F KnownNode KnownBranch) → bare_branch y ≡ x → BranchAdds (roll-Branch x)
  branch_step x y e =
      subst (λ (z : Builds FragArm). Add before around proper of_arm (lists.arm (roll-Branch x)) z) (sym (fold-roll-Branch Node (Builds FragArm) markup branch x))
      (subst (λ (w : Lists). Add before around proper of_arm w (branch (done_branch x))) (sym (fold-roll-Branch lists.Node Lists lists.markup lists.branch x))
      (subst (λ z. Add before around proper of_arm (lists.branch (listed_branch z)) (branch (done_branch z))) e (branch_adds y)))

  node_adds : (x : Markup) → MarkupAdds x
  node_adds = ind-Markup MarkupAdds BranchAdds markup_step branch_step

  each_known : (list : List Markup) → AllKnown (map node list) (map lists.node list)
  each_known [] = none_known
  each_known (x ∷ list) = more_known (node x) (lists.node x) (map node list) (map lists.node list) (node_adds x) (each_known list)

  -- the markup of a component
  pub fragments_add : (list : List Markup) → Add before around proper of_frags (lists.expressions list) (fragments list)
  fragments_add list = content_adds true [] (map node list) (map lists.node list) tt (each_known list)
