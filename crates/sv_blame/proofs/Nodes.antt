-- Nodes of markup tell.
use Rattle.std.proofs.Common.{◌≡◌, ◌≤◌, ◌+◌, ◌-◌, ℕ, zero, suc, Bool, true, false, ◌||◌, List, [], ◌∷◌, ◌++◌, length, drop, refl, ap, sym, ◌∙◌, subst, arith}
use Rattle.std.proofs.lemmas.Grind.{common_steps}
use Rattle.std.specs.Prelude.{◌==◌, nat_le, codes}
use Rattle.std.specs.Str.{bytes_eq}
use Rattle.sv_ast.specs.declared.markup_tree.Branch.{Branch}
use Rattle.sv_ast.specs.declared.markup_tree.Markup.{Markup}
use Rattle.sv_lex.specs.declared.lexeme.Lexeme.TheVariants as k
use Rattle.sv_lex.specs.Literals.{moved}
use Rattle.sv_lex.specs.Reader.{Input, Parser, and_then, sees_one, after, next, left, name, knowing}
use Rattle.sv_lex.proofs.Sees.{seen}
use Rattle.sv_expr.specs.Limits.{real}
use Rattle.sv_script.specs.Rules.{word_as}
use Rattle.sv_script.specs.Script.{expression}
use Rattle.sv_tags.specs.declared.directives.Tag.{Tag}
use Rattle.sv_tags.specs.declared.directives.Tag.TheVariants as tag
use Rattle.sv_tags.specs.declared.holes.Filling.TheVariants.{Value}
use Rattle.sv_tags.specs.declared.openings.Opening.{Opening}
use Rattle.sv_tags.specs.declared.texts.Setting.TheVariants.{Body}
use Rattle.sv_tags.specs.Classes.{first, begins}
use Rattle.sv_tags.specs.Directives.{tag_of}
use Rattle.sv_tags.specs.Holes.{braces}
use Rattle.sv_tags.specs.Openings.{opening_tag}
use Rattle.sv_tags.specs.Raw.{comment}
use Rattle.sv_tags.specs.Texts.{text}
use Rattle.sv_markup.specs.declared.pieces.Form.{Form}
use Rattle.sv_markup.specs.declared.pieces.Form.TheVariants as form
use Rattle.sv_markup.specs.declared.pieces.Piece.{Piece}
use Rattle.sv_markup.specs.declared.pieces.Piece.TheVariants as p
use Rattle.sv_markup.specs.Ends.{end_tag_len, else_if_len}
use Rattle.sv_markup.specs.Nodes.{with_node}
use Rattle.sv_markup.specs.Pieces.{piece_at, is_end, tag_name, component_name}
use Rattle.sv_markup.specs.Rules as r
use Rattle.sv_markup.specs.Rules.{words, end_tag, block_end, index, show, begun, headed, key, each_row, each_head, contents, element_of, element, component_of, component, slot, branch_of, branches, otherwise, if_block, each_block, key_block, node, piece, nodes_from, nodes, inside}
use Rattle.sv_markup.specs.Void.{is_void}
use Rattle.sv_blame.specs.LeftOut.{is_left_out_piece, BeginsLeftOut}
use Rattle.sv_blame.specs.LeftOut as out
use Rattle.sv_blame.specs.Places.{begins_open}
use Rattle.sv_blame.proofs.Ends.{end_tag_fits, branch_stands, block_stands}
use Rattle.sv_blame.proofs.Frame.{is_sign, Any, Tells, stay, next-up, after_beyond, tells_from, tells_then, tells_choice, tells_if, tells_test, tells_expect, goes, goes_on, stops}
use Rattle.sv_blame.proofs.Onward.{At, Bad, Fits, tokens, knows, on, here, syntax, unclosed, left_out, deep, counted_by}
use Rattle.sv_blame.proofs.Pieces.{Shows, piece_shows, IsTag, IsComponent, opens, opens_component, opens_block, tag_fits, component_fits, named_fits}
use Rattle.sv_blame.proofs.Raw.{begins_within, comment_tells}
use Rattle.sv_blame.proofs.Stands.{Room, Tight, Links, above, nest_is, links_are}
use Rattle.sv_blame.proofs.Statements.{name_on, word_as_tells}
use Rattle.sv_blame.proofs.Tags.{opening_tells}
use Rattle.sv_blame.proofs.Texts.{text_tells, opened_then, expression_on, braces_tells}

no_two : (d : ℕ) → nat_le 2 d ≡ false → d ≤ 1
no_two d h = let few = above 2 d h in omega arith

two : (d : ℕ) → nat_le 2 d ≡ true → 2 ≤ d
two d h = grind (arith, common_steps)

no_three : (d : ℕ) → nat_le 3 d ≡ false → d ≤ 2
no_three d h = let few = above 3 d h in omega arith

three : (d : ℕ) → nat_le 3 d ≡ true → 3 ≤ d
three d h = grind (arith, common_steps)

module _ (bytes : List ℕ) (number : ℕ) where
  words_tell : (i : Input) → At bytes number i → Fits bytes number i (words i)
  unfolding words
  words_tell i at = tells_then Any Any (text Body i) _ (text_tells bytes number Body i at) (λ x o s le q. goes s le tt)

  end_tag_tells : (from : ℕ) (name : List ℕ) (b i : Input) → begins_open (drop from bytes) ≡ true → At bytes number i → b.at ≤ i.at → from ≤ i.at
      → Fits bytes number b (end_tag from name i)
  unfolding end_tag
  end_tag_tells from name b i shown_open at le low = tells_if Any (end_tag_len name i.text == 0) _ _ (λ e. stops (unclosed bytes number from i at low shown_open))
      (λ e. goes (on bytes number (end_tag_len name i.text) i at (end_tag_fits name i.text)) (omega arith) tt)

  block_end_tells : (from : ℕ) (w : List ℕ) (b i : Input) → begins_open (drop from bytes) ≡ true → At bytes number i → b.at ≤ i.at → from ≤ i.at
      → Fits bytes number b (block_end from w i)
  unfolding block_end
  block_end_tells from w b i shown_open at le low =
      tells_if Any (begins w i.text) _ _ (λ e. goes (on bytes number (length w) i at (begins_within w i.text e)) (omega arith) tt) (λ e. stops (unclosed bytes number from i at low shown_open))

  index_tells : (b i : Input) → At bytes number i → b.at ≤ i.at → Fits bytes number b (index i)
  unfolding index
  index_tells b i at le =
      let c = after_beyond (tokens bytes number) k.Comma i at in
      let low = c.low in
      tells_choice Any (sees_one k.Comma i) _ _ (after k.Comma i)
      (λ e. tells_then Any Any (name (after k.Comma i)) _ (name_on (tokens bytes number) b (after k.Comma i) c.stands (omega arith)) (λ x o s le q. goes s le tt))
      (λ e. goes c.stands (omega arith) tt)

  module _ (d : ℕ) where
    show_tells : (i : Input) → At bytes number i → Room bytes d i.at → first i.text ≡ 123 → Fits bytes number i (show real d i)
    unfolding show
    show_tells i at room h = tells_then Any Any (braces real Value d i) _ (braces_tells bytes number Value d i at room h) (λ x o s le q. goes s le tt)

    begun_then : {B : Type 0} (Q : B → Type 0) (b i : Input) (g : Unit {0} → Parser B) → At bytes number i → Room bytes d i.at
        → (2 ≤ d → Tells (At bytes number) (Bad bytes number) Q b (g tt i)) → Tells (At bytes number) (Bad bytes number) Q b (and_then (begun real d i) g)
    unfolding begun
    begun_then Q b i g at room h =
        tells_test Q (nat_le 2 d) _ _ g (λ e. h (two d e)) (λ e. (let few = no_two d e in stops (deep bytes number i at (omega (arith, room, few, nest_is)))))

    -- behind a brace
    tight_past : (n : ℕ) (i : Input) → At bytes number i → first i.text ≡ 123 → 1 ≤ n → Room bytes d i.at → Tight bytes d (i.at + n)
    tight_past n i at h le room = let more = counted_by bytes number 123 n i at h refl le in omega (arith, room, more)

    head_room : (n : ℕ) (i : Input) → At bytes number i → first i.text ≡ 123 → 1 ≤ n → 2 ≤ d → Room bytes d i.at → Room bytes (d - 2) (i.at + n)
    head_room n i at h le two room = let more = counted_by bytes number 123 n i at h refl le in omega (arith, room, more, two)

    headed_tells : (n : ℕ) (i : Input) → At bytes number i → first i.text ≡ 123 → 1 ≤ n → n ≤ length i.text → 2 ≤ d → Room bytes d i.at
        → Fits bytes number (moved n i) (headed real d n i)
    unfolding headed
    headed_tells n i at h some fits two room =
        tells_then Any Any (expression real (d - 2) (moved n i)) _
        (expression_on bytes number (d - 2) (moved n i) (moved n i) (on bytes number n i at fits) (omega arith) (head_room n i at h some two room))
        (λ x j s le q. tells_expect (tokens bytes number) Any (moved n i) k.RBrace j _ s le (λ s le c. goes s le tt))

    key_tells : (b i : Input) → At bytes number i → b.at ≤ i.at → 2 ≤ d → Room bytes (d - 2) i.at → Fits bytes number b (key real d i)
    unfolding key
    key_tells b i at le two room = tells_if Any (sees_one k.LParen i) _ _
        (λ e. tells_if Any (nat_le 3 d) _ _
        (λ h. (
        let up = next-up i in
        let more = three d h in
        let tight = (tokens bytes number).sign (d - 2) i at room (ap is_sign (seen k.LParen i e)) in
        tells_then Any Any (expression real (d - 3) (next i)) _
        (expression_on bytes number (d - 3) b (next i) ((tokens bytes number).steps i at) (omega arith) (omega (arith, tight, more)))
        (λ x j s le q. tells_expect (tokens bytes number) Any b k.RParen j _ s le (λ s le c. goes s le tt))))
        (λ h. (let few = no_three d h in stops ((tokens bytes number).deep i at (omega (arith, room, few))))))
        (λ e. goes at le tt)

    each_row_tells : (b i : Input) → At bytes number i → b.at ≤ i.at → 2 ≤ d → Room bytes (d - 2) b.at → Fits bytes number b (each_row real d i)
    unfolding each_row
    each_row_tells b i at le two room =
        tells_then Any Any (word_as (codes "as") i) _ (word_as_tells (tokens bytes number) (codes "as") b i at le)
        (λ u j s le q. tells_then Any Any (name j) _ (name_on (tokens bytes number) b j s le)
        (λ item m s le q. tells_then Any Any (index m) _ (index_tells b m s le)
        (λ x n s le q. tells_then Any Any (key real d n) _ (key_tells b n s le two ((tokens bytes number).room_up (d - 2) b.at n.at le room)) (λ y o s le q. goes s le tt))))

    each_head_tells : (i : Input) → At bytes number i → first i.text ≡ 123 → 6 ≤ length i.text → 2 ≤ d → Room bytes d i.at → Fits bytes number (moved 6 i) (each_head real d i)
    unfolding each_head
    each_head_tells i at h fits two room =
        let more = head_room 6 i at h (omega arith) two room in
        tells_then Any Any (expression real (d - 2) (moved 6 i)) _
        (expression_on bytes number (d - 2) (moved 6 i) (moved 6 i) (on bytes number 6 i at fits) (omega arith) more)
        (λ list j s le q. tells_then Any Any (each_row real d j) _ (each_row_tells (moved 6 i) j s le two more)
        (λ found m s le q. tells_expect (tokens bytes number) Any (moved 6 i) k.RBrace m _ s le (λ s le c. goes s le tt)))

  module _ (d : ℕ) (below : Bool → Parser (List Markup)) (reads : (owned : Bool) (i : Input) → At bytes number i → Tight bytes d i.at → Fits bytes number i (below owned i)) where
    inner : (owned : Bool) (b i : Input) → At bytes number i → b.at ≤ i.at → Tight bytes d b.at → Fits bytes number b (below owned i)
    inner owned b i at le tight = tells_from Any (below owned i) le (reads owned i at ((tokens bytes number).tight_up d b.at i.at le tight))

    contents_tell : (from : ℕ) (name : List ℕ) (owned is_alone : Bool) (b i : Input) → begins_open (drop from bytes) ≡ true → At bytes number i → b.at ≤ i.at → from ≤ b.at
        → Tight bytes d b.at
        → Fits bytes number b (contents real d below from name owned is_alone i)
    unfolding contents
    contents_tell from name owned is_alone b i shown_open at le low tight = tells_choice Any is_alone _ _ i (λ e. goes at le tt)
        (λ e. tells_then Any Any (below owned i) _ (inner owned b i at le tight)
        (λ xs j s le q. tells_then Any Any (end_tag from name j) _ (end_tag_tells from name b j shown_open s le (omega (arith, low, le))) (λ u o s le q. goes s le tt)))

    -- behind `<` and some bytes one construct less may be opened
    tag_room : (n : ℕ) (i : Input) → At bytes number i → first i.text ≡ 60 → 1 ≤ n → Room bytes d i.at → 1 ≤ d → Room bytes (d - 1) (i.at + n) × Tight bytes d (i.at + n)
    tag_room n i at h le room one = let more = counted_by bytes number 60 n i at h refl le in (omega (arith, room, more, one), omega (arith, room, more, one))

    -- the opening of a tag and what it encloses, behind its name
    tag_tells : {A : Type 0} (t : Tag) (owned own : Bool) (name : List ℕ) (g : Opening → List Markup → Parser A) (alone : Opening → Bool) (i j : Input)
        → begins_open (drop i.at bytes) ≡ true
        → At bytes number j → i.at ≤ j.at → Room bytes (d - 1) j.at → Tight bytes d j.at
        → ((found : Opening) (xs : List Markup) (o : Input) → At bytes number o → j.at ≤ o.at → Fits bytes number j (g found xs o))
        → Fits bytes number i (and_then (opening_tag real (d - 1) t owned i.at j) (λ found m. and_then (contents real d below i.at name own (alone found) m) (λ xs o. g found xs o)))
    tag_tells t owned own name g alone i j shown_open s le room tight done =
        tells_from Any _ le (tells_then Any Any (opening_tag real (d - 1) t owned i.at j) _ (opening_tells bytes number (d - 1) t owned i.at shown_open j s le room)
        (λ found m s up q. tells_then Any Any (contents real d below i.at name own (alone found) m) _ (contents_tell i.at name own (alone found) j m shown_open s up le tight)
        (λ xs o s up q. done found xs o s up)))

    opened_here : (i : Input) → At bytes number i → begins_open i.text ≡ true → begins_open (drop i.at bytes) ≡ true
    opened_here i at shown_open = ap begins_open (here bytes number i at) ∙ shown_open

    element_tells : (owned : Bool) (i : Input) → At bytes number i → Room bytes d i.at → IsTag i.text → Fits bytes number i (element real d below owned i)
    unfolding element element_of
    element_tells owned i at room is =
        let name = tag_name i.text in
        let n = 1 + length name in
        opened_then bytes number Any i d i _ at room
        (λ le. (
        let rooms = tag_room n i at is.less (omega arith) room le in
        tag_tells (tag_of name) owned false name _ (λ found. found.is_closed || is_void name) i (moved n i) (opened_here i at (opens is)) (on bytes number n i at (tag_fits i.text is.less))
        (omega arith) rooms.0 rooms.1 (λ found xs o s le. goes s le tt)))

    component_tells : (owned : Bool) (i : Input) → At bytes number i → Room bytes d i.at → IsComponent i.text → Fits bytes number i (component real d below owned i)
    unfolding component component_of
    component_tells owned i at room is =
        let name = component_name i.text in
        let n = 1 + length name in
        opened_then bytes number Any i d i _ at room
        (λ le. (
        let rooms = tag_room n i at is.less (omega arith) room le in
        tag_tells tag.Component owned true name _ (λ found. found.is_closed) i (moved n (knowing name i)) (opened_here i at (opens_component is))
        (on bytes number n (knowing name i) (knows bytes number name i at) (component_fits i.text is.less))
        (omega arith) rooms.0 rooms.1 (λ found xs o s le. goes s le tt)))

    slot_tells : (owned : Bool) (i : Input) → At bytes number i → Room bytes d i.at → IsTag i.text → bytes_eq (tag_name i.text) (codes "slot") ≡ true
        → Fits bytes number i (slot real d below owned i)
    unfolding slot
    slot_tells owned i at room is named =
        opened_then bytes number Any i d i _ at room
        (λ le. (
        let rooms = tag_room 5 i at is.less (omega arith) room le in
        tag_tells tag.Slot owned false (codes "slot") _ (λ found. found.is_closed) i (moved 5 i) (opened_here i at (opens is))
        (on bytes number 5 i at (named_fits i.text (codes "slot") is.less named)) (omega arith) rooms.0 rooms.1 (λ found xs o s le. goes s le tt)))

    -- ---- blocks

    branch_tells : (n : ℕ) (i : Input) → At bytes number i → first i.text ≡ 123 → 1 ≤ n → n ≤ length i.text → 2 ≤ d → Room bytes d i.at
        → Fits bytes number (moved n i) (branch_of real d below n i)
    unfolding branch_of
    branch_tells n i at h some fits two room =
        tells_then Any Any (headed real d n i) _ (headed_tells d n i at h some fits two room)
        (λ x j s le q. tells_then Any Any (below false j) _ (inner false (moved n i) j s le (tight_past d n i at h some room)) (λ xs o s le q. goes s le tt))

    branches_tell : (m n : ℕ) (found : List Branch) (i : Input) → At bytes number i → first i.text ≡ 123 → 1 ≤ n → n ≤ length i.text → 2 ≤ d → Room bytes d i.at
        → Links bytes m i.at
        → Fits bytes number (moved n i) (branches real d below m n found i)
    unfolding branches
    branches_tell zero n found i at h some fits two room links = stops (deep bytes number i at (omega (arith, links, links_are)))
    branches_tell (suc m) n found i at h some fits two room links =
        tells_then Any Any (branch_of real d below n i) _ (branch_tells n i at h some fits two room)
        (λ one j s le q. tells_if Any (else_if_len j.text == 0) _ _ (λ e. goes s le tt)
        (λ e. (
        let more = counted_by bytes number 123 n i at h refl some in
        let up : Room bytes d j.at = (tokens bytes number).room_up d i.at j.at (omega arith) room in
        let fewer : Links bytes m j.at = (tokens bytes number).links_up m (i.at + n) j.at le (omega (arith, links, more)) in
        let is = branch_stands j.text e in
        tells_from Any (branches real d below m (else_if_len j.text) (found ++ one ∷ []) j) (omega (arith, le))
        (branches_tell m (else_if_len j.text) (found ++ one ∷ []) j s is.brace is.some is.fits two up fewer))))

    otherwise_tells : (b i : Input) → At bytes number i → b.at ≤ i.at → Tight bytes d b.at → Fits bytes number b (otherwise real d below i)
    unfolding otherwise
    otherwise_tells b i at le tight = tells_if Any (begins (codes "{:else}") i.text) _ _
        (λ e. (
        let s = on bytes number 7 i at (begins_within (codes "{:else}") i.text e) in
        tells_then Any Any (below false (moved 7 i)) _ (inner false b (moved 7 i) s (omega arith) tight) (λ xs o s le q. goes s le tt)))
        (λ e. goes at le tt)

    if_tells : (i : Input) → At bytes number i → Room bytes d i.at → begins (codes "{#if") i.text ≡ true → Fits bytes number i (if_block real d below i)
    unfolding if_block
    if_tells i at room h =
        let is = block_stands (codes "if") i.text h in
        let shown_open = opened_here i at (opens_block i.text is.opening) in
        let b = moved 4 i in
        begun_then d Any i i _ at room
        (λ two. (
        let tight = tight_past d 4 i at is.brace (omega arith) room in
        tells_from Any _ (omega arith) (tells_then Any Any (branches real d below real.links 4 [] i) _
        (branches_tell real.links 4 [] i at is.brace (omega arith) (begins_within (codes "{#if") i.text h) two room ((tokens bytes number).begun i.at))
        (λ arms j s le q. tells_then Any Any (otherwise real d below j) _ (otherwise_tells b j s le tight)
        (λ last m s le q. tells_then Any Any (block_end i.at (codes "{/if}") m) _ (block_end_tells i.at (codes "{/if}") b m shown_open s le (omega arith)) (λ u o s le q. goes s le tt))))))

    each_tells : (i : Input) → At bytes number i → Room bytes d i.at → begins (codes "{#each") i.text ≡ true → Fits bytes number i (each_block real d below i)
    unfolding each_block
    each_tells i at room h =
        let is = block_stands (codes "each") i.text h in
        let shown_open = opened_here i at (opens_block i.text is.opening) in
        let b = moved 6 i in
        begun_then d Any i i _ at room
        (λ two. (
        let tight = tight_past d 6 i at is.brace (omega arith) room in
        tells_from Any _ (omega arith) (tells_then Any Any (each_head real d i) _ (each_head_tells d i at is.brace (begins_within (codes "{#each") i.text h) two room)
        (λ found j s le q. tells_then Any Any (below false j) _ (inner false b j s le tight)
        (λ xs n s le q. tells_then Any Any (otherwise real d below n) _ (otherwise_tells b n s le tight)
        (λ last m s le q. tells_then Any Any (block_end i.at (codes "{/each}") m) _ (block_end_tells i.at (codes "{/each}") b m shown_open s le (omega arith)) (λ u o s le q. goes s le tt)))))))

    key_block_tells : (i : Input) → At bytes number i → Room bytes d i.at → begins (codes "{#key") i.text ≡ true → Fits bytes number i (key_block real d below i)
    unfolding key_block
    key_block_tells i at room h =
        let is = block_stands (codes "key") i.text h in
        let shown_open = opened_here i at (opens_block i.text is.opening) in
        let b = moved 5 i in
        begun_then d Any i i _ at room
        (λ two. (
        let tight = tight_past d 5 i at is.brace (omega arith) room in
        tells_from Any _ (omega arith) (tells_then Any Any (headed real d 5 i) _ (headed_tells d 5 i at is.brace (omega arith) (begins_within (codes "{#key") i.text h) two room)
        (λ x j s le q. tells_then Any Any (below false j) _ (inner false b j s le tight)
        (λ xs m s le q. tells_then Any Any (block_end i.at (codes "{/key}") m) _ (block_end_tells i.at (codes "{/key}") b m shown_open s le (omega arith)) (λ u o s le q. goes s le tt))))))

    -- ---- nodes

    node_tells : (owned : Bool) (x : Form) (i : Input) → At bytes number i → Room bytes d i.at → Shows (p.Node x) i.text → Fits bytes number i (node real d below owned x i)
    unfolding node
    node_tells owned form.Text i at room is = words_tell i at
    node_tells owned form.Hole i at room is = show_tells d i at room is
    node_tells owned form.Element i at room is = element_tells owned i at room is
    node_tells owned form.Component i at room is = component_tells owned i at room is
    node_tells owned form.Slot i at room is = slot_tells owned i at room is.0 is.1
    node_tells owned form.If i at room is = if_tells i at room is
    node_tells owned form.Each i at room is = each_tells i at room is
    node_tells owned form.Key i at room is = key_block_tells i at room is

    pub piece_tells : (owned : Bool) (i : Input) → At bytes number i → Room bytes d i.at → Fits bytes number i (piece real d below owned (piece_at i.text) i)
    unfolding piece
    piece_tells owned i at room = by (piece_at i.text) refl (piece_shows i.text)
      where
        gone : (x : Piece) → piece_at i.text ≡ x → is_left_out_piece x ≡ true → BeginsLeftOut (drop i.at bytes)
        gone x e h = subst BeginsLeftOut (sym (here bytes number i at)) (out.piece (ap is_left_out_piece e ∙ h))

        by : (x : Piece) → piece_at i.text ≡ x → Shows x i.text → Fits bytes number i (r.piece_by real d below owned x i)
        by p.Comment e is = tells_then Any Any (comment i) _ (comment_tells bytes number i at) (λ u o s le q. goes s le tt)
        by (p.Node x) e is = tells_then Any Any (node real d below owned x i) _ (node_tells owned x i at room is) (λ u o s le q. goes s le tt)
        by p.Script e is = stops (left_out bytes number i.at i at (omega arith) (gone p.Script e refl))
        by p.Style e is = stops (left_out bytes number i.at i at (omega arith) (gone p.Style e refl))
        by p.LeftOut e is = stops (left_out bytes number i.at i at (omega arith) (gone p.LeftOut e refl))
        by p.End e is = stops (syntax bytes number i.at i at (omega arith))
        by p.Unread e is = stops (syntax bytes number i.at i at (omega arith))

    nodes_from_tells : (owned : Bool) (n : ℕ) (found : List Markup) (i : Input) → At bytes number i → Room bytes d i.at
        → Fits bytes number i (nodes_from real d below owned n found i)
    unfolding nodes_from
    nodes_from_tells owned zero found i at room = tells_if Any (is_end (piece_at i.text)) _ _ (λ e. goes_on (stay i at) tt) (λ e. stops (syntax bytes number i.at i at (omega arith)))
    nodes_from_tells owned (suc n) found i at room = tells_if Any (is_end (piece_at i.text)) _ _ (λ e. goes_on (stay i at) tt)
        (λ e. tells_then Any Any (piece real d below owned (piece_at i.text) i) _ (piece_tells owned i at room)
        (λ x j s le q. tells_from Any (nodes_from real d below owned n (with_node x found) j) le
        (nodes_from_tells owned n (with_node x found) j s ((tokens bytes number).room_up d i.at j.at le room))))

    pub nodes_tell : (owned : Bool) (i : Input) → At bytes number i → Room bytes d i.at → Fits bytes number i (nodes real d below owned i)
    unfolding nodes
    nodes_tell owned i at room = nodes_from_tells owned (left i) [] i at room

  -- the nodes in a construct
  pub inside_tells : (d : ℕ) (owned : Bool) (i : Input) → At bytes number i → Tight bytes d i.at → Fits bytes number i (inside real d owned i)
  unfolding inside
  inside_tells zero owned i at tight = stops (deep bytes number i at (omega (arith, tight, nest_is)))
  inside_tells (suc d) owned i at tight = nodes_tell d (inside real d) (λ owned j s t. inside_tells d owned j s t) owned i at ((tokens bytes number).inner d i.at tight)
