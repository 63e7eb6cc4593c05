-- Nodes that are read are in the grammar.
use Rattle.std.proofs.Common.{◌≡◌, ◌≤◌, ◌+◌, ◌-◌, ℕ, zero, suc, Bool, true, false, ◌||◌, List, [], ◌∷◌, ◌++◌, length, refl, sym, subst, arith}
use Rattle.std.specs.Prelude.{◌==◌, if◌then◌else◌, Option, Some, None, Ok, codes}
use Rattle.sv_ast.specs.declared.markup_tree.Branch.{Branch}
use Rattle.sv_ast.specs.declared.markup_tree.Markup.{Markup}
use Rattle.sv_ast.specs.declared.script_tree.Expr.{Expr}
use Rattle.sv_lex.specs.Literals.{moved}
use Rattle.sv_lex.specs.Reader.{Input, Parser, and_then, knowing}
use Rattle.sv_lex.proofs.Steps.{Holds, holds_then, holds_weaker, holds_if, holds_choice}
use Rattle.sv_expr.specs.Limits.{Limits}
use Rattle.sv_expr.proofs.SoundLists.{append_one, append_none}
use Rattle.sv_tags.specs.declared.directives.Tag.{Tag}
use Rattle.sv_tags.specs.declared.directives.Tag.TheVariants as tag
use Rattle.sv_tags.specs.declared.openings.Opening.{Opening}
use Rattle.sv_tags.specs.Classes.{begins}
use Rattle.sv_tags.specs.Directives.{tag_of}
use Rattle.sv_tags.specs.Grammar.{OpeningAt, CommentAt}
use Rattle.sv_script.specs.Script.{expression}
use Rattle.sv_tags.specs.Openings.{opening_tag}
use Rattle.sv_tags.specs.Raw.{comment}
use Rattle.sv_script.specs.Closed.{ExpressionAt}
use Rattle.sv_tags.proofs.Bytes.{same, other}
use Rattle.sv_tags.proofs.SoundRaw.{comment_holds}
use Rattle.sv_tags.proofs.SoundTags.{opening_holds}
use Rattle.sv_markup.specs.declared.pieces.Form.{Form}
use Rattle.sv_markup.specs.declared.pieces.Form.TheVariants as form
use Rattle.sv_markup.specs.declared.pieces.Piece.{Piece}
use Rattle.sv_markup.specs.declared.pieces.Piece.TheVariants as p
use Rattle.sv_markup.specs.Ends.{else_if_len}
use Rattle.sv_markup.specs.Grammar as g
use Rattle.sv_markup.specs.Nodes.{branch, with_node}
use Rattle.sv_markup.specs.Pieces.{piece_at, is_end, tag_name, component_name}
use Rattle.sv_markup.specs.Rules as r
use Rattle.sv_markup.specs.Rules.{headed, each_head, end_tag, block_end, contents, element, element_of, component, component_of, slot, branch_of, branches, otherwise, if_block, each_block, key_block, node, piece, nodes_from, nodes, inside}
use Rattle.sv_markup.specs.Void.{is_void}
use Rattle.sv_markup.proofs.Fronts.{is_ended, hole_first}
use Rattle.sv_markup.proofs.SoundLeaves.{holds_opened, holds_begun, IsEndTag, end_tag_holds, IsMark, block_end_holds, words_hold, show_holds, headed_holds, head_holds}

module _ (limits : Limits) (holding : (d : ℕ) (i : Input) → Holds (ExpressionAt limits d i) (expression limits d i)) where
  -- what is read in a construct is in the grammar
  abbrev pub Holding : ℕ → (Bool → Parser (List Markup)) → Type 0
  Holding d below = 1 ≤ d → (owned : Bool) (i : Input) → Holds (g.NodesAt limits (d - 1) owned i) (below owned i)

  module _ (d : ℕ) (below : Bool → Parser (List Markup)) (holds : Holding d below) where
    abbrev Node : Bool → Form → Input → Markup → Input → Type 0
    Node = g.NodeAt limits d

    -- ---- tags

    contents_hold : 1 ≤ d → (from : ℕ) (name : List ℕ) (owned is_alone : Bool) (i : Input)
        → Holds (g.ContentsAt limits (d - 1) owned name is_alone i) (contents limits d below from name owned is_alone i)
    unfolding contents
    contents_hold le from name owned is_alone i =
        let Q = g.ContentsAt limits (d - 1) owned name is_alone i in
        holds_choice Q is_alone _ _ i (λ h. g.contents_none h)
        (λ h. holds_then (g.NodesAt limits (d - 1) owned i) Q (below owned i) _ (holds le owned i)
        (λ xs j ns. holds_then (IsEndTag name j) Q (end_tag from name j) _ (end_tag_holds from name j) (λ x o e. g.contents_some h ns e)))

    -- behind the opening of a tag, which begins at one place and goes on at another
    holds_tag : (Q : Markup → Input → Type 0) (tag : Tag) (name : List ℕ) (owned mine : Bool) (from : ℕ) (alone : Opening → Bool) (i : Input)
        (f : Opening → List Markup → Parser Markup) → 1 ≤ d
        → ((found : Opening) (xs : List Markup) (j o : Input) → OpeningAt limits tag owned (d - 1) i found j
        → g.ContentsAt limits (d - 1) mine name (alone found) j xs o → Holds Q (f found xs o))
        → Holds Q (and_then (opening_tag limits (d - 1) tag owned from i) (λ found j. and_then (contents limits d below from name mine (alone found) j) (f found)))
    holds_tag Q tag name owned mine from alone i f le h =
        holds_then (OpeningAt limits tag owned (d - 1) i) Q (opening_tag limits (d - 1) tag owned from i) _ (opening_holds limits holding (d - 1) tag owned from i)
        (λ found j t. holds_then (g.ContentsAt limits (d - 1) mine name (alone found) j) Q (contents limits d below from name mine (alone found) j) _
        (contents_hold le from name mine (alone found) j) (λ xs o c. h found xs j o t c))

    element_holds : (owned : Bool) (i : Input) → Holds (Node owned form.Element i) (element limits d below owned i)
    unfolding element element_of
    element_holds owned i =
        let Q = Node owned form.Element i in let name = tag_name i.text in
        holds_opened Q d i _ (λ le. holds_tag Q (tag_of name) name owned false i.at (λ found. found.is_closed || is_void name) (moved (1 + length name) i) _ le
        (λ found xs j o t c. g.element le t c))

    component_holds : (owned : Bool) (i : Input) → Holds (Node owned form.Component i) (component limits d below owned i)
    unfolding component component_of
    component_holds owned i =
        let Q = Node owned form.Component i in let name = component_name i.text in
        holds_opened Q d i _ (λ le. holds_tag Q tag.Component name owned true i.at (λ found. found.is_closed) (moved (1 + length name) (knowing name i)) _ le
        (λ found xs j o t c. g.component le t c))

    slot_holds : (owned : Bool) (i : Input) → Holds (Node owned form.Slot i) (slot limits d below owned i)
    unfolding slot
    slot_holds owned i =
        let Q = Node owned form.Slot i in
        holds_opened Q d i _ (λ le. holds_tag Q tag.Slot (codes "slot") owned false i.at (λ found. found.is_closed) (moved 5 i) _ le
        (λ found xs j o t c. g.slot le t c))

    -- ---- blocks

    abbrev IsBranch : ℕ → Input → Branch → Input → Type 0
    IsBranch len i one o = (x : Expr) × (xs : List Markup) × (j : Input) × (one ≡ branch x xs) × g.HeadedAt limits d len i x j × g.NodesAt limits (d - 1) false j xs o

    branch_holds : 1 ≤ d → (len : ℕ) (i : Input) → Holds (IsBranch len i) (branch_of limits d below len i)
    unfolding branch_of
    branch_holds le len i = holds_then (g.HeadedAt limits d len i) (IsBranch len i) (headed limits d len i) _ (headed_holds limits holding d len i)
        (λ x j hx. holds_then (g.NodesAt limits (d - 1) false j) (IsBranch len i) (below false j) _ (holds le false j) (λ xs o ns. (x, xs, j, refl, hx, ns)))

    abbrev Branches : ℕ → ℕ → List Branch → Input → List Branch → Input → Type 0
    Branches n len found i all o = (xs : List Branch) × (all ≡ found ++ xs) × (length xs ≤ n) × g.BranchesAt limits d len i xs o

    after_branch : (n len : ℕ) (found : List Branch) (i : Input)
        → ((len : ℕ) (all : List Branch) (m : Input) → Holds (Branches n len all m) (branches limits d below n len all m))
        → (one : Branch) (j : Input) → IsBranch len i one j
        → Holds (Branches (suc n) len found i)
        (if else_if_len j.text == 0 then Ok (found ++ one ∷ [], j) else branches limits d below n (else_if_len j.text) (found ++ one ∷ []) j)
    after_branch n len found i more one j a =
        let Q = Branches (suc n) len found i in
        holds_if Q (else_if_len j.text == 0) _ _
        (λ e. (
          one ∷ [],
          refl,
          omega arith,
          subst (λ y. g.BranchesAt limits d len i (y ∷ []) j) (sym a.3) (g.branches_last a.4 a.5 (same (else_if_len j.text) 0 e)),
        ))
        (λ e. holds_weaker (Branches n (else_if_len j.text) (found ++ one ∷ []) j) Q _
        (λ all o rest. (
          one ∷ rest.0,
          append_one found one rest.0 all rest.1,
          omega (arith, rest.2),
          subst (λ y. g.BranchesAt limits d len i (y ∷ rest.0) o) (sym a.3) (g.branches_more a.4 a.5 (other (else_if_len j.text) 0 e) rest.3),
        ))
        (more (else_if_len j.text) (found ++ one ∷ []) j))

    branches_hold : 1 ≤ d → (n len : ℕ) (found : List Branch) (i : Input) → Holds (Branches n len found i) (branches limits d below n len found i)
    unfolding branches
    branches_hold le zero len found i = tt
    branches_hold le (suc n) len found i = holds_then (IsBranch len i) (Branches (suc n) len found i) (branch_of limits d below len i) _ (branch_holds le len i)
        (λ one j a. after_branch n len found i (λ len all m. branches_hold le n len all m) one j a)

    otherwise_holds : 1 ≤ d → (i : Input) → Holds (g.OtherwiseAt limits d i) (otherwise limits d below i)
    unfolding otherwise
    otherwise_holds le i =
        let Q = g.OtherwiseAt limits d i in
        holds_if Q (begins (codes "{:else}") i.text) _ _
        (λ h. holds_then (g.NodesAt limits (d - 1) false (moved 7 i)) Q (below false (moved 7 i)) _ (holds le false (moved 7 i)) (λ xs o ns. g.otherwise_some h ns))
        (λ h. g.otherwise_none h)

    -- behind a block's last branch
    holds_last : (Q : Markup → Input → Type 0) (from : ℕ) (w : List ℕ) (i : Input) (f : Option (List Markup) → Parser Markup) → 1 ≤ d
        → ((last : Option (List Markup)) (e o : Input) → g.OtherwiseAt limits d i last e → g.MarkAt w e o → Holds Q (f last o))
        → Holds Q (and_then (otherwise limits d below i) (λ last e. and_then (block_end from w e) (λ x. f last)))
    holds_last Q from w i f le h = holds_then (g.OtherwiseAt limits d i) Q (otherwise limits d below i) _ (otherwise_holds le i)
        (λ last e l. holds_then (IsMark w e) Q (block_end from w e) _ (block_end_holds from w e) (λ x o m. h last e o l m))

    if_holds : (owned : Bool) (i : Input) → Holds (Node owned form.If i) (if_block limits d below i)
    unfolding if_block
    if_holds owned i =
        let Q = Node owned form.If i in
        holds_begun limits Q d i _ (λ le. holds_then (Branches limits.links 4 [] i) Q (branches limits d below limits.links 4 [] i) _ (branches_hold (omega arith) limits.links 4 [] i)
        (λ arms j m. holds_last Q i.at (codes "{/if}") j _ (omega arith)
        (λ last e o l k. g.if_block le (subst (λ xs. g.BranchesAt limits d 4 i xs j) (sym m.1) m.3) (subst (λ xs. length xs ≤ limits.links) (sym m.1) m.2) l k)))

    each_holds : (owned : Bool) (i : Input) → Holds (Node owned form.Each i) (each_block limits d below i)
    unfolding each_block
    each_holds owned i =
        let Q = Node owned form.Each i in
        holds_begun limits Q d i _ (λ le. holds_then (g.HeadAt limits d i) Q (each_head limits d i) _ (head_holds limits holding d i)
        (λ found j h. holds_then (g.NodesAt limits (d - 1) false j) Q (below false j) _ (holds (omega arith) false j)
        (λ xs b ns. holds_last Q i.at (codes "{/each}") b _ (omega arith) (λ none e o l k. g.each_block le h ns l k))))

    key_holds : (owned : Bool) (i : Input) → Holds (Node owned form.Key i) (key_block limits d below i)
    unfolding key_block
    key_holds owned i =
        let Q = Node owned form.Key i in
        holds_begun limits Q d i _ (λ le. holds_then (g.HeadedAt limits d 5 i) Q (headed limits d 5 i) _ (headed_holds limits holding d 5 i)
        (λ value j h. holds_then (g.NodesAt limits (d - 1) false j) Q (below false j) _ (holds (omega arith) false j)
        (λ xs e ns. holds_then (IsMark (codes "{/key}") e) Q (block_end i.at (codes "{/key}") e) _ (block_end_holds i.at (codes "{/key}") e) (λ x o k. g.key_block le h ns k))))

    -- ---- nodes

    pub node_holds : (owned : Bool) (f : Form) (i : Input) → piece_at i.text ≡ p.Node f → Holds (Node owned f i) (node limits d below owned f i)
    unfolding node
    node_holds owned form.Text i e = words_hold limits holding d owned i
    node_holds owned form.Hole i e = show_holds limits holding d owned i (hole_first i.text e)
    node_holds owned form.Element i e = element_holds owned i
    node_holds owned form.Component i e = component_holds owned i
    node_holds owned form.Slot i e = slot_holds owned i
    node_holds owned form.If i e = if_holds owned i
    node_holds owned form.Each i e = each_holds owned i
    node_holds owned form.Key i e = key_holds owned i

    -- what a piece adds
    pub data IsPiece (owned : Bool) (i : Input) : Option Markup → Input → Type 0 where
      no_node : {o : Input} → piece_at i.text ≡ p.Comment → CommentAt i o → IsPiece owned i None o
      one_node : {f : Form} {x : Markup} {o : Input} → piece_at i.text ≡ p.Node f → Node owned f i x o → IsPiece owned i (Some x) o

    pub piece_holds : (owned : Bool) (i : Input) → Holds (IsPiece owned i) (piece limits d below owned (piece_at i.text) i)
    unfolding piece
    piece_holds owned i = by (piece_at i.text) refl
      where
        by : (x : Piece) → piece_at i.text ≡ x → Holds (IsPiece owned i) (r.piece_by limits d below owned x i)
        by p.Comment e = holds_then (λ x o. CommentAt i o) (IsPiece owned i) (comment i) _ (comment_holds i) (λ x o c. no_node e c)
        by (p.Node f) e = holds_then (Node owned f i) (IsPiece owned i) (node limits d below owned f i) _ (node_holds owned f i e) (λ x o n. one_node e n)
        by _ e = tt

    abbrev Rest : Bool → List Markup → Input → List Markup → Input → Type 0
    Rest owned found i all o = (xs : List Markup) × (all ≡ found ++ xs) × g.NodesAt limits d owned i xs o

    further : (owned : Bool) (found : List Markup) (i j o : Input) (x : Option Markup) (all : List Markup) → IsPiece owned i x j → Rest owned (with_node x found) j all o
        → Rest owned found i all o
    further owned found i j o None all (no_node e c) m = (m.0, m.1, g.nodes_comment e c m.2)
    further owned found i j o (Some x) all (one_node e n) m = (x ∷ m.0, append_one found x m.0 all m.1, g.nodes_more e n m.2)

    nodes_from_hold : (owned : Bool) (n : ℕ) (found : List Markup) (i : Input) → Holds (Rest owned found i) (nodes_from limits d below owned n found i)
    unfolding nodes_from
    nodes_from_hold owned zero found i = holds_if (Rest owned found i) (is_end (piece_at i.text)) _ _
        (λ e. ([], append_none found, g.nodes_end (is_ended (piece_at i.text) e))) (λ e. tt)
    nodes_from_hold owned (suc n) found i =
        let Q = Rest owned found i in
        holds_if Q (is_end (piece_at i.text)) _ _ (λ e. ([], append_none found, g.nodes_end (is_ended (piece_at i.text) e)))
        (λ e. holds_then (IsPiece owned i) Q (piece limits d below owned (piece_at i.text) i) _ (piece_holds owned i)
        (λ x j h. holds_weaker (Rest owned (with_node x found) j) Q _ (λ all o m. further owned found i j o x all h m) (nodes_from_hold owned n (with_node x found) j)))

    pub nodes_hold : (owned : Bool) (i : Input) → Holds (g.NodesAt limits d owned i) (nodes limits d below owned i)
    unfolding nodes
    nodes_hold owned i =
        holds_weaker (Rest owned [] i) (g.NodesAt limits d owned i) _ (λ all o m. subst (λ xs. g.NodesAt limits d owned i xs o) (sym m.1) m.2) (nodes_from_hold owned _ [] i)

  pub inside_holds : (d : ℕ) → Holding d (inside limits d)
  unfolding inside
  inside_holds zero le owned i = absurd (omega arith)
  inside_holds (suc n) le owned i =
      let e : n ≡ suc n - 1 = omega arith in
      subst (λ m. Holds (g.NodesAt limits m owned i) (nodes limits n (inside limits n) owned i)) e (nodes_hold n (inside limits n) (inside_holds n) owned i)
