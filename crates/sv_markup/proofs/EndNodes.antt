-- Nodes of the grammar are read: each form from its parts, and then all of them.
use Rattle.std.proofs.Common.{◌≡◌, ◌≢◌, ◌≤◌, ◌<◌, ◌+◌, ◌-◌, inl, inr, ℕ, zero, suc, Bool, true, false, ◌||◌, List, [], ◌∷◌, ◌++◌, length, refl, ap, sym, subst, arith}
use Rattle.std.specs.Prelude.{nat_le, Option, Some, None, Ok, codes}
use Rattle.sv_ast.specs.declared.markup_tree.Branch.{Branch}
use Rattle.sv_ast.specs.declared.markup_tree.Markup.{Markup}
use Rattle.sv_ast.specs.declared.markup_tree.Markup.TheVariants as tree
use Rattle.sv_ast.specs.declared.refusals.Kind.TheVariants.{TooDeep}
use Rattle.sv_ast.specs.declared.refusals.Refused.{Refused}
use Rattle.sv_ast.specs.declared.script_tree.Expr.{Expr}
use Rattle.sv_lex.specs.Bytes.{stopped_at}
use Rattle.sv_lex.specs.Literals.{moved}
use Rattle.sv_lex.specs.Reader.{Input, Parser, and_then, knowing, left, name_of, span_from}
use Rattle.sv_lex.proofs.Ends.{Ends, ends_then}
use Rattle.sv_expr.specs.Limits.{Limits}
use Rattle.sv_expr.proofs.EndLists.{le_true, joined}
use Rattle.sv_expr.proofs.SoundLists.{append_none, leb_true}
use Rattle.sv_tags.specs.declared.directives.Tag.{Tag}
use Rattle.sv_tags.specs.declared.directives.Tag.TheVariants as tag
use Rattle.sv_tags.specs.declared.openings.Opening.{Opening}
use Rattle.sv_tags.specs.Classes.{begins}
use Rattle.sv_tags.specs.Directives.{tag_of}
use Rattle.sv_tags.specs.declared.holes.Filling.TheVariants.{Value}
use Rattle.sv_tags.specs.declared.holes.Hole.{Hole}
use Rattle.sv_tags.specs.declared.texts.Setting.TheVariants.{Body}
use Rattle.sv_tags.specs.Grammar.{BracesAt, OpeningAt, CommentAt}
use Rattle.sv_tags.specs.Openings.{opening_tag}
use Rattle.sv_tags.specs.Texts.{text}
use Rattle.sv_tags.proofs.Bytes.{is_same, is_other}
use Rattle.sv_tags.proofs.EndRaw.{comment_read}
use Rattle.sv_tags.proofs.EndTags.{opening_ends}
use Rattle.sv_tags.proofs.EndValues.{braces_ends}
use Rattle.sv_markup.specs.declared.heads.Head.{Head}
use Rattle.sv_markup.specs.declared.pieces.Form.{Form}
use Rattle.sv_markup.specs.declared.pieces.Form.TheVariants as form
use Rattle.sv_markup.specs.declared.pieces.Piece.TheVariants as p
use Rattle.sv_markup.specs.Ends.{else_if_len}
use Rattle.sv_markup.specs.Grammar as g
use Rattle.sv_markup.specs.Nodes.{branch, with_node}
use Rattle.sv_markup.specs.Pieces.{piece_at, tag_name, component_name}
use Rattle.sv_markup.specs.Rules.{slot_name, words, show, contents, element, element_of, component, component_of, slot, branch_of, branches, otherwise, if_block, each_block, key_block, node, piece, nodes_from, nodes, inside}
use Rattle.sv_markup.specs.Void.{is_void}
use Rattle.sv_markup.proofs.EndLeaves.{Blame, end_tag_read, block_end_read, cause, opened_then, begun_then, headed_ends, head_ends}
use Rattle.sv_markup.proofs.Fronts.{unended, some_left}
use Rattle.sv_markup.proofs.Ways.{comment_less, node_less}

module _ (limits wide : Limits) (P : Refused → Type 0) (Room : ℕ → ℕ → Type 0) (blame : Blame limits wide P Room) (d m : ℕ) (r : Room d m) where
  abbrev below : Bool → Parser (List Markup)
  below = inside limits d

  -- ---- tags

  -- the contents of a tag are read where a construct may be opened
  abbrev Contents : List ℕ → Bool → Bool → ℕ → Input → List Markup → Input → Type 0
  Contents name owned is_alone from i xs o = nat_le 1 d ≡ true → Ends P (contents limits d below from name owned is_alone i) (xs, o)

  pub contents_none_ends : (name : List ℕ) (owned : Bool) {is_alone : Bool} {i : Input} (from : ℕ) → is_alone ≡ true → Contents name owned is_alone from i [] i
  unfolding contents
  contents_none_ends name owned from h s = rw h (inl refl)

  pub contents_some_ends : {name : List ℕ} (owned : Bool) {is_alone : Bool} (i : Input) {j o : Input} {xs : List Markup} (from : ℕ) → is_alone ≡ false
      → (nat_le 1 d ≡ true → Ends P (below owned i) (xs, j)) → g.EndTagAt name j o → Contents name owned is_alone from i xs o
  unfolding contents
  contents_some_ends owned i from h ns e s = rw h (ends_then P _ _ (ns s) (ends_then P _ _ (inl (end_tag_read from e)) (inl refl)))

  tag_ends : {tag : Tag} {owned : Bool} (from : ℕ) {i j : Input} {found : Opening} (z : Markup × Input) (f : Opening → Parser Markup)
      → OpeningAt wide tag owned (m - 1) i found j → Ends P (f found j) z → Ends P (and_then (opening_tag limits (d - 1) tag owned from i) f) z
  tag_ends from z f t h = ends_then P _ f (opening_ends limits wide P (d - 1) (m - 1) (cause limits wide P Room blame (d - 1) (m - 1) (blame.less d m 1 r)) _ _ from t) h

  pub element_ends : {owned : Bool} (i : Input) {j o : Input} {found : Opening} {xs : List Markup} → 1 ≤ m
      → OpeningAt wide (tag_of (tag_name i.text)) owned (m - 1) (moved (1 + length (tag_name i.text)) i) found j
      → Contents (tag_name i.text) false (found.is_closed || is_void (tag_name i.text)) i.at j xs o
      → Ends P (element limits d below owned i) (tree.Element (span_from i.at o) (tag_name i.text) found.attrs xs, o)
  unfolding element element_of
  element_ends i le t c = opened_then limits wide P Room blame d m r i _ _ le (λ s. tag_ends i.at _ _ t (ends_then P _ _ (c s) (inl refl)))

  pub component_ends : {owned : Bool} (i : Input) {j o : Input} {found : Opening} {xs : List Markup} → 1 ≤ m
      → OpeningAt wide tag.Component owned (m - 1) (moved (1 + length (component_name i.text)) (knowing (component_name i.text) i)) found j
      → Contents (component_name i.text) true found.is_closed i.at j xs o
      → Ends P (component limits d below owned i) (tree.Comp (span_from i.at o) (name_of (component_name i.text) i) found.attrs xs, o)
  unfolding component component_of
  component_ends i le t c = opened_then limits wide P Room blame d m r i _ _ le (λ s. tag_ends i.at _ _ t (ends_then P _ _ (c s) (inl refl)))

  pub slot_ends : {owned : Bool} (i : Input) {j o : Input} {found : Opening} {xs : List Markup} → 1 ≤ m → OpeningAt wide tag.Slot owned (m - 1) (moved 5 i) found j
      → Contents (codes "slot") false found.is_closed i.at j xs o
      → Ends P (slot limits d below owned i) (tree.Slot (span_from i.at o) (slot_name found.slot) found.attrs xs, o)
  unfolding slot
  slot_ends i le t c = opened_then limits wide P Room blame d m r i _ _ le (λ s. tag_ends i.at _ _ t (ends_then P _ _ (c s) (inl refl)))

  -- ---- blocks

  abbrev Children : Input → List Markup → Input → Type 0
  Children i xs o = nat_le 1 d ≡ true → Ends P (below false i) (xs, o)

  one_of_two : nat_le 2 d ≡ true → nat_le 1 d ≡ true
  one_of_two s = let two = leb_true 2 d s in le_true 1 d (omega arith)

  branch_ends : {len : ℕ} {i j o : Input} {x : Expr} {xs : List Markup} → g.HeadedAt wide m len i x j → Ends P (below false j) (xs, o)
      → Ends P (branch_of limits d below len i) (branch x xs, o)
  unfolding branch_of
  branch_ends h ns = ends_then P _ _ (headed_ends limits wide P Room blame d m r h) (ends_then P _ _ ns (inl refl))

  pub branches_last_ends : {len : ℕ} {i j o : Input} {x : Expr} {xs : List Markup} → g.HeadedAt wide m len i x j → Ends P (below false j) (xs, o) → else_if_len o.text ≡ 0
      → (n : ℕ) (found : List Branch) → Ends P (branches limits d below (suc n) len found i) (found ++ branch x xs ∷ [], o)
  unfolding branches
  branches_last_ends {o = o} h ns e n found = ends_then P _ _ (branch_ends h ns) (rw (is_same (else_if_len o.text) 0 e) (inl refl))

  pub branches_more_ends : {len : ℕ} {i j e o : Input} {x : Expr} {xs : List Markup} (rest : List Branch) → g.HeadedAt wide m len i x j → Ends P (below false j) (xs, e)
      → else_if_len e.text ≢ 0 → (n : ℕ) (found : List Branch)
      → Ends P (branches limits d below n (else_if_len e.text) (found ++ branch x xs ∷ []) e) ((found ++ branch x xs ∷ []) ++ rest, o)
      → Ends P (branches limits d below (suc n) len found i) (found ++ branch x xs ∷ rest, o)
  unfolding branches
  branches_more_ends {e = e} {x = x} {xs = xs} rest h ns l n found more =
      joined P found (branch x xs) rest (ends_then P _ _ (branch_ends h ns) (rw (is_other (else_if_len e.text) 0 l) more))

  pub otherwise_none_ends : {i : Input} → begins (codes "{:else}") i.text ≡ false → Ends P (otherwise limits d below i) (None, i)
  unfolding otherwise
  otherwise_none_ends h = rw h (inl refl)

  pub otherwise_some_ends : (i : Input) {o : Input} {xs : List Markup} → begins (codes "{:else}") i.text ≡ true → Ends P (below false (moved 7 i)) (xs, o)
      → Ends P (otherwise limits d below i) (Some xs, o)
  unfolding otherwise
  otherwise_some_ends i h ns = rw h (ends_then P _ _ ns (inl refl))

  pub if_ends : (i : Input) {j e o : Input} {arms : List Branch} {last : Option (List Markup)} → 2 ≤ m
      → (nat_le 1 d ≡ true → Ends P (branches limits d below limits.links 4 [] i) (arms, j)) → (nat_le 1 d ≡ true → Ends P (otherwise limits d below j) (last, e))
      → g.MarkAt (codes "{/if}") e o → Ends P (if_block limits d below i) (tree.If (span_from i.at o) arms last, o)
  unfolding if_block
  if_ends i le b l k = begun_then limits wide P Room blame d m r i _ _ le
      (λ s. ends_then P _ _ (b (one_of_two s)) (ends_then P _ _ (l (one_of_two s)) (ends_then P _ _ (inl (block_end_read i.at k)) (inl refl))))

  pub each_ends : {i j b e o : Input} {found : Head} {xs : List Markup} {none : Option (List Markup)} → 2 ≤ m → g.HeadAt wide m i found j → Children j xs b
      → (nat_le 1 d ≡ true → Ends P (otherwise limits d below b) (none, e)) → g.MarkAt (codes "{/each}") e o
      → Ends P (each_block limits d below i) (tree.Each (span_from i.at o) found.list found.row.item found.row.index found.row.key xs none, o)
  unfolding each_block
  each_ends {i = i} le h ns l k = begun_then limits wide P Room blame d m r i _ _ le (λ s. ends_then P _ _ (head_ends limits wide P Room blame d m r h)
      (ends_then P _ _ (ns (one_of_two s)) (ends_then P _ _ (l (one_of_two s)) (ends_then P _ _ (inl (block_end_read i.at k)) (inl refl)))))

  pub key_block_ends : {i j e o : Input} {value : Expr} {xs : List Markup} → 2 ≤ m → g.HeadedAt wide m 5 i value j → Children j xs e → g.MarkAt (codes "{/key}") e o
      → Ends P (key_block limits d below i) (tree.Key (span_from i.at o) value xs, o)
  unfolding key_block
  key_block_ends {i = i} le h ns k = begun_then limits wide P Room blame d m r i _ _ le (λ s. ends_then P _ _ (headed_ends limits wide P Room blame d m r h)
      (ends_then P _ _ (ns (one_of_two s)) (ends_then P _ _ (inl (block_end_read i.at k)) (inl refl))))

  -- ---- nodes by their forms

  pub words_node : (owned : Bool) (i : Input) {o : Input} {found : List ℕ} → text Body i ≡ Ok (found, o) → Ends P (node limits d below owned form.Text i) (tree.Text (span_from i.at o) found, o)
  unfolding node words
  words_node owned i t = ends_then P _ _ (inl t) (inl refl)

  pub show_node : (owned : Bool) {i o : Input} {found : Hole} → BracesAt wide Value m i found o → Ends P (node limits d below owned form.Hole i) (tree.Show found.span found.value, o)
  unfolding node show
  show_node owned b = ends_then P _ _ (braces_ends limits wide P d m (cause limits wide P Room blame d m r) b) (inl refl)

  abbrev Is : Bool → Form → Input → Markup × Input → Type 0
  Is owned f i z = Ends P (node limits d below owned f i) z

  pub element_node : (owned : Bool) (i : Input) {z : Markup × Input} → Ends P (element limits d below owned i) z → Is owned form.Element i z
  unfolding node
  element_node owned i h = h

  pub component_node : (owned : Bool) (i : Input) {z : Markup × Input} → Ends P (component limits d below owned i) z → Is owned form.Component i z
  unfolding node
  component_node owned i h = h

  pub slot_node : (owned : Bool) (i : Input) {z : Markup × Input} → Ends P (slot limits d below owned i) z → Is owned form.Slot i z
  unfolding node
  slot_node owned i h = h

  pub if_node : (owned : Bool) (i : Input) {z : Markup × Input} → Ends P (if_block limits d below i) z → Is owned form.If i z
  unfolding node
  if_node owned i h = h

  pub each_node : (owned : Bool) (i : Input) {z : Markup × Input} → Ends P (each_block limits d below i) z → Is owned form.Each i z
  unfolding node
  each_node owned i h = h

  pub key_node : (owned : Bool) (i : Input) {z : Markup × Input} → Ends P (key_block limits d below i) z → Is owned form.Key i z
  unfolding node
  key_node owned i h = h

  -- ---- lists of nodes

  pub nodes_end_ends : (owned : Bool) {i : Input} → piece_at i.text ≡ p.End → (n : ℕ) (found : List Markup) → Ends P (nodes_from limits d below owned n found i) (found ++ [], i)
  unfolding nodes_from
  nodes_end_ends owned {i = i} e zero found = rw e (inl (ap (λ all. Ok (all, i)) (append_none found)))
  nodes_end_ends owned {i = i} e (suc n) found = rw e (inl (ap (λ all. Ok (all, i)) (append_none found)))

  pub comment_piece : (owned : Bool) {i o : Input} → piece_at i.text ≡ p.Comment → CommentAt i o → Ends P (piece limits d below owned (piece_at i.text) i) (None, o)
  unfolding piece
  comment_piece owned e c = rw e (ends_then P _ _ (inl (comment_read c)) (inl refl))

  pub node_piece : (owned : Bool) {f : Form} (i : Input) {o : Input} {x : Markup} → piece_at i.text ≡ p.Node f → Ends P (node limits d below owned f i) (x, o)
      → Ends P (piece limits d below owned (piece_at i.text) i) (Some x, o)
  unfolding piece
  node_piece owned i e h = rw e (ends_then P _ _ h (inl refl))

  -- a piece and what comes behind it
  pub piece_ends : (owned : Bool) (i : Input) {j : Input} (x : Option Markup) (z : List Markup × Input) → piece_at i.text ≢ p.End → Ends P (piece limits d below owned (piece_at i.text) i) (x, j)
      → left j + 1 ≤ left i → (n : ℕ) → left i ≤ n → (found : List Markup)
      → ((k : ℕ) → left j ≤ k → Ends P (nodes_from limits d below owned k (with_node x found) j) z) → Ends P (nodes_from limits d below owned n found i) z
  unfolding nodes_from
  piece_ends owned i x z e h less zero le found rest = absurd (omega arith)
  piece_ends owned i x z e h less (suc n) le found rest = rw (unended (piece_at i.text) e) (ends_then P _ _ h (rest n (omega arith)))

-- ---- all of them

module _ (limits wide : Limits) (P : Refused → Type 0) (Room : ℕ → ℕ → Type 0) (blame : Blame limits wide P Room) where
  -- a list of nodes is read, with whatever room that the limits give
  abbrev Read : Bool → ℕ → Input → List Markup → Input → Type 0
  Read owned m i xs o = (d : ℕ) → Room d m → (n : ℕ) → left i ≤ n → (found : List Markup) → Ends P (nodes_from limits d (inside limits d) owned n found i) (found ++ xs, o)

  -- what a construct encloses
  enclosed : (owned : Bool) (i : Input) {o : Input} {xs : List Markup} (d m : ℕ) → Room d m → Read owned (m - 1) i xs o → nat_le 1 d ≡ true → Ends P (inside limits d owned i) (xs, o)
  unfolding inside nodes
  enclosed owned i zero m r h s = let none = leb_true 1 zero s in absurd (omega arith)
  enclosed owned i (suc n) m r h s = let e : suc n - 1 ≡ n = omega arith in h n (subst (λ k. Room k (m - 1)) e (blame.less (suc n) m 1 r)) (left i) (omega arith) []

  -- the reader's limit of branches is no less than their number, or that is the cause
  abbrev Enough : ℕ → ℕ → Type 0
  Enough n count = n < count → (e : Refused) → e.kind ≡ TooDeep → P e

  few : (count : ℕ) → count ≤ wide.links → Enough limits.links count
  few count le more e deep = blame.links (omega (arith, le, more)) e deep

  no_branch : (d len : ℕ) (i : Input) (found : List Branch) (z : List Branch × Input) (count : ℕ) → 0 < count → Enough zero count
      → Ends P (branches limits d (inside limits d) zero len found i) z
  unfolding branches
  no_branch d len i found z count some enough = inr (stopped_at TooDeep i.at i, refl, enough some (stopped_at TooDeep i.at i) refl)

  mutual
    pub nodes_end : {m : ℕ} {owned : Bool} {i o : Input} {xs : List Markup} → g.NodesAt wide m owned i xs o → Read owned m i xs o
    nodes_end (g.nodes_end e) d r n le found = nodes_end_ends limits wide P Room blame d _ r _ e n found
    nodes_end (g.nodes_comment {i = i} e c rest) d r n le found =
        let some = some_left i e (λ h. cc) in
        piece_ends limits wide P Room blame d _ r _ _ None _ (λ h. cc) (comment_piece limits wide P Room blame d _ r _ e c) (comment_less c some) n le found
        (λ k lek. nodes_end rest d r k lek found)
    nodes_end (g.nodes_more {i = i} {x = x} {xs = xs} e h rest) d r n le found =
        let some = some_left i e (λ h. cc) in
        joined P found x xs (piece_ends limits wide P Room blame d _ r _ _ (Some x) _ (λ h. cc) (node_piece limits wide P Room blame d _ r _ _ e (node_ends h d r))
        (node_less wide blame.shorter h some) n le found (λ k lek. nodes_end rest d r k lek (found ++ x ∷ [])))

    pub node_ends : {m : ℕ} {owned : Bool} {f : Form} {i o : Input} {x : Markup} → g.NodeAt wide m owned f i x o → (d : ℕ) → Room d m
        → Ends P (node limits d (inside limits d) owned f i) (x, o)
    node_ends (g.words t) d r = words_node limits wide P Room blame d _ r _ _ t
    node_ends (g.show b) d r = show_node limits wide P Room blame d _ r _ b
    node_ends (g.element {d = m} {i = i} le t c) d r =
        element_node limits wide P Room blame d _ r _ _ (element_ends limits wide P Room blame d _ r i le t (contents_end c m refl d r i.at))
    node_ends (g.component {d = m} {i = i} le t c) d r =
        component_node limits wide P Room blame d _ r _ _ (component_ends limits wide P Room blame d _ r i le t (contents_end c m refl d r i.at))
    node_ends (g.slot {d = m} {i = i} le t c) d r =
        slot_node limits wide P Room blame d _ r _ _ (slot_ends limits wide P Room blame d _ r i le t (contents_end c m refl d r i.at))
    node_ends (g.if_block le b n l k) d r = if_node limits wide P Room blame d _ r _ _
        (if_ends limits wide P Room blame d _ r _ le (λ s. branches_end b d r s limits.links (few _ n) []) (λ s. otherwise_ends l d r s) k)
    node_ends (g.each_block le h ns l k) d r = each_node limits wide P Room blame d _ r _ _
        (each_ends limits wide P Room blame d _ r le h (enclosed _ _ d _ r (λ d r n le found. nodes_end ns d r n le found)) (λ s. otherwise_ends l d r s) k)
    node_ends (g.key_block le h ns k) d r = key_node limits wide P Room blame d _ r _ _
        (key_block_ends limits wide P Room blame d _ r le h (enclosed _ _ d _ r (λ d r n le found. nodes_end ns d r n le found)) k)

    contents_end : {k : ℕ} {owned : Bool} {name : List ℕ} {is_alone : Bool} {i o : Input} {xs : List Markup} → g.ContentsAt wide k owned name is_alone i xs o
        → (m : ℕ) → k ≡ m - 1 → (d : ℕ) → Room d m → (from : ℕ) → nat_le 1 d ≡ true → Ends P (contents limits d (inside limits d) from name owned is_alone i) (xs, o)
    contents_end (g.contents_none h) m same d r from s = contents_none_ends limits wide P Room blame d m r _ _ from h s
    contents_end (g.contents_some h ns e) m same d r from s = contents_some_ends limits wide P Room blame d m r _ _ from h
        (enclosed _ _ d m r (λ d r n le found. nodes_end ns d (subst (λ k. Room d k) (sym same) r) n le found)) e s

    branches_end : {m len : ℕ} {i o : Input} {xs : List Branch} → g.BranchesAt wide m len i xs o → (d : ℕ) → Room d m → nat_le 1 d ≡ true → (n : ℕ) → Enough n (length xs)
        → (found : List Branch) → Ends P (branches limits d (inside limits d) n len found i) (found ++ xs, o)
    branches_end (g.branches_last {i = i} h ns e) d r s zero enough found = no_branch d _ i found _ _ (omega arith) enough
    branches_end (g.branches_last h ns e) d r s (suc n) enough found =
        branches_last_ends limits wide P Room blame d _ r h (enclosed _ _ d _ r (λ d r n le found. nodes_end ns d r n le found) s) e n found
    branches_end (g.branches_more {i = i} h ns e rest) d r s zero enough found = no_branch d _ i found _ _ (omega arith) enough
    branches_end (g.branches_more {x = x} {xs = ys} h ns e rest) d r s (suc n) enough found =
        branches_more_ends limits wide P Room blame d _ r _ h (enclosed _ _ d _ r (λ d r n le found. nodes_end ns d r n le found) s) e n found
        (branches_end rest d r s n (λ less e deep. enough (omega (arith, less)) e deep) (found ++ branch x ys ∷ []))

    otherwise_ends : {m : ℕ} {i o : Input} {x : Option (List Markup)} → g.OtherwiseAt wide m i x o → (d : ℕ) → Room d m → nat_le 1 d ≡ true
        → Ends P (otherwise limits d (inside limits d) i) (x, o)
    otherwise_ends (g.otherwise_none h) d r s = otherwise_none_ends limits wide P Room blame d _ r h
    otherwise_ends (g.otherwise_some h ns) d r s = otherwise_some_ends limits wide P Room blame d _ r _ h (enclosed _ _ d _ r (λ d r n le found. nodes_end ns d r n le found) s)
