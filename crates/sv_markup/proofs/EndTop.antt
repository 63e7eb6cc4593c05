-- Files of the grammar are read.
use Rattle.std.proofs.Common.{◌≡◌, ◌≤◌, ◌+◌, inl, ℕ, zero, suc, Bool, true, false, List, [], ◌∷◌, ◌++◌, refl, ap, subst, arith}
use Rattle.std.specs.Prelude.{Option, Some, None, Ok}
use Rattle.sv_ast.specs.declared.markup_tree.Markup.{Markup}
use Rattle.sv_ast.specs.declared.refusals.Refused.{Refused}
use Rattle.sv_ast.specs.declared.script_tree.Stmt.{Stmt}
use Rattle.sv_lex.specs.Reader.{Input, left}
use Rattle.sv_lex.proofs.Ends.{Ends, ends_then}
use Rattle.sv_expr.specs.Limits.{Limits}
use Rattle.sv_tags.specs.Grammar.{CommentAt, ScriptTagAt, StyleAt}
use Rattle.sv_script.specs.Closed.{ScriptAt}
use Rattle.sv_tags.proofs.Bytes.{is_same, is_other}
use Rattle.sv_tags.proofs.EndRaw.{script_ends, style_read}
use Rattle.sv_markup.specs.declared.file.Parts.{Parts}
use Rattle.sv_markup.specs.declared.pieces.Form.{Form}
use Rattle.sv_markup.specs.declared.pieces.Piece.TheVariants as p
use Rattle.sv_markup.specs.Files.{nothing, part, parts_from, top}
use Rattle.sv_markup.specs.Grammar as g
use Rattle.sv_markup.specs.Pieces.{piece_at}
use Rattle.sv_markup.specs.Rules.{piece, inside}
use Rattle.sv_markup.proofs.EndLeaves.{Blame}
use Rattle.sv_markup.proofs.EndNodes.{comment_piece, node_piece, node_ends}
use Rattle.sv_markup.proofs.Found.{joined, IsApart, joined_nothing, nothing_apart, with_nodes, with_stmts, with_mark, joined_node, joined_script, joined_style}
use Rattle.sv_markup.proofs.Fronts.{some_left}
use Rattle.sv_markup.proofs.Ways.{comment_less, node_less, script_less, style_less}

-- what stands behind a script or a style that was found has none
lone_script : (stmts : List Stmt) (found rest : Parts) → IsApart found (with_stmts stmts rest) → found.script ≡ None
lone_script stmts found rest a = by found.script refl
  where
    by : (s : Option (List Stmt)) → found.script ≡ s → found.script ≡ None
    by None e = e
    by (Some other) e = let no : ◌≡◌ {A = Option (List Stmt)} (Some stmts) None = a.script other e in absurd (cc)

lone_style : (found rest : Parts) → IsApart found (with_mark rest) → found.has_style ≡ false
lone_style found rest a = by found.has_style refl
  where
    by : (b : Bool) → found.has_style ≡ b → found.has_style ≡ false
    by false e = e
    by true e = let no : true ≡ false = a.style e in absurd (cc)

module _ (limits wide : Limits) (P : Refused → Type 0) (Room : ℕ → ℕ → Type 0) (blame : Blame limits wide P Room) (nest : Room limits.nest wide.nest)
    (scripts : (i o : Input) (found : List Stmt) → ScriptAt wide i found o → left o ≤ left i) where
  -- ---- one part

  comment_part : {i j : Input} (found : Parts) → piece_at i.text ≡ p.Comment → CommentAt i j → Ends P (part limits found i) (found, j)
  unfolding part
  comment_part {i = i} {j = j} found e c =
      let h = comment_piece limits wide P Room blame limits.nest wide.nest nest false e c in
      rw e (ends_then P _ _ (subst (λ x. Ends P (piece limits limits.nest (inside limits limits.nest) false x i) (None, j)) e h) (inl refl))

  node_part : {f : Form} {i j : Input} {x : Markup} (found : Parts) → piece_at i.text ≡ p.Node f → g.NodeAt wide wide.nest false f i x j
      → Ends P (part limits found i) (with_nodes (found.nodes ++ x ∷ []) found, j)
  unfolding part
  node_part {i = i} {j = j} {x = x} found e n =
      let h = node_piece limits wide P Room blame limits.nest wide.nest nest false i e (node_ends limits wide P Room blame n limits.nest nest) in
      rw e (ends_then P _ _ (subst (λ y. Ends P (piece limits limits.nest (inside limits limits.nest) false y i) (Some x, j)) e h) (inl refl))

  script_part : {i j : Input} {stmts : List Stmt} (found : Parts) → piece_at i.text ≡ p.Script → ScriptTagAt wide i stmts j → found.script ≡ None
      → Ends P (part limits found i) (with_stmts stmts found, j)
  unfolding part
  script_part found e t n = rw (e, n) (ends_then P _ _ (script_ends limits wide P blame.scripts t) (inl refl))

  style_part : {i j : Input} (found : Parts) → piece_at i.text ≡ p.Style → StyleAt i j → found.has_style ≡ false → Ends P (part limits found i) (with_mark found, j)
  unfolding part
  style_part found e t n = rw (e, n) (ends_then P _ _ (inl (style_read t)) (inl refl))

  -- ---- one behind the other

  more : (i : Input) {j : Input} (found next : Parts) (z : Parts × Input) → 1 ≤ left i → Ends P (part limits found i) (next, j) → left j + 1 ≤ left i → (n : ℕ) → left i ≤ n
      → ((k : ℕ) → left j ≤ k → Ends P (parts_from limits k next j) z) → Ends P (parts_from limits n found i) z
  unfolding parts_from
  more i found next z some h less zero le rest = absurd (omega arith)
  more i found next z some h less (suc n) le rest = rw (is_other (left i) 0 (λ e. absurd (omega (arith, e, some)))) (ends_then P _ _ h (rest n (omega arith)))

  no_more : (i : Input) (found : Parts) → left i ≡ 0 → (n : ℕ) → Ends P (parts_from limits n found i) (joined found nothing, i)
  unfolding parts_from
  no_more i found h zero = rw (is_same (left i) 0 h) (inl (ap (λ all. Ok (all, i)) (joined_nothing found)))
  no_more i found h (suc n) = rw (is_same (left i) 0 h) (inl (ap (λ all. Ok (all, i)) (joined_nothing found)))

  -- parts that are the same in another way
  as_same : {all other : Parts} (i : Input) {o : Input} (n : ℕ) (found : Parts) → all ≡ other → Ends P (parts_from limits n found i) (all, o) → Ends P (parts_from limits n found i) (other, o)
  as_same i {o = o} n found e h = subst (λ x. Ends P (parts_from limits n found i) (x, o)) e h

  parts_end : {i o : Input} {rest : Parts} → g.TopAt wide i rest o → (n : ℕ) → left i ≤ n → (found : Parts) → IsApart found rest
      → Ends P (parts_from limits n found i) (joined found rest, o)
  parts_end (g.top_end {i = i} h) n le found a = no_more i found h n
  parts_end (g.top_comment {i = i} e c rest) n le found a =
      let some = some_left i e (λ h. cc) in
      more i found found _ some (comment_part found e c) (comment_less c some) n le (λ k lek. parts_end rest k lek found a)
  parts_end (g.top_node {i = i} {x = x} {found = behind} e h rest) n le found a =
      let some = some_left i e (λ h. cc) in
      let next = with_nodes (found.nodes ++ x ∷ []) found in
      as_same i n found (joined_node x found behind) (more i found next _ some (node_part found e h) (node_less wide blame.shorter h some) n le
      (λ k lek. parts_end rest k lek next (record { script = a.script; style = a.style })))
  parts_end (g.top_script {i = i} {stmts = stmts} {found = behind} e t rest s) n le found a =
      let some = some_left i e (λ h. cc) in
      let none = lone_script stmts found behind a in
      as_same i n found (joined_script stmts found behind none) (more i found (with_stmts stmts found) _ some (script_part found e t none) (script_less wide scripts t some) n le
      (λ k lek. parts_end rest k lek (with_stmts stmts found) (record { script = λ other h. s; style = a.style })))
  parts_end (g.top_style {i = i} {found = behind} e t rest s) n le found a =
      let some = some_left i e (λ h. cc) in
      let none = lone_style found behind a in
      as_same i n found (joined_style found behind none) (more i found (with_mark found) _ some (style_part found e t none) (style_less t some) n le
      (λ k lek. parts_end rest k lek (with_mark found) (record { script = a.script; style = λ h. s })))

  pub top_ends : {i o : Input} {found : Parts} → g.TopAt wide i found o → Ends P (top limits i) (found, o)
  unfolding top
  top_ends {i = i} {found = found} h = parts_end h (left i) (omega arith) nothing (nothing_apart found)
