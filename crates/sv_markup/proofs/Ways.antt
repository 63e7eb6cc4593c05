-- What holds between a text and what a rule of markup leaves of it, where each step keeps it.
use Rattle.std.proofs.Common.{◌≡◌, ◌≤◌, ◌+◌, ℕ, Bool, List, length, refl, arith}
use Rattle.std.specs.Prelude.{Option}
use Rattle.sv_ast.specs.declared.markup_tree.Branch.{Branch}
use Rattle.sv_ast.specs.declared.markup_tree.Markup.{Markup}
use Rattle.sv_ast.specs.declared.names.Named.{Named}
use Rattle.sv_ast.specs.declared.script_tree.Expr.{Expr}
use Rattle.sv_ast.specs.declared.script_tree.Stmt.{Stmt}
use Rattle.sv_lex.specs.Literals.{moved}
use Rattle.sv_lex.specs.Reader.{Input, knowing, left}
use Rattle.sv_expr.specs.Limits.{Limits}
use Rattle.sv_script.specs.Grammar.{IsName}
use Rattle.sv_tags.specs.declared.texts.Setting.TheVariants.{Body}
use Rattle.sv_tags.specs.Grammar.{CommentAt, comment, ScriptTagAt, script, StyleAt, style, in_braces}
use Rattle.sv_tags.specs.Raw.{cut}
use Rattle.sv_script.specs.Closed.{ExpressionAt, ScriptAt}
use Rattle.sv_tags.proofs.Bytes.{left-moved}
use Rattle.sv_tags.proofs.Lengths.{text_stands}
use Rattle.sv_tags.proofs.Ways.{IsWay, shorter, name_way, next_way, text_way, filled_way, braces_way, opening_way, comment_way, tag_end_way, script_way, style_way}
use Rattle.sv_markup.specs.declared.file.Parts.{Parts}
use Rattle.sv_markup.specs.declared.heads.Head.{Head}
use Rattle.sv_markup.specs.declared.heads.Row.{Row}
use Rattle.sv_markup.specs.declared.pieces.Form.{Form}
use Rattle.sv_markup.specs.Grammar as g
use Rattle.sv_markup.specs.Pieces.{tag_name, component_name}

module _ {Way : Input → Input → Type 0} (is : IsWay Way) where
  named_way : {i o : Input} {found : Named} → IsName i found o → Way i o
  named_way {i = i} {o = o} n = name_way is i o _ n.gives

  end_tag_way : {name : List ℕ} {i o : Input} → g.EndTagAt name i o → Way i o
  end_tag_way (g.end_tag {i = i} h) = is.bytes _ i

  mark_way : {w : List ℕ} {i o : Input} → g.MarkAt w i o → Way i o
  mark_way (g.mark {i = i} h) = is.bytes _ i

  index_way : {i o : Input} {x : Option Named} → g.IndexAt i x o → Way i o
  index_way (g.index_none {i = i} h) = is.stays i
  index_way (g.index_some {i = i} h n) = is.along (next_way is i) (named_way n)

  module _ (limits : Limits) (expressions : (d : ℕ) (i o : Input) (x : Expr) → ExpressionAt limits d i x o → Way i o) where
    headed_way : {d len : ℕ} {i o : Input} {x : Expr} → g.HeadedAt limits d len i x o → Way i o
    headed_way (g.headed {i = i} {j = j} x c) = is.along (is.bytes _ i) (is.along (expressions _ _ j _ x) (next_way is j))

    key_way : {d : ℕ} {i o : Input} {x : Option Expr} → g.KeyAt limits d i x o → Way i o
    key_way (g.key_none {i = i} h) = is.stays i
    key_way (g.key_some {i = i} {j = j} h le x c) = is.along (next_way is i) (is.along (expressions _ _ j _ x) (next_way is j))

    row_way : {d : ℕ} {i o : Input} {x : Row} → g.RowAt limits d i x o → Way i o
    row_way (g.each_row {i = i} w n x k) = is.along (next_way is i) (is.along (named_way n) (is.along (index_way x) (key_way k)))

    head_way : {d : ℕ} {i o : Input} {x : Head} → g.HeadAt limits d i x o → Way i o
    head_way (g.each_head {i = i} {j = j} {a = a} x r c) = is.along (is.bytes 6 i) (is.along (expressions _ _ j _ x) (is.along (row_way r) (next_way is a)))

    mutual
      pub nodes_way : {d : ℕ} {owned : Bool} {i o : Input} {xs : List Markup} → g.NodesAt limits d owned i xs o → Way i o
      nodes_way (g.nodes_end {i = i} e) = is.stays i
      nodes_way (g.nodes_comment e c rest) = is.along (comment_way is c) (nodes_way rest)
      nodes_way (g.nodes_more e n rest) = is.along (node_way n) (nodes_way rest)

      pub node_way : {d : ℕ} {owned : Bool} {f : Form} {i o : Input} {x : Markup} → g.NodeAt limits d owned f i x o → Way i o
      node_way (g.words {i = i} {o = o} t) = text_way is Body i o _ t
      node_way (g.show b) = braces_way is limits expressions b
      node_way (g.element {i = i} le t c) = is.along (is.bytes _ i) (is.along (opening_way is limits expressions t) (contents_way c))
      node_way (g.component {i = i} le t c) =
          is.along (is.knows (component_name i.text) i) (is.along (is.bytes _ (knowing (component_name i.text) i)) (is.along (opening_way is limits expressions t) (contents_way c)))
      node_way (g.slot {i = i} le t c) = is.along (is.bytes 5 i) (is.along (opening_way is limits expressions t) (contents_way c))
      node_way (g.if_block le b n l m) = is.along (branches_way b) (is.along (otherwise_way l) (mark_way m))
      node_way (g.each_block le h ns l m) = is.along (head_way h) (is.along (nodes_way ns) (is.along (otherwise_way l) (mark_way m)))
      node_way (g.key_block le h ns m) = is.along (headed_way h) (is.along (nodes_way ns) (mark_way m))

      pub contents_way : {d : ℕ} {owned : Bool} {name : List ℕ} {is_alone : Bool} {i o : Input} {xs : List Markup} → g.ContentsAt limits d owned name is_alone i xs o → Way i o
      contents_way (g.contents_none {i = i} h) = is.stays i
      contents_way (g.contents_some h ns e) = is.along (nodes_way ns) (end_tag_way e)

      branches_way : {d len : ℕ} {i o : Input} {xs : List Branch} → g.BranchesAt limits d len i xs o → Way i o
      branches_way (g.branches_last h ns e) = is.along (headed_way h) (nodes_way ns)
      branches_way (g.branches_more h ns e rest) = is.along (headed_way h) (is.along (nodes_way ns) (branches_way rest))

      otherwise_way : {d : ℕ} {i o : Input} {x : Option (List Markup)} → g.OtherwiseAt limits d i x o → Way i o
      otherwise_way (g.otherwise_none {i = i} h) = is.stays i
      otherwise_way (g.otherwise_some {i = i} h ns) = is.along (is.bytes 7 i) (nodes_way ns)

    pub top_way : ((i o : Input) (found : List Stmt) → ScriptAt limits i found o → Way i o) → {i o : Input} {found : Parts} → g.TopAt limits i found o → Way i o
    top_way scripts (g.top_end {i = i} h) = is.stays i
    top_way scripts (g.top_comment e c rest) = is.along (comment_way is c) (top_way scripts rest)
    top_way scripts (g.top_node e n rest) = is.along (node_way n) (top_way scripts rest)
    top_way scripts (g.top_script e s rest n) = is.along (script_way is limits scripts s) (top_way scripts rest)
    top_way scripts (g.top_style e s rest n) = is.along (style_way is s) (top_way scripts rest)

-- ---- behind a node there is less

less : (n : ℕ) (i : Input) → 1 ≤ n → 1 ≤ left i → left (moved n i) + 1 ≤ left i
less n i le some = let size = left-moved n i in omega arith

pub comment_less : {i o : Input} → CommentAt i o → 1 ≤ left i → left o + 1 ≤ left i
comment_less (comment {i = i} {n = n} h) some = less (n + 7) i (omega arith) some

pub style_less : {i o : Input} → StyleAt i o → 1 ≤ left i → left o + 1 ≤ left i
style_less (style {i = i} {j = j} {n = n} c b) some = let front = less 6 i (omega arith) some in let end = tag_end_way shorter c in let size = left-moved (n + 8) j in omega arith

pub script_less : (limits : Limits) → ((i o : Input) (found : List Stmt) → ScriptAt limits i found o → left o ≤ left i) → {i o : Input} {found : List Stmt}
    → ScriptTagAt limits i found o → 1 ≤ left i → left o + 1 ≤ left i
script_less limits scripts (script {i = i} {j = j} {o = o} {n = n} h c b s) some =
    let front = less 7 i (omega arith) some in let end = tag_end_way shorter c in let inside = scripts (cut n j) o _ s in
    let behind = shorter.beyond n (n + 9) j o inside in omega arith

left-knowing : (name : List ℕ) (i : Input) → left (knowing name i) ≡ left i
unfolding left
left-knowing name i = refl

module _ (limits : Limits) (expressions : (d : ℕ) (i o : Input) (x : Expr) → ExpressionAt limits d i x o → left o ≤ left i) where
  headed_less : {d len : ℕ} {i o : Input} {x : Expr} → g.HeadedAt limits d len i x o → 1 ≤ len → 1 ≤ left i → left o + 1 ≤ left i
  headed_less (g.headed {i = i} {j = j} x c) le some =
      let front = less _ i le some in let inside = expressions _ _ j _ x in let end = next_way shorter j in omega arith

  head_less : {d : ℕ} {i o : Input} {x : Head} → g.HeadAt limits d i x o → 1 ≤ left i → left o + 1 ≤ left i
  head_less (g.each_head {i = i} {j = j} {a = a} x r c) some =
      let front = less 6 i (omega arith) some in let inside = expressions _ _ j _ x in
      let names = row_way shorter limits expressions r in let end = next_way shorter a in omega arith

  branches_less : {d len : ℕ} {i o : Input} {xs : List Branch} → g.BranchesAt limits d len i xs o → 1 ≤ len → 1 ≤ left i → left o + 1 ≤ left i
  branches_less (g.branches_last h ns e) le some = let one = headed_less h le some in let two = nodes_way shorter limits expressions ns in omega arith
  branches_less (g.branches_more h ns e rest) le some =
      let one = headed_less h le some in let two = nodes_way shorter limits expressions ns in let three = branches_way shorter limits expressions rest in omega arith

  pub node_less : {d : ℕ} {owned : Bool} {f : Form} {i o : Input} {x : Markup} → g.NodeAt limits d owned f i x o → 1 ≤ left i → left o + 1 ≤ left i
  node_less (g.words {i = i} {o = o} t) some = let stands = text_stands Body i o _ t in stands.moves
  node_less (g.show (in_braces {i = i} {j = j} h le x c)) some =
      let front = less 1 i (omega arith) some in let inside = filled_way shorter limits expressions x in let end = next_way shorter j in omega arith
  node_less (g.element {i = i} le t c) some =
      let n = length (tag_name i.text) in let front = less (1 + n) i (omega arith) some in
      let one = opening_way shorter limits expressions t in let two = contents_way shorter limits expressions c in omega arith
  node_less (g.component {i = i} le t c) some =
      let name = component_name i.text in let same = left-knowing name i in let front = less (1 + length name) (knowing name i) (omega arith) (omega arith) in
      let one = opening_way shorter limits expressions t in let two = contents_way shorter limits expressions c in omega arith
  node_less (g.slot {i = i} le t c) some =
      let front = less 5 i (omega arith) some in
      let one = opening_way shorter limits expressions t in let two = contents_way shorter limits expressions c in omega arith
  node_less (g.if_block le b n l m) some =
      let one = branches_less b (omega arith) some in let two = otherwise_way shorter limits expressions l in let three = mark_way shorter m in omega arith
  node_less (g.each_block le h ns l m) some =
      let one = head_less h some in let two = nodes_way shorter limits expressions ns in let three = otherwise_way shorter limits expressions l in let four = mark_way shorter m in omega arith
  node_less (g.key_block le h ns m) some =
      let one = headed_less h (omega arith) some in let two = nodes_way shorter limits expressions ns in let three = mark_way shorter m in omega arith
