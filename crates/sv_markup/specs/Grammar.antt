-- The grammar of markup, by cases: one constructor for each of its lines. `Rule d .. i x o` says that the text from `i` to `o` is `x` by the rule, with at most `d` constructs one inside another, within limits of links and numbers. Which line may be taken is told by what begins at `i`.
use Rattle.std.specs.Prelude.{◌≡◌, ◌≢◌, ◌≤◌, ℕ, ◌+◌, ◌-◌, ◌||◌, Bool, true, false, List, [], ◌∷◌, length, Option, Some, None, Ok, codes}
use Rattle.sv_ast.specs.declared.markup_tree.Branch.{Branch}
use Rattle.sv_ast.specs.declared.markup_tree.Markup.{Markup}
use Rattle.sv_ast.specs.declared.markup_tree.Markup.TheVariants as m
use Rattle.sv_ast.specs.declared.names.Named.{Named}
use Rattle.sv_ast.specs.declared.script_tree.Expr.{Expr}
use Rattle.sv_ast.specs.declared.script_tree.Stmt.{Stmt}
use Rattle.sv_lex.specs.declared.lexeme.Lexeme.TheVariants as k
use Rattle.sv_lex.specs.Literals.{moved}
use Rattle.sv_lex.specs.Reader.{Input, sees, next, left, spelling, span_from, name_of, knowing}
use Rattle.sv_expr.specs.Limits.{Limits}
use Rattle.sv_script.specs.Grammar.{IsName}
use Rattle.sv_tags.specs.declared.directives.Tag.TheVariants as tag
use Rattle.sv_tags.specs.declared.holes.Filling.TheVariants.{Value}
use Rattle.sv_tags.specs.declared.holes.Hole.{Hole}
use Rattle.sv_tags.specs.declared.openings.Opening.{Opening}
use Rattle.sv_tags.specs.declared.texts.Setting.TheVariants.{Body}
use Rattle.sv_tags.specs.Classes.{begins}
use Rattle.sv_tags.specs.Directives.{tag_of}
use Rattle.sv_tags.specs.Grammar.{BracesAt, OpeningAt, CommentAt, ScriptTagAt, StyleAt}
use Rattle.sv_script.specs.Closed.{ExpressionAt}
use Rattle.sv_tags.specs.Texts.{text}
use Rattle.sv_markup.specs.declared.file.Parts.{Parts}
use Rattle.sv_markup.specs.declared.heads.Head.{Head}
use Rattle.sv_markup.specs.declared.heads.Row.{Row}
use Rattle.sv_markup.specs.declared.pieces.Form.{Form}
use Rattle.sv_markup.specs.declared.pieces.Form.TheVariants as form
use Rattle.sv_markup.specs.declared.pieces.Piece.TheVariants as piece
use Rattle.sv_markup.specs.Ends.{end_tag_len, else_if_len}
use Rattle.sv_markup.specs.Files.{nothing}
use Rattle.sv_markup.specs.Nodes.{branch, row, head}
use Rattle.sv_markup.specs.Pieces.{piece_at, tag_name, component_name}
use Rattle.sv_markup.specs.Rules.{slot_name}
use Rattle.sv_markup.specs.Void.{is_void}

-- '</', the name, white space or none, '>'
pub data EndTagAt (name : List ℕ) : Input → Input → Type 0 where
  end_tag : {i : Input} → end_tag_len name i.text ≢ 0 → EndTagAt name i (moved (end_tag_len name i.text) i)

-- these bytes
pub data MarkAt (w : List ℕ) : Input → Input → Type 0 where
  mark : {i : Input} → begins w i.text ≡ true → MarkAt w i (moved (length w) i)

-- [ ',' Name ]
pub data IndexAt : Input → Option Named → Input → Type 0 where
  index_none : {i : Input} → sees i ≢ k.Comma → IndexAt i None i
  index_some : {i o : Input} {found : Named} → sees i ≡ k.Comma → IsName (next i) found o → IndexAt i (Some found) o

module _ (limits : Limits) where
  -- Expr '}', behind so many bytes: the head of a block, in which it is one construct more
  pub data HeadedAt (d len : ℕ) : Input → Expr → Input → Type 0 where
    headed : {i j : Input} {x : Expr} → ExpressionAt limits (d - 2) (moved len i) x j → sees j ≡ k.RBrace → HeadedAt d len i x (next j)

  -- [ '(' Expr ')' ], of which the brackets are one construct more
  pub data KeyAt (d : ℕ) : Input → Option Expr → Input → Type 0 where
    key_none : {i : Input} → sees i ≢ k.LParen → KeyAt d i None i
    key_some : {i j : Input} {x : Expr} → sees i ≡ k.LParen → 3 ≤ d → ExpressionAt limits (d - 3) (next i) x j → sees j ≡ k.RParen → KeyAt d i (Some x) (next j)

  -- 'as' Name [ ',' Name ] Key
  pub data RowAt (d : ℕ) : Input → Row → Input → Type 0 where
    each_row : {i a b o : Input} {item : Named} {at : Option Named} {by : Option Expr} → spelling i ≡ codes "as" → IsName (next i) item a → IndexAt a at b
        → KeyAt d b by o → RowAt d i (row item at by) o

  -- '{#each' Expr Row '}'
  pub data HeadAt (d : ℕ) : Input → Head → Input → Type 0 where
    each_head : {i j a : Input} {list : Expr} {found : Row} → ExpressionAt limits (d - 2) (moved 6 i) list j → RowAt d j found a → sees a ≡ k.RBrace
        → HeadAt d i (head list found) (next a)

  mutual
    -- { Node | Comment }, up to an end
    pub data NodesAt : ℕ → Bool → Input → List Markup → Input → Type 0 where
      nodes_end : {d : ℕ} {owned : Bool} {i : Input} → piece_at i.text ≡ piece.End → NodesAt d owned i [] i
      nodes_comment : {d : ℕ} {owned : Bool} {i j o : Input} {xs : List Markup} → piece_at i.text ≡ piece.Comment → CommentAt i j → NodesAt d owned j xs o
          → NodesAt d owned i xs o
      nodes_more : {d : ℕ} {owned : Bool} {f : Form} {i j o : Input} {x : Markup} {xs : List Markup} → piece_at i.text ≡ piece.Node f → NodeAt d owned f i x j
          → NodesAt d owned j xs o → NodesAt d owned i (x ∷ xs) o

    -- a node of a form; `owned` says that a component's tag encloses it directly
    pub data NodeAt : ℕ → Bool → Form → Input → Markup → Input → Type 0 where
      words : {d : ℕ} {owned : Bool} {i o : Input} {found : List ℕ} → text Body i ≡ Ok (found, o) → NodeAt d owned form.Text i (m.Text (span_from i.at o) found) o
      -- '{' Expr '}'
      show : {d : ℕ} {owned : Bool} {i o : Input} {found : Hole} → BracesAt limits Value d i found o → NodeAt d owned form.Hole i (m.Show found.span found.value) o
      -- '<' name Opening Contents
      element : {d : ℕ} {owned : Bool} {i j o : Input} {found : Opening} {xs : List Markup} → 1 ≤ d
          → OpeningAt limits (tag_of (tag_name i.text)) owned (d - 1) (moved (1 + length (tag_name i.text)) i) found j
          → ContentsAt (d - 1) false (tag_name i.text) (found.is_closed || is_void (tag_name i.text)) j xs o
          → NodeAt d owned form.Element i (m.Element (span_from i.at o) (tag_name i.text) found.attrs xs) o
      -- the same with a name that gets a number, and it owns its nodes
      component : {d : ℕ} {owned : Bool} {i j o : Input} {found : Opening} {xs : List Markup} → 1 ≤ d
          → OpeningAt limits tag.Component owned (d - 1) (moved (1 + length (component_name i.text)) (knowing (component_name i.text) i)) found j
          → ContentsAt (d - 1) true (component_name i.text) found.is_closed j xs o
          → NodeAt d owned form.Component i (m.Comp (span_from i.at o) (name_of (component_name i.text) i) found.attrs xs) o
      slot : {d : ℕ} {owned : Bool} {i j o : Input} {found : Opening} {xs : List Markup} → 1 ≤ d → OpeningAt limits tag.Slot owned (d - 1) (moved 5 i) found j
          → ContentsAt (d - 1) false (codes "slot") found.is_closed j xs o → NodeAt d owned form.Slot i (m.Slot (span_from i.at o) (slot_name found.slot) found.attrs xs) o
      -- '{#if' Branches [ '{:else}' Nodes ] '{/if}'
      if_block : {d : ℕ} {owned : Bool} {i j e o : Input} {arms : List Branch} {last : Option (List Markup)} → 2 ≤ d → BranchesAt d 4 i arms j
          → length arms ≤ limits.links → OtherwiseAt d j last e → MarkAt (codes "{/if}") e o → NodeAt d owned form.If i (m.If (span_from i.at o) arms last) o
      -- Head Nodes [ '{:else}' Nodes ] '{/each}'
      each_block : {d : ℕ} {owned : Bool} {i j b e o : Input} {found : Head} {xs : List Markup} {none : Option (List Markup)} → 2 ≤ d → HeadAt d i found j
          → NodesAt (d - 1) false j xs b → OtherwiseAt d b none e → MarkAt (codes "{/each}") e o
          → NodeAt d owned form.Each i (m.Each (span_from i.at o) found.list found.row.item found.row.index found.row.key xs none) o
      -- '{#key' Expr '}' Nodes '{/key}'
      key_block : {d : ℕ} {owned : Bool} {i j e o : Input} {value : Expr} {xs : List Markup} → 2 ≤ d → HeadedAt d 5 i value j → NodesAt (d - 1) false j xs e
          → MarkAt (codes "{/key}") e o → NodeAt d owned form.Key i (m.Key (span_from i.at o) value xs) o

    -- Nodes and the end tag of this name; neither, where the tag stands alone
    pub data ContentsAt : ℕ → Bool → List ℕ → Bool → Input → List Markup → Input → Type 0 where
      contents_none : {d : ℕ} {owned : Bool} {name : List ℕ} {is_alone : Bool} {i : Input} → is_alone ≡ true → ContentsAt d owned name is_alone i [] i
      contents_some : {d : ℕ} {owned : Bool} {name : List ℕ} {is_alone : Bool} {i j o : Input} {xs : List Markup} → is_alone ≡ false → NodesAt d owned i xs j
          → EndTagAt name j o → ContentsAt d owned name is_alone i xs o

    -- Headed Nodes, and more of them with '{:else', white space and 'if' between
    pub data BranchesAt : ℕ → ℕ → Input → List Branch → Input → Type 0 where
      branches_last : {d len : ℕ} {i j o : Input} {x : Expr} {xs : List Markup} → HeadedAt d len i x j → NodesAt (d - 1) false j xs o → else_if_len o.text ≡ 0
          → BranchesAt d len i (branch x xs ∷ []) o
      branches_more : {d len : ℕ} {i j e o : Input} {x : Expr} {xs : List Markup} {rest : List Branch} → HeadedAt d len i x j → NodesAt (d - 1) false j xs e
          → else_if_len e.text ≢ 0 → BranchesAt d (else_if_len e.text) e rest o → BranchesAt d len i (branch x xs ∷ rest) o

    -- [ '{:else}' Nodes ]
    pub data OtherwiseAt : ℕ → Input → Option (List Markup) → Input → Type 0 where
      otherwise_none : {d : ℕ} {i : Input} → begins (codes "{:else}") i.text ≡ false → OtherwiseAt d i None i
      otherwise_some : {d : ℕ} {i o : Input} {xs : List Markup} → begins (codes "{:else}") i.text ≡ true → NodesAt (d - 1) false (moved 7 i) xs o
          → OtherwiseAt d i (Some xs) o

  -- { Node | Comment | Script | Style } to the end of the text, with at most one script and one style
  pub data TopAt : Input → Parts → Input → Type 0 where
    top_end : {i : Input} → left i ≡ 0 → TopAt i nothing i
    top_comment : {i j o : Input} {found : Parts} → piece_at i.text ≡ piece.Comment → CommentAt i j → TopAt j found o → TopAt i found o
    top_node : {f : Form} {i j o : Input} {x : Markup} {found : Parts} → piece_at i.text ≡ piece.Node f → NodeAt limits.nest false f i x j → TopAt j found o
        → TopAt i (record found { nodes = x ∷ found.nodes }) o
    top_script : {i j o : Input} {stmts : List Stmt} {found : Parts} → piece_at i.text ≡ piece.Script → ScriptTagAt limits i stmts j → TopAt j found o
        → found.script ≡ None → TopAt i (record found { script = Some stmts }) o
    top_style : {i j o : Input} {found : Parts} → piece_at i.text ≡ piece.Style → StyleAt i j → TopAt j found o → found.has_style ≡ false
        → TopAt i (record found { has_style = true }) o
