-- The grammar of expressions, by cases: one constructor for each of its lines. `Rule d i .. o` says that the text from `i` to `o` is the tree by the rule, with at most `d` constructs one inside another, within limits of links and numbers. An expression is read as far as it goes: what ends a rule is that no token comes that it could go on with. A statement block of an arrow is what `block` reads where there is so much room.
use Rattle.std.specs.Prelude.{◌≡◌, ◌≢◌, ◌≤◌, ℕ, zero, suc, Bool, true, false, List, [], ◌∷◌, ◌++◌, length, Some, None, Ok}
use Rattle.sv_ast.specs.declared.names.Named.{Named}
use Rattle.sv_ast.specs.declared.names.Ref.{Ref}
use Rattle.sv_ast.specs.declared.names.Ref.TheVariants.{Plain, Store}
use Rattle.sv_ast.specs.declared.operators.AssignOp.{AssignOp}
use Rattle.sv_ast.specs.declared.operators.Op.{Op}
use Rattle.sv_ast.specs.declared.script_tree.Body.{Body}
use Rattle.sv_ast.specs.declared.script_tree.Body.TheVariants.{Value, Block}
use Rattle.sv_ast.specs.declared.script_tree.Entry.{Entry}
use Rattle.sv_ast.specs.declared.script_tree.Expr.{Expr}
use Rattle.sv_ast.specs.declared.script_tree.ExprKind.{ExprKind}
use Rattle.sv_ast.specs.declared.script_tree.ExprKind.TheVariants as e
use Rattle.sv_ast.specs.declared.script_tree.Field.{Field}
use Rattle.sv_ast.specs.declared.script_tree.Field.TheVariants.{Pair, Spread}
use Rattle.sv_ast.specs.declared.script_tree.Link.{Link}
use Rattle.sv_ast.specs.declared.script_tree.Stmt.{Stmt}
use Rattle.sv_lex.specs.declared.cursor.Run.{Run}
use Rattle.sv_lex.specs.declared.lexeme.Lexeme.TheVariants as k
use Rattle.sv_lex.specs.Literals.{numeral, string, run}
use Rattle.sv_lex.specs.Reader.{Input, Parser, sees, next, start, span_from, name, store_name, word, word_text}
use Rattle.sv_expr.specs.declared.form.Form.{Form}
use Rattle.sv_expr.specs.declared.form.Form.TheVariants.{Operand, Whole, Bracketed}
use Rattle.sv_expr.specs.declared.quotients.Left.{Left}
use Rattle.sv_expr.specs.Limits.{Limits}
use Rattle.sv_expr.specs.Nodes.{node, form, link, chain, entry_of, with_run}
use Rattle.sv_expr.specs.Operators.{operator_in, assign_op, bump, bump_behind, literal, begins_suffix}
use Rattle.sv_expr.specs.Quotients.{is_quotient, left_of, left_by, fits, rounds, argument, is_single}

-- Name | '$' Name
pub data Target : Input → Ref → Input → Type 0 where
  plain : {i o : Input} {found : Named} → sees i ≡ k.Name → name i ≡ Ok (found, o) → Target i (Plain found.name) o
  store : {i o : Input} {found : Named} → sees i ≡ k.Store → store_name i ≡ Ok (found, o) → Target i (Store found.name) o

-- [ Name { ',' Name } [ ',' ] ] ')'
pub data Names : Input → List Named → Input → Type 0 where
  names_end : {i : Input} → sees i ≡ k.RParen → Names i [] (next i)
  names_last : {i j : Input} {found : Named} → sees i ≡ k.Name → name i ≡ Ok (found, j) → sees j ≡ k.RParen → Names i (found ∷ []) (next j)
  names_more : {i j o : Input} {found : Named} {rest : List Named} → sees i ≡ k.Name → name i ≡ Ok (found, j) → sees j ≡ k.Comma → Names (next j) rest o
      → Names i (found ∷ rest) o

-- Name | '(' [ Params ] ')'
pub data Params : Input → List Named → Input → Type 0 where
  one : {i o : Input} {found : Named} → sees i ≡ k.Name → name i ≡ Ok (found, o) → Params i (found ∷ []) o
  several : {i o : Input} {found : List Named} → sees i ≡ k.LParen → Names (next i) found o → Params i found o

-- parameters and `=>` come
pub record BeginsArrow (i : Input) : Type 0 where
  pub found : List Named
  pub behind : Input
  pub params : Params i found behind
  pub arrow : sees behind ≡ k.Arrow

-- a target and the operator of an assignment come
pub record BeginsAssignment (i : Input) : Type 0 where
  pub ref : Ref
  pub behind : Input
  pub target : Target i ref behind
  pub op : AssignOp
  pub is : assign_op (sees behind) ≡ Some op

module _ (limits : Limits) (block : ℕ → Parser (List Stmt)) where
  mutual
    -- what a construct encloses: the operand of a prefix operator, an expression, or one that may be a quotient
    pub data Inside : ℕ → Form → Input → Expr → Input → Type 0 where
      inside_operand : {d : ℕ} {i o : Input} {t : Expr} → Prefix d i t o → is_quotient t ≡ false → Inside (suc d) Operand i t o
      inside_whole : {d : ℕ} {i o : Input} {t : Expr} → Full d i t o → is_quotient t ≡ false → Inside (suc d) Whole i t o
      inside_bracketed : {d : ℕ} {i o : Input} {t : Expr} → Full d i t o → Inside (suc d) Bracketed i t o

    -- Target AssignOp Expr | Arrow | Cond
    pub data Full : ℕ → Input → Expr → Input → Type 0 where
      is_arrow : {d : ℕ} {i j o : Input} {params : List Named} {found : Body} → Params i params j → sees j ≡ k.Arrow → ArrowBody d (next j) found o
          → Full d i (form i o (e.Arrow params found)) o
      is_assignment : {d : ℕ} {i j o : Input} {ref : Ref} {op : AssignOp} {x : Expr} → Target i ref j → assign_op (sees j) ≡ Some op → Inside d Whole (next j) x o
          → Full d i (form i o (e.Assign ref op x)) o
      is_condition : {d : ℕ} {i o : Input} {t : Expr} → (BeginsArrow i → ⊥) → (BeginsAssignment i → ⊥) → Cond d i t o → Full d i t o

    -- Block | Expr
    pub data ArrowBody : ℕ → Input → Body → Input → Type 0 where
      body_block : {d : ℕ} {i o : Input} {found : List Stmt} → sees i ≡ k.LBrace → block d i ≡ Ok (found, o) → ArrowBody d i (Block found) o
      body_value : {d : ℕ} {i o : Input} {x : Expr} → sees i ≢ k.LBrace → Inside d Whole i x o → ArrowBody d i (Value x) o

    -- Logical [ '?' Expr ':' Expr ]
    pub data Cond : ℕ → Input → Expr → Input → Type 0 where
      only_test : {d : ℕ} {i o : Input} {t : Expr} → Logical d i t o → sees o ≢ k.Question → Cond d i t o
      choice : {d : ℕ} {i j m o : Input} {t x y : Expr} → Logical d i t j → sees j ≡ k.Question → is_quotient t ≡ false → Inside d Whole (next j) x m
          → sees m ≡ k.Colon → Inside d Whole (next m) y o → Cond d i (form i o (e.Choose t x y)) o

    -- `??` without `&&` and `||`, or those without `??`
    pub data Logical : ℕ → Input → Expr → Input → Type 0 where
      nullish : {d : ℕ} {i j o : Input} {t : Expr} {found : List Link} → Binary d 4 i t j → sees j ≡ k.Nullish → Links d 4 7 (left_of t) j found o
          → length found ≤ limits.links → operator_in 5 (sees o) ≡ None → operator_in 6 (sees o) ≡ None → Logical d i (chain (span_from (start i) o) t found) o
      either : {d : ℕ} {i j o : Input} {t : Expr} {found : List Link} → Binary d 5 i t j → Links d 5 6 (left_of t) j found o
          → length found ≤ limits.links → operator_in 7 (sees o) ≡ None → Logical d i (chain (span_from (start i) o) t found) o

    -- the operators of the groups up to this one, to the left
    pub data Binary : ℕ → ℕ → Input → Expr → Input → Type 0 where
      operand : {d : ℕ} {i o : Input} {t : Expr} → Prefix d i t o → Binary d zero i t o
      grouped : {d n : ℕ} {i j o : Input} {t : Expr} {found : List Link} → Binary d n i t j → Links d n (suc n) (left_of t) j found o
          → length found ≤ limits.links → Binary d (suc n) i (chain (span_from (start i) o) t found) o

    -- the operators of a group between operands, behind the first of those
    pub data Links : ℕ → ℕ → ℕ → Left → Input → List Link → Input → Type 0 where
      no_link : {d n group : ℕ} {left : Left} {i : Input} → operator_in group (sees i) ≡ None → Links d n group left i [] i
      one_link : {d n group : ℕ} {left : Left} {i j o : Input} {op : Op} {right : Expr} {rest : List Link} → operator_in group (sees i) ≡ Some op
          → Binary d n (next i) right j → fits left op right ≡ true → Links d n group (left_by op) j rest o → Links d n group left i (link op right ∷ rest) o

    -- ( '!' | '-' ) Prefix | ( '++' | '--' ) Target | Suffix
    pub data Prefix : ℕ → Input → Expr → Input → Type 0 where
      negation : {d : ℕ} {i o : Input} {x : Expr} → sees i ≡ k.Bang → Inside d Operand (next i) x o → Prefix d i (form i o (e.Not x)) o
      minus : {d : ℕ} {i o : Input} {x : Expr} → sees i ≡ k.Minus → Inside d Operand (next i) x o → Prefix d i (form i o (e.Minus x)) o
      bumped : {d : ℕ} {i o : Input} {up : Bool} {ref : Ref} → bump (sees i) ≡ Some up → 1 ≤ d → Target (next i) ref o
          → Prefix d i (form i o (e.Bump ref up true)) o
      -- Target ( '++' | '--' )
      bumping : {d : ℕ} {i j : Input} {ref : Ref} {up : Bool} → Target i ref j → bump_behind j ≡ Some up → Prefix d i (form i (next j) (e.Bump ref up false)) (next j)
      -- Target Suffixes
      read : {d n : ℕ} {i j o : Input} {ref : Ref} {t : Expr} → Target i ref j → bump_behind j ≡ None → Suffixes d n (start i) (form i j (e.Read ref)) j t o
          → n ≤ limits.links → Prefix d i t o
      -- Primary Suffixes
      suffixed : {d n : ℕ} {i j o : Input} {first t : Expr} → Primary d i first j → Suffixes d n (start i) first j t o → n ≤ limits.links → Prefix d i t o

    -- { '.' Word | '[' Expr ']' | '(' [ Args ] ')' }, so many, behind an expression
    pub data Suffixes : ℕ → ℕ → ℕ → Expr → Input → Expr → Input → Type 0 where
      no_suffix : {d from : ℕ} {i : Input} {t : Expr} → begins_suffix (sees i) ≡ false → Suffixes d zero from t i t i
      member : {d n from : ℕ} {i j o : Input} {of t : Expr} {found : Named} → is_quotient of ≡ false → sees i ≡ k.Dot → word (next i) ≡ Ok (found, j)
          → Suffixes d n from (node (span_from from j) (e.Member of found.name)) j t o → Suffixes d (suc n) from of i t o
      index : {d n from : ℕ} {i j o : Input} {of x t : Expr} → is_quotient of ≡ false → sees i ≡ k.LBracket → Inside d Whole (next i) x j → sees j ≡ k.RBracket
          → Suffixes d n from (node (span_from from (next j)) (e.Index of x)) (next j) t o → Suffixes d (suc n) from of i t o
      call : {d n from : ℕ} {i j o : Input} {of t : Expr} {args : List Expr} → is_quotient of ≡ false → sees i ≡ k.LParen → 1 ≤ d
          → Args d (argument (rounds of i)) (next i) args j → is_single args ≡ true
          → Suffixes d n from (node (span_from from j) (e.Call of args)) j t o → Suffixes d (suc n) from of i t o

    -- [ Expr { ',' Expr } [ ',' ] ] ')'
    pub data Args : ℕ → Form → Input → List Expr → Input → Type 0 where
      args_end : {d : ℕ} {f : Form} {i : Input} → sees i ≡ k.RParen → Args d f i [] (next i)
      args_last : {d : ℕ} {f : Form} {i j : Input} {x : Expr} → Inside d f i x j → sees j ≡ k.RParen → Args d f i (x ∷ []) (next j)
      args_more : {d : ℕ} {f : Form} {i j o : Input} {x : Expr} {xs : List Expr} → Inside d f i x j → sees j ≡ k.Comma → Args d f (next j) xs o → Args d f i (x ∷ xs) o

    -- [ Entry { ',' Entry } [ ',' ] ] ']'
    pub data Entries : ℕ → Input → List Entry → Input → Type 0 where
      entries_end : {d : ℕ} {i : Input} → sees i ≡ k.RBracket → Entries d i [] (next i)
      entries_last : {d : ℕ} {i j : Input} {x : Entry} → Item d i x j → sees j ≡ k.RBracket → Entries d i (x ∷ []) (next j)
      entries_more : {d : ℕ} {i j o : Input} {x : Entry} {xs : List Entry} → Item d i x j → sees j ≡ k.Comma → Entries d (next j) xs o → Entries d i (x ∷ xs) o

    -- Expr | '...' Expr
    pub data Item : ℕ → Input → Entry → Input → Type 0 where
      item : {d : ℕ} {i o : Input} {x : Expr} → sees i ≢ k.Dots → Inside d Whole i x o → Item d i (entry_of false x) o
      item_spread : {d : ℕ} {i o : Input} {x : Expr} → sees i ≡ k.Dots → Inside d Whole (next i) x o → Item d i (entry_of true x) o

    -- [ Field { ',' Field } [ ',' ] ] '}'
    pub data Fields : ℕ → Input → List Field → Input → Type 0 where
      fields_end : {d : ℕ} {i : Input} → sees i ≡ k.RBrace → Fields d i [] (next i)
      fields_last : {d : ℕ} {i j : Input} {x : Field} → OneField d i x j → sees j ≡ k.RBrace → Fields d i (x ∷ []) (next j)
      fields_more : {d : ℕ} {i j o : Input} {x : Field} {xs : List Field} → OneField d i x j → sees j ≡ k.Comma → Fields d (next j) xs o → Fields d i (x ∷ xs) o

    -- Name | ( Word | string ) ':' Expr | '...' Expr
    pub data OneField : ℕ → Input → Field → Input → Type 0 where
      field_name : {d : ℕ} {i o : Input} {key : List ℕ} {found : Named} → sees i ≡ k.Name → sees (next i) ≢ k.Colon → word_text i ≡ Ok (key, i) → name i ≡ Ok (found, o)
          → OneField d i (Pair key (form i o (e.Read (Plain found.name)))) o
      field_word : {d : ℕ} {i o : Input} {key : List ℕ} {x : Expr} → word_text i ≡ Ok (key, i) → sees (next i) ≡ k.Colon → Inside d Whole (next (next i)) x o
          → OneField d i (Pair key x) o
      field_string : {d : ℕ} {i j o : Input} {key : List ℕ} {x : Expr} → sees i ≡ k.Quoted → string i ≡ Ok (key, j) → sees j ≡ k.Colon → Inside d Whole (next j) x o
          → OneField d i (Pair key x) o
      field_spread : {d : ℕ} {i o : Input} {x : Expr} → sees i ≡ k.Dots → Inside d Whole (next i) x o → OneField d i (Spread x) o

    -- the runs and holes of a template up to its closing quote, behind the parts that came before
    pub data Parts : ℕ → Input → List Expr → List Expr → Input → Type 0 where
      last_run : {d : ℕ} {i o : Input} {found : List Expr} {piece : Run} → run i ≡ Ok ((piece, false), o) → Parts d i found (with_run piece found) o
      hole : {d : ℕ} {i j m o : Input} {found all : List Expr} {piece : Run} {x : Expr} → run i ≡ Ok ((piece, true), j) → Inside d Whole j x m → sees m ≡ k.RBrace
          → Parts d (next m) (with_run piece found ++ x ∷ []) all o → Parts d i found all o

    -- numeral | string | template | a word that is a value | '(' Expr ')' | '[' [ Items ] ']' | '{' [ Fields ] '}'
    pub data Primary : ℕ → Input → Expr → Input → Type 0 where
      number : {d : ℕ} {i o : Input} {value : _} → sees i ≡ k.Numeral → numeral limits.number i ≡ Ok (value, o) → Primary d i (form i o (e.Num value)) o
      quoted : {d : ℕ} {i o : Input} {text : List ℕ} → sees i ≡ k.Quoted → string i ≡ Ok (text, o) → Primary d i (form i o (e.Text text)) o
      template : {d : ℕ} {i o : Input} {found : List Expr} → sees i ≡ k.Backquote → Parts d (next i) [] found o → Primary d i (form i o (e.Template found)) o
      constant : {d : ℕ} {i : Input} {kind : ExprKind} → literal (sees i) ≡ Some kind → Primary d i (form i (next i) kind) (next i)
      bracket : {d : ℕ} {i j : Input} {x : Expr} → sees i ≡ k.LParen → Inside d Bracketed (next i) x j → sees j ≡ k.RParen → Primary d i x (next j)
      list : {d : ℕ} {i o : Input} {found : List Entry} → sees i ≡ k.LBracket → 1 ≤ d → Entries d (next i) found o → Primary d i (form i o (e.List found)) o
      object : {d : ℕ} {i o : Input} {found : List Field} → sees i ≡ k.LBrace → 1 ≤ d → Fields d (next i) found o → Primary d i (form i o (e.Obj found)) o
