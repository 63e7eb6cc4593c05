-- The grammar of statements and files, by cases: one constructor for each of its lines. `Rule d .. i x o` says that the text from `i` to `o` is `x` by the rule, with at most `d` constructs one inside another, within limits of links and numbers. A block of statements in an arrow is what `block` reads where there is so much room.
use Rattle.std.specs.Prelude.{◌≡◌, ◌≢◌, ◌≤◌, ℕ, suc, ◌⊎◌, Bool, true, false, List, [], ◌∷◌, length, Option, Some, None, Ok, codes}
use Rattle.sv_ast.specs.declared.names.Named.{Named}
use Rattle.sv_ast.specs.declared.script_tree.Arm.{Arm}
use Rattle.sv_ast.specs.declared.script_tree.Decl.{Decl}
use Rattle.sv_ast.specs.declared.script_tree.Expr.{Expr}
use Rattle.sv_ast.specs.declared.script_tree.ImportName.{ImportName}
use Rattle.sv_ast.specs.declared.script_tree.Stmt.{Stmt}
use Rattle.sv_ast.specs.declared.script_tree.StmtKind.TheVariants as s
use Rattle.sv_lex.specs.declared.lexeme.Lexeme.{Lexeme}
use Rattle.sv_lex.specs.declared.lexeme.Lexeme.TheVariants as k
use Rattle.sv_lex.specs.Literals.{string}
use Rattle.sv_lex.specs.Reader.{Input, Parser, sees, next, is_later, spelling, name}
use Rattle.sv_expr.specs.declared.form.Form.TheVariants.{Whole}
use Rattle.sv_expr.specs.Grammar.{Inside, Params}
use Rattle.sv_expr.specs.Limits.{Limits}
use Rattle.sv_script.specs.declared.place.Place.{Place}
use Rattle.sv_script.specs.Files.{is_source}
use Rattle.sv_script.specs.Nodes.{form, decl, arm, known_by}
use Rattle.sv_script.specs.Places.{top, in_function, looped}

-- `;`, also on a later line; or nothing before `}`, the end of the text or a later line
pub data End : Input → Input → Type 0 where
  end_sign : {i : Input} → sees i ≡ k.Semi → End i (next i)
  end_brace : {i : Input} → sees i ≡ k.RBrace → End i i
  end_text : {i : Input} → sees i ≡ k.End → End i i
  end_line : {i : Input} → sees i ≢ k.Semi → is_later i ≡ true → End i i

-- what begins another statement than an expression
abbrev pub begins_other : Lexeme → Bool
begins_other k.Semi = true
begins_other k.LBrace = true
begins_other k.If = true
begins_other k.While = true
begins_other k.For = true
begins_other k.Break = true
begins_other k.Continue = true
begins_other k.Return = true
begins_other _ = false

-- what begins declarations
abbrev pub begins_binding : Lexeme → Bool
begins_binding k.Let = true
begins_binding k.Const = true
begins_binding _ = false

-- what begins an item of a component that is no statement
abbrev pub begins_top : Lexeme → Bool
begins_top k.Import = true
begins_top k.Export = true
begins_top k.React = true
begins_top k.Function = true
begins_top _ = false

-- one or more with `,` between
pub data Several {A : Type 0} (One : Input → A → Input → Type 0) : Input → List A → Input → Type 0 where
  several_last : {i o : Input} {x : A} → One i x o → sees o ≢ k.Comma → Several One i (x ∷ []) o
  several_more : {i j o : Input} {x : A} {xs : List A} → One i x j → sees j ≡ k.Comma → Several One (next j) xs o → Several One i (x ∷ xs) o

-- so many as stand before a token
pub data Upto {A : Type 0} (One : Input → A → Input → Type 0) (last : Lexeme) : Input → List A → Input → Type 0 where
  upto_none : {i : Input} → sees i ≡ last → Upto One last i [] i
  upto_more : {i j o : Input} {x : A} {xs : List A} → sees i ≢ last → One i x j → Upto One last j xs o → Upto One last i (x ∷ xs) o

-- a name
pub record IsName (i : Input) (found : Named) (o : Input) : Type 0 where
  pub is : sees i ≡ k.Name
  pub gives : name i ≡ Ok (found, o)

-- an expression that begins on the line of a `return` comes
pub record BeginsAnswer (i : Input) : Type 0 where
  pub sign : sees i ≢ k.Semi
  pub brace : sees i ≢ k.RBrace
  pub text : sees i ≢ k.End
  pub line : is_later i ≡ false

-- `const`, or `let` before two names
pub data Binder : Input → Bool → Type 0 where
  by_const : {i : Input} → sees i ≡ k.Const → Binder i true
  by_let : {i : Input} → sees i ≡ k.Let → sees (next (next i)) ≡ k.Name → Binder i false

module _ (limits : Limits) (block : ℕ → Parser (List Stmt)) where
  -- an expression in a construct, and one outside
  abbrev pub Inner : ℕ → Input → Expr → Input → Type 0
  Inner d = Inside limits block d Whole

  abbrev pub Value : Bool → ℕ → Input → Expr → Input → Type 0
  Value true d = Inner d
  Value false d = Inner (suc d)

  -- Name [ '=' Expr ]
  pub data Declared (is_head : Bool) (d : ℕ) : Input → Decl → Input → Type 0 where
    declared_alone : {i o : Input} (found : Named) → IsName i found o → sees o ≢ k.Equal → Declared is_head d i (decl found None) o
    declared_first : {i j o : Input} (found : Named) (x : Expr) → IsName i found j → sees j ≡ k.Equal → Value is_head d (next j) x o
        → Declared is_head d i (decl found (Some x)) o

  -- Name '=' Expr
  pub data Fixed (d : ℕ) : Input → Decl → Input → Type 0 where
    fixed : {i j o : Input} (found : Named) (x : Expr) → IsName i found j → sees j ≡ k.Equal → Inner (suc d) (next j) x o → Fixed d i (decl found (Some x)) o

  -- 'const' Inits End, which begins at a place
  pub data Constants (d : ℕ) (from : Input) (exported : Bool) : Input → Stmt → Input → Type 0 where
    constants : {i j o : Input} {found : List Decl} → sees i ≡ k.Const → Several (Fixed d) (next i) found j → End j o
        → Constants d from exported i (form from o (s.Const found exported)) o

  -- '(' Expr ')'
  pub data Test (d : ℕ) : Input → Expr → Input → Type 0 where
    test : {i j : Input} {x : Expr} → sees i ≡ k.LParen → Inner d (next i) x j → sees j ≡ k.RParen → Test d i x (next j)

  -- [ 'let' Decls | Expr ] ';'
  pub data First (d : ℕ) : Input → Option Stmt → Input → Type 0 where
    first_none : {i : Input} → sees i ≡ k.Semi → First d i None (next i)
    first_let : {i j : Input} {found : List Decl} → sees i ≡ k.Let → Several (Declared true d) (next i) found j → sees j ≡ k.Semi
        → First d i (Some (form i j (s.Let found))) (next j)
    first_value : {i j : Input} {x : Expr} → sees i ≢ k.Semi → begins_binding (sees i) ≡ false → Inner d i x j → sees j ≡ k.Semi → First d i (Some (form i j (s.Eval x))) (next j)

  -- [ Expr ] and a token
  pub data Optional (d : ℕ) (close : Lexeme) : Input → Option Expr → Input → Type 0 where
    optional_none : {i : Input} → sees i ≡ close → Optional d close i None (next i)
    optional_some : {i j : Input} {x : Expr} → sees i ≢ close → Inner d i x j → sees j ≡ close → Optional d close i (Some x) (next j)

  mutual
    -- '{' { Stmt } '}'
    pub data Block : ℕ → Place → Input → List Stmt → Input → Type 0 where
      block_braces : {d : ℕ} {p : Place} {i o : Input} {found : List Stmt} → sees i ≡ k.LBrace → Items d p (next i) found o → Block (suc d) p i found (next o)

    -- the statements before a `}`
    pub data Items : ℕ → Place → Input → List Stmt → Input → Type 0 where
      items_none : {d : ℕ} {p : Place} {i : Input} → sees i ≡ k.RBrace → Items d p i [] i
      items_more : {d : ℕ} {p : Place} {i j o : Input} {x : Stmt} {xs : List Stmt} → sees i ≢ k.RBrace → Item d p i x j → Items d p j xs o → Items d p i (x ∷ xs) o

    -- 'let' Decls End | 'const' Inits End | Stmt
    pub data Item : ℕ → Place → Input → Stmt → Input → Type 0 where
      item_let : {d : ℕ} {p : Place} {i j o : Input} {found : List Decl} → sees i ≡ k.Let → Several (Declared false d) (next i) found j → End j o
          → Item d p i (form i o (s.Let found)) o
      item_const : {d : ℕ} {p : Place} {i o : Input} {x : Stmt} → Constants d i false i x o → Item d p i x o
      item_other : {d : ℕ} {p : Place} {i o : Input} {x : Stmt} → begins_binding (sees i) ≡ false → Statement d p i x o → Item d p i x o

    -- the body of `if`, `else` or a loop
    pub data Body : ℕ → Place → Input → Stmt → Input → Type 0 where
      body : {d : ℕ} {p : Place} {i o : Input} {x : Stmt} → Statement d p i x o → Body (suc d) p i x o

    -- 'if' '(' Expr ')' Stmt, and more of them with `else` between
    pub data Arms : ℕ → Place → Input → List Arm → Input → Type 0 where
      arms_last : {d : ℕ} {p : Place} {i j o : Input} {x : Expr} {chosen : Stmt} → sees i ≡ k.If → Test d (next i) x j → Body d p j chosen o
          → (sees o ≢ k.Else) ⊎ (sees (next o) ≢ k.If) → Arms d p i (arm x chosen ∷ []) o
      arms_more : {d : ℕ} {p : Place} {i j m o : Input} {x : Expr} {chosen : Stmt} {rest : List Arm} → sees i ≡ k.If → Test d (next i) x j → Body d p j chosen m
          → sees m ≡ k.Else → Arms d p (next m) rest o → Arms d p i (arm x chosen ∷ rest) o

    -- [ 'else' Stmt ]
    pub data Otherwise : ℕ → Place → Input → Option Stmt → Input → Type 0 where
      otherwise_none : {d : ℕ} {p : Place} {i : Input} → sees i ≢ k.Else → Otherwise d p i None i
      otherwise_some : {d : ℕ} {p : Place} {i o : Input} {x : Stmt} → sees i ≡ k.Else → Body d p (next i) x o → Otherwise d p i (Some x) o

    pub data Statement : ℕ → Place → Input → Stmt → Input → Type 0 where
      -- ';'
      empty : {d : ℕ} {p : Place} {i : Input} → sees i ≡ k.Semi → Statement d p i (form i (next i) s.Empty) (next i)
      -- Block
      nested : {d : ℕ} {p : Place} {i o : Input} {found : List Stmt} → sees i ≡ k.LBrace → Block d p i found o → Statement d p i (form i o (s.Block found)) o
      -- Arms [ 'else' Stmt ]
      choice : {d : ℕ} {p : Place} {i j o : Input} {found : List Arm} (last : Option Stmt) → Arms d p i found j → length found ≤ limits.links → Otherwise d p j last o
          → Statement d p i (form i o (s.If found last)) o
      -- 'while' '(' Expr ')' Stmt
      repeated : {d : ℕ} {p : Place} {i j o : Input} {x : Expr} {turn : Stmt} → sees i ≡ k.While → Test d (next i) x j → Body d (looped p) j turn o
          → Statement d p i (form i o (s.While x turn)) o
      -- 'for' '(' ( 'const' | 'let' ) Name 'of' Expr ')' Stmt
      each : {d : ℕ} {p : Place} {i j m o : Input} {is_fixed : Bool} {found : Named} {x : Expr} {turn : Stmt} → sees i ≡ k.For → sees (next i) ≡ k.LParen
          → Binder (next (next i)) is_fixed → IsName (next (next (next i))) found j → spelling j ≡ codes "of" → Inner d (next j) x m → sees m ≡ k.RParen
          → Body d (looped p) (next m) turn o → Statement d p i (form i o (s.Each found is_fixed x turn)) o
      -- 'for' '(' First [ Expr ] ';' [ Expr ] ')' Stmt
      stepped : {d : ℕ} {p : Place} {i j m n o : Input} (first : Option Stmt) (condition step : Option Expr) {turn : Stmt} → sees i ≡ k.For → sees (next i) ≡ k.LParen
          → First d (next (next i)) first j → Optional d k.Semi j condition m → Optional d k.RParen m step n → Body d (looped p) n turn o
          → Statement d p i (form i o (s.For first condition step turn)) o
      -- 'break' End, in a loop
      broken : {d : ℕ} {p : Place} {i o : Input} → sees i ≡ k.Break → p.in_loop ≡ true → End (next i) o → Statement d p i (form i o s.Break) o
      -- 'continue' End, in a loop
      continued : {d : ℕ} {p : Place} {i o : Input} → sees i ≡ k.Continue → p.in_loop ≡ true → End (next i) o → Statement d p i (form i o s.Continue) o
      -- 'return' [ Expr ] End, in a function; the expression begins on its line
      returned : {d : ℕ} {p : Place} {i o : Input} → sees i ≡ k.Return → p.in_function ≡ true → (BeginsAnswer (next i) → ⊥) → End (next i) o
          → Statement d p i (form i o (s.Return None)) o
      answered : {d : ℕ} {p : Place} {i j o : Input} (x : Expr) → sees i ≡ k.Return → p.in_function ≡ true → BeginsAnswer (next i) → Inner (suc d) (next i) x j → End j o
          → Statement d p i (form i o (s.Return (Some x))) o
      -- Expr End
      evaluated : {d : ℕ} {p : Place} {i j o : Input} {x : Expr} → begins_other (sees i) ≡ false → Inner (suc d) i x j → End j o → Statement d p i (form i o (s.Eval x)) o

  -- 'function' Name '(' [ Params ] ')' Block, which begins at a place
  pub data Function (d : ℕ) (from : Input) (exported : Bool) : Input → Stmt → Input → Type 0 where
    function : {i j m o : Input} {found : Named} {params : List Named} {body : List Stmt} → sees i ≡ k.Function → IsName (next i) found j → sees j ≡ k.LParen
        → Params j params m → Block d in_function m body o → Function d from exported i (form from o (s.Func found exported params body)) o

-- ---- imports

-- Name [ 'as' Name ]
pub data Known : Input → ImportName → Input → Type 0 where
  known_same : {i o : Input} {found : Named} → IsName i found o → spelling o ≢ codes "as" → Known i (known_by found found) o
  known_as : {i j o : Input} {given local : Named} → IsName i given j → spelling j ≡ codes "as" → IsName (next j) local o → Known i (known_by given local) o

-- [ ImportName { ',' ImportName } [ ',' ] ] '}'
pub data ImportNames : Input → List ImportName → Input → Type 0 where
  specs_end : {i : Input} → sees i ≡ k.RBrace → ImportNames i [] (next i)
  specs_last : {i j : Input} {x : ImportName} → Known i x j → sees j ≡ k.RBrace → ImportNames i (x ∷ []) (next j)
  specs_more : {i j o : Input} {x : ImportName} {xs : List ImportName} → Known i x j → sees j ≡ k.Comma → ImportNames (next j) xs o → ImportNames i (x ∷ xs) o

-- 'from' String End, where the string may be named
pub data Origin (is_whole : Bool) : Input → List ℕ → Input → Type 0 where
  origin : {i j o : Input} {text : List ℕ} → spelling i ≡ codes "from" → sees (next i) ≡ k.Quoted → string (next i) ≡ Ok (text, j) → is_source is_whole text ≡ true
      → End j o → Origin is_whole i text o

-- 'import' ( Name | '{' ImportNames ) Origin
pub data Imports : Input → Stmt → Input → Type 0 where
  import_whole : {i j o : Input} {found : Named} {text : List ℕ} → sees i ≡ k.Import → IsName (next i) found j → Origin true j text o
      → Imports i (form i o (s.Import (record { from = text; whole = Some found; names = [] }))) o
  import_names : {i j o : Input} {found : List ImportName} {text : List ℕ} → sees i ≡ k.Import → sees (next i) ≡ k.LBrace → ImportNames (next (next i)) found j → Origin false j text o
      → Imports i (form i o (s.Import (record { from = text; whole = None; names = found }))) o

-- ---- files

module _ (limits : Limits) (block : ℕ → Parser (List Stmt)) (d : ℕ) where
  -- Import | Export | React | Func | Stmt
  pub data ComponentItem : Input → Stmt → Input → Type 0 where
    imported : {i o : Input} {x : Stmt} → Imports i x o → ComponentItem i x o
    props : {i j o : Input} {found : List Decl} → sees i ≡ k.Export → sees (next i) ≡ k.Let → Several (Declared limits block false d) (next (next i)) found j → End j o
        → ComponentItem i (form i o (s.Export found)) o
    reacted : {i o : Input} {x : Stmt} → sees i ≡ k.React → Statement limits block d top (next i) x o → ComponentItem i (form i o (s.React x)) o
    declared_function : {i o : Input} {x : Stmt} → Function limits block d i false i x o → ComponentItem i x o
    statement : {i o : Input} {x : Stmt} → begins_top (sees i) ≡ false → Item limits block d top i x o → ComponentItem i x o

  -- Import | [ 'export' ] ( 'const' Inits End | Func )
  pub data ModuleItem : Input → Stmt → Input → Type 0 where
    module_import : {i o : Input} {x : Stmt} → Imports i x o → ModuleItem i x o
    own_const : {i o : Input} {x : Stmt} → Constants limits block d i false i x o → ModuleItem i x o
    own_function : {i o : Input} {x : Stmt} → Function limits block d i false i x o → ModuleItem i x o
    given_const : {i o : Input} {x : Stmt} → sees i ≡ k.Export → Constants limits block d i true (next i) x o → ModuleItem i x o
    given_function : {i o : Input} {x : Stmt} → sees i ≡ k.Export → Function limits block d i true (next i) x o → ModuleItem i x o

  -- the statements of a component's script, and of a module
  abbrev pub Component : Input → List Stmt → Input → Type 0
  Component = Upto ComponentItem k.End

  abbrev pub Module : Input → List Stmt → Input → Type 0
  Module = Upto ModuleItem k.End
