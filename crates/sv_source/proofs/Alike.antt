-- Code that does what is told of a tree: expressions, statements and functions, where certain names are open and the functions of the program are some.
use Rattle.std.proofs.Common.{◌≡◌, ℕ, false, List, ◌++◌, Some, slice_get}
use Rattle.sv_ast.specs.declared.names.Ref.{Ref}
use Rattle.sv_ast.specs.declared.names.Ref.TheVariants.{Plain}
use Rattle.sv_base.specs.declared.span.Span.{Span}
use Rattle.sv_code.specs.declared.code.Code.{Code}
use Rattle.sv_code.specs.declared.code.CodeField.{CodeField}
use Rattle.sv_code.specs.declared.code.CodeItem.{CodeItem}
use Rattle.sv_code.specs.declared.code.CodeKind.{CodeKind, out-CodeKind}
use Rattle.sv_code.specs.declared.code.CodeLink.{CodeLink}
use Rattle.sv_code.specs.declared.functions.CodeArm.{CodeArm}
use Rattle.sv_code.specs.declared.functions.CodeDecl.{CodeDecl}
use Rattle.sv_code.specs.declared.functions.CodeStmt.{CodeStmt}
use Rattle.sv_code.specs.declared.functions.CodeStmtKind.{CodeStmtKind, CodeStmtKind-F, out-CodeStmtKind}
use Rattle.sv_code.specs.declared.functions.Function.{Function}
use Rattle.sv_code.specs.declared.functions.FunctionBody.{FunctionBody}
use Rattle.sv_code.specs.declared.functions.FunctionBody.TheVariants as body
use Rattle.sv_local.proofs.Outcomes.{Alike}
use Rattle.sv_local.proofs.Pieces.{PutsAlike, ExprAlike, LinkAlike}
use Rattle.sv_lower.specs.Lower.{reads_dispatcher}
use Rattle.sv_meaning.specs.Calls.{Caller}
use Rattle.sv_meaning.specs.Env.{Env, numbers, params, given_value}
use Rattle.sv_meaning.specs.Outcome.{Done, Next}
use Rattle.sv_meaning.specs.Sight.{Ground}
use Rattle.sv_meaning.specs.Statements.{Arm, name_given, valued, doing_of, arm_of, run, run_all}
use Rattle.sv_meaning.specs.Values.{Puts, Link, expr_of, kind_of, item_of, field_of, link_of, value}
use Rattle.sv_names.specs.Distinct.{has}
use Rattle.sv_names.specs.Uses.{named}
use Rattle.sv_value.specs.Value.{Val}
use Rattle.sv_source.specs.Functions.{Acts, Body, Gives, Runs, Tells, Makes, Fun}
use Rattle.sv_source.specs.Open.{heads}
use Rattle.sv_source.specs.Script.{Seen, at, Declared, Form, Acting, Declaring, Naming, Reacting, Line, doing, runs}
use Rattle.sv_source.proofs.Loops.{DoingAlike, ArmAlike}
use Rattle.sv_source.proofs.Scopes.{In}
use Rattle.sv_source.proofs.Tables.{Agree, Beside, Perhaps}

-- ---- statements, where certain names are open

-- the names that are open in the body of a function
abbrev pub inside : Fun → List ℕ
inside f = numbers f.takes ++ (params f.params ++ numbers f.declares)

-- what a declaration does, inside scopes of some locals; at the top of the file it has the same target and the same store
pub record DeclAlike (xs : List ℕ) (locals : List Ref) (g : Ground) (call : Caller) (owner : ℕ) (d : CodeDecl) (d' : Declared) : Type 0 where
  pub name : d.name ≡ d'.name
  pub gives : (v : Val) → Alike (In xs) (λ env. Done Next (name_given d.target v env)) (λ env. Done Next (given_value d'.name.name.0 v env))
  pub target : has (Plain d'.name.name) locals ≡ false → d.target ≡ d'.target
  pub store : has (Plain d'.name.name) locals ≡ false → d.store ≡ d'.store
  pub first : Perhaps (Alike (In xs)) (valued g call owner d.first) d'.first

-- what a statement says beyond what it does where it stands
abbrev pub SaysAlike : List ℕ → List Ref → Ground → Caller → ℕ → CodeStmtKind-F CodeStmtKind CodeArm CodeStmt → Form → Type 0
SaysAlike xs locals g call owner (CodeStmtKind-F.Let ds) (Declaring ds') = Beside (DeclAlike xs locals g call owner) ds ds'
SaysAlike xs locals g call owner (CodeStmtKind-F.Const ds exported) (Declaring ds') = Beside (DeclAlike xs locals g call owner) ds ds'
SaysAlike xs locals g call owner (CodeStmtKind-F.Export ds) (Declaring ds') = Beside (DeclAlike xs locals g call owner) ds ds'
SaysAlike xs locals g call owner (CodeStmtKind-F.Function x exported target n) (Naming target' n') = (has (named x) locals ≡ false → target ≡ target') × (n ≡ n')
SaysAlike xs locals g call owner (CodeStmtKind-F.React s) (Reacting m) = Alike (In xs) (run g call owner s) m
SaysAlike xs locals g call owner (CodeStmtKind-F.Let ds) (Acting d) = ⊥
SaysAlike xs locals g call owner (CodeStmtKind-F.Const ds exported) (Acting d) = ⊥
SaysAlike xs locals g call owner (CodeStmtKind-F.Export ds) (Acting d) = ⊥
SaysAlike xs locals g call owner (CodeStmtKind-F.Function x exported target n) (Acting d) = ⊥
SaysAlike xs locals g call owner (CodeStmtKind-F.React s) (Acting d) = ⊥
SaysAlike xs locals g call owner k (Acting d) = Unit {0}
SaysAlike xs locals g call owner _ _ = ⊥

module _ (all : List Function) where
  -- what holds wherever the functions of the program are these
  abbrev pub Always : (Ground → Caller → ℕ → Type 0) → Type 0
  Always P = (g : Ground) (call : Caller) (owner : ℕ) → g.program.functions ≡ all → P g call owner

  -- ---- functions

  abbrev pub BodyAlike : List ℕ → FunctionBody → Body → Type 0
  BodyAlike xs (body.Value c) (Gives m) = Always (λ g call owner. Alike (In xs) (value g call owner c) (m g call owner))
  BodyAlike xs (body.Block stmts) (Runs m) = Always (λ g call owner. Alike (In xs) (run_all g call owner stmts) (m g call owner))
  BodyAlike xs body.Dispatch Tells = Unit {0}
  BodyAlike xs body.Writable Makes = Unit {0}
  BodyAlike xs _ _ = ⊥

  pub record FunAlike (f : Function) (f' : Fun) : Type 0 where
    pub handed : f.params ≡ f'.params
    pub taken : f.captured ≡ f'.takes
    pub own : f.declares ≡ f'.declares
    pub acts : BodyAlike (inside f') f.body f'.body

  abbrev pub AreAlike : List Function → List Fun → Type 0
  AreAlike = Beside FunAlike

  -- the functions of a list are those of the program, by number
  abbrev pub IsFront : List Function → Type 0
  IsFront functions = (n : ℕ) (f : Function) → slice_get functions n ≡ Some f → slice_get all n ≡ Some f

  abbrev pub Agrees : {A B : Type 0} → (A → B → Type 0) → (List Function → A × List Function) → (List Fun → B × List Fun) → Type 0
  Agrees R one two = Agree IsFront AreAlike R one two

  -- a number stands for a function that takes the same along
  pub record NumberAlike (n : ℕ) (f : ℕ × Fun) : Type 0 where
    pub number : n ≡ f.0
    pub function : Function
    pub there : slice_get all n ≡ Some function
    pub takes : function.captured ≡ f.1.takes

  module _ (xs : List ℕ) where
    -- ---- expressions

    pub record KindAlike (s : Span) (k : CodeKind) (e : Seen) : Type 0 where
      pub alike : Always (λ g call owner. (env : Env) → heads env ≡ xs → ExprAlike (In xs) (kind_of g call owner k s) (e.sees g call owner env))
      pub tells : reads_dispatcher (out-CodeKind k) ≡ e.is_teller

    pub record SeenAlike (c : Code) (e : Seen) : Type 0 where
      pub alike : Always (λ g call owner. (env : Env) → heads env ≡ xs → ExprAlike (In xs) (expr_of g call owner c) (at env (e.sees g call owner)))
      pub place : (g : Ground) (call : Caller) (owner : ℕ) (env : Env) → c.span ≡ (e.sees g call owner env).span
      pub tells : reads_dispatcher (out-CodeKind c.kind) ≡ e.is_teller

    pub record ItemAlike (i : CodeItem) (p : Acts (Puts Val)) : Type 0 where
      pub alike : Always (λ g call owner. PutsAlike (In xs) (item_of g call owner i) (p g call owner))

    pub record FieldAlike (f : CodeField) (p : Acts (Puts (List ℕ × Val))) : Type 0 where
      pub alike : Always (λ g call owner. PutsAlike (In xs) (field_of g call owner f) (p g call owner))

    pub record OperatorAlike (l : CodeLink) (l' : Acts Link) : Type 0 where
      pub alike : Always (λ g call owner. LinkAlike (In xs) (link_of g call owner l) (l' g call owner))

    -- ---- statements

    pub record BranchAlike (a : CodeArm) (a' : Acts Arm) : Type 0 where
      pub alike : Always (λ g call owner. ArmAlike xs (arm_of g call owner a) (a' g call owner))

    module _ (locals : List Ref) where
      pub record FormAlike (k : CodeStmtKind) (f : Acts Form) : Type 0 where
        pub doing : Always (λ g call owner. DoingAlike xs (doing_of g call owner k) (doing (f g call owner)))
        pub says : Always (λ g call owner. SaysAlike xs locals g call owner (out-CodeStmtKind k) (f g call owner))

      pub record LineAlike (s : CodeStmt) (l : Acts Line) : Type 0 where
        pub runs : Always (λ g call owner. Alike (In xs) (run g call owner s) (runs (l g call owner)))
        pub span : Always (λ g call owner. s.span ≡ (l g call owner).span)
        pub says : Always (λ g call owner. SaysAlike xs locals g call owner (out-CodeStmtKind s.kind) (l g call owner).form)

      pub record DeclaredAlike (d : CodeDecl) (d' : Acts Declared) : Type 0 where
        pub alike : Always (λ g call owner. DeclAlike xs locals g call owner d (d' g call owner))
