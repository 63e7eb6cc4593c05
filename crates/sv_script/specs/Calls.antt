-- What the public calls answer.
use Rattle.std.specs.Prelude.{◌≡◌, ℕ, List, [], ◌++◌, length, take, Result, Ok, Err}
use Rattle.sv_ast.specs.declared.files.Script.{Script}
use Rattle.sv_ast.specs.declared.refusals.Kind.TheVariants.{Syntax}
use Rattle.sv_ast.specs.declared.refusals.ParseError.{ParseError}
use Rattle.sv_ast.specs.declared.refusals.ParseError.TheVariants as errors
use Rattle.sv_ast.specs.declared.script_tree.Expr.{Expr}
use Rattle.sv_ast.specs.declared.script_tree.Stmt.{Stmt}
use Rattle.sv_lex.specs.Reader.{Input, Outcome, Fails}
use Rattle.sv_expr.specs.Limits.{Limits, real}
use Rattle.sv_script.specs.Closed.{ExpressionAt}
use Rattle.sv_script.specs.Laws.{IsExpression}

-- a text that begins at a place of a file, with the names that are known
abbrev pub input_of : ℕ → List ℕ → ℕ → List (List ℕ) → Input
input_of file text from names = record { text = text; at = from; file = file; known = names; added = [] }

-- a tree stands at the front of a text
abbrev pub HasTree : {A : Type 0} → (Input → A → Input → Type 0) → Input → Type 0
HasTree {A} Is i = (x : A) × (o : Input) × Is i x o

-- no answer: where memory runs out names may have been added behind the old ones. A refusal leaves those, and there is no tree within the limits; where it is `Syntax` there is none within any
abbrev pub Refuses : {L A : Type 0} → (L → Input → A → Input → Type 0) → L → Input → ParseError → List (List ℕ) → List (List ℕ) → Type 0
Refuses {L} Is limits i errors.NoMemory old new = take (length old) new ≡ old
Refuses {L} Is limits i (errors.Refused r) old new =
    (HasTree (Is limits) i → ⊥) × (r.kind ≡ Syntax → (wide : L) → HasTree (Is wide) i → ⊥) × (new ≡ old)

-- the tree of a file, and the names that were added behind those that were known
abbrev pub AnswersFile : (Limits → Input → List Stmt → Input → Type 0) → Input → Result Script ParseError → List (List ℕ) → Type 0
AnswersFile Is i (Ok a) new = (o : Input) × Is real i a.stmts o × (new ≡ i.known ++ o.added)
AnswersFile Is i (Err e) new = Refuses Is real i e i.known new

-- an expression where so many constructs may enclose one another, and the place behind it
abbrev pub AnswersPlace : ℕ → Input → Result (Expr × ℕ) ParseError → List (List ℕ) → Type 0
AnswersPlace room i (Ok a) new = (o : Input) × ExpressionAt real room i a.0 o × (a.1 ≡ o.at) × (new ≡ i.known ++ o.added)
AnswersPlace room i (Err e) new = Refuses IsExpression (real, room) i e i.known new

-- a refusal is that of a reader
abbrev pub RefusesAs : {A B : Type 0} → Outcome A → Result B ParseError → Type 0
RefusesAs outcome (Ok b) = Unit {0}
RefusesAs outcome (Err e) = Fails outcome e
