-- What the public calls answer.
use Rattle.std.specs.Prelude.{◌≡◌, ℕ, Bool, true, false, List, [], ◌++◌, length, take, Option, Some, None, Result, Ok, Err, if◌then◌else◌}
use Rattle.std.specs.Str.{IsUtf8, is_utf8}
use Rattle.sv_ast.specs.declared.files.Component.{Component}
use Rattle.sv_ast.specs.declared.files.Module.{Module}
use Rattle.sv_ast.specs.declared.refusals.Kind.{Kind}
use Rattle.sv_ast.specs.declared.refusals.Kind.TheVariants.{NotUtf8, TooDeep, NumberTooWide}
use Rattle.sv_ast.specs.declared.refusals.ParseError.{ParseError}
use Rattle.sv_ast.specs.declared.refusals.ParseError.TheVariants as errors
use Rattle.sv_ast.specs.declared.script_tree.Stmt.{Stmt}
use Rattle.sv_lex.specs.Bytes.{stop_at}
use Rattle.sv_lex.specs.Reader.{Input, Parser}
use Rattle.sv_expr.specs.Limits.{Limits, real}
use Rattle.sv_script.specs.Calls.{HasTree}
use Rattle.sv_script.specs.Closed.{ModuleAt}
use Rattle.sv_markup.specs.declared.file.Parts.{Parts}
use Rattle.sv_markup.specs.Grammar.{TopAt}

-- what a rule reads of bytes that are UTF-8; others are refused at the front of the file
abbrev pub of_text : {A : Type 0} → Parser A → Parser A
of_text rule = λ i. if is_utf8 i.text then rule i else stop_at NotUtf8 0 i

-- ---- files of the grammar

-- the statements of a script, of which there are none where there is no script
abbrev pub statements : Option (List Stmt) → List Stmt
statements None = []
statements (Some stmts) = stmts

abbrev pub component_of : ℕ → Parts → Component
component_of file found = record { file = file; script = record { stmts = statements found.script }; nodes = found.nodes }

-- the bytes from `i` to `o` are the text of this component
pub record ComponentAt (limits : Limits) (i : Input) (tree : Component) (o : Input) : Type 0 where
  pub found : Parts
  pub text : IsUtf8 i.text
  pub parts : TopAt limits i found o
  pub is : tree ≡ component_of i.file found

-- and of this module
pub record ModuleFileAt (limits : Limits) (i : Input) (tree : Module) (o : Input) : Type 0 where
  pub text : IsUtf8 i.text
  pub script : ModuleAt limits i tree.script.stmts o
  pub file : tree.file ≡ i.file

-- ---- answers

-- whether a refusal is one for the limits' sake
abbrev pub is_limit : Kind → Bool
is_limit TooDeep = true
is_limit NumberTooWide = true
is_limit _ = false

-- no answer: where memory runs out names may have been added behind the old ones. A refusal leaves those, and there is no tree within the limits; where it is for the grammar's sake there is none within any
abbrev pub Refuses : {A : Type 0} → (Limits → Input → A → Input → Type 0) → Input → ParseError → List (List ℕ) → Type 0
Refuses At i errors.NoMemory new = take (length i.known) new ≡ i.known
Refuses At i (errors.Refused r) new = (HasTree (At real) i → ⊥) × (is_limit r.kind ≡ false → (wide : Limits) → HasTree (At wide) i → ⊥) × (new ≡ i.known)

-- the tree of a file, and the names that were added behind those that were known
abbrev pub Answers : {A : Type 0} → (Limits → Input → A → Input → Type 0) → Input → Result A ParseError → List (List ℕ) → Type 0
Answers At i (Ok tree) new = (o : Input) × At real i tree o × (new ≡ i.known ++ o.added)
Answers At i (Err e) new = Refuses At i e new
