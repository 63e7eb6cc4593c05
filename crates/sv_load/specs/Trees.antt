-- The tree of a file, by the grammar of modules or by that of components.
use Rattle.std.specs.Prelude.{◌≡◌, ℕ, Bool, true, false, List, Ok, Err}
use Rattle.sv_ast.specs.declared.files.FileTree.{FileTree}
use Rattle.sv_ast.specs.declared.files.FileTree.TheVariants.{Component, Module}
use Rattle.sv_ast.specs.declared.refusals.Refused.{Refused}
use Rattle.sv_lex.specs.Reader.{Input, Parser}
use Rattle.sv_expr.specs.Limits.{Limits, real}
use Rattle.sv_script.specs.Calls.{HasTree}
use Rattle.sv_script.specs.Script.{file_module}
use Rattle.sv_markup.specs.Calls.{Answers, ComponentAt, ModuleFileAt, is_limit, of_text}
use Rattle.sv_markup.specs.Files.{top}

-- the text of a module, or of a component, has this tree, and these are the names behind it
abbrev pub IsTree : Bool → Input → FileTree → List (List ℕ) → Type 0
IsTree true i (Module tree) names = Answers ModuleFileAt i (Ok tree) names
IsTree true i (Component tree) names = ⊥
IsTree false i (Module tree) names = ⊥
IsTree false i (Component tree) names = Answers ComponentAt i (Ok tree) names

-- there is no tree, and none within any limits where none of them is the cause; the reader says the cause and its place
pub record Lacks {A B : Type 0} (At : Limits → Input → A → Input → Type 0) (rule : Parser B) (i : Input) (cause : Refused) : Type 0 where
  pub none : HasTree (At real) i → ⊥
  pub at_all : is_limit cause.kind ≡ false → (wide : Limits) → HasTree (At wide) i → ⊥
  pub told : of_text rule i ≡ Err cause

-- the text of a module, or of a component, has no tree, for this cause
abbrev pub HasNoTree : Bool → Input → Refused → Type 0
HasNoTree true i cause = Lacks ModuleFileAt (file_module real) i cause
HasNoTree false i cause = Lacks ComponentAt (top real) i cause
