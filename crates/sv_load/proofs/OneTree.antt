-- A text has one tree, or one cause why there is none.
use Rattle.std.proofs.Common.{◌≡◌, ℕ, List, ◌++◌, Bool, true, false, ap, sym, ◌∙◌}
use Rattle.std.specs.Prelude.{Ok, Err}
use Rattle.sv_ast.specs.declared.files.FileTree.{FileTree}
use Rattle.sv_ast.specs.declared.files.FileTree.TheVariants.{Component, Module}
use Rattle.sv_ast.specs.declared.files.Component.{Component as ComponentTree}
use Rattle.sv_ast.specs.declared.files.Module.{Module as ModuleTree}
use Rattle.sv_ast.specs.declared.refusals.Refused.{Refused}
use Rattle.sv_lex.specs.Reader.{Input, Outcome}
use Rattle.sv_expr.specs.Limits.{real}
use Rattle.sv_script.specs.Closed.{ModuleAt}
use Rattle.sv_script.specs.Laws.{Complete}
use Rattle.sv_script.specs.Script.{file_module}
use Rattle.sv_markup.specs.Calls.{ComponentAt, ModuleFileAt, component_of}
use Rattle.sv_markup.specs.Files.{top}
use Rattle.sv_markup.specs.Grammar.{TopAt}
use Rattle.sv_load.specs.Trees.{IsTree, HasNoTree}

-- what is in the grammar of modules, and of components, is read
pub record Readers : Type 0 where
  pub modules : Complete file_module ModuleAt
  pub components : Complete top TopAt

abbrev pair_of : {A : Type 0} → A → Input → A × Input
pair_of a o = (a, o)

-- a reader gives one thing, and leaves one rest
read-same : {A : Type 0} (outcome : Outcome A) (a b : A) (o p : Input) → outcome ≡ Ok (a, o) → outcome ≡ Ok (b, p) → (a ≡ b) × (o ≡ p)
read-same {A} outcome a b o p one other =
    let pair : pair_of a o ≡ pair_of b p = cc in
    (ap (λ (x : A × Input). x.0) pair, ap (λ (x : A × Input). x.1) pair)

cause-same : {A : Type 0} (outcome : Outcome A) (a b : Refused) → outcome ≡ Err a → outcome ≡ Err b → a ≡ b
cause-same outcome a b one other = cc

-- one tree, and one table of names
pub record Same (a b : FileTree) (names more : List (List ℕ)) : Type 0 where
  pub tree : a ≡ b
  pub names_are : names ≡ more

module_same : Readers → (i : Input) (a b : ModuleTree) (o p : Input) → ModuleFileAt real i a o → ModuleFileAt real i b p → (a ≡ b) × (o ≡ p)
module_same readers i a b o p one other =
    let same = read-same (file_module real i) a.script.stmts b.script.stmts o p (readers.modules real i o a.script.stmts one.script) (readers.modules real i p b.script.stmts other.script) in
    (λ k. record { file = (one.file ∙ sym other.file) k; script = record { stmts = same.0 k } }, same.1)

component_same : Readers → (i : Input) (a b : ComponentTree) (o p : Input) → ComponentAt real i a o → ComponentAt real i b p → (a ≡ b) × (o ≡ p)
component_same readers i a b o p one other =
    let same = read-same (top real i) one.found other.found o p (readers.components real i o one.found one.parts) (readers.components real i p other.found other.parts) in
    (one.is ∙ (ap (component_of i.file) same.0 ∙ sym other.is), same.1)

pub IsTree-unique : Readers → (is_module : Bool) (i : Input) (a b : FileTree) (names more : List (List ℕ)) → IsTree is_module i a names → IsTree is_module i b more → Same a b names more
IsTree-unique readers true i (Module a) (Module b) names more one other =
    let same = module_same readers i a b one.0 other.0 one.1 other.1 in
    record { tree = ap Module same.0; names_are = one.2 ∙ (ap (λ o. i.known ++ o.added) same.1 ∙ sym other.2) }
IsTree-unique readers true i (Module a) (Component b) names more one other = absurd other
IsTree-unique readers true i (Component a) b names more one other = absurd one
IsTree-unique readers false i (Component a) (Component b) names more one other =
    let same = component_same readers i a b one.0 other.0 one.1 other.1 in
    record { tree = ap Component same.0; names_are = one.2 ∙ (ap (λ o. i.known ++ o.added) same.1 ∙ sym other.2) }
IsTree-unique readers false i (Component a) (Module b) names more one other = absurd other
IsTree-unique readers false i (Module a) b names more one other = absurd one

pub HasNoTree-unique : (is_module : Bool) (i : Input) (a b : Refused) → HasNoTree is_module i a → HasNoTree is_module i b → a ≡ b
HasNoTree-unique true i a b one other = cause-same _ a b one.told other.told
HasNoTree-unique false i a b one other = cause-same _ a b one.told other.told

-- where there is a tree, nothing says that there is none
pub IsTree-HasNoTree : {P : Type 0} (is_module : Bool) (i : Input) (tree : FileTree) (names : List (List ℕ)) (cause : Refused) → IsTree is_module i tree names → HasNoTree is_module i cause → P
IsTree-HasNoTree true i (Module tree) names cause one none = absurd (none.none (tree, one.0, one.1))
IsTree-HasNoTree true i (Component tree) names cause one none = absurd one
IsTree-HasNoTree false i (Module tree) names cause one none = absurd one
IsTree-HasNoTree false i (Component tree) names cause one none = absurd (none.none (tree, one.0, one.1))
