-- What a program is refused for, and what is told of one that isn't.
use Rattle.std.specs.Prelude.{◌≡◌, ℕ, ◌<◌, ◌≤◌, List, [], Some, length, slice_get}
use Rattle.sv_ast.specs.declared.files.Bundle.{Bundle}
use Rattle.sv_ast.specs.declared.files.SourceFile.{SourceFile}
use Rattle.sv_ast.specs.declared.names.Ref.{Ref}
use Rattle.sv_base.specs.declared.limits.TheConstants.{CELL_LIMIT}
use Rattle.sv_base.specs.declared.span.Span.{Span}
use Rattle.sv_imports.specs.Cycles.{AreCycles}
use Rattle.sv_ast.specs.Files.{statements_of}
use Rattle.sv_order.specs.ReactiveOrder.{IsOrder, IsEachOnce}
use Rattle.sv_resolve.specs.declared.refusals.CheckError.{CheckError}
use Rattle.sv_resolve.specs.declared.refusals.CheckError.TheVariants.{Refused, NoMemory}
use Rattle.sv_resolve.specs.declared.refusals.CheckRefusal.{CheckRefusal}
use Rattle.sv_resolve.specs.Earliest.{IsEarliest}
use Rattle.sv_effects.specs.Stains.{ArePure}
use Rattle.sv_check.specs.declared.checked.CheckedComponent.{CheckedComponent}
use Rattle.sv_check.specs.Files.{told_scopes, cells_of}
use Rattle.sv_check.specs.Mistakes.{AreMistakes}
use Rattle.sv_check.specs.Waiting.{reads}

-- ---- programs with mistakes

-- a mistake with its place in the file with a number
abbrev pub in_file : ℕ → CheckRefusal → CheckRefusal
in_file n m = record m { at = record m.at { file = n } }

-- the file with a number has mistakes, and this is the first: none begins earlier, nor at its place among the kinds before its own
pub record IsMistakeOf (bundle : Bundle) (cycles : List (List Span)) (pure : List (List Ref)) (n : ℕ) (refusal : CheckRefusal) : Type 0 where
  pub mistakes : List CheckRefusal
  pub are_mistakes : AreMistakes bundle cycles pure n mistakes
  pub first : CheckRefusal
  pub earliest : IsEarliest first mistakes
  pub told : refusal ≡ in_file n first

-- the first mistake of a program: that of a file before which no file has any
pub record IsFirstMistake (bundle : Bundle) (refusal : CheckRefusal) : Type 0 where
  pub cycles : List (List Span)
  pub are_cycles : AreCycles bundle.files cycles
  pub pure : List (List Ref)
  pub are_pure : ArePure bundle pure
  pub file : ℕ
  pub clean_before : (n : ℕ) → n < file → AreMistakes bundle cycles pure n []
  pub is_first : IsMistakeOf bundle cycles pure file refusal

-- why a program is refused
abbrev pub IsCause : Bundle → CheckError → Type 0
IsCause bundle (Refused refusal) = IsFirstMistake bundle refusal
IsCause bundle NoMemory = Unit {0}

-- why a file is refused
abbrev pub IsCauseIn : Bundle → List (List Span) → List (List Ref) → ℕ → CheckError → Type 0
IsCauseIn bundle cycles pure n (Refused refusal) = IsMistakeOf bundle cycles pure n refusal
IsCauseIn bundle cycles pure n NoMemory = Unit {0}

-- ---- programs without mistakes

-- no file has a mistake
pub record IsClean (bundle : Bundle) : Type 0 where
  pub cycles : List (List Span)
  pub are_cycles : AreCycles bundle.files cycles
  pub pure : List (List Ref)
  pub are_pure : ArePure bundle pure
  pub clean : (n : ℕ) → n < length bundle.files → AreMistakes bundle cycles pure n []

-- what is told of a file: those, of which there are few enough, and the order in which its reactive statements run, each once. A module
-- has none of either
pub record IsChecked (source : SourceFile) (c : CheckedComponent) : Type 0 where
  pub scopes_are : c.scopes ≡ told_scopes source.tree
  pub few : length c.scopes.cells ≤ CELL_LIMIT
  pub order_is : IsOrder (reads (cells_of source.tree) (statements_of source.tree)) c.order.items
  pub once : IsEachOnce (reads (cells_of source.tree) (statements_of source.tree)) c.order.items

-- what is told of each file of a program
pub record AreChecked (bundle : Bundle) (components : List CheckedComponent) : Type 0 where
  pub size : length components ≡ length bundle.files
  pub each : (n : ℕ) (source : SourceFile) (c : CheckedComponent) → slice_get bundle.files n ≡ Some source → slice_get components n ≡ Some c → IsChecked source c

-- ---- laws

-- a program is refused for one mistake alone
abbrev pub IsOneMistake : Type 0
IsOneMistake = (bundle : Bundle) (a b : CheckRefusal) → IsFirstMistake bundle a → IsFirstMistake bundle b → a ≡ b

-- and only where it isn't clean
abbrev pub IsMistakeOrClean : Type 0
IsMistakeOrClean = (bundle : Bundle) (a : CheckRefusal) → IsClean bundle → IsFirstMistake bundle a → ⊥
