-- Laws of the definitions.
use Rattle.std.specs.Prelude.{◌≡◌, ℕ, List}
use Rattle.sv_ast.specs.declared.files.Bundle.{Bundle}
use Rattle.sv_check.specs.declared.checked.CheckedComponent.{CheckedComponent}
use Rattle.sv_check.specs.Checked.{IsClean, AreChecked}
use Rattle.sv_compile.specs.Compile.{program}
use Rattle.sv_compile.specs.Modules.{AreModules}

-- a checked program is compiled to one program alone
abbrev pub IsOneProgram : Type 0
IsOneProgram = (bundle : Bundle) (a b : List CheckedComponent) → AreChecked bundle a → AreChecked bundle b → (modules : List ℕ) → program bundle a modules ≡ program bundle b modules

-- the module files of a program without mistakes run in one order alone
abbrev pub IsOneOrder : Type 0
IsOneOrder = (bundle : Bundle) (a b : List ℕ) → IsClean bundle → AreModules bundle.files a → AreModules bundle.files b → a ≡ b
