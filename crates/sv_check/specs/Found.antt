-- What holds between the files of a bundle, as it is found before they are looked at one by one.
use Rattle.std.specs.Prelude.{◌≡◌}
use Rattle.sv_ast.specs.declared.files.Bundle.{Bundle}
use Rattle.sv_imports.specs.Cycles.{AreCycles}
use Rattle.sv_imports.specs.Unknown.{unknown_imports}
use Rattle.sv_slots.specs.Sheets.{sheets}
use Rattle.sv_effects.specs.Stains.{ArePure}
use Rattle.sv_check.specs.declared.found.Found.{Found}

-- each part is as its definition says
pub record AreFound (bundle : Bundle) (found : Found) : Type 0 where
  pub are_cycles : AreCycles bundle.files found.cycles
  pub are_unknown : found.unknown ≡ unknown_imports bundle
  pub are_pure : ArePure bundle found.pure
  pub are_sheets : found.sheets ≡ sheets bundle
