-- The markup of a component is such as compiling promises.
use Rattle.std.proofs.Common.{◌≡◌, ℕ, map, Option, Some, None, refl, slice_get}
use Rattle.std.specs.Option.{option_and_then}
use Rattle.sv_code.proofs.Each.{each_front}
use Rattle.sv_code.specs.Names.{Each}
use Rattle.sv_code.specs.Parts as parts
use Rattle.sv_code.specs.Within.{IsWithin, ArePartsWithin}
use Rattle.sv_code.specs.declared.program.FileCode.{FileCode}
use Rattle.sv_code.specs.declared.program.FileCode.TheVariants as file_code
use Rattle.sv_code.specs.declared.program.Program.{Program}
use Rattle.sv_code.specs.declared.program.ProgramFile.{ProgramFile}
use Rattle.sv_instance.specs.Standing.{Place}
use Rattle.sv_meaning.specs.Components as components
use Rattle.sv_meaning.specs.Components.{markup_of, component_at}
use Rattle.sv_right.proofs.Levels.{turn_at, each_at}
use Rattle.sv_right.specs.Fits.{Fits, AllFit}
use Rattle.sv_seen.proofs.Spots.{component_in}
use Rattle.sv_within.specs.Keys.{AreFileKeysSeen, AreAllKeysSeen}

module _ (p : Program) (within : ArePartsWithin p) (keys : AreAllKeysSeen p) where
  pub all_fit : AllFit p
  all_fit = record { within = within; keys = keys.tags }

  code_fits : (c : FileCode) → Each (IsWithin p) (parts.of_file c) → AreFileKeysSeen c → Fits p (markup_of (components.component_in c))
  code_fits (file_code.Component c) h k = record { within = h; keys = k }
  code_fits (file_code.Module m) h k = record { within = tt; keys = tt }

  file_fits : (n : ℕ) (o : Option ProgramFile) → slice_get p.files n ≡ o → Fits p (markup_of (option_and_then (λ f. components.component_in f.code) o))
  file_fits n None e = record { within = tt; keys = tt }
  file_fits n (Some f) e =
      code_fits f.code
      (turn_at (IsWithin p) (λ f. parts.of_file f.code) p.files n f (each_front (IsWithin p) (parts.in_turn (map (λ f. parts.of_file f.code) p.files)) _ within) e)
      (each_at (λ f. AreFileKeysSeen f.code) p.files n f keys.files e)

  pub markup_fits : (o : Option Place) → Fits p (markup_of (component_in p o))
  markup_fits None = record { within = tt; keys = tt }
  markup_fits (Some place) = file_fits place.component (slice_get p.files place.component) refl
