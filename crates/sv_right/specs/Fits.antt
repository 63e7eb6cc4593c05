-- What compiling promises of markup, as far as a patch rests on it: parts read nothing but what they look at, and a list looks at what the key of
-- its rows looks at.
use Rattle.std.specs.Prelude.{List}
use Rattle.sv_code.specs.Names.{Each}
use Rattle.sv_code.specs.Parts.{of_frags}
use Rattle.sv_code.specs.Within.{IsWithin, ArePartsWithin}
use Rattle.sv_code.specs.declared.fragments.Frag.{Frag}
use Rattle.sv_code.specs.declared.program.Program.{Program}
use Rattle.sv_within.specs.Keys.{AreKeysSeen, AreTagKeysSeen}

-- fragments of a program
pub record Fits (p : Program) (frags : List Frag) : Type 0 where
  pub within : Each (IsWithin p) (of_frags frags)
  pub keys : AreKeysSeen frags

-- so it is in the content of all tags
pub record AllFit (p : Program) : Type 0 where
  pub within : ArePartsWithin p
  pub keys : AreTagKeysSeen p.tags
