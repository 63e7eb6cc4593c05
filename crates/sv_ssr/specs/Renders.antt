-- What code answers against a first page.
use Rattle.std.specs.Prelude.{◌≡◌, ℕ, true, false, Vec, Result, Ok, Err}
use Rattle.std.specs.declared.alloc.Global.{Global}
use Rattle.sv_code.specs.declared.program.Program.{Program}
use Rattle.sv_parts.specs.declared.refusal.PatchError.{PatchError}
use Rattle.sv_parts.specs.declared.refusal.PatchError.TheVariants.{Refused, NoMemory}
use Rattle.sv_play.specs.Refused.{refused_line}
use Rattle.sv_play.specs.Run.{Printed}

abbrev pub RendersBody : Program → Result (Vec ℕ Global) PatchError → Printed → Type 0
RendersBody p (Ok text) wanted = wanted ≡ record { text = text.items; refused = false }
RendersBody p (Err (Refused r)) wanted = wanted ≡ record { text = refused_line p r; refused = true }
RendersBody p (Err NoMemory) wanted = Unit {0}

pub record Renders (p : Program) (result : Result (Vec ℕ Global) PatchError) (wanted : Printed) : Type 0 where
  pub renders : RendersBody p result wanted
