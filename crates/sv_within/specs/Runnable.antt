-- Programs that can be run.
use Rattle.sv_code.specs.Compiled.{IsCompiled}
use Rattle.sv_code.specs.declared.program.Program.{Program}
use Rattle.sv_within.specs.Keys.{AreAllKeysSeen}

-- what `compile` promises of a program: what holds together in it, and that the list of each block looks at what its keys look at
pub record IsRunnable (p : Program) : Type 0 where
  pub compiled : IsCompiled p
  pub keys : AreAllKeysSeen p
