-- One step is taken, or none is left.
use Rattle.std.specs.Prelude.{◌≡◌, suc, Result, Ok, Err}
use Rattle.sv_base.specs.declared.span.Span.{Span}
use Rattle.sv_ops.specs.declared.faults.FaultKind.TheVariants.{Steps}
use Rattle.sv_world.specs.declared.world.World.{World}
use Rattle.sv_meaning.specs.Outcome.{with_steps}
use Rattle.sv_meaning.specs.declared.errors.EvalError.{EvalError}
use Rattle.sv_meaning.specs.declared.errors.EvalError.TheVariants.{Fault}

abbrev pub Counts : Result (Unit {0}) EvalError → Span → World → World → Type 0
Counts (Ok u) s old new = old ≡ with_steps (suc new.turn.steps) new
Counts (Err e) s old new = (e ≡ Fault (record { kind = Steps; span = s })) × (old.turn.steps ≡ 0) × (new ≡ old)
