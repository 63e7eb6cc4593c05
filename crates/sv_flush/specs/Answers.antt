-- What scripts answer, as the page's answer.
use Rattle.std.specs.Prelude.{Result, Ok, Err}
use Rattle.sv_meaning.specs.declared.errors.EvalError.{EvalError}
use Rattle.sv_meaning.specs.declared.errors.EvalError.TheVariants as eval
use Rattle.sv_parts.specs.declared.refusal.PatchError.{PatchError}
use Rattle.sv_parts.specs.declared.refusal.PatchError.TheVariants as patch
use Rattle.sv_parts.specs.declared.refusal.Refusal.TheVariants.{Fault}

abbrev pub told : Result (Unit {0}) EvalError → Result (Unit {0}) PatchError
told (Ok a) = Ok a
told (Err (eval.Fault f)) = Err (patch.Refused (Fault f))
told (Err eval.NoMemory) = Err patch.NoMemory
