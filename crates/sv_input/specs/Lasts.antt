-- What holds of a page after a call, but where there was no memory.
use Rattle.std.specs.Prelude.{Result, Ok, Err}
use Rattle.sv_meaning.specs.declared.errors.EvalError.{EvalError}
use Rattle.sv_meaning.specs.declared.errors.EvalError.TheVariants.{Fault, NoMemory}

abbrev pub Lasts : {A : Type 0} → Result A EvalError → Type 0 → Type 0
Lasts (Ok a) p = p
Lasts (Err (Fault f)) p = p
Lasts (Err NoMemory) p = Unit {0}
