-- Evaluations that are counted.
use Rattle.std.specs.Prelude.{◌≡◌, ℕ, ◌+◌, Result, Ok, Err}
use Rattle.sv_meaning.specs.declared.errors.EvalError.{EvalError}
use Rattle.sv_meaning.specs.declared.errors.EvalError.TheVariants.{Fault, NoMemory}
use Rattle.sv_parts.specs.declared.tally.Tally.{Tally}
use Rattle.sv_value.specs.declared.value.Value.{Value}

-- one more evaluation
abbrev pub one_more : Tally → Tally
one_more t = record { count = t.count + 1 }

-- a value and a fault count one evaluation; nothing is said where there is no memory
abbrev pub Counts : Result Value EvalError → Tally → Tally → Type 0
Counts (Ok value) old new = new ≡ one_more old
Counts (Err (Fault fault)) old new = new ≡ one_more old
Counts (Err NoMemory) old new = Unit {0}
