-- What code answers that reads a text.
use Rattle.std.specs.Prelude.{◌≡◌, List, ◌++◌, Option, None, Some, Result, Ok, Err, ⊤, option_map}
use Rattle.sv_select.specs.declared.refusal.SelectError.{SelectError}
use Rattle.sv_select.specs.declared.refusal.SelectError.TheVariants.{BadSelector, NoMemory}

-- it refuses exactly where nothing of the kind is written, unless memory fails
abbrev pub Fails : {A : Type 0} → SelectError → Option A → Type 0
Fails BadSelector written = written ≡ None
Fails NoMemory written = ⊤

-- it answers what is written there, or fails
abbrev pub Reads : {A : Type 0} → Result A SelectError → Option A → Type 0
Reads (Ok x) written = written ≡ Some x
Reads (Err error) written = Fails error written

-- the same, where what is written there goes behind a list
abbrev pub Adds : {A U : Type 0} → Result U SelectError → (old new : List A) → Option (List A) → Type 0
Adds (Ok u) old new written = option_map (λ more. old ++ more) written ≡ Some new
Adds (Err error) old new written = Fails error written
