-- How a reader keeps how its stream stands.
use Rattle.std.specs.Prelude.{◌≡◌, ◌≤◌, ℕ, ◌+◌, ◌-◌, List, ◌++◌, length, drop, Result, Ok, Err}
use Rattle.sv_wire.specs.declared.flaw.Flaw.TheVariants.{Wants}
use Rattle.sv_wire.specs.declared.item.Placed.{Placed}
use Rattle.sv_wire.specs.declared.state.Part.{Part}
use Rattle.sv_wire.specs.declared.state.Part.TheVariants as part
use Rattle.sv_wire.specs.declared.state.State.{State}
use Rattle.sv_wire.specs.declared.state.State.TheVariants as state
use Rattle.sv_wire.specs.declared.step.Step.{Step}
use Rattle.sv_wire.specs.declared.step.Step.TheVariants as step
use Rattle.sv_wire.specs.declared.reader.WireError.{WireError}
use Rattle.sv_wire.specs.declared.reader.WireError.TheVariants as errors
use Rattle.sv_wire.specs.Spelling.{head}
use Rattle.sv_wire.specs.Reading.{item_at}
use Rattle.sv_wire.specs.Stream.{Standing, Begun, Open, Ended, Bad, Told, stands, behind, begun, told_at, told}

-- the bytes of what is unfinished, as part of a stream
abbrev pub standing_in : Part → List ℕ → Standing
standing_in part.Head held = Begun held
standing_in (part.Item at) held = Open at held

-- what they tell
abbrev pub from_part : Part → List ℕ → Told
from_part part.Head bytes = told bytes
from_part (part.Item at) bytes = told_at at bytes

-- they want so many bytes more
abbrev pub WantsMore : Part → List ℕ → ℕ → Type 0
WantsMore part.Head held count = begun head held ≡ Err (Wants count)
WantsMore (part.Item at) held count = item_at held ≡ Err (Wants count)

-- the offset behind so many bytes of it
abbrev pub counted : Part → ℕ → ℕ
counted part.Head len = len
counted (part.Item at) len = at + len

-- what is kept, with the bytes of what is unfinished
abbrev pub standing_of : State → List ℕ → Standing
standing_of (state.Unfinished unfinished needs) held = standing_in unfinished held
standing_of (state.Ended at) held = Ended at
standing_of (state.Bad at) held = Bad at

-- nothing can be said before the bytes are so many
abbrev pub IsSettled : State → List ℕ → Type 0
IsSettled (state.Unfinished unfinished needs) held = WantsMore unfinished held (needs - length held)
IsSettled (state.Ended at) held = Unit {0}
IsSettled (state.Bad at) held = Unit {0}

-- the list has more at its end
pub record Grown {A : Type 0} (old new : List A) : Type 0 where
  pub added : List A
  pub is : new ≡ old ++ added

-- an item was read, which has so many bytes
pub record IsRead (at : ℕ) (bytes : List ℕ) (count : ℕ) (old new : List Placed) : Type 0 where
  pub some : 1 ≤ count
  pub bound : count ≤ length bytes
  pub told : behind old (told_at at bytes) ≡ behind new (told_at (at + count) (drop count bytes))

-- it stands so, and no more is read
pub record IsStopped (at : ℕ) (bytes : List ℕ) (now : State) (old new : List Placed) : Type 0 where
  pub told : behind old (told_at at bytes) ≡ behind new (stands (standing_of now bytes))
  pub settled : IsSettled now bytes

abbrev pub Steps : (at : ℕ) (bytes : List ℕ) → Step → (old new : List Placed) → Type 0
Steps at bytes (step.Read count) old new = IsRead at bytes count old new
Steps at bytes (step.Stop now) old new = IsStopped at bytes now old new

-- bytes were read as far as possible: all but those behind the first so many are done with
pub record Reaches (was : Told) (bytes : List ℕ) (now : State) (used : ℕ) (old new : List Placed) : Type 0 where
  pub told : behind old was ≡ behind new (stands (standing_of now (drop used bytes)))
  pub settled : IsSettled now (drop used bytes)
  pub bound : used ≤ length bytes

-- what a reader answers that stands so
abbrev pub answer_of : Standing → Result (Unit {0}) WireError
answer_of (Begun bytes) = Ok tt
answer_of (Open at bytes) = Ok tt
answer_of (Ended at) = Ok tt
answer_of (Bad at) = Err (errors.Bad at)

-- memory was not wanting
abbrev pub IfRead : Result (Unit {0}) WireError → Type 0 → Type 0
IfRead (Ok u) P = P
IfRead (Err errors.NoMemory) P = Unit {0}
IfRead (Err (errors.Bad at)) P = P

-- it was
abbrev pub IfWants : Result (Unit {0}) WireError → Type 0 → Type 0
IfWants (Ok u) P = Unit {0}
IfWants (Err errors.NoMemory) P = P
IfWants (Err (errors.Bad at)) P = Unit {0}
