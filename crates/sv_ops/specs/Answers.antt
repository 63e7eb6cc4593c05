-- What code answers against what an operation gives. There may be no memory.
use Rattle.std.specs.Prelude.{◌≡◌, ℕ, Bool, ◌++◌, List, map, Option, None, Some, Result, Ok, Err}
use Rattle.sv_value.specs.Value.{text}
use Rattle.sv_value.specs.View.{view_of}
use Rattle.sv_value.specs.declared.value.Value.{Value}
use Rattle.sv_ops.specs.declared.faults.OpError.{OpError}
use Rattle.sv_ops.specs.declared.faults.OpError.TheVariants.{Fault, NoMemory}
use Rattle.sv_ops.specs.declared.given.Given.{Given}
use Rattle.sv_ops.specs.declared.visits.Verdict.{Verdict}
use Rattle.sv_ops.specs.declared.visits.Verdict.TheVariants as verdict
use Rattle.sv_ops.specs.Answer.{Answer, Gives, Refuses}
use Rattle.sv_ops.specs.Compare.{Equality, Tells, Cannot}
use Rattle.sv_ops.specs.Lists.{Search, Found, Lost}
use Rattle.sv_ops.specs.declared.faults.FaultKind.TheVariants.{NotText}
use Rattle.sv_ops.specs.Members.{Spread, Takes, TakesNone}
use Rattle.sv_ops.specs.Texts.{pieces, bytes}
use Rattle.sv_ops.specs.Visits.{Turn, Ends, Puts, Passes, Holds}

abbrev pub Answers : Result Given OpError → Answer → Type 0
Answers (Ok g) a = a ≡ Gives g.cost (view_of g.value)
Answers (Err (Fault k)) a = a ≡ Refuses k
Answers (Err NoMemory) a = Unit {0}

abbrev pub turn_of : Verdict → Turn
turn_of (verdict.Ends v) = Ends (view_of v)
turn_of (verdict.Puts v) = Puts (view_of v)
turn_of verdict.Passes = Passes
turn_of (verdict.Holds v) = Holds (view_of v)

-- whether two values are equal, with what telling it costs
abbrev pub TellsEquality : Option (Bool × ℕ) → Equality → Type 0
TellsEquality (Some p) e = e ≡ Tells p.1 p.0
TellsEquality None e = e ≡ Cannot

-- what `...` takes stands behind what there was
abbrev pub TakesItems : {A : Type 0} → Result (Unit {0}) OpError → List A → List A → Spread A → Type 0
TakesItems (Ok u) old new (Takes xs) = new ≡ old ++ xs
TakesItems (Ok u) old new (TakesNone k) = ⊥
TakesItems (Err (Fault k)) old new x = x ≡ TakesNone k
TakesItems (Err NoMemory) old new x = Unit {0}

-- where a value first stands, and what the search costs
abbrev pub FindsFirst : Option (Option ℕ × ℕ) → Search → Type 0
FindsFirst (Some p) s = s ≡ Found p.1 p.0
FindsFirst None s = s ≡ Lost

-- a text or texts, or that there is none
abbrev pub HasText : {A B : Type 0} → (A → B) → Result A OpError → Option B → Type 0
HasText shows (Ok t) o = o ≡ Some (shows t)
HasText shows (Err (Fault k)) o = (k ≡ NotText) × (o ≡ None)
HasText shows (Err NoMemory) o = Unit {0}

-- the pieces of a text, with their bytes
abbrev pub Splits : {A : Type 0} → (A → List Value) → Result (A × ℕ) OpError → (between s : List ℕ) → Type 0
Splits items (Ok p) between s = (map view_of (items p.0) ≡ map text (pieces between s)) × (p.1 ≡ bytes (pieces between s))
Splits items (Err (Fault k)) between s = ⊥
Splits items (Err NoMemory) between s = Unit {0}
