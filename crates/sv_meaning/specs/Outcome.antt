-- What running code gives, and how one thing is done after another.
use Rattle.std.specs.Prelude.{ℕ, zero, suc, ◌-◌, nat_le, Bool, true, false, Option, Some, None, if◌then◌else◌}
use Rattle.sv_base.specs.declared.span.Span.{Span}
use Rattle.sv_value.specs.Value.{Val}
use Rattle.sv_ops.specs.Answer.{Answer, Gives, Refuses}
use Rattle.sv_ops.specs.declared.faults.FaultKind.{FaultKind}
use Rattle.sv_ops.specs.declared.faults.FaultKind.TheVariants.{Steps}
use Rattle.sv_world.specs.declared.world.World.{World}
use Rattle.sv_meaning.specs.Env.{Env}

-- something with the world that is left, or a fault with it
pub data Ending (A : Type 0) : Type 0 where
  Ends : A → World → Ending A
  Fails : FaultKind → Span → World → Ending A

-- the same with the local names that are left
pub data Outcome (A : Type 0) : Type 0 where
  Done : A → Env → World → Outcome A
  Failed : FaultKind → Span → World → Outcome A

-- what code does where some names are open
abbrev pub Meaning : Type 0 → Type 0
Meaning A = Env → World → Outcome A

-- what is done in a world
abbrev pub Deed : Type 0 → Type 0
Deed A = World → Ending A

-- how a statement ends
pub data Flow : Type 0 where
  Next : Flow
  Broken : Flow
  Continued : Flow
  Returned : Val → Flow

module _ {A B : Type 0} where
  -- one thing, and then another with what it gave
  abbrev pub and_then : Outcome A → (A → Meaning B) → Outcome B
  and_then (Done a env w) go = go a env w
  and_then (Failed k s w) go = Failed k s w

  abbrev pub then_do : Ending A → (A → Deed B) → Ending B
  then_do (Ends a w) go = go a w
  then_do (Fails k s w) go = Fails k s w

module _ {A : Type 0} where
  -- a deed leaves the names as they are
  abbrev pub kept : Env → Ending A → Outcome A
  kept env (Ends a w) = Done a env w
  kept env (Fails k s w) = Failed k s w

  abbrev pub doing : Deed A → Meaning A
  doing deed env w = kept env (deed w)

  -- what is left without its names
  abbrev pub left : Outcome A → Ending A
  left (Done a env w) = Ends a w
  left (Failed k s w) = Fails k s w

  -- what is there, or a fault
  abbrev pub given : FaultKind → Span → Option A → Deed A
  given k s None w = Fails k s w
  given k s (Some a) w = Ends a w

  abbrev pub either : Bool → Meaning A → Meaning A → Meaning A
  either true m n = m
  either false m n = n

-- ---- steps

abbrev pub with_steps : ℕ → World → World
with_steps n w = record w { turn = record w.turn { steps = n } }

abbrev pub less_by : ℕ → ℕ → Option ℕ
less_by n steps = if nat_le n steps then Some (steps - n) else None

abbrev pub spent_in : {A : Type 0} → Option ℕ → Span → Deed A → Deed A
spent_in None s deed w = Fails Steps s w
spent_in (Some n) s deed w = deed (with_steps n w)

-- so many steps are taken first, where they are left
abbrev pub spent : {A : Type 0} → ℕ → Span → Deed A → Deed A
spent n s deed w = spent_in (less_by n w.turn.steps) s deed w

abbrev pub counted_in : {A : Type 0} → ℕ → Span → Meaning A → Meaning A
counted_in zero s m env w = Failed Steps s w
counted_in (suc n) s m env w = m env (with_steps n w)

-- one step is taken first
abbrev pub counted : {A : Type 0} → Span → Meaning A → Meaning A
counted s m env w = counted_in w.turn.steps s m env w

-- what an operation at a place gives
abbrev pub answered : Span → Answer → Deed Val
answered s (Gives cost v) w = spent cost s (Ends v) w
answered s (Refuses k) w = Fails k s w
