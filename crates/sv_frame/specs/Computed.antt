-- Derived stores that are what their functions gave.
use Rattle.std.specs.Prelude.{◌≡◌, ℕ, false, Some, None}
use Rattle.sv_code.specs.declared.program.Program.{Program}
use Rattle.sv_derived.specs.Derived.{Derived, found, next}
use Rattle.sv_derived.specs.Order.{IsOrdered}
use Rattle.sv_meaning.specs.Derived.{input_values, derive}
use Rattle.sv_meaning.specs.Outcome.{Ends, Deed}
use Rattle.sv_states.specs.Board.{IsMade}
use Rattle.sv_states.specs.States.{States}
use Rattle.sv_store.specs.Stores.{value_at}
use Rattle.sv_value.specs.Value.{Val}
use Rattle.sv_world.specs.declared.world.World.{World}

-- a derived store has the value that its function gave in some world in which its inputs had the values that they have now
pub record IsComputed (p : Program) (s : States) (d : Derived) : Type 0 where
  pub room : ℕ
  pub before : World
  pub after : World
  pub value : Val
  pub gave : derive p room d.owner d.recipe before ≡ Ends value after
  pub inputs : input_values before.states.stores d.recipe.inputs ≡ input_values s.stores d.recipe.inputs
  pub has : value_at s.stores d.id ≡ Some value

-- no derived store is pending, and each that isn't frozen has what its function gave
pub record AreComputed (p : Program) (s : States) : Type 0 where
  pub ordered : IsOrdered s.derived
  pub made : IsMade s
  pub idle : next s.derived ≡ None
  pub computed : (id : ℕ) (d : Derived) → found s.derived id ≡ Some d → d.is_frozen ≡ false → IsComputed p s d

-- so a deed leaves them where it ends
abbrev pub LeavesComputed : {A : Type 0} → Program → Deed A → Type 0
LeavesComputed {A = A} p deed = (w w' : World) (a : A) → AreComputed p w.states → deed w ≡ Ends a w' → AreComputed p w'.states
