-- The derived stores that a settling computes.
use Rattle.std.specs.Prelude.{ℕ, zero, suc, List, [], ◌∷◌, length, Option, Some, None}
use Rattle.sv_code.specs.declared.program.Program.{Program}
use Rattle.sv_derived.specs.Derived.{found, next}
use Rattle.sv_meaning.specs.Outcome.{Ending, Ends, Fails, Deed}
use Rattle.sv_meaning.specs.Runs.{calls}
use Rattle.sv_meaning.specs.Settling.{Derives, compute}
use Rattle.sv_world.specs.declared.world.World.{World}

-- those behind one that was computed, and none behind one whose function faulted
abbrev pub after : Ending (Unit {0}) → (World → List ℕ) → List ℕ
after (Ends u w) rest = rest w
after (Fails k s w) rest = []

abbrev pub first_computed : Option ℕ → Derives → (World → List ℕ) → World → List ℕ
first_computed None derives rest w = []
first_computed (Some id) derives rest w = id ∷ after (compute derives id (found w.states.derived id) w) rest

abbrev pub computed_within : ℕ → Derives → World → List ℕ
computed_within zero derives w = []
computed_within (suc room) derives w = first_computed (next w.states.derived) derives (computed_within room derives) w

-- by number, in the order in which they are computed
abbrev pub computed_in : Program → World → List ℕ
computed_in p w = computed_within (length w.states.derived) (calls p).derives w

-- a derived store is computed, on the values that its inputs have then
abbrev pub computed_at : Program → ℕ → Deed (Unit {0})
computed_at p id w = compute (calls p).derives id (found w.states.derived id) w
