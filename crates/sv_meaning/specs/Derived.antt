-- What a derived store comes to: its function is called on its inputs' values, in the turn, but apart from the world. It sees constants alone.
use Rattle.std.specs.Prelude.{ℕ, Bool, true, false, List, [], ◌∷◌, map, Some}
use Rattle.sv_code.specs.declared.program.Program.{Program}
use Rattle.sv_derived.specs.Derived.{Recipe}
use Rattle.sv_ops.specs.Answer.{Answer, gives, list_made}
use Rattle.sv_ops.specs.Members.{or_undefined}
use Rattle.sv_store.specs.Stores.{Store, value_at}
use Rattle.sv_value.specs.Value.{Val}
use Rattle.sv_view.specs.Level.{View}
use Rattle.sv_world.specs.World.{no_world, constants_view}
use Rattle.sv_world.specs.declared.world.World.{World}
use Rattle.sv_meaning.specs.Calls.{call_value, first}
use Rattle.sv_meaning.specs.Functions.{Mode, caller, silent}
use Rattle.sv_meaning.specs.Listeners.{teller}
use Rattle.sv_meaning.specs.Outcome.{Ending, Ends, Fails, Deed, then_do, answered}
use Rattle.sv_meaning.specs.Settling.{Derives}
use Rattle.sv_meaning.specs.Sight.{Ground}

-- ---- what the function is handed

abbrev pub input_values : List Store → List ℕ → List Val
input_values stores ids = map (λ id. or_undefined (value_at stores id)) ids

-- the list of the values of the inputs, or the value of the only one
abbrev pub handed : Bool → List Val → Answer
handed true vs = list_made vs
handed false vs = gives (first vs)

-- ---- its call

-- where it runs: no code there is that of a part
abbrev pub derived_ground : Program → View → Ground
derived_ground p v = record { program = p; sight = Some v; arrows = record { from = 0; to = 0 }; is_own = false }

-- nothing but the turn
abbrev pub apart : World → World
apart w = record no_world { turn = w.turn }

-- what is left of it: the turn
abbrev pub rejoined : World → Ending Val → Ending Val
rejoined w (Ends v w') = Ends v (record w { turn = w'.turn })
rejoined w (Fails k s w') = Fails k s (record w { turn = w'.turn })

abbrev pub called_apart : Program → (room owner : ℕ) → Recipe → Val → Deed Val
called_apart p room owner r v w = rejoined w (call_value (caller silent (derived_ground p (constants_view w owner)) room) r.span r.function (v ∷ []) (apart w))

-- the value of a derived store where so many calls may be open
abbrev pub derive : Program → (room : ℕ) → Derives
derive p room owner r w = then_do (answered r.span (handed r.takes_list (input_values w.states.stores r.inputs)) w) (called_apart p room owner r)

-- how scripts run
abbrev pub running : Program → Mode
running p = record { tells = teller p; derives = derive p }
