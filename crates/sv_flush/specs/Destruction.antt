-- Instances that go.
use Rattle.std.specs.Prelude.{ℕ, zero, suc, [], ◌∷◌, Option, Some, None}
use Rattle.sv_code.specs.declared.program.Program.{Program}
use Rattle.sv_flush.specs.Callbacks.{after, all_called_back}
use Rattle.sv_flush.specs.Outcome.{Task, in_turn, each, changed, nothing_done, scripted}
use Rattle.sv_flush.specs.Rounds.{waiting_callbacks, forgotten}
use Rattle.sv_flush.specs.declared.page.Page.{Page}
use Rattle.sv_instance.specs.declared.callbacks.When.TheVariants.{Destroy, Returned}
use Rattle.sv_shapes.specs.Showing.{places_of, child_at, without_child, removed as unshown}
use Rattle.sv_states.specs.Change.{removed}

-- it is no more: not its states and subscriptions, not what waits for it, not what was shown of it
abbrev pub gone : ℕ → Page → Page
gone n m = record m { world = record m.world { states = removed m.world.states n }; rounds = forgotten m.rounds n; showing = unshown m.showing n }

abbrev pub child_task : (ℕ → Task) → Option ℕ → Task
child_task task None = nothing_done
child_task task (Some n) = task n

-- the child at a place is taken away, and something is done with it
abbrev pub taken : (ℕ → Task) → ℕ → Task
taken task place m = child_task task (child_at m.showing place) (record m { showing = without_child m.showing place })

-- its afterUpdate callbacks that wait run, then its destroy callbacks and what its mount callbacks gave; its children go, and then it goes itself
abbrev pub destroyed_by : Task → Program → ℕ → Task
destroyed_by children p n =
    in_turn ((λ m. each (after p n) (waiting_callbacks m.rounds n) m) ∷ scripted (all_called_back p n Destroy) ∷ scripted (all_called_back p n Returned)
    ∷ children ∷ changed (gone n) ∷ [])

-- its children, in document order
abbrev pub each_child : (ℕ → Task) → ℕ → Task
each_child task n m = each (taken task) (places_of m.showing n) m

-- the children of an instance go, where so many components may stand in one another below it
unfoldable pub children_destroyed : ℕ → Program → ℕ → Task
children_destroyed zero p n = nothing_done
children_destroyed (suc room) p n = each_child (λ c. destroyed_by (children_destroyed room p c) p c) n

-- an instance goes
abbrev pub destroyed : ℕ → Program → ℕ → Task
destroyed room p n = destroyed_by (children_destroyed room p n) p n
