-- Updates, and rounds until nobody waits.
use Rattle.std.specs.Prelude.{ℕ, zero, suc, false, List, [], ◌∷◌, reverse}
use Rattle.sv_code.specs.declared.program.Program.{Program}
use Rattle.sv_flush.specs.Callbacks.{all_mounted, after}
use Rattle.sv_flush.specs.Creation.{readied, after_waits, effects}
use Rattle.sv_flush.specs.Outcome.{Outcome, Done, Halted, Task, and_then, in_turn, each, changed, scripted, work}
use Rattle.sv_flush.specs.Rounds.{Binding, Waiting, mounting, after_update}
use Rattle.sv_flush.specs.Showing.{shown}
use Rattle.sv_flush.specs.declared.page.Page.{Page}
use Rattle.sv_meaning.specs.Outcome.{Ends, Deed, then_do}
use Rattle.sv_meaning.specs.Refused.{unless}
use Rattle.sv_meaning.specs.Runs.{each_in_turn, settle}
use Rattle.sv_parts.specs.declared.refusal.Refusal.TheVariants.{Budget}
use Rattle.sv_states.specs.Assignment.{bound_up}
use Rattle.sv_states.specs.Refusal.{bind_refusal}
use Rattle.sv_states.specs.declared.states.TheConstants.{DEPTH_LIMIT}

-- an instance is readied and shown, which takes a unit of work; then its afterUpdate callbacks wait
unfoldable pub updated : Program → ℕ → Task
updated p n = in_turn (work ∷ readied p n false ∷ shown p (effects DEPTH_LIMIT p n) n ∷ changed (after_waits n) ∷ [])

abbrev pub at_front : List ℕ → Outcome (Unit {0}) → (ℕ → Outcome (Unit {0})) → Outcome (Unit {0})
at_front [] nobody somebody = nobody
at_front (n ∷ queue) nobody somebody = somebody n

-- something is done with whoever has waited longest, until nobody waits; it takes a unit of work each time, so that it is done as often as there
-- are units at most
abbrev pub while_queued : ℕ → (ℕ → Task) → Task
while_queued zero task m = at_front m.world.states.queue (Done tt m) (λ n. Halted Budget m)
while_queued (suc times) task m = at_front m.world.states.queue (Done tt m) (λ n. and_then (task n m) (λ _. while_queued times task))

abbrev pub until_settled : (ℕ → Task) → Task
until_settled task m = while_queued m.counters.work task m

-- ---- a round

-- a prop is bound to a variable of the owner, unless something speaks against it
abbrev pub bound_at : Binding → Deed (Unit {0})
bound_at b w = unless (bind_refusal w.states b.child b.bound) b.span (λ w'. Ends tt (record w' { states = bound_up w'.states b.child b.bound })) w

-- the same, after which derived stores settle
abbrev pub bound : Program → Binding → Deed (Unit {0})
bound p b w = then_do (bound_at b w) (λ u. settle p)

-- the binding callbacks, the last first
abbrev pub all_bound : Program → Task
all_bound p m = scripted (each_in_turn (bound p) (reverse m.rounds.bindings)) (record m { rounds = record m.rounds { bindings = [] } })

abbrev pub rendered_one : Program → Waiting → Task
rendered_one p (mounting n) = scripted (all_mounted p n)
rendered_one p (after_update n at) = after p n at

-- the render queue in order
abbrev pub rendered : Program → Task
rendered p m = each (rendered_one p) m.rounds.render (record m { rounds = record m.rounds { render = [] } })

-- those who wait are updated in order, those who join them meanwhile among them; then come the binding callbacks, and then the render queue
unfoldable pub round : Program → Task
round p = in_turn (until_settled (updated p) ∷ all_bound p ∷ rendered p ∷ [])

-- ---- a flush

abbrev pub flush_ended : Page → Page
flush_ended m = record m { rounds = record m.rounds { ran = [] } }

-- rounds until nobody waits, one at least
unfoldable pub flushed : Program → Task
flushed p = in_turn (round p ∷ until_settled (λ _. round p) ∷ changed flush_ended ∷ [])
