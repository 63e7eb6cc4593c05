-- What is done to a page, step by step.
use Rattle.std.specs.Prelude.{◌-◌, nat_le, Bool, true, false, List, [], ◌∷◌}
use Rattle.sv_flush.specs.declared.page.Page.{Page}
use Rattle.sv_meaning.specs.Outcome.{Ending, Ends, Fails, Deed}
use Rattle.sv_parts.specs.declared.refusal.Refusal.{Refusal}
use Rattle.sv_parts.specs.declared.refusal.Refusal.TheVariants.{Fault, Budget}
use Rattle.sv_world.specs.declared.world.World.{World}

-- what a step gave, or the first refusal, each with the page as it was left
pub data Outcome (A : Type 0) : Type 0 where
  Done : A → Page → Outcome A
  Halted : Refusal → Page → Outcome A

abbrev pub Step : Type 0 → Type 0
Step A = Page → Outcome A

-- a step that gives nothing
abbrev pub Task : Type 0
Task = Step (Unit {0})

-- one step, and then another with what it gave
abbrev pub and_then : {A B : Type 0} → Outcome A → (A → Step B) → Outcome B
and_then (Done a m) next = next a m
and_then (Halted r m) next = Halted r m

-- tasks one after the other
abbrev pub in_turn : List Task → Task
in_turn [] m = Done tt m
in_turn (t ∷ ts) m = and_then (t m) (λ _. in_turn ts)

-- a task for each item in turn
abbrev pub each : {A : Type 0} → (A → Task) → List A → Task
each f [] m = Done tt m
each f (x ∷ xs) m = and_then (f x m) (λ _. each f xs)

-- a change of the page, of its world, or of nothing
abbrev pub changed : (Page → Page) → Task
changed f m = Done tt (f m)

abbrev pub in_world : (World → World) → Task
in_world f m = Done tt (record m { world = f m.world })

abbrev pub nothing_done : Task
nothing_done m = Done tt m

-- how scripts ended, as what became of the page
abbrev pub ended : {A : Type 0} → Page → Ending A → Outcome A
ended m (Ends a w) = Done a (record m { world = w })
ended m (Fails k s w) = Halted (Fault (record { kind = k; span = s })) (record m { world = w })

-- what scripts do in the world of the page
abbrev pub scripted : Deed (Unit {0}) → Task
scripted deed m = ended m (deed m.world)

abbrev pub work_if : Bool → Task
work_if false m = Halted Budget m
work_if true m = Done tt (record m { counters = record m.counters { work = m.counters.work - 1 } })

-- a unit of work is taken
abbrev pub work : Task
work m = work_if (nat_le 1 m.counters.work) m
