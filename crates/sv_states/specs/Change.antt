-- What else changes the states.
use Rattle.std.specs.Prelude.{ℕ, suc, Bool, not, ◌&&◌, if◌then◌else◌, [], ◌∷◌, ◌++◌, length, Option, Some, None, is_some, slice_set}
use Rattle.sv_derived.specs.Derived.{Recipe, with_one, frozen}
use Rattle.sv_numbered.specs.Numbered.{altered}
use Rattle.sv_value.specs.Value.{Val}
use Rattle.sv_view.specs.Level.{View}
use Rattle.sv_store.specs.Stores.{Subscriber, made, dropped}
use Rattle.sv_instance.specs.Cells as cells
use Rattle.sv_instance.specs.Standing.{Place, Standing}
use Rattle.sv_instance.specs.declared.instance.Instance.{Instance}
use Rattle.sv_instance.specs.declared.setup.Setup.{Setup}
use Rattle.sv_instance.specs.declared.subscriptions.Subscription.{Subscription}
use Rattle.sv_states.specs.States.{States, live, with_instance, depth_of, has_cell}
use Rattle.sv_states.specs.Waiting.{enqueued, without}
use Rattle.sv_states.specs.Moving.{Goal, goal_of, comes, name_in}
use Rattle.sv_states.specs.Assignment.{taken}

-- what is left with an instance changed
abbrev pub with_setup : States → ℕ → Setup → States
with_setup s n setup = with_instance (λ i. record i { setup = setup }) s n

-- how deep the parent is, the root being 1; 0 where there is none
abbrev pub depth_above : States → Option ℕ → ℕ
depth_above s None = 0
depth_above s (Some p) = depth_of (live s p)

abbrev pub place_below : States → ℕ → Option ℕ → Option Standing → Place
place_below s component parent standing = record { component = component; depth = suc (depth_above s parent); parent = parent; standing = standing }

-- one more instance
abbrev pub added : States → Instance → States
added s i = record s { lives = s.lives ++ Some i ∷ [] }

-- an instance goes, with its subscriptions and its entry in the queue; the derived stores that it made keep their values
abbrev pub removed : States → ℕ → States
removed s n = record s {
  lives = slice_set s.lives n None;
  stores = dropped s.stores n;
  derived = if is_some (live s n) then frozen s.derived n else s.derived;
  queue = without s.queue n;
}

-- a cell gets its first value
abbrev pub declared : States → Subscriber → Val → States
declared s p v = with_instance (λ i. record i { cells = cells.declared i.cells p.cell v }) s p.inst

-- an instance gets its owner's view, which counts as a change of the cell that stands for it
abbrev pub with_view : ℕ → View → Instance → Instance
with_view c view i = record i { cells = cells.touched i.cells c; owner_view = Some view }

abbrev pub viewed : States → ℕ → ℕ → View → States
viewed s n c view = if has_cell (live s n) c then enqueued (with_instance (with_view c view) s n) n else s

-- one more store
abbrev pub with_store : States → Val → States
with_store s v = record s { stores = made s.stores v }

-- one more store, which is computed by a recipe
abbrev pub with_derived : States → ℕ → Recipe → Val → States
with_derived s owner recipe v = record s { stores = made s.stores v; derived = with_one s.derived (length s.stores) owner recipe }

-- the first value of a cell, or a value that it takes
abbrev pub given : States → Subscriber → Val → States
given s p v = if has_cell (live s p.inst) p.cell then taken s p v else declared s p v

abbrev pub with_subscription : Subscription → Instance → Instance
with_subscription x i = record i { subscriptions = i.subscriptions ++ x ∷ [] }

-- the name looks at a store, if at one, and has the value there
abbrev pub named_over : Option ℕ → Goal → States → Subscriber → States
named_over source g s p = given (record s { lives = altered (with_subscription (record { cell = p.cell; source = source; store = g.store })) s.lives p.inst; stores = comes g.store p s.stores }) p g.value

-- whether a cell can become that of a `$` name
abbrev pub may_follow : States → Subscriber → Bool
may_follow s p = is_some (live s p.inst) && not (is_some (name_in (live s p.inst) p.cell))

-- a cell becomes that of the `$` name of a constant or a variable with a value
abbrev pub subscribed_to : States → Subscriber → Option ℕ → Val → States
subscribed_to s p source v = if may_follow s p then named_over source (goal_of s.stores v) s p else s
