-- An instance whose script runs, beside the others: what is so of it from step to step.
use Rattle.std.proofs.Common.{◌≡◌, ◌≢◌, ℕ, ◌≤◌, Bool, true, false, List, length, Option, Some, None, is_some, refl, sym, ap, subst, ◌∙◌, arith, slice_set, if◌then◌else◌}
use Rattle.std.specs.Prelude.{not, ◌&&◌}
use Rattle.std.proofs.lemmas.Bool.{true≢false}
use Rattle.std.proofs.lemmas.Option.{none-some, same_Some}
use Rattle.sv_code.specs.declared.program.Component.{Component}
use Rattle.sv_code.specs.declared.program.Program.{Program}
use Rattle.sv_instance.specs.Cells as cells
use Rattle.sv_instance.specs.Subscriptions.{subscription_at}
use Rattle.sv_instance.specs.declared.instance.Instance.{Instance}
use Rattle.sv_instance.specs.declared.subscriptions.Subscription.{Subscription}
use Rattle.sv_meaning.specs.Components.{component_at}
use Rattle.sv_numbered.specs.Numbered.{at, altered}
use Rattle.sv_states.proofs.Making.{tally-subscribed}
use Rattle.sv_states.proofs.Naming.{sound-subscribed}
use Rattle.sv_states.proofs.Sounding.{sound-inert, sound-declared}
use Rattle.sv_states.specs.Assignment.{changes_in, cell_stored, taken}
use Rattle.sv_states.specs.Change.{declared, given, with_subscription, named_over, may_follow, subscribed_to}
use Rattle.sv_states.specs.Moving.{Goal, goal_of, comes, name_in}
use Rattle.sv_states.specs.Sound.{IsSound}
use Rattle.sv_states.specs.States.{States, live, with_instance, has_cell}
use Rattle.sv_states.specs.Waiting.{joins, queued, enqueued}
use Rattle.sv_store.specs.Stores.{Subscriber, IsOnce}
use Rattle.sv_value.specs.Value.{Val, undefined}
use Rattle.sv_subscribed.proofs.Following.{altered_at}
use Rattle.sv_subscribed.proofs.Once.{once-subscribed}
use Rattle.sv_subscribed.proofs.Standing.{Modules, Stand, nowhere}
use Rattle.sv_subscribed.proofs.Ways.{if_either}

-- a fact of an instance stays so whatever value a cell takes, and where the instance is queued
pub record Settles (B : Instance → Type 0) (cell : ℕ) : Type 0 where
  pub assigned : (i : Instance) (u : Val) → B i → B (record i { cells = cells.assigned i.cells cell u })
  pub declared : (i : Instance) (u : Val) → B i → B (record i { cells = cells.declared i.cells cell u })
  pub waits : (i : Instance) → B i → B (queued i)

module _ (p : Program) (many : ℕ) (ms : Modules) where
  -- all `$` names of an instance stand well
  abbrev pub AreNamed : Instance → Type 0
  AreNamed i = (c : Component) → component_at p i.place.component ≡ Some c → Stand many ms c.stores nowhere nowhere undefined i.subscriptions i.cells.now i.setup.constants

  module _ (n : ℕ) where
    -- so it is with all others, and this is so of the one
    abbrev pub Beside : (Instance → Type 0) → States → Type 0
    Beside A s = (m : ℕ) (i : Instance) → live s m ≡ Some i → (m ≢ n → AreNamed i) × (m ≡ n → A i)

    pub record Stage (A : Instance → Type 0) (s : States) : Type 0 where
      pub sound : IsSound s
      pub enough : many ≤ length s.stores
      pub once : IsOnce s.stores
      pub beside : Beside A s

    beside-altered : (A B : Instance → Type 0) (f : Instance → Instance) (s : States) → ((i : Instance) → live s n ≡ Some i → A i → B (f i)) → Beside A s → Beside B (with_instance f s n)
    beside-altered A B f s k h =
        altered_at (λ m i. (m ≢ n → AreNamed i) × (m ≡ n → A i)) (λ m i. (m ≢ n → AreNamed i) × (m ≡ n → B i)) f s n h
        (λ i there x. (λ other. absurd (other refl), λ same. k i there (x.1 refl)))
        (λ m i other x. (x.0, λ same. absurd (other same)))

    pub stage-mono : (A B : Instance → Type 0) (s : States) → ((i : Instance) → live s n ≡ Some i → A i → B i) → Stage A s → Stage B s
    stage-mono A B s k h = record {
      sound = h.sound;
      enough = h.enough;
      once = h.once;
      beside = λ m i there. ((h.beside m i there).0, λ same. k i (ap (live s) (sym same) ∙ there) ((h.beside m i there).1 same));
    }

    -- ---- a variable is declared

    pub stage-declared : (A B : Instance → Type 0) (s : States) (cell : ℕ) (v : Val) → ((i : Instance) → live s n ≡ Some i → A i → B (record i { cells = cells.declared i.cells cell v })) → Stage A s
        → Stage B (declared s (record { inst = n; cell = cell }) v)
    stage-declared A B s cell v k h = record { sound = sound-declared s (record { inst = n; cell = cell }) v h.sound; enough = h.enough; once = h.once; beside = beside-altered A B _ s k h.beside }

    -- ---- a constant gets its value

    pub stage-constant : (A B : Instance → Type 0) (s : States) (cell : ℕ) (v : Val)
        → ((i : Instance) → live s n ≡ Some i → A i → B (record i { setup = record i.setup { constants = slice_set i.setup.constants cell (Some v) } })) → Stage A s
        → Stage B (with_instance (λ i. record i { setup = record i.setup { constants = slice_set i.setup.constants cell (Some v) } }) s n)
    stage-constant A B s cell v k h = record { sound = sound-inert _ s n (λ i. refl) (λ i. refl) (λ i. refl) h.sound; enough = h.enough; once = h.once; beside = beside-altered A B _ s k h.beside }

    -- ---- a cell becomes that of a `$` name

    module _ (A B : Instance → Type 0) (s : States) (cell : ℕ) (source : Option ℕ) (v : Val) (settles : Settles B cell)
        (has : (i : Instance) → live s n ≡ Some i → A i → is_some (subscription_at i.subscriptions cell) ≡ true → B i)
        (new : (i : Instance) → live s n ≡ Some i → A i → subscription_at i.subscriptions cell ≡ None → B (with_subscription (record { cell = cell; source = source; store = (goal_of s.stores v).store }) i)) where
      abbrev q : Subscriber
      q = record { inst = n; cell = cell }

      beside-enqueued : (t : States) → Beside B t → Beside B (enqueued t n)
      beside-enqueued t h = if_either (λ lives. (m : ℕ) (i : Instance) → at lives m ≡ Some i → (m ≢ n → AreNamed i) × (m ≡ n → B i)) (joins (live t n)) (altered queued t.lives n) t.lives
          (beside-altered B B queued t (λ i there. settles.waits i) h) h

      beside-given : (t : States) (u : Val) → Beside B t → Beside B (given t q u)
      beside-given t u h = if_either (Beside B) (has_cell (live t n) cell) (taken t q u) (declared t q u)
          (if_either (Beside B) (changes_in (live t n) cell u) (enqueued (cell_stored t q u) n) t (beside-enqueued (cell_stored t q u) (beside-altered B B _ t (λ i there. settles.assigned i u) h)) h)
          (beside-altered B B _ t (λ i there. settles.declared i u) h)

      -- who may not has the name
      stays : may_follow s q ≡ false → Beside A s → Beside B s
      stays e h m i there = ((h m i there).0, λ same. let here : live s n ≡ Some i = ap (live s) (sym same) ∙ there in has i here ((h m i there).1 same) (by (live s n) here e)) where
        by : (o : Option Instance) → o ≡ Some i → (is_some o && not (is_some (name_in o cell))) ≡ false → is_some (subscription_at i.subscriptions cell) ≡ true
        by None k f = absurd (none-some i k)
        by (Some j) k f = subst (λ x. is_some (subscription_at x.subscriptions cell) ≡ true) (same_Some j i k) (some (is_some (subscription_at j.subscriptions cell)) f) where
          some : (b : Bool) → not b ≡ false → b ≡ true
          some true g = refl
          some false g = absurd (true≢false g)

      free : may_follow s q ≡ true → (i : Instance) → live s n ≡ Some i → subscription_at i.subscriptions cell ≡ None
      free e i here = by (live s n) here e where
        nothing : (o : Option Subscription) → not (is_some o) ≡ true → o ≡ None
        nothing None g = refl
        nothing (Some x) g = absurd (true≢false (sym g))

        by : (o : Option Instance) → o ≡ Some i → (is_some o && not (is_some (name_in o cell))) ≡ true → subscription_at i.subscriptions cell ≡ None
        by None k f = absurd (none-some i k)
        by (Some j) k f = subst (λ x. subscription_at x.subscriptions cell ≡ None) (same_Some j i k) (nothing (subscription_at j.subscriptions cell) f)

      pub stage-subscribed : Stage A s → Stage B (subscribed_to s q source v)
      stage-subscribed h = record {
        sound = sound-subscribed s q source v h.sound;
        enough = let e = ap (λ (x : List ℕ × ℕ). x.1) (tally-subscribed s q source v) in let k = h.enough in omega (arith, e, k);
        once = once-subscribed s q source v h.sound h.once;
        beside = by (may_follow s q) refl;
      } where
        g : Goal
        g = goal_of s.stores v

        by : (b : Bool) → may_follow s q ≡ b → Beside B (if b then named_over source g s q else s)
        by true e = beside-given (record s { lives = altered (with_subscription (record { cell = cell; source = source; store = g.store })) s.lives n; stores = comes g.store q s.stores }) g.value
            (beside-altered A B (with_subscription (record { cell = cell; source = source; store = g.store })) s (λ i there x. new i there x (free e i there)) h.beside)
        by false e = stays e h.beside
