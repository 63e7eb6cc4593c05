-- Tasks that bring about what is wanted of a page, from what is so before.
use Rattle.std.proofs.Common.{◌≡◌, ℕ, zero, suc, List, [], ◌∷◌, Option, Some, None, refl}
use Rattle.sv_code.proofs.Each.{each_of}
use Rattle.sv_code.specs.Names.{Each}
use Rattle.sv_flush.specs.Destruction.{child_task}
use Rattle.sv_flush.specs.Flush.{at_front, while_queued, until_settled}
use Rattle.sv_flush.specs.Outcome.{Outcome, Done, Halted, Step, Task, and_then, each, changed}
use Rattle.sv_flush.specs.declared.page.Page.{Page}

-- where a step ends, the page is as wanted; nothing is said of one that is refused
abbrev pub Afterwards : (Page → Type 0) → {A : Type 0} → Outcome A → Type 0
Afterwards Q (Done a m) = Q m
Afterwards Q (Halted r m) = Unit {0}

pub record Brings (Q R : Page → Type 0) {A : Type 0} (t : Step A) : Type 0 where
  pub held : (m : Page) → Q m → Afterwards R (t m)

-- nothing is asked
abbrev pub Any : Page → Type 0
Any m = Unit {0}

pub after_then : (R S : Page → Type 0) {A B : Type 0} (o : Outcome A) (go : A → Step B) → Afterwards R o → ((a : A) (m : Page) → R m → Afterwards S (go a m)) → Afterwards S (and_then o go)
after_then R S (Done a m) go h k = k a m h
after_then R S (Halted r m) go h k = tt

pub after_any : {A : Type 0} (o : Outcome A) → Afterwards Any o
after_any (Done a m) = tt
after_any (Halted r m) = tt

pub anything : {A : Type 0} (t : Step A) → Brings Any Any t
anything t = record { held = λ m h. after_any (t m) }

-- whoever waits longest, if anybody does
abbrev NobodyWaits : Page → Type 0
NobodyWaits m = m.world.states.queue ≡ []

module _ {Q R S : Page → Type 0} where
  pub brings_then : {A B : Type 0} {t : Step A} {go : A → Step B} → Brings Q R t → ((a : A) → Brings R S (go a)) → Brings Q S (λ m. and_then (t m) go)
  brings_then {t = t} {go = go} k l = record { held = λ m h. after_then R S (t m) go (k.held m h) (λ a m' h'. (l a).held m' h') }

module _ (Q : Page → Type 0) where
  front : (m : Page) (queue : List ℕ) → m.world.states.queue ≡ queue → (somebody : ℕ → Outcome (Unit {0})) → Q m → ((n : ℕ) → Afterwards (λ u. Q u × NobodyWaits u) (somebody n))
      → Afterwards (λ u. Q u × NobodyWaits u) (at_front queue (Done tt m) somebody)
  front m [] e somebody h k = (h, e)
  front m (n ∷ queue) e somebody h k = k n

module _ {Q : Page → Type 0} where
  pub nothing_brings : Brings Q Q {A = Unit {0}} (λ m. Done tt m)
  nothing_brings = record { held = λ m h. h }

  pub changed_brings : {R : Page → Type 0} (f : Page → Page) → ((m : Page) → Q m → R (f m)) → Brings Q R (changed f)
  changed_brings f k = record { held = k }

  pub all_bring : {A : Type 0} (f : A → Task) (xs : List A) → Each (λ x. Brings Q Q (f x)) xs → Brings Q Q (each f xs)
  all_bring f [] k = record { held = λ m h. h }
  all_bring f (x ∷ xs) k = record { held = λ m h. after_then Q Q (f x m) (λ _. each f xs) (k.0.held m h) (λ a m' h'. (all_bring f xs k.1).held m' h') }

  pub each_brings : {A : Type 0} {f : A → Task} (xs : List A) → ((x : A) → Brings Q Q (f x)) → Brings Q Q (each f xs)
  each_brings {f = f} xs k = all_bring f xs (each_of (λ x. Brings Q Q (f x)) k xs)

  pub child_brings : {task : ℕ → Task} (o : Option ℕ) → ((n : ℕ) → Brings Q Q (task n)) → Brings Q Q (child_task task o)
  child_brings None k = record { held = λ m h. h }
  child_brings (Some n) k = k n

  -- ---- the queue

  pub while_brings : (times : ℕ) {task : ℕ → Task} → ((n : ℕ) → Brings Q Q (task n)) → Brings Q (λ u. Q u × NobodyWaits u) (while_queued times task)
  while_brings zero k = record { held = λ m h. front Q m m.world.states.queue refl _ h (λ n. tt) }
  while_brings (suc times) {task = task} k =
      record { held = λ m h. front Q m m.world.states.queue refl _ h (λ n. after_then Q (λ u. Q u × NobodyWaits u) (task n m) (λ _. while_queued times task) ((k n).held m h) (λ a m' h'. (while_brings times k).held m' h')) }

  pub settled_brings : {task : ℕ → Task} → ((n : ℕ) → Brings Q Q (task n)) → Brings Q (λ u. Q u × NobodyWaits u) (until_settled task)
  settled_brings k = record { held = λ m h. (while_brings m.counters.work k).held m h }
