-- What speaks against an assignment, one level further.
use Rattle.std.proofs.Common.{◌≡◌, ℕ, zero, suc, ◌-◌, ◌<◌, Bool, Option, Some, None, Err, refl, sym, ap, ◌∙◌, arith, true, false, subst, ⊎_elim}
use Rattle.std.proofs.lemmas.Bool.{cases_Bool}
use Rattle.sv_value.specs.Value.{Val}
use Rattle.sv_store.specs.Stores.{Subscriber}
use Rattle.sv_instance.specs.Cells as cells
use Rattle.sv_instance.specs.Bound.{Bound, bound_at}
use Rattle.sv_instance.specs.Subscriptions.{subscription_at, follower_of}
use Rattle.sv_instance.specs.declared.instance.Instance.{Instance}
use Rattle.sv_instance.specs.declared.subscriptions.Subscription.{Subscription}
use Rattle.sv_states.specs.States.{States, live, depth_of, is_derived}
use Rattle.sv_states.specs.Moving.{may_hold}
use Rattle.sv_states.specs.Refusal.{store_refusal, name_refusal, first_of, held_refusal, into_refusal, refusal_step, refusal, sent_refusal, IsAnswer}
use Rattle.sv_states.specs.Assignment.{up}
use Rattle.sv_states.specs.Ways.{above}
use Rattle.sv_states.proofs.Going.{up-stop, up-go}
use Rattle.sv_states.specs.declared.error.AssignError.{AssignError}
use Rattle.sv_states.specs.declared.error.AssignError.TheVariants.{ReadOnly, NotAStore, NoMemory}

refusal-suc : (room : ℕ) (s : States) (v : Val) (n c : ℕ) → 0 < room → refusal room s v n c ≡ refusal_step s v (live s n) c (refusal (room - 1) s v)
refusal-suc zero s v n c h = absurd (omega arith)
refusal-suc (suc room) s v n c h = let e : room ≡ suc room - 1 = omega arith in ap (λ r. refusal_step s v (live s n) c (refusal r s v)) e

-- at a cell that takes the value
module _ (room : ℕ) (s : States) (v : Val) (n c : ℕ) (i : Instance) (h : 0 < room) (there : live s n ≡ Some i) (none : subscription_at i.subscriptions c ≡ None) (changes : cells.changes i.cells c v ≡ true) where
  here : refusal room s v n c ≡ first_of (up None (bound_at i.setup.bounds c) (refusal (room - 1) s v)) (held_refusal (follower_of i.subscriptions c) v)
  here =
      refusal-suc room s v n c h
      ∙ ap (λ o. refusal_step s v o c (refusal (room - 1) s v)) there
      ∙ (λ k. into_refusal s v (none k) (changes k) (follower_of i.subscriptions c) (bound_at i.setup.bounds c) (refusal (room - 1) s v))

  -- where nothing is above it
  pub refused-here : above (bound_at i.setup.bounds c) ≡ None → refusal room s v n c ≡ held_refusal (follower_of i.subscriptions c) v
  refused-here e = here ∙ ap (λ o. first_of o (held_refusal (follower_of i.subscriptions c) v)) (up-stop None (bound_at i.setup.bounds c) (refusal (room - 1) s v) e)

  -- where what is above it refuses or doesn't
  pub refused-above : (b : Subscriber) (o : Option AssignError) → above (bound_at i.setup.bounds c) ≡ Some b → refusal (room - 1) s v b.inst b.cell ≡ o → refusal room s v n c ≡ first_of o (held_refusal (follower_of i.subscriptions c) v)
  refused-above b o e is = here ∙ ap (λ x. first_of x (held_refusal (follower_of i.subscriptions c) v)) (up-go None (bound_at i.setup.bounds c) (refusal (room - 1) s v) b e ∙ is)

-- ---- what speaks against it isn't want of memory

abbrev pub IsRefusal : Option AssignError → Type 0
IsRefusal None = Unit {0}
IsRefusal (Some ReadOnly) = Unit {0}
IsRefusal (Some NotAStore) = Unit {0}
IsRefusal (Some NoMemory) = ⊥

store_is : (s : States) (id : ℕ) → IsRefusal (store_refusal s id)
store_is s id = ⊎_elim (λ b. rw b tt) (λ b. rw b tt) (cases_Bool (is_derived s id))

name_is : (s : States) (o : Option ℕ) → IsRefusal (name_refusal s o)
name_is s None = tt
name_is s (Some id) = store_is s id

held_is : (o : Option ℕ) (v : Val) → IsRefusal (held_refusal o v)
held_is None v = tt
held_is (Some c) v = ⊎_elim (λ b. rw b tt) (λ b. rw b tt) (cases_Bool (may_hold v))

first_is : (o p : Option AssignError) → IsRefusal o → IsRefusal p → IsRefusal (first_of o p)
first_is None p h k = k
first_is (Some e) p h k = h

up_is : (b : Option Bound) (next : ℕ → ℕ → Option AssignError) → ((n c : ℕ) → IsRefusal (next n c)) → IsRefusal (up None b next)
up_is None next h = tt
up_is (Some b) next h = h b.owner b.target

into_is : (s : States) (v : Val) (x : Option Subscription) (t : Bool) (f : Option ℕ) (b : Option Bound) (next : ℕ → ℕ → Option AssignError) → ((n c : ℕ) → IsRefusal (next n c)) → IsRefusal (into_refusal s v x t f b next)
into_is s v (Some x) t f b next h = name_is s x.store
into_is s v None true f b next h = first_is (up None b next) (held_refusal f v) (up_is b next h) (held_is f v)
into_is s v None false f b next h = tt

step_is : (s : States) (v : Val) (o : Option Instance) (c : ℕ) (next : ℕ → ℕ → Option AssignError) → ((n d : ℕ) → IsRefusal (next n d)) → IsRefusal (refusal_step s v o c next)
step_is s v None c next h = tt
step_is s v (Some i) c next h = into_is s v (subscription_at i.subscriptions c) (cells.changes i.cells c v) (follower_of i.subscriptions c) (bound_at i.setup.bounds c) next h

pub refusal_is : (room : ℕ) (s : States) (v : Val) (n c : ℕ) → IsRefusal (refusal room s v n c)
refusal_is zero s v n c = tt
refusal_is (suc room) s v n c = step_is s v (live s n) c (refusal room s v) (refusal_is room s v)

pub sent_is : (o : Option Val) (s : States) (n c : ℕ) → IsRefusal (sent_refusal o s n c)
sent_is None s n c = tt
sent_is (Some v) s n c = refusal_is (depth_of (live s n)) s v n c

answer_err : (A : Type 0) (e : AssignError) → IsRefusal (Some e) → IsAnswer {A = A} (Some e) (Err e)
answer_err A ReadOnly h = refl
answer_err A NotAStore h = refl
answer_err A NoMemory h = absurd h

pub answer_of : (A : Type 0) (e : AssignError) (o : Option AssignError) → Some e ≡ o → IsRefusal o → IsAnswer {A = A} o (Err e)
answer_of A e o is h = subst (λ x. IsAnswer {A = A} x (Err e)) is (answer_err A e (subst IsRefusal (sym is) h))
