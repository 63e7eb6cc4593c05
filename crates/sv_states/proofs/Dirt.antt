-- Who has a changed cell is queued.
use Rattle.std.proofs.Common.{◌≡◌, ◌≢◌, ℕ, List, [], ◌∷◌, Option, Some, None, refl, sym, ap, ◌∙◌, Bool, true, false, is_some, ⊎_elim, ◌⊎◌, inl, inr, subst}
use Rattle.std.specs.Prelude.{not, ◌&&◌}
use Rattle.std.proofs.lemmas.Bool.{cases_eq, cases_Bool, and_parts}
use Rattle.sv_value.specs.Value.{Val}
use Rattle.sv_store.specs.Stores.{Subscriber, subscribers_at, differs_at}
use Rattle.sv_instance.specs.Cells as cells
use Rattle.sv_instance.specs.declared.instance.Instance.{Instance}
use Rattle.sv_states.specs.States.{States, live, with_instance}
use Rattle.sv_states.specs.Waiting.{is_waiting, has_shown, joins, queued, enqueued}
use Rattle.sv_states.specs.Assignment.{changes_in, cell_stored, handing, taken, told, store_set, end_set, written}
use Rattle.sv_states.specs.Sound.{has_changed, IsSound}
use Rattle.sv_states.proofs.Altering.{at-altered_same, at-altered_other}
use Rattle.sv_states.proofs.Calm.{IsCalm, store_stored, enqueued-idle, enqueued-joins}
use Rattle.sv_states.proofs.Due.{AllDue}

-- an instance with a changed cell waits
abbrev pub IsWaiter : Option Instance → Type 0
IsWaiter o = (c : ℕ) → has_changed o c ≡ true → is_waiting o ≡ true

-- all but some are
abbrev pub AllWait : (ℕ → Type 0) → States → Type 0
AllWait E s = (n : ℕ) → (E n → ⊥) → IsWaiter (live s n)

changed_shown : (o : Option Instance) (c : ℕ) → has_changed o c ≡ true → has_shown o ≡ true
changed_shown None c e = cc
changed_shown (Some i) c e = (and_parts (is_some i.cells.seen) (cells.is_dirty i.cells c) e).0

not_joining : (o : Option Instance) → joins o ≡ false → has_shown o ≡ true → is_waiting o ≡ true
not_joining None e s = cc
not_joining (Some i) e s = lemma i.queued (ap (λ b. b && not i.queued) (sym s) ∙ e)
  where
    lemma : (q : Bool) → (true && not q) ≡ false → q ≡ true
    lemma true h = refl
    lemma false h = cc

joining_there : (o : Option Instance) → joins o ≡ true → (i : Instance) × (o ≡ Some i)
joining_there None e = absurd (let x : false ≡ true = e in cc)
joining_there (Some i) e = (i, refl)

-- who was just queued waits, if it has had a snapshot
waiter-enqueued : (s : States) (n : ℕ) → IsWaiter (live (enqueued s n) n)
waiter-enqueued s n = ⊎_elim
    (λ b.
    let some = joining_there (live s n) b in
    let e = ap (λ t. live t n) (enqueued-joins s n b) ∙ at-altered_same queued s.lives n some.0 some.1 in
    subst IsWaiter (sym e) (λ c _. refl))
    (λ b. subst (λ t. IsWaiter (live t n)) (sym (enqueued-idle s n b)) (λ c h. not_joining (live s n) b (changed_shown (live s n) c h)))
    (cases_Bool (joins (live s n)))

others-enqueued : (s : States) (n m : ℕ) → m ≢ n → live (enqueued s n) m ≡ live s m
others-enqueued s n m other = ⊎_elim
    (λ b. ap (λ t. live t m) (enqueued-joins s n b) ∙ at-altered_other queued s.lives n m other)
    (λ b. ap (λ t. live t m) (enqueued-idle s n b))
    (cases_Bool (joins (live s n)))

-- one that is queued isn't excepted any more
pub wait-enqueued : (E : ℕ → Type 0) (s : States) (n : ℕ) → AllWait (λ m. E m ⊎ (m ≡ n)) s → AllWait E (enqueued s n)
wait-enqueued E s n all m free = ⊎_elim
    (λ same. subst (λ k. IsWaiter (live (enqueued s n) k)) (sym same) (waiter-enqueued s n))
    (λ other. subst IsWaiter (sym (others-enqueued s n m other)) (all m (λ e. ⊎_elim free other e)))
    (cases_eq m n)

-- one that is changed is excepted
pub wait-altered : (E : ℕ → Type 0) (f : Instance → Instance) (s : States) (n : ℕ) → AllWait E s → AllWait (λ m. E m ⊎ (m ≡ n)) (with_instance f s n)
wait-altered E f s n all m free = subst IsWaiter (sym (at-altered_other f s.lives n m (λ q. free (inr q)))) (all m (λ e. free (inl e)))

pub wait-handing : (p : Subscriber) (v : Val) (next : States → States) → ((F : ℕ → Type 0) (t : States) → AllWait F t → AllWait F (next t)) → (E : ℕ → Type 0) (s : States) → AllWait E s → AllWait E (handing p v next s)
wait-handing p v next keeps E s all = ⊎_elim
    (λ b. rw b (wait-enqueued E (next (cell_stored s p v)) p.inst (keeps (λ m. E m ⊎ (m ≡ p.inst)) (cell_stored s p v) (wait-altered E (λ i. record i { cells = cells.assigned i.cells p.cell v }) s p.inst all))))
    (λ b. rw b all)
    (cases_Bool (changes_in (live s p.inst) p.cell v))

pub wait-taken : (E : ℕ → Type 0) (s : States) (p : Subscriber) (v : Val) → AllWait E s → AllWait E (taken s p v)
wait-taken E s p v all = wait-handing p v (λ t. t) (λ F t q. q) E s all

wait-told : (ps : List Subscriber) (v : Val) (E : ℕ → Type 0) (s : States) → AllWait E s → AllWait E (told ps v s)
wait-told [] v E s all = all
wait-told (p ∷ ps) v E s all = wait-told ps v E (taken s p v) (wait-taken E s p v all)

wait-set : (id : ℕ) (v : Val) (E : ℕ → Type 0) (s : States) → AllWait E s → AllWait E (store_set s id v)
wait-set id v E s all = ⊎_elim
    (λ b. rw b (wait-told (subscribers_at s.stores id) v E (store_stored s id v) all))
    (λ b. rw b all)
    (cases_Bool (differs_at s.stores id v))

wait-end : (store : Option ℕ) (v : Val) (E : ℕ → Type 0) (s : States) → AllWait E s → AllWait E (end_set store v s)
wait-end None v E s all = all
wait-end (Some id) v E s all = wait-set id v E s all

pub wait-written : (ps : List Subscriber) (store : Option ℕ) (v : Val) (E : ℕ → Type 0) (s : States) → AllWait E s → AllWait E (written ps store v s)
wait-written [] store v E s all = wait-end store v E s all
wait-written (p ∷ ps) store v E s all = wait-handing p v (written ps store v) (wait-written ps store v) E s all

pub sound_of : (s : States) → IsCalm s → AllWait (λ _. ⊥) s → AllDue s → IsSound s
sound_of s k all due = record { seen = k.seen; queued = k.queued; shown = k.shown; dirty = λ n c h. all n (λ e. e) c h; due = due; subscribed = k.subscribed }

pub waiters_of : (s : States) → IsSound s → AllWait (λ _. ⊥) s
waiters_of s k n free c h = k.dirty n c h
