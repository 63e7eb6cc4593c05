-- What holds of the states whoever has changed cells: snapshots, the queue, and subscriptions.
use Rattle.std.proofs.Common.{◌≡◌, ◌≢◌, ℕ, List, [], ◌∷◌, ◌++◌, Option, Some, None, refl, sym, ap, ◌∙◌, arith, true, false, cond, is_some, nat_eq, ⊎_elim, subst}
use Rattle.std.specs.Prelude.{not}
use Rattle.std.specs.List.{list_any}
use Rattle.std.proofs.lemmas.Bool.{cases_eq, cases_Bool, and_parts, not-true, eq-eqb, ne_eqb}
use Rattle.sv_value.specs.Value.{Val}
use Rattle.sv_numbered.specs.Numbered.{at, altered}
use Rattle.sv_derived.specs.Derived.{marked}
use Rattle.sv_store.specs.Stores.{Subscriber, same_subscriber, with_value, subscribers_at, differs_at}
use Rattle.sv_instance.specs.Cells as cells
use Rattle.sv_instance.specs.Subscriptions.{subscription_at}
use Rattle.sv_instance.specs.declared.instance.Instance.{Instance}
use Rattle.sv_states.specs.States.{States, live, with_instance}
use Rattle.sv_states.specs.Waiting.{is_waiting, has_shown, joins, queued, enqueued, times}
use Rattle.sv_states.specs.Assignment.{changes_in, cell_stored, handing, taken, told, store_set, end_set, written}
use Rattle.sv_states.specs.Sound.{IsSeen, looks_at, has_subscription, is_subscriber, IsSound}
use Rattle.sv_states.proofs.Altering.{at-altered_same, at-altered_none, at-altered_other, option_cases}
use Rattle.sv_states.proofs.Later.{seen-assigned}
use Rattle.sv_states.proofs.Times.{times_push}
use Rattle.sv_states.proofs.Subscribing.{subscribers-set}

-- a fact of each instance, before and after one is changed
pub each_altered : (P : ℕ → Option Instance → Type 0) (f : Instance → Instance) (lives : List (Option Instance)) (n : ℕ) → ((m : ℕ) → P m (at lives m))
    → ((i : Instance) → at lives n ≡ Some i → P n (Some i) → P n (Some (f i))) → (m : ℕ) → P m (at (altered f lives n) m)
each_altered P f lives n all new m = ⊎_elim
    (λ same. subst (λ k. P k (at (altered f lives n) k)) (sym same) (⊎_elim
    (λ none. subst (P n) (sym (at-altered_none f lives n none)) (subst (P n) none (all n)))
    (λ some. subst (P n) (sym (at-altered_same f lives n some.0 some.1)) (new some.0 some.1 (subst (P n) some.1 (all n))))
    (option_cases (at lives n))))
    (λ other. subst (P m) (sym (at-altered_other f lives n m other)) (all m))
    (cases_eq m n)

pub record IsCalm (s : States) : Type 0 where
  pub seen : (n : ℕ) → IsSeen (live s n)
  pub queued : (n : ℕ) → times s.queue n ≡ cond (is_waiting (live s n)) 1 0
  pub shown : (n : ℕ) → is_waiting (live s n) ≡ true → has_shown (live s n) ≡ true
  pub subscribed : (n c id : ℕ) → is_subscriber s n c id ≡ has_subscription (live s n) c id

pub calm_of : (s : States) → IsSound s → IsCalm s
calm_of s k = record { seen = k.seen; queued = k.queued; shown = k.shown; subscribed = k.subscribed }

-- an instance changed in its cells alone
pub calm-altered : (f : Instance → Instance) (s : States) (n : ℕ) → IsCalm s → ((i : Instance) → IsSeen (Some i) → IsSeen (Some (f i))) → ((i : Instance) → (f i).queued ≡ i.queued)
    → ((i : Instance) → is_some (f i).cells.seen ≡ is_some i.cells.seen) → ((i : Instance) → (f i).subscriptions ≡ i.subscriptions) → IsCalm (with_instance f s n)
calm-altered f s n k seen idle there subscriptions = record {
  seen = each_altered (λ m o. IsSeen o) f s.lives n k.seen (λ i _ p. seen i p);
  queued = each_altered (λ m o. times s.queue m ≡ cond (is_waiting o) 1 0) f s.lives n k.queued (λ i _ p. p ∙ ap (λ w. cond w 1 0) (sym (idle i)));
  shown = each_altered (λ m o. is_waiting o ≡ true → has_shown o ≡ true) f s.lives n k.shown (λ i _ p w. there i ∙ p (sym (idle i) ∙ w));
  subscribed = each_altered (λ m o. (c id : ℕ) → is_subscriber s m c id ≡ has_subscription o c id) f s.lives n k.subscribed (λ i _ p c id. p c id ∙ ap (λ l. looks_at id (subscription_at l c)) (sym (subscriptions i)));
}

joins_parts : (o : Option Instance) → joins o ≡ true → (is_waiting o ≡ false) × (has_shown o ≡ true)
joins_parts None e = cc
joins_parts (Some i) e = let p = and_parts (is_some i.cells.seen) (not i.queued) e in (not-true i.queued p.1, p.0)

pub enqueued-idle : (s : States) (n : ℕ) → joins (live s n) ≡ false → enqueued s n ≡ s
enqueued-idle s n b = rw b refl

pub enqueued-joins : (s : States) (n : ℕ) → joins (live s n) ≡ true → enqueued s n ≡ record s { lives = altered queued s.lives n; queue = s.queue ++ n ∷ [] }
enqueued-joins s n b = rw b refl

pub calm-enqueued : (s : States) (n : ℕ) → IsCalm s → IsCalm (enqueued s n)
calm-enqueued s n k = ⊎_elim
    (λ b. subst IsCalm (sym (enqueued-joins s n b)) (joined b))
    (λ b. subst IsCalm (sym (enqueued-idle s n b)) k)
    (cases_Bool (joins (live s n)))
  where
    none : joins (live s n) ≡ true → times s.queue n ≡ 0
    none b = k.queued n ∙ ap (λ w. cond w 1 0) (joins_parts (live s n) b).0

    times-same : (m : ℕ) → m ≢ n → times (s.queue ++ n ∷ []) m ≡ times s.queue m
    times-same m other = let e = times_push s.queue n m in let z : ◌≡◌ {A = ℕ} (cond (nat_eq n m) 1 0) 0 = ap (λ w. cond w 1 0) (ne_eqb n m (λ q. other (sym q))) in omega (arith, e, z)

    queued' : joins (live s n) ≡ true → (m : ℕ) → times (s.queue ++ n ∷ []) m ≡ cond (is_waiting (at (altered queued s.lives n) m)) 1 0
    queued' b m = ⊎_elim
        (λ same. ⊎_elim
        (λ nobody. absurd (let q = sym b ∙ ap joins nobody in cc))
        (λ some.
        let e = times_push s.queue n n in
        let o : ◌≡◌ {A = ℕ} (cond (nat_eq n n) 1 0) 1 = ap (λ w. cond w 1 0) (eq-eqb n n refl) in
        let z = none b in
        let one : times (s.queue ++ n ∷ []) n ≡ 1 = omega (arith, e, o, z) in
        ap (times (s.queue ++ n ∷ [])) same ∙ one ∙ sym (ap (λ x. cond (is_waiting x) 1 0) (ap (at (altered queued s.lives n)) same ∙ at-altered_same queued s.lives n some.0 some.1)))
        (option_cases (live s n)))
        (λ other. times-same m other ∙ k.queued m ∙ sym (ap (λ x. cond (is_waiting x) 1 0) (at-altered_other queued s.lives n m other)))
        (cases_eq m n)

    joined : joins (live s n) ≡ true → IsCalm (record s { lives = altered queued s.lives n; queue = s.queue ++ n ∷ [] })
    joined b = record {
      seen = each_altered (λ m o. IsSeen o) queued s.lives n k.seen (λ i _ p. p);
      queued = queued' b;
      shown = each_altered (λ m o. is_waiting o ≡ true → has_shown o ≡ true) queued s.lives n k.shown (λ i there p w. ap has_shown (sym there) ∙ (joins_parts (live s n) b).1);
      subscribed = each_altered (λ m o. (c id : ℕ) → is_subscriber s m c id ≡ has_subscription o c id) queued s.lives n k.subscribed (λ i _ p. p);
    }

pub calm-stored : (s : States) (p : Subscriber) (v : Val) → IsCalm s → IsCalm (cell_stored s p v)
calm-stored s p v k = calm-altered (λ i. record i { cells = cells.assigned i.cells p.cell v }) s p.inst k (λ i q. seen-assigned i.cells p.cell v q) (λ i. refl) (λ i. refl) (λ i. refl)

pub calm-handing : (p : Subscriber) (v : Val) (next : States → States) (s : States) → ((t : States) → IsCalm t → IsCalm (next t)) → IsCalm s → IsCalm (handing p v next s)
calm-handing p v next s keeps k = ⊎_elim
    (λ b. rw b (calm-enqueued (next (cell_stored s p v)) p.inst (keeps (cell_stored s p v) (calm-stored s p v k))))
    (λ b. rw b k)
    (cases_Bool (changes_in (live s p.inst) p.cell v))

pub calm-taken : (s : States) (p : Subscriber) (v : Val) → IsCalm s → IsCalm (taken s p v)
calm-taken s p v k = calm-handing p v (λ t. t) s (λ t q. q) k

calm-told : (ps : List Subscriber) (v : Val) (s : States) → IsCalm s → IsCalm (told ps v s)
calm-told [] v s k = k
calm-told (p ∷ ps) v s k = calm-told ps v (taken s p v) (calm-taken s p v k)

-- a store alone takes the value, and what is derived of it is pending
abbrev pub store_stored : States → ℕ → Val → States
store_stored s id v = record s { stores = with_value s.stores id v; derived = marked s.derived id }

pub calm-value : (s : States) (id : ℕ) (v : Val) → IsCalm s → IsCalm (store_stored s id v)
calm-value s id v k = record {
  seen = k.seen;
  queued = k.queued;
  shown = k.shown;
  subscribed = λ n c other. ap (list_any (same_subscriber (record { inst = n; cell = c }))) (subscribers-set s.stores id other v) ∙ k.subscribed n c other;
}

calm-set : (s : States) (id : ℕ) (v : Val) → IsCalm s → IsCalm (store_set s id v)
calm-set s id v k = ⊎_elim
    (λ b. rw b (calm-told (subscribers_at s.stores id) v (store_stored s id v) (calm-value s id v k)))
    (λ b. rw b k)
    (cases_Bool (differs_at s.stores id v))

calm-end : (store : Option ℕ) (v : Val) (s : States) → IsCalm s → IsCalm (end_set store v s)
calm-end None v s k = k
calm-end (Some id) v s k = calm-set s id v k

pub calm-written : (ps : List Subscriber) (store : Option ℕ) (v : Val) (s : States) → IsCalm s → IsCalm (written ps store v s)
calm-written [] store v s k = calm-end store v s k
calm-written (p ∷ ps) store v s k = calm-handing p v (written ps store v) s (calm-written ps store v) k
