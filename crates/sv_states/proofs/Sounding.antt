-- What holds at every moment, after each change.
use Rattle.std.proofs.Common.{◌≡◌, ◌≢◌, ℕ, zero, suc, List, [], ◌∷◌, ◌++◌, length, Option, Some, None, refl, sym, ap, ◌∙◌, arith, true, false, cond, slice_set, is_some, nat_eq, ⊎_elim, subst}
use Rattle.std.specs.Prelude.{not, ◌&&◌, ◌||◌}
use Rattle.std.specs.List.{list_any, filter}
use Rattle.std.proofs.lemmas.Bool.{cases_eq, cases_lt, cases_Bool, eqb-true, eqb-false, eq-eqb, ne_eqb, true≢false}
use Rattle.std.proofs.lemmas.List.{get_or_append_left, get_or_push, get_or_past, length_push, get_or-set_same, get_or-set_other, set_past}
use Rattle.sv_value.specs.Value.{Val}
use Rattle.sv_view.specs.Cell.{Cell}
use Rattle.sv_view.specs.Level.{View}
use Rattle.sv_numbered.specs.Numbered.{at, altered}
use Rattle.sv_derived.specs.Derived.{Derived, Recipe, with_one, done}
use Rattle.sv_store.specs.Stores.{Store, Subscriber, same_subscriber, made, subscribers_at, is_other, dropped}
use Rattle.sv_instance.specs.Cells as cells
use Rattle.sv_instance.specs.Subscriptions.{subscription_at}
use Rattle.sv_instance.specs.declared.instance.Instance.{Instance}
use Rattle.sv_instance.specs.declared.setup.Setup.{Setup}
use Rattle.sv_states.specs.States.{States, live, with_instance, has_cell}
use Rattle.sv_states.specs.Waiting.{is_waiting, has_shown, enqueued, without, times, shown, snapped}
use Rattle.sv_states.specs.Assignment.{taken, written, computed}
use Rattle.sv_states.specs.Change.{with_setup, added, removed, declared, with_view, viewed, with_store, with_derived, given}
use Rattle.sv_states.specs.Prepared.{IsNew}
use Rattle.sv_states.specs.Sound.{DirtyCell, IsLater, IsSeen, looks_at, has_subscription, is_subscriber, IsSound}
use Rattle.sv_states.proofs.Altering.{at-altered_same, at-altered_none, at-altered_other, option_cases}
use Rattle.sv_states.proofs.Later.{seen-touched, seen-declared, seen-snapped, now-declared}
use Rattle.sv_states.proofs.Times.{without-absent, times-without_same, times-without_other}
use Rattle.sv_states.proofs.Calm.{each_altered, calm_of, calm-altered, calm-enqueued, calm-taken, calm-written}
use Rattle.sv_states.proofs.Due.{due-altered, due-enqueued, due-taken, due-written, dirty-touched, touched-dirty}
use Rattle.sv_states.proofs.Dirt.{IsWaiter, wait-enqueued, wait-altered, wait-taken, wait-written, sound_of, waiters_of}

pub sound-written : (s : States) (ps : List Subscriber) (store : Option ℕ) (v : Val) → IsSound s → IsSound (written ps store v s)
sound-written s ps store v k = sound_of (written ps store v s) (calm-written ps store v s (calm_of s k)) (wait-written ps store v (λ _. ⊥) s (waiters_of s k)) (due-written ps store v s (calm_of s k) k.due)

pub sound-taken : (s : States) (p : Subscriber) (v : Val) → IsSound s → IsSound (taken s p v)
sound-taken s p v k = sound_of (taken s p v) (calm-taken s p v (calm_of s k)) (wait-taken (λ _. ⊥) s p v (waiters_of s k)) (due-taken s p v (calm_of s k) k.due)

-- an instance whose cells, subscriptions and place in the queue stay
pub sound-inert : (f : Instance → Instance) (s : States) (n : ℕ) → ((i : Instance) → (f i).cells ≡ i.cells) → ((i : Instance) → (f i).queued ≡ i.queued) → ((i : Instance) → (f i).subscriptions ≡ i.subscriptions)
    → IsSound s → IsSound (with_instance f s n)
sound-inert f s n cells' idle subscriptions k = sound_of (with_instance f s n)
    (calm-altered f s n (calm_of s k) (λ i p old is c. subst (λ x. IsLater (cells.cell_at old c) (cells.cell_at x.now c)) (sym (cells' i)) (p old (sym (ap (λ x. x.seen) (cells' i)) ∙ is) c)) idle (λ i. ap (λ x. is_some x.seen) (cells' i)) subscriptions)
    (λ m free. each_altered (λ _ o. IsWaiter o) f s.lives n (λ j. waiters_of s k j (λ e. e)) (λ i _ p c h. idle i ∙ p c (sym (ap (λ x. is_some x.seen && cells.is_dirty x c) (cells' i)) ∙ h)) m)
    (due-altered f s n k.due (λ i _ d h. ap (λ x. cells.is_dirty x d) (cells' i) ∙ h) idle)

pub sound-setup : (s : States) (n : ℕ) (setup : Setup) → IsSound s → IsSound (with_setup s n setup)
sound-setup s n setup k = sound-inert (λ i. record i { setup = setup }) s n (λ i. refl) (λ i. refl) (λ i. refl) k

-- the cell that stands for the owner's view changed
viewed_dirty : (s : States) (n c : ℕ) (view : View) → IsSound s → has_cell (live s n) c ≡ true → DirtyCell (live (with_instance (with_view c view) s n) n)
viewed_dirty s n c view k b = ⊎_elim
    (λ none. absurd (true≢false (sym b ∙ ap (λ o. has_cell o c) none)))
    (λ some. subst DirtyCell (sym (at-altered_same (with_view c view) s.lives n some.0 some.1))
    (record { cell = c; dirty = touched-dirty some.0.cells c (subst IsSeen some.1 (k.seen n)) (ap (λ o. has_cell o c) (sym some.1) ∙ b) }))
    (option_cases (live s n))

pub sound-viewed : (s : States) (n c : ℕ) (view : View) → IsSound s → IsSound (viewed s n c view)
sound-viewed s n c view k = ⊎_elim (λ b. rw b (there b)) (λ b. rw b k) (cases_Bool (has_cell (live s n) c))
  where
    there : has_cell (live s n) c ≡ true → IsSound (enqueued (with_instance (with_view c view) s n) n)
    there b = sound_of (enqueued (with_instance (with_view c view) s n) n)
        (calm-enqueued (with_instance (with_view c view) s n) n (calm-altered (with_view c view) s n (calm_of s k) (λ i p. seen-touched i.cells c p) (λ i. refl) (λ i. refl) (λ i. refl)))
        (wait-enqueued (λ _. ⊥) (with_instance (with_view c view) s n) n (wait-altered (λ _. ⊥) (with_view c view) s n (waiters_of s k)))
        (due-enqueued (with_instance (with_view c view) s n) n (due-altered (with_view c view) s n k.due (λ i here d. dirty-touched i.cells c (subst IsSeen here (k.seen n)) d) (λ i. refl)) (viewed_dirty s n c view k b))

-- a declaration is no change
waiter-declared : (i : Instance) (c : ℕ) (v : Val) → IsWaiter (Some i) → IsWaiter (Some (record i { cells = cells.declared i.cells c v }))
waiter-declared i c v p d h = p d (lemma i.cells.seen refl h)
  where
    lemma : (o : Option (List (Option Cell))) → i.cells.seen ≡ o → (is_some i.cells.seen && cells.is_dirty (cells.declared i.cells c v) d) ≡ true → (is_some i.cells.seen && cells.is_dirty i.cells d) ≡ true
    lemma None e g = absurd (true≢false (sym g ∙ ap (λ x. is_some x && cells.is_dirty_since x (cells.declared i.cells c v).now d) e))
    lemma (Some old) e g = ap (λ l. is_some i.cells.seen && cells.is_dirty_since i.cells.seen l d) (sym (now-declared i.cells c v old e)) ∙ g

dirty-declared : (i : Instance) (c : ℕ) (v : Val) (d : ℕ) → cells.is_dirty i.cells d ≡ true → cells.is_dirty (cells.declared i.cells c v) d ≡ true
dirty-declared i c v d h = over i.cells.seen refl h
  where
    over : (o : Option (List (Option Cell))) → i.cells.seen ≡ o → cells.is_dirty_since o i.cells.now d ≡ true → cells.is_dirty_since o (cells.declared i.cells c v).now d ≡ true
    over None e g = refl
    over (Some old) e g = ap (λ l. cells.is_dirty_since (Some old) l d) (now-declared i.cells c v old e) ∙ g

pub sound-declared : (s : States) (p : Subscriber) (v : Val) → IsSound s → IsSound (declared s p v)
sound-declared s p v k =
    let f : Instance → Instance = λ i. record i { cells = cells.declared i.cells p.cell v } in
    sound_of (declared s p v)
    (calm-altered f s p.inst (calm_of s k) (λ i q. seen-declared i.cells p.cell v q) (λ i. refl) (λ i. refl) (λ i. refl))
    (λ m free. each_altered (λ _ o. IsWaiter o) f s.lives p.inst (λ j. waiters_of s k j (λ e. e)) (λ i _ q. waiter-declared i p.cell v q) m)
    (due-altered f s p.inst k.due (λ i here d h. dirty-declared i p.cell v d h) (λ i. refl))

-- a snapshot makes all cells clean
waiter-shown : (i : Instance) → IsWaiter (Some (shown i))
waiter-shown i c h = absurd (true≢false (sym h ∙ ap not (eq-eqb (cells.count_at i.cells.now c) (cells.count_at i.cells.now c) refl)))

pub sound-snapped : (s : States) (n : ℕ) → IsSound s → IsSound (snapped s n)
sound-snapped s n k = record {
  seen = each_altered (λ _ o. IsSeen o) shown s.lives n k.seen (λ i _ _. seen-snapped i.cells);
  queued = left;
  shown = each_altered (λ _ o. is_waiting o ≡ true → has_shown o ≡ true) shown s.lives n k.shown (λ i _ _ _. refl);
  dirty = λ m c h. each_altered (λ _ o. IsWaiter o) shown s.lives n (λ j. waiters_of s k j (λ e. e)) (λ i _ _. waiter-shown i) m c h;
  due = each_altered (λ _ o. is_waiting o ≡ true → DirtyCell o) shown s.lives n k.due (λ i _ _ w. absurd (true≢false (sym w)));
  subscribed = each_altered (λ m o. (c id : ℕ) → is_subscriber s m c id ≡ has_subscription o c id) shown s.lives n k.subscribed (λ i _ p. p);
}
  where
    gone : times (without s.queue n) n ≡ 0
    gone = ⊎_elim
        (λ b. let one : times s.queue n ≡ 1 = k.queued n ∙ ap (λ w. cond w 1 0) b in let e = times-without_same s.queue n (omega (arith, one)) in omega (arith, e, one))
        (λ b. let z : times s.queue n ≡ 0 = k.queued n ∙ ap (λ w. cond w 1 0) b in ap (λ q. times q n) (without-absent s.queue n z) ∙ z)
        (cases_Bool (is_waiting (live s n)))

    left : (m : ℕ) → times (without s.queue n) m ≡ cond (is_waiting (at (altered shown s.lives n) m)) 1 0
    left m = ⊎_elim
        (λ same. ap (times (without s.queue n)) same ∙ gone ∙ ⊎_elim
        (λ none. sym (ap (λ o. cond (is_waiting o) 1 0) (ap (at (altered shown s.lives n)) same ∙ at-altered_none shown s.lives n none)))
        (λ some. sym (ap (λ o. cond (is_waiting o) 1 0) (ap (at (altered shown s.lives n)) same ∙ at-altered_same shown s.lives n some.0 some.1)))
        (option_cases (live s n)))
        (λ other. times-without_other s.queue n m other ∙ k.queued m ∙ sym (ap (λ o. cond (is_waiting o) 1 0) (at-altered_other shown s.lives n m other)))
        (cases_eq m n)

subscribers-made : (stores : List Store) (v : Val) (id : ℕ) → subscribers_at (made stores v) id ≡ subscribers_at stores id
subscribers-made [] v zero = refl
subscribers-made [] v (suc id) = refl
subscribers-made (x ∷ stores) v zero = refl
subscribers-made (x ∷ stores) v (suc id) = subscribers-made stores v id

pub sound-store : (s : States) (v : Val) → IsSound s → IsSound (with_store s v)
sound-store s v k = record {
  seen = k.seen;
  queued = k.queued;
  shown = k.shown;
  dirty = k.dirty;
  due = k.due;
  subscribed = λ n c id. ap (list_any (same_subscriber (record { inst = n; cell = c }))) (subscribers-made s.stores v id) ∙ k.subscribed n c id;
}

-- who derives a store is told nowhere else
sound-graph : (s : States) (derived : List Derived) → IsSound s → IsSound (record s { derived = derived })
sound-graph s derived k = record { seen = k.seen; queued = k.queued; shown = k.shown; dirty = k.dirty; due = k.due; subscribed = k.subscribed }

pub sound-derived : (s : States) (owner : ℕ) (r : Recipe) (v : Val) → IsSound s → IsSound (with_derived s owner r v)
sound-derived s owner r v k = sound-graph (with_store s v) (with_one s.derived (length s.stores) owner r) (sound-store s v k)

pub sound-computed : (s : States) (id : ℕ) (v : Val) → IsSound s → IsSound (computed s id v)
sound-computed s id v k = sound-written (record s { derived = done s.derived id }) [] (Some id) v (sound-graph s (done s.derived id) k)

-- a fact of each instance, with one more, which has the place behind the last
each_added : (P : ℕ → Option Instance → Type 0) (lives : List (Option Instance)) (i : Instance) → ((m : ℕ) → P m (at lives m)) → (P (length lives) None → P (length lives) (Some i)) → (m : ℕ) → P m (at (lives ++ Some i ∷ []) m)
each_added P lives i all new m = ⊎_elim
    (λ below. subst (P m) (sym (get_or_append_left lives (Some i ∷ []) None m below)) (all m))
    (λ above. ⊎_elim
    (λ same. subst (λ j. P j (at (lives ++ Some i ∷ []) j)) (sym same) (subst (P (length lives)) (sym (get_or_push lives (Some i) None (length lives) refl)) (new (subst (P (length lives)) (get_or_past lives (length lives) None (omega arith)) (all (length lives))))))
    (λ other. let l = length_push lives (Some i) in let ne : m ≢ length lives = other in
    subst (P m) (get_or_past lives m None above ∙ sym (get_or_past (lives ++ Some i ∷ []) m None (omega (arith, l)))) (all m))
    (cases_eq m (length lives)))
    (cases_lt m (length lives))

pub sound-added : (s : States) (i : Instance) → IsNew i → IsSound s → IsSound (added s i)
sound-added s i new k = record {
  seen = each_added (λ _ o. IsSeen o) s.lives i k.seen (λ _ old is. absurd (let e = sym new.unshown ∙ is in cc));
  queued = each_added (λ m o. times s.queue m ≡ cond (is_waiting o) 1 0) s.lives i k.queued (λ p. p ∙ ap (λ w. cond w 1 0) (sym new.idle));
  shown = each_added (λ _ o. is_waiting o ≡ true → has_shown o ≡ true) s.lives i k.shown (λ _ w. absurd (true≢false (sym w ∙ new.idle)));
  dirty = λ m c h. each_added (λ _ o. IsWaiter o) s.lives i (λ j. waiters_of s k j (λ e. e)) (λ _ d g. absurd (true≢false (sym g ∙ ap (λ x. is_some x && cells.is_dirty_since x i.cells.now d) new.unshown))) m c h;
  due = each_added (λ _ o. is_waiting o ≡ true → DirtyCell o) s.lives i k.due (λ _ w. absurd (true≢false (sym w ∙ new.idle)));
  subscribed = each_added (λ m o. (c id : ℕ) → is_subscriber s m c id ≡ has_subscription o c id) s.lives i k.subscribed (λ p c id. p c id ∙ sym (ap (λ l. looks_at id (subscription_at l c)) new.unsubscribed));
}

-- the subscribers of a store that are of other instances
subscribers-dropped : (stores : List Store) (n id : ℕ) → subscribers_at (dropped stores n) id ≡ filter (is_other n) (subscribers_at stores id)
subscribers-dropped [] n id = refl
subscribers-dropped (x ∷ stores) n zero = refl
subscribers-dropped (x ∷ stores) n (suc id) = subscribers-dropped stores n id

any-gone : (n c : ℕ) (subscribers : List Subscriber) → list_any (same_subscriber (record { inst = n; cell = c })) (filter (is_other n) subscribers) ≡ false
any-gone n c [] = refl
any-gone n c (x ∷ subscribers) = ⊎_elim
    (λ b. let o : is_other n x ≡ false = ap not (eq-eqb x.inst n (eqb-true x.inst n b)) in rw o (any-gone n c subscribers))
    (λ b. let o : is_other n x ≡ true = ap not b in let z : nat_eq n x.inst ≡ false = ne_eqb n x.inst (λ e. eqb-false x.inst n b (sym e)) in rw (o, z) (any-gone n c subscribers))
    (cases_Bool (nat_eq x.inst n))

any-other : (n m c : ℕ) (subscribers : List Subscriber) → m ≢ n → list_any (same_subscriber (record { inst = m; cell = c })) (filter (is_other n) subscribers) ≡ list_any (same_subscriber (record { inst = m; cell = c })) subscribers
any-other n m c [] h = refl
any-other n m c (x ∷ subscribers) h = ⊎_elim
    (λ b.
    let o : is_other n x ≡ false = ap not b in
    let z : nat_eq m x.inst ≡ false = ne_eqb m x.inst (λ e. h (e ∙ eqb-true x.inst n b)) in
    rw (o, z) (any-other n m c subscribers h))
    (λ b. let o : is_other n x ≡ true = ap not b in rw o (ap (λ r. same_subscriber (record { inst = m; cell = c }) x || r) (any-other n m c subscribers h)))
    (cases_Bool (nat_eq x.inst n))

-- a fact of each instance, without one
each_gone : (P : ℕ → Option Instance → Type 0) (lives : List (Option Instance)) (n : ℕ) → ((m : ℕ) → m ≢ n → P m (at lives m)) → P n None → (m : ℕ) → P m (at (slice_set lives n None) m)
each_gone P lives n all none m = ⊎_elim
    (λ same. subst (λ j. P j (at (slice_set lives n None) j)) (sym same) (⊎_elim
    (λ inside. subst (P n) (sym (get_or-set_same lives n None None inside)) none)
    (λ past. subst (P n) (sym (ap (λ l. at l n) (set_past lives n None past) ∙ get_or_past lives n None past)) none)
    (cases_lt n (length lives))))
    (λ other. subst (P m) (sym (get_or-set_other lives n m None None other)) (all m other))
    (cases_eq m n)

pub sound-removed : (s : States) (n : ℕ) → IsSound s → IsSound (removed s n)
sound-removed s n k = record {
  seen = each_gone (λ _ o. IsSeen o) s.lives n (λ m _. k.seen m) tt;
  queued = each_gone (λ m o. times (without s.queue n) m ≡ cond (is_waiting o) 1 0) s.lives n (λ m other. times-without_other s.queue n m other ∙ k.queued m) gone;
  shown = each_gone (λ _ o. is_waiting o ≡ true → has_shown o ≡ true) s.lives n (λ m _. k.shown m) (λ h. h);
  dirty = λ m c h. each_gone (λ _ o. IsWaiter o) s.lives n (λ j _. waiters_of s k j (λ e. e)) (λ _ g. g) m c h;
  due = each_gone (λ _ o. is_waiting o ≡ true → DirtyCell o) s.lives n (λ m _. k.due m) (λ w. absurd (true≢false (sym w)));
  subscribed = each_gone (λ m o. (c id : ℕ) → is_subscriber (removed s n) m c id ≡ has_subscription o c id) s.lives n
      (λ m other c id. ap (list_any (same_subscriber (record { inst = m; cell = c }))) (subscribers-dropped s.stores n id) ∙ any-other n m c (subscribers_at s.stores id) other ∙ k.subscribed m c id)
      (λ c id. ap (list_any (same_subscriber (record { inst = n; cell = c }))) (subscribers-dropped s.stores n id) ∙ any-gone n c (subscribers_at s.stores id));
}
  where
    gone : times (without s.queue n) n ≡ 0
    gone = ⊎_elim
        (λ b. let one : times s.queue n ≡ 1 = k.queued n ∙ ap (λ w. cond w 1 0) b in let e = times-without_same s.queue n (omega (arith, one)) in omega (arith, e, one))
        (λ b. let z : times s.queue n ≡ 0 = k.queued n ∙ ap (λ w. cond w 1 0) b in ap (λ q. times q n) (without-absent s.queue n z) ∙ z)
        (cases_Bool (is_waiting (live s n)))

pub sound-given : (s : States) (p : Subscriber) (v : Val) → IsSound s → IsSound (given s p v)
sound-given s p v k = ⊎_elim (λ b. rw b (sound-taken s p v k)) (λ b. rw b (sound-declared s p v k)) (cases_Bool (has_cell (live s p.inst) p.cell))
