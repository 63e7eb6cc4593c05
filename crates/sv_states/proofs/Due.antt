-- Who is queued has a changed cell.
use Rattle.std.proofs.Common.{◌≡◌, ◌≢◌, ℕ, ◌+◌, ◌≤◌, List, [], ◌∷◌, length, Option, Some, None, refl, sym, ap, ◌∙◌, arith, Bool, true, false, cond, slice_set, is_some, ⊎_elim, subst}
use Rattle.std.specs.Prelude.{not}
use Rattle.std.proofs.lemmas.Bool.{cases_eq, cases_lt, cases_Bool, not-true, eqb-false, ne_eqb, true≢false}
use Rattle.std.proofs.lemmas.List.{get_or-set_same, get_or-set_other, get_or_past, set_past}
use Rattle.sv_value.specs.Value.{Val}
use Rattle.sv_value.specs.Change.{differs}
use Rattle.sv_view.specs.Cell.{Cell}
use Rattle.sv_store.specs.Stores.{Subscriber, subscribers_at, differs_at}
use Rattle.sv_instance.specs.Cells.{Cells, cell_at, count_of, has_moved, is_dirty_since, is_dirty, changes, changes_cell, assigned_cell, assigned, touched_cell, touched}
use Rattle.sv_instance.specs.declared.instance.Instance.{Instance}
use Rattle.sv_states.specs.States.{States, live, with_instance, is_dirty_in}
use Rattle.sv_states.specs.Waiting.{is_waiting, joins, queued, enqueued}
use Rattle.sv_states.specs.Assignment.{changes_in, cell_stored, handing, taken, told, store_set, end_set, written}
use Rattle.sv_states.specs.Sound.{IsLater, IsSeen, DirtyCell}
use Rattle.sv_states.proofs.Altering.{at-altered_same, at-altered_other, option_cases}
use Rattle.sv_states.proofs.Later.{IsSeenBy}
use Rattle.sv_states.proofs.Calm.{each_altered, IsCalm, store_stored, enqueued-idle, enqueued-joins, calm-stored, calm-handing, calm-value}

-- ---- cells

-- what changed since stays so where it changes again
moved-later : (a b x : Option Cell) → IsLater a b → count_of b ≤ count_of x → has_moved a b ≡ true → has_moved a x ≡ true
moved-later a b x l more moved =
    let least = l.least in
    let before : count_of b ≢ count_of a = eqb-false (count_of b) (count_of a) (not-true _ moved) in
    ap not (ne_eqb (count_of x) (count_of a) (λ e. before (omega (arith, least, more, e))))

moved-once : (a b x : Option Cell) → IsLater a b → count_of x ≡ count_of b + 1 → has_moved a x ≡ true
moved-once a b x l more = let least = l.least in ap not (ne_eqb (count_of x) (count_of a) (λ e. absurd (omega (arith, least, more, e))))

-- one cell written by a later one
moved-set : (old now : List (Option Cell)) (c : ℕ) (x : Option Cell) → ((d : ℕ) → IsLater (cell_at old d) (cell_at now d)) → count_of (cell_at now c) ≤ count_of x
    → (d : ℕ) → has_moved (cell_at old d) (cell_at now d) ≡ true → has_moved (cell_at old d) (cell_at (slice_set now c x) d) ≡ true
moved-set old now c x later more d moved = ⊎_elim
    (λ inside. ⊎_elim
    (λ same. subst (λ k. has_moved (cell_at old k) (cell_at (slice_set now c x) k) ≡ true) (sym same)
    (ap (has_moved (cell_at old c)) (get_or-set_same now c x None inside) ∙ moved-later (cell_at old c) (cell_at now c) x (later c) more (subst (λ k. has_moved (cell_at old k) (cell_at now k) ≡ true) same moved)))
    (λ other. ap (has_moved (cell_at old d)) (get_or-set_other now c d x None other) ∙ moved)
    (cases_eq d c))
    (λ past. ap (λ l. has_moved (cell_at old d) (cell_at l d)) (set_past now c x past) ∙ moved)
    (cases_lt c (length now))

dirty-set : (cells : Cells) (c : ℕ) (x : Option Cell) → IsSeenBy cells → count_of (cell_at cells.now c) ≤ count_of x → (d : ℕ) → is_dirty cells d ≡ true → is_dirty_since cells.seen (slice_set cells.now c x) d ≡ true
dirty-set cells c x s more d h = over cells.seen refl h
  where
    over : (o : Option (List (Option Cell))) → cells.seen ≡ o → is_dirty_since o cells.now d ≡ true → is_dirty_since o (slice_set cells.now c x) d ≡ true
    over None e g = refl
    over (Some old) e g = moved-set old cells.now c x (s old e) more d g

-- a cell that is written by one with one more change
dirty-more : (cells : Cells) (c : ℕ) (b : Cell) (x : Option Cell) → IsSeenBy cells → cell_at cells.now c ≡ Some b → count_of x ≡ b.count + 1 → is_dirty_since cells.seen (slice_set cells.now c x) c ≡ true
dirty-more cells c b x s there more = over cells.seen refl
  where
    over : (o : Option (List (Option Cell))) → cells.seen ≡ o → is_dirty_since o (slice_set cells.now c x) c ≡ true
    over None e = refl
    over (Some old) e = ⊎_elim
        (λ inside. ap (has_moved (cell_at old c)) (get_or-set_same cells.now c x None inside) ∙ moved-once (cell_at old c) (Some b) x (subst (IsLater (cell_at old c)) there (s old e c)) more)
        (λ past. absurd (let q = sym there ∙ get_or_past cells.now c None past in cc))
        (cases_lt c (length cells.now))

least-if : (c : Cell) (v : Val) (t : Bool) → c.count ≤ count_of (cond t (Some (record { value = v; count = c.count + 1 })) (Some c))
least-if c v true = omega arith
least-if c v false = omega arith

least-assigned : (o : Option Cell) (v : Val) → count_of o ≤ count_of (assigned_cell o v)
least-assigned None v = omega arith
least-assigned (Some c) v = least-if c v (differs c.value v)

least-touched : (o : Option Cell) → count_of o ≤ count_of (touched_cell o)
least-touched None = omega arith
least-touched (Some c) = omega arith

-- ---- instances

pub dirty-assigned : (cells : Cells) (c : ℕ) (v : Val) → IsSeenBy cells → (d : ℕ) → is_dirty cells d ≡ true → is_dirty (assigned cells c v) d ≡ true
dirty-assigned cells c v s d h = dirty-set cells c (assigned_cell (cell_at cells.now c) v) s (least-assigned (cell_at cells.now c) v) d h

pub dirty-touched : (cells : Cells) (c : ℕ) → IsSeenBy cells → (d : ℕ) → is_dirty cells d ≡ true → is_dirty (touched cells c) d ≡ true
dirty-touched cells c s d h = dirty-set cells c (touched_cell (cell_at cells.now c)) s (least-touched (cell_at cells.now c)) d h

-- what is assigned and changes is dirty
assigned-dirty : (cells : Cells) (c : ℕ) (v : Val) → IsSeenBy cells → changes cells c v ≡ true → is_dirty (assigned cells c v) c ≡ true
assigned-dirty cells c v s h = over (cell_at cells.now c) refl h
  where
    over : (o : Option Cell) → cell_at cells.now c ≡ o → changes_cell o v ≡ true → is_dirty (assigned cells c v) c ≡ true
    over None e g = absurd (true≢false (sym g))
    over (Some b) e g = dirty-more cells c b (assigned_cell (cell_at cells.now c) v) s e (ap (λ o. count_of (assigned_cell o v)) e ∙ ap (λ t. count_of (cond t (Some (record { value = v; count = b.count + 1 })) (Some b))) g)

-- what is touched and there is dirty
pub touched-dirty : (cells : Cells) (c : ℕ) → IsSeenBy cells → is_some (cell_at cells.now c) ≡ true → is_dirty (touched cells c) c ≡ true
touched-dirty cells c s h = over (cell_at cells.now c) refl h
  where
    over : (o : Option Cell) → cell_at cells.now c ≡ o → is_some o ≡ true → is_dirty (touched cells c) c ≡ true
    over None e g = absurd (true≢false (sym g))
    over (Some b) e g = dirty-more cells c b (touched_cell (cell_at cells.now c)) s e (ap (λ o. count_of (touched_cell o)) e)

-- ---- states

-- who is queued has a changed cell
abbrev pub AllDue : States → Type 0
AllDue s = (n : ℕ) → is_waiting (live s n) ≡ true → DirtyCell (live s n)

-- an instance whose changed cells stay so
pub due-altered : (f : Instance → Instance) (s : States) (n : ℕ) → AllDue s → ((i : Instance) → live s n ≡ Some i → (d : ℕ) → is_dirty i.cells d ≡ true → is_dirty (f i).cells d ≡ true) → ((i : Instance) → (f i).queued ≡ i.queued)
    → AllDue (with_instance f s n)
due-altered f s n all stays idle = each_altered (λ _ o. is_waiting o ≡ true → DirtyCell o) f s.lives n all
    (λ i there p w. let d = p (sym (idle i) ∙ w) in record { cell = d.cell; dirty = stays i there d.cell d.dirty })

dirty-queued : (s : States) (n m c : ℕ) → is_dirty_in (live (enqueued s n) m) c ≡ is_dirty_in (live s m) c
dirty-queued s n m c = ⊎_elim
    (λ b. ap (λ t. is_dirty_in (live t m) c) (enqueued-joins s n b) ∙ each_altered (λ k o. is_dirty_in o c ≡ is_dirty_in (live s k) c) queued s.lives n (λ k. refl) (λ i there p. p) m)
    (λ b. ap (λ t. is_dirty_in (live t m) c) (enqueued-idle s n b))
    (cases_Bool (joins (live s n)))

-- one with a changed cell is queued
pub due-enqueued : (s : States) (n : ℕ) → AllDue s → DirtyCell (live s n) → AllDue (enqueued s n)
due-enqueued s n all new m w = ⊎_elim
    (λ same. let d : DirtyCell (live s m) = subst (λ k. DirtyCell (live s k)) (sym same) new in kept d)
    (λ other. ⊎_elim
    (λ b. kept (all m (sym (ap is_waiting (ap (λ t. live t m) (enqueued-joins s n b) ∙ at-altered_other queued s.lives n m other)) ∙ w)))
    (λ b. kept (all m (sym (ap (λ t. is_waiting (live t m)) (enqueued-idle s n b)) ∙ w)))
    (cases_Bool (joins (live s n))))
    (cases_eq m n)
  where
    kept : DirtyCell (live s m) → DirtyCell (live (enqueued s n) m)
    kept d = record { cell = d.cell; dirty = dirty-queued s n m d.cell ∙ d.dirty }

-- what follows keeps changed cells changed, and queues none but who has one
record Follows (next : States → States) : Type 0 where
  dirty : (s : States) → IsCalm s → (n c : ℕ) → is_dirty_in (live s n) c ≡ true → is_dirty_in (live (next s) n) c ≡ true
  due : (s : States) → IsCalm s → AllDue s → AllDue (next s)

dirty-stored : (s : States) (p : Subscriber) (v : Val) → IsCalm s → (n c : ℕ) → is_dirty_in (live s n) c ≡ true → is_dirty_in (live (cell_stored s p v) n) c ≡ true
dirty-stored s p v k n c = each_altered (λ m o. is_dirty_in (live s m) c ≡ true → is_dirty_in o c ≡ true) (λ i. record i { cells = assigned i.cells p.cell v }) s.lives p.inst (λ m h. h)
    (λ i there q h. dirty-assigned i.cells p.cell v (subst IsSeen there (k.seen p.inst)) c (ap (λ o. is_dirty_in o c) (sym there) ∙ h)) n

stored-dirty : (s : States) (p : Subscriber) (v : Val) → IsCalm s → changes_in (live s p.inst) p.cell v ≡ true → is_dirty_in (live (cell_stored s p v) p.inst) p.cell ≡ true
stored-dirty s p v k h = ⊎_elim
    (λ none. absurd (true≢false (sym h ∙ ap (λ o. changes_in o p.cell v) none)))
    (λ some. ap (λ o. is_dirty_in o p.cell) (at-altered_same (λ i. record i { cells = assigned i.cells p.cell v }) s.lives p.inst some.0 some.1)
    ∙ assigned-dirty some.0.cells p.cell v (subst IsSeen some.1 (k.seen p.inst)) (ap (λ o. changes_in o p.cell v) (sym some.1) ∙ h))
    (option_cases (live s p.inst))

follows-handing : (p : Subscriber) (v : Val) (next : States → States) → Follows next → Follows (handing p v next)
follows-handing p v next f = record {
  dirty = λ s k n c h. ⊎_elim
      (λ b. rw b (dirty-queued (next (cell_stored s p v)) p.inst n c ∙ f.dirty (cell_stored s p v) (calm-stored s p v k) n c (dirty-stored s p v k n c h)))
      (λ b. rw b h)
      (cases_Bool (changes_in (live s p.inst) p.cell v));
  due = λ s k all. ⊎_elim
      (λ b. rw b (due-enqueued (next (cell_stored s p v)) p.inst
      (f.due (cell_stored s p v) (calm-stored s p v k) (due-altered (λ i. record i { cells = assigned i.cells p.cell v }) s p.inst all (λ i there d. dirty-assigned i.cells p.cell v (subst IsSeen there (k.seen p.inst)) d) (λ i. refl)))
      (record { cell = p.cell; dirty = f.dirty (cell_stored s p v) (calm-stored s p v k) p.inst p.cell (stored-dirty s p v k b) })))
      (λ b. rw b all)
      (cases_Bool (changes_in (live s p.inst) p.cell v));
}

follows-none : Follows (λ s. s)
follows-none = record { dirty = λ s k n c h. h; due = λ s k all. all }

pub due-taken : (s : States) (p : Subscriber) (v : Val) → IsCalm s → AllDue s → AllDue (taken s p v)
due-taken s p v k all = (follows-handing p v (λ t. t) follows-none).due s k all

follows-told : (ps : List Subscriber) (v : Val) → Follows (told ps v)
follows-told [] v = follows-none
follows-told (p ∷ ps) v =
    let one = follows-handing p v (λ t. t) follows-none in
    let more = follows-told ps v in
    record {
      dirty = λ s k n c h. more.dirty (taken s p v) (calm-handing p v (λ t. t) s (λ t q. q) k) n c (one.dirty s k n c h);
      due = λ s k all. more.due (taken s p v) (calm-handing p v (λ t. t) s (λ t q. q) k) (one.due s k all);
    }

follows-set : (id : ℕ) (v : Val) → Follows (λ s. store_set s id v)
follows-set id v = record {
  dirty = λ s k n c h. ⊎_elim
      (λ b. rw b ((follows-told (subscribers_at s.stores id) v).dirty (store_stored s id v) (calm-value s id v k) n c h))
      (λ b. rw b h)
      (cases_Bool (differs_at s.stores id v));
  due = λ s k all. ⊎_elim
      (λ b. rw b ((follows-told (subscribers_at s.stores id) v).due (store_stored s id v) (calm-value s id v k) all))
      (λ b. rw b all)
      (cases_Bool (differs_at s.stores id v));
}

follows-end : (store : Option ℕ) (v : Val) → Follows (end_set store v)
follows-end None v = follows-none
follows-end (Some id) v = follows-set id v

follows-written : (ps : List Subscriber) (store : Option ℕ) (v : Val) → Follows (written ps store v)
follows-written [] store v = follows-end store v
follows-written (p ∷ ps) store v = follows-handing p v (written ps store v) (follows-written ps store v)

pub due-written : (ps : List Subscriber) (store : Option ℕ) (v : Val) (s : States) → IsCalm s → AllDue s → AllDue (written ps store v s)
due-written ps store v s k all = (follows-written ps store v).due s k all
