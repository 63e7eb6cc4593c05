-- What scripts leave of an instance with a number: a cell that is declared stays so, and who has had no snapshot has had none.
use Rattle.std.proofs.Common.{◌≡◌, ◌≢◌, ℕ, ◌<◌, Bool, true, false, List, [], ◌∷◌, ◌++◌, length, Option, Some, None, is_some, refl, sym, ap, subst, ◌∙◌, ⊎_elim, slice_set, if◌then◌else◌}
use Rattle.std.proofs.lemmas.Bool.{cases_eq}
use Rattle.std.proofs.lemmas.List.{length-set, get_or-set_same, get_or-set_other}
use Rattle.std.proofs.lemmas.Option.{none-some, same_Some}
use Rattle.sv_family.proofs.Pictures.{IsUnseen}
use Rattle.sv_frame.proofs.Stepping.{Setups, Steps}
use Rattle.sv_instance.specs.Bound.{Bound}
use Rattle.sv_instance.specs.Cells as cells
use Rattle.sv_instance.specs.Subscriptions.{moved_to}
use Rattle.sv_instance.specs.declared.instance.Instance.{Instance}
use Rattle.sv_instance.specs.declared.setup.Setup.{Setup}
use Rattle.sv_instance.specs.declared.subscriptions.Subscription.{Subscription}
use Rattle.sv_derived.specs.Derived.{marked, done}
use Rattle.sv_numbered.specs.Numbered.{at, altered}
use Rattle.sv_states.proofs.Altering.{at-altered_same, at-altered_none, at-altered_other}
use Rattle.sv_states.specs.Assignment.{Way, changes_in, cell_stored, handing, taken, told, store_set, end_set, written, placed_at, looked, moved_if, all_followed, sent, way_of, way_into, handed_down, with_bound, bound_over, bound_up}
use Rattle.sv_states.specs.Change.{declared, given, with_subscription, named_over, may_follow, subscribed_to}
use Rattle.sv_states.specs.Moving.{Goal, goal_of, stores_after, follower_in}
use Rattle.sv_states.specs.States.{States, live, with_instance, has_cell, value_in}
use Rattle.sv_states.specs.Waiting.{joins, queued, enqueued}
use Rattle.sv_store.specs.Stores.{Subscriber, with_value, subscribers_at, differs_at}
use Rattle.sv_value.specs.Change.{differs}
use Rattle.sv_value.specs.Value.{Val}
use Rattle.sv_view.specs.Cell.{Cell}

-- ---- a fact of an instance that scripts leave, whatever they leave with it besides constants

pub record Lasts (Q : Instance → Type 0) : Type 0 where
  pub setup : (i : Instance) (u : Setup) → u.constants ≡ i.setup.constants → Q i → Q (record i { setup = u })
  pub waits : (i : Instance) → Q i → Q (queued i)
  pub subscribed : (i : Instance) (names : List Subscription) → Q i → Q (record i { subscriptions = names })
  pub assigned : (i : Instance) (c : ℕ) (v : Val) → Q i → Q (record i { cells = cells.assigned i.cells c v })
  pub declared : (i : Instance) (c : ℕ) (v : Val) → Q i → Q (record i { cells = cells.declared i.cells c v })

if_either : {A : Type 0} (P : A → Type 0) (b : Bool) (x y : A) → P x → P y → P (if b then x else y)
if_either P true x y h k = h
if_either P false x y h k = k

module _ (Q : Instance → Type 0) (n : ℕ) where
  -- it is so of the instance with a number, if it is live
  abbrev pub In : List (Option Instance) → Type 0
  In lives = (i : Instance) → at lives n ≡ Some i → Q i

  altered_in : (f : Instance → Instance) → ((i : Instance) → Q i → Q (f i)) → (lives : List (Option Instance)) (m : ℕ) → In lives → In (altered f lives m)
  altered_in f k lives m h = ⊎_elim same other (cases_eq n m) where
    same : n ≡ m → In (altered f lives m)
    same e = subst (λ j. In (altered f lives j)) e (by (at lives n) refl) where
      by : (o : Option Instance) → at lives n ≡ o → In (altered f lives n)
      by None none i is = absurd (none-some i (sym (at-altered_none f lives n none) ∙ is))
      by (Some j) some i is = subst Q (same_Some (f j) i (sym (at-altered_same f lives n j some) ∙ is)) (k j (h j some))

    other : n ≢ m → In (altered f lives m)
    other differs i is = h i (sym (at-altered_other f lives m n differs) ∙ is)

module _ (Q : Instance → Type 0) (lasts : Lasts Q) (n : ℕ) where
  abbrev pub Of : States → Type 0
  Of s = In Q n s.lives

  pub enqueued_in : (s : States) (m : ℕ) → Of s → Of (enqueued s m)
  enqueued_in s m h = if_either (In Q n) (joins (live s m)) (altered queued s.lives m) s.lives (altered_in Q n queued lasts.waits s.lives m h) h

  stored_in : (s : States) (p : Subscriber) (v : Val) → Of s → Of (cell_stored s p v)
  stored_in s p v h = altered_in Q n _ (λ i. lasts.assigned i p.cell v) s.lives p.inst h

  handing_in : (p : Subscriber) (v : Val) (next : States → States) (s : States) → ((t : States) → Of t → Of (next t)) → Of s → Of (handing p v next s)
  handing_in p v next s k h = if_either Of (changes_in (live s p.inst) p.cell v) (enqueued (next (cell_stored s p v)) p.inst) s (enqueued_in (next (cell_stored s p v)) p.inst (k (cell_stored s p v) (stored_in s p v h))) h

  taken_in : (s : States) (p : Subscriber) (v : Val) → Of s → Of (taken s p v)
  taken_in s p v h = handing_in p v (λ t. t) s (λ t k. k) h

  told_in : (ps : List Subscriber) (v : Val) (s : States) → Of s → Of (told ps v s)
  told_in [] v s h = h
  told_in (p ∷ ps) v s h = told_in ps v (taken s p v) (taken_in s p v h)

  set_in : (s : States) (id : ℕ) (v : Val) → Of s → Of (store_set s id v)
  set_in s id v h = if_either Of (differs_at s.stores id v) _ s (told_in (subscribers_at s.stores id) v (record s { stores = with_value s.stores id v; derived = marked s.derived id }) h) h

  end_in : (store : Option ℕ) (v : Val) (s : States) → Of s → Of (end_set store v s)
  end_in None v s h = h
  end_in (Some id) v s h = set_in s id v h

  written_in : (ps : List Subscriber) (store : Option ℕ) (v : Val) (s : States) → Of s → Of (written ps store v s)
  written_in [] store v s h = end_in store v s h
  written_in (p ∷ ps) store v s h = handing_in p v (written ps store v) s (written_in ps store v) h

  looked_in : (p : Subscriber) (id : Option ℕ) (v : Val) (s : States) → Of s → Of (looked p id v s)
  looked_in p id v s h = taken_in (with_instance (placed_at p.cell id) s p.inst) p v (altered_in Q n (placed_at p.cell id) (λ i. lasts.subscribed i (moved_to i.subscriptions p.cell id)) s.lives p.inst h)

  moved_in : (o : Option ℕ) (m : ℕ) (goal : Goal) (s : States) → Of s → Of (moved_if o m goal s)
  moved_in None m goal s h = h
  moved_in (Some c) m goal s h = looked_in (record { inst = m; cell = c }) goal.store goal.value _ h

  followed_in : (ps : List Subscriber) (goal : Goal) (s : States) → Of s → Of (all_followed ps goal s)
  followed_in [] goal s h = h
  followed_in (p ∷ ps) goal s h = moved_in (follower_in (live (all_followed ps goal s) p.inst) p.cell) p.inst goal (all_followed ps goal s) (followed_in ps goal s h)

  sent_in : (w : Way) (v : Val) (s : States) → Of s → Of (sent w v s)
  sent_in w v s h = followed_in w.cells (goal_of (stores_after w.store v s.stores) v) (written w.cells w.store v s) (written_in w.cells w.store v s h)

  pub declared_in : (s : States) (p : Subscriber) (v : Val) → Of s → Of (declared s p v)
  declared_in s p v h = altered_in Q n _ (λ i. lasts.declared i p.cell v) s.lives p.inst h

  given_in : (s : States) (p : Subscriber) (v : Val) → Of s → Of (given s p v)
  given_in s p v h = if_either Of (has_cell (live s p.inst) p.cell) (taken s p v) (declared s p v) (taken_in s p v h) (declared_in s p v h)

  named_in : (source : Option ℕ) (goal : Goal) (s : States) (p : Subscriber) → Of s → Of (named_over source goal s p)
  named_in source goal s p h =
      let x : Subscription = record { cell = p.cell; source = source; store = goal.store } in
      given_in _ p goal.value (altered_in Q n (with_subscription x) (λ i. lasts.subscribed i (i.subscriptions ++ x ∷ [])) s.lives p.inst h)

  subscribed_in : (s : States) (p : Subscriber) (source : Option ℕ) (v : Val) → Of s → Of (subscribed_to s p source v)
  subscribed_in s p source v h = if_either Of (may_follow s p) (named_over source (goal_of s.stores v) s p) s (named_in source (goal_of s.stores v) s p h) h

  pub handed_in : (s : States) (p : Subscriber) (v : Val) → Of s → Of (handed_down s p v)
  handed_in s p v h = sent_in (way_into s p v) v s h

  bound_over_in : (o : Option Val) (b : Bound) (old s : States) → Of s → Of (bound_over o b old s)
  bound_over_in None b old s h = h
  bound_over_in (Some v) b old s h = sent_in (way_of old b.owner b.target v) v s h

  pub bound_in : (s : States) (m : ℕ) (b : Bound) → Of s → Of (bound_up s m b)
  bound_in s m b h =
      bound_over_in (value_in (live s m) b.cell) b s (with_instance (with_bound b) s m)
      (altered_in Q n (with_bound b) (λ i. lasts.setup i (record i.setup { bounds = b ∷ i.setup.bounds }) refl) s.lives m h)

  pub lasting_steps : Steps Of
  lasting_steps = record {
    left = λ s f m e h. altered_in Q n (λ i. record i { setup = f i.setup }) (λ i. lasts.setup i (f i.setup) (e i.setup)) s.lives m h;
    assigned = λ s m c v h. sent_in (way_of s m c v) v s h;
    store_set = λ s id v h. set_in s id v h;
    computed = λ s id v h. set_in (record s { derived = done s.derived id }) id v h;
    with_store = λ s v h. h;
    with_derived = λ s owner r v h. h;
    declared = λ s p v h. declared_in s p v h;
    subscribed = λ s p source v h. subscribed_in s p source v h;
  }

-- ---- cells that are declared

-- a cell of an instance is declared, if there is a number for it
abbrev pub Has : ℕ → Instance → Type 0
Has cell i = cell < length i.cells.now → has_cell (Some i) cell ≡ true

pub has-set : (now : List (Option Cell)) (cell c : ℕ) (x : Option Cell) → (is_some (cells.cell_at now c) ≡ true → is_some x ≡ true) → (cell < length now → is_some (cells.cell_at now cell) ≡ true)
    → cell < length (slice_set now c x) → is_some (cells.cell_at (slice_set now c x) cell) ≡ true
has-set now cell c x more has below = ⊎_elim
    (λ same. subst (λ d. is_some (cells.cell_at (slice_set now d x) cell) ≡ true) same
    (ap is_some (get_or-set_same now cell x None within) ∙ more (subst (λ d. is_some (cells.cell_at now d) ≡ true) same (has within))))
    (λ other. ap is_some (get_or-set_other now c cell x None other) ∙ has within)
    (cases_eq cell c)
  where
    within : cell < length now
    within = subst (λ k. cell < k) (length-set now c x) below

assigned-some : (o : Option Cell) (v : Val) → is_some o ≡ true → is_some (cells.assigned_cell o v) ≡ true
assigned-some None v h = h
assigned-some (Some c) v h = if_either (λ (o : Option Cell). is_some o ≡ true) (differs c.value v) _ _ refl refl

declared-some : (seen : Option (List (Option Cell))) (o : Option Cell) (v : Val) → is_some o ≡ true → is_some (cells.declared_cell seen o v) ≡ true
declared-some None None v h = refl
declared-some None (Some c) v h = refl
declared-some (Some seen) o v h = h

pub has_lasts : (cell : ℕ) → Lasts (Has cell)
has_lasts cell = record {
  setup = λ i u e h. h;
  waits = λ i h. h;
  subscribed = λ i names h. h;
  assigned = λ i c v h. has-set i.cells.now cell c (cells.assigned_cell (cells.cell_at i.cells.now c) v) (assigned-some (cells.cell_at i.cells.now c) v) h;
  declared = λ i c v h. has-set i.cells.now cell c (cells.declared_cell i.cells.seen (cells.cell_at i.cells.now c) v) (declared-some i.cells.seen (cells.cell_at i.cells.now c) v) h;
}

pub unseen_lasts : Lasts (λ i. i.cells.seen ≡ None)
unseen_lasts = record { setup = λ i u e h. h; waits = λ i h. h; subscribed = λ i names h. h; assigned = λ i c v h. h; declared = λ i c v h. h }

abbrev pub HasIn : ℕ → ℕ → States → Type 0
HasIn n cell s = In (Has cell) n s.lives

pub has_stays : (n cell : ℕ) → Steps (HasIn n cell)
has_stays n cell = lasting_steps (Has cell) (has_lasts cell) n

pub has_setups : (n cell : ℕ) → Setups (HasIn n cell)
has_setups n cell s f m h = altered_in (Has cell) n (λ i. record i { setup = f i.setup }) (λ i k. k) s.lives m h

first-some : (seen : Option (List (Option Cell))) (o : Option Cell) (v : Val) → seen ≡ None → is_some (cells.declared_cell seen o v) ≡ true
first-some None None v e = refl
first-some None (Some c) v e = refl
first-some (Some x) o v e = absurd (none-some x (sym e))

-- before the first snapshot a declaration declares
pub declared-has : (n cell : ℕ) (v : Val) (s : States) → IsUnseen n s → HasIn n cell (declared s (record { inst = n; cell = cell }) v)
declared-has n cell v s unseen = by (live s n) refl where
  by : (o : Option Instance) → live s n ≡ o → HasIn n cell (declared s (record { inst = n; cell = cell }) v)
  by None none i is = absurd (none-some i (sym (at-altered_none _ s.lives n none) ∙ is))
  by (Some j) some i is = subst (Has cell) (same_Some (record j { cells = cells.declared j.cells cell v }) i (sym (at-altered_same _ s.lives n j some) ∙ is))
      (λ below. ap is_some (get_or-set_same j.cells.now cell _ None (subst (λ k. cell < k) (length-set j.cells.now cell _) below)) ∙ first-some j.cells.seen (cells.cell_at j.cells.now cell) v (unseen j some))
