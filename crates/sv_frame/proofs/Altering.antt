-- What scripts do to the states leaves pictures of instances as they are that show nothing of what scripts change: snapshots, and views that were lent.
use Rattle.std.proofs.Common.{◌≡◌, ℕ, Bool, true, false, List, [], ◌∷◌, ◌++◌, map, Option, Some, None, option_map, refl, sym, subst, ap, ◌∙◌, if◌then◌else◌}
use Rattle.std.specs.Prelude.{slice_set}
use Rattle.std.proofs.Math.Seq.{map-set_same}
use Rattle.std.proofs.lemmas.List.{length-set}
use Rattle.sv_derived.specs.Derived.{marked, done}
use Rattle.sv_frame.proofs.Stepping.{Setups, Steps}
use Rattle.sv_frame.specs.Constants.{constants_of}
use Rattle.sv_frame.specs.Snapshots.{Snapshot, snapshot_of, snapshots}
use Rattle.sv_frame.specs.Views.{lent_views}
use Rattle.sv_instance.specs.Subscriptions.{moved_to}
use Rattle.sv_instance.specs.declared.instance.Instance.{Instance}
use Rattle.sv_instance.specs.declared.setup.Setup.{Setup}
use Rattle.sv_instance.specs.declared.subscriptions.Subscription.{Subscription}
use Rattle.sv_numbered.specs.Numbered.{at, altered, altered_over}
use Rattle.sv_states.specs.Assignment.{Way, changes_in, cell_stored, handing, taken, told, store_set, computed, end_set, written, placed_at, looked, moved_if, all_followed, sent, assigned, way_of, way_into, handed_down, with_bound, bound_over, bound_up}
use Rattle.sv_states.specs.Change.{declared, with_view, viewed, given, with_subscription, named_over, may_follow, subscribed_to}
use Rattle.sv_states.specs.Moving.{Goal, goal_of, stores_after, follower_in}
use Rattle.sv_states.specs.States.{States, live, with_instance, has_cell, value_in}
use Rattle.sv_states.specs.Waiting.{joins, queued, enqueued}
use Rattle.sv_instance.specs.Bound.{Bound}
use Rattle.sv_store.specs.Stores.{Subscriber, with_value, subscribers_at, differs_at}
use Rattle.sv_value.specs.Value.{Val}
use Rattle.sv_view.specs.Cell.{Cell}
use Rattle.sv_view.specs.Level.{View}

if_same : {A B : Type 0} (f : A → B) (b : Bool) (x y : A) (z : B) → f x ≡ z → f y ≡ z → f (if b then x else y) ≡ z
if_same f true x y z h k = h
if_same f false x y z h k = k

-- a picture of an instance shows nothing of its setup but its constants, nothing of its subscriptions and its place in the queue, and not what its present
-- cells are
pub record Plain {X : Type 0} (g : Instance → X) : Type 0 where
  pub setup : (i : Instance) (u : Setup) → u.constants ≡ i.setup.constants → g (record i { setup = u }) ≡ g i
  pub waits : (i : Instance) → g (queued i) ≡ g i
  pub subscribed : (i : Instance) (names : List Subscription) → g (record i { subscriptions = names }) ≡ g i
  pub written : (i : Instance) (c : ℕ) (x : Option Cell) → g (record i { cells = record i.cells { now = slice_set i.cells.now c x } }) ≡ g i

module _ {X : Type 0} (g : Instance → X) where
  abbrev pictures_in : List (Option Instance) → List (Option X)
  pictures_in lives = map (option_map g) lives

  -- the pictures of the live instances, by number
  abbrev pub pictures : States → List (Option X)
  pictures s = pictures_in s.lives

  pub pictures-altered : (f : Instance → Instance) (lives : List (Option Instance)) (n : ℕ) → ((i : Instance) → g (f i) ≡ g i) → pictures_in (altered f lives n) ≡ pictures_in lives
  pictures-altered f lives n same = by (at lives n) refl where
    by : (o : Option Instance) → at lives n ≡ o → pictures_in (altered_over f (at lives n) lives n) ≡ pictures_in lives
    by None e = ap (λ o. pictures_in (altered_over f o lives n)) e
    by (Some i) e = ap (λ o. pictures_in (altered_over f o lives n)) e ∙ map-set_same (option_map g) lives n (Some (f i)) None (ap Some (same i) ∙ sym (ap (option_map g) e))

module _ {X : Type 0} {g : Instance → X} (plain : Plain g) where
  abbrev seen : States → List (Option X)
  seen = pictures g

  enqueued_same : (s : States) (n : ℕ) → seen (enqueued s n) ≡ seen s
  enqueued_same s n = if_same (λ lives. map (option_map g) lives) (joins (live s n)) (altered queued s.lives n) s.lives (seen s) (pictures-altered g queued s.lives n plain.waits) refl

  stored_same : (s : States) (p : Subscriber) (v : Val) → seen (cell_stored s p v) ≡ seen s
  stored_same s p v = pictures-altered g _ s.lives p.inst (λ i. plain.written i p.cell _)

  handing_same : (p : Subscriber) (v : Val) (next : States → States) (s : States) → ((t : States) → seen (next t) ≡ seen t) → seen (handing p v next s) ≡ seen s
  handing_same p v next s k =
      if_same seen (changes_in (live s p.inst) p.cell v) (enqueued (next (cell_stored s p v)) p.inst) s (seen s)
      (enqueued_same (next (cell_stored s p v)) p.inst ∙ (k (cell_stored s p v) ∙ stored_same s p v)) refl

  taken_same : (s : States) (p : Subscriber) (v : Val) → seen (taken s p v) ≡ seen s
  taken_same s p v = handing_same p v (λ t. t) s (λ t. refl)

  told_same : (ps : List Subscriber) (v : Val) (s : States) → seen (told ps v s) ≡ seen s
  told_same [] v s = refl
  told_same (p ∷ ps) v s = told_same ps v (taken s p v) ∙ taken_same s p v

  set_same : (s : States) (id : ℕ) (v : Val) → seen (store_set s id v) ≡ seen s
  set_same s id v = if_same seen (differs_at s.stores id v) _ s (seen s) (told_same (subscribers_at s.stores id) v (record s { stores = with_value s.stores id v; derived = marked s.derived id })) refl

  computed_same : (s : States) (id : ℕ) (v : Val) → seen (computed s id v) ≡ seen s
  computed_same s id v = set_same (record s { derived = done s.derived id }) id v

  end_same : (store : Option ℕ) (v : Val) (s : States) → seen (end_set store v s) ≡ seen s
  end_same None v s = refl
  end_same (Some id) v s = set_same s id v

  written_same : (ps : List Subscriber) (store : Option ℕ) (v : Val) (s : States) → seen (written ps store v s) ≡ seen s
  written_same [] store v s = end_same store v s
  written_same (p ∷ ps) store v s = handing_same p v (written ps store v) s (written_same ps store v)

  looked_same : (p : Subscriber) (id : Option ℕ) (v : Val) (s : States) → seen (looked p id v s) ≡ seen s
  looked_same p id v s = taken_same (with_instance (placed_at p.cell id) s p.inst) p v ∙ pictures-altered g (placed_at p.cell id) s.lives p.inst (λ i. plain.subscribed i (moved_to i.subscriptions p.cell id))

  moved_if_same : (o : Option ℕ) (n : ℕ) (goal : Goal) (s : States) → seen (moved_if o n goal s) ≡ seen s
  moved_if_same None n goal s = refl
  moved_if_same (Some c) n goal s = looked_same (record { inst = n; cell = c }) goal.store goal.value _

  followed_same : (ps : List Subscriber) (goal : Goal) (s : States) → seen (all_followed ps goal s) ≡ seen s
  followed_same [] goal s = refl
  followed_same (p ∷ ps) goal s = moved_if_same (follower_in (live (all_followed ps goal s) p.inst) p.cell) p.inst goal (all_followed ps goal s) ∙ followed_same ps goal s

  sent_same : (w : Way) (v : Val) (s : States) → seen (sent w v s) ≡ seen s
  sent_same w v s = followed_same w.cells (goal_of (stores_after w.store v s.stores) v) (written w.cells w.store v s) ∙ written_same w.cells w.store v s

  assigned_same : (s : States) (n c : ℕ) (v : Val) → seen (assigned s n c v) ≡ seen s
  assigned_same s n c v = sent_same (way_of s n c v) v s

  pub pictures-handed : (s : States) (p : Subscriber) (v : Val) → seen (handed_down s p v) ≡ seen s
  pictures-handed s p v = sent_same (way_into s p v) v s

  bound_over_same : (o : Option Val) (b : Bound) (old s : States) → seen (bound_over o b old s) ≡ seen s
  bound_over_same None b old s = refl
  bound_over_same (Some v) b old s = sent_same (way_of old b.owner b.target v) v s

  pub pictures-bound : (s : States) (n : ℕ) (b : Bound) → seen (bound_up s n b) ≡ seen s
  pictures-bound s n b =
      bound_over_same (value_in (live s n) b.cell) b s (with_instance (with_bound b) s n)
      ∙ pictures-altered g (with_bound b) s.lives n (λ i. plain.setup i (record i.setup { bounds = b ∷ i.setup.bounds }) refl)

  -- an instance that gets its owner's view is queued besides
  pub pictures-viewed : (s : States) (n c : ℕ) (view : View) → has_cell (live s n) c ≡ true → seen (viewed s n c view) ≡ seen (with_instance (with_view c view) s n)
  pictures-viewed s n c view b = ap (λ x. seen (if x then enqueued (with_instance (with_view c view) s n) n else s)) b ∙ enqueued_same (with_instance (with_view c view) s n) n

  declared_same : (s : States) (p : Subscriber) (v : Val) → seen (declared s p v) ≡ seen s
  declared_same s p v = pictures-altered g _ s.lives p.inst (λ i. plain.written i p.cell _)

  given_same : (s : States) (p : Subscriber) (v : Val) → seen (given s p v) ≡ seen s
  given_same s p v = if_same seen (has_cell (live s p.inst) p.cell) (taken s p v) (declared s p v) (seen s) (taken_same s p v) (declared_same s p v)

  named_same : (source : Option ℕ) (goal : Goal) (s : States) (p : Subscriber) → seen (named_over source goal s p) ≡ seen s
  named_same source goal s p =
      let x : Subscription = record { cell = p.cell; source = source; store = goal.store } in
      given_same _ p goal.value ∙ pictures-altered g (with_subscription x) s.lives p.inst (λ i. plain.subscribed i (i.subscriptions ++ x ∷ []))

  subscribed_same : (s : States) (p : Subscriber) (source : Option ℕ) (v : Val) → seen (subscribed_to s p source v) ≡ seen s
  subscribed_same s p source v = if_same seen (may_follow s p) (named_over source (goal_of s.stores v) s p) s (seen s) (named_same source (goal_of s.stores v) s p) refl

  -- a fact of the pictures
  pub pictures_keep : (Q : List (Option X) → Type 0) → Steps (λ s. Q (pictures g s))
  pictures_keep Q = record {
    left = λ s f n e h. subst Q (sym (pictures-altered g (λ i. record i { setup = f i.setup }) s.lives n (λ i. plain.setup i (f i.setup) (e i.setup)))) h;
    assigned = λ s n c v h. subst Q (sym (assigned_same s n c v)) h;
    store_set = λ s id v h. subst Q (sym (set_same s id v)) h;
    computed = λ s id v h. subst Q (sym (computed_same s id v)) h;
    with_store = λ s v h. h;
    with_derived = λ s owner r v h. h;
    declared = λ s p v h. subst Q (sym (declared_same s p v)) h;
    subscribed = λ s p source v h. subst Q (sym (subscribed_same s p source v)) h;
  }

  -- the pictures are these
  pub pictures_stay : (old : List (Option X)) → Steps (λ s. pictures g s ≡ old)
  pictures_stay old = pictures_keep (λ x. x ≡ old)

-- a picture that shows nothing of a setup at all stays where constants get values
pub pictures_setup : {X : Type 0} {g : Instance → X} → ((i : Instance) (u : Setup) → g (record i { setup = u }) ≡ g i) → (old : List (Option X)) → Setups (λ s. pictures g s ≡ old)
pictures_setup {g = g} same old s f n h = pictures-altered g (λ i. record i { setup = f i.setup }) s.lives n (λ i. same i (f i.setup)) ∙ h

-- ---- snapshots

-- as many cells
sized : (i : Instance) (c : ℕ) (x : Option Cell) → snapshot_of (record i { cells = record i.cells { now = slice_set i.cells.now c x } }) ≡ snapshot_of i
sized i c x = ap (λ n. record { count = n; seen = i.cells.seen }) (length-set i.cells.now c x)

pub plain_snapshot : Plain snapshot_of
plain_snapshot = record { setup = λ i u e. refl; waits = λ i. refl; subscribed = λ i x. refl; written = sized }

pub snapshots-bound : (s : States) (n : ℕ) (b : Bound) → snapshots (bound_up s n b) ≡ snapshots s
snapshots-bound s n b = pictures-bound plain_snapshot s n b

pub snapshots-handed : (s : States) (p : Subscriber) (v : Val) → snapshots (handed_down s p v) ≡ snapshots s
snapshots-handed s p v = pictures-handed plain_snapshot s p v

pub snapshots-viewed : (s : States) (n c : ℕ) (view : View) → snapshots (viewed s n c view) ≡ snapshots s
snapshots-viewed s n c view = by (has_cell (live s n) c) refl where
  by : (b : Bool) → has_cell (live s n) c ≡ b → snapshots (viewed s n c view) ≡ snapshots s
  by true e = pictures-viewed plain_snapshot s n c view e ∙ pictures-altered snapshot_of (with_view c view) s.lives n (λ i. sized i c _)
  by false e = ap (λ x. snapshots (if x then enqueued (with_instance (with_view c view) s n) n else s)) e

-- ---- views that were lent

abbrev pub view_of : Instance → Option View
view_of i = i.owner_view

pub plain_view : Plain view_of
plain_view = record { setup = λ i u e. refl; waits = λ i. refl; subscribed = λ i x. refl; written = λ i c x. refl }

pub views-bound : (s : States) (n : ℕ) (b : Bound) → lent_views (bound_up s n b) ≡ lent_views s
views-bound s n b = pictures-bound plain_view s n b

pub views-handed : (s : States) (p : Subscriber) (v : Val) → lent_views (handed_down s p v) ≡ lent_views s
views-handed s p v = pictures-handed plain_view s p v

-- the snapshots are these
abbrev pub Seen : List (Option Snapshot) → States → Type 0
Seen old s = snapshots s ≡ old

pub seen_setups : (old : List (Option Snapshot)) → Setups (Seen old)
seen_setups old = pictures_setup (λ i u. refl) old

pub seen_stays : (old : List (Option Snapshot)) → Steps (Seen old)
seen_stays old = pictures_stay plain_snapshot old

-- the views are these
abbrev pub Lent : List (Option (Option View)) → States → Type 0
Lent old s = lent_views s ≡ old

pub lent_setups : (old : List (Option (Option View))) → Setups (Lent old)
lent_setups old = pictures_setup (λ i u. refl) old

pub lent_stays : (old : List (Option (Option View))) → Steps (Lent old)
lent_stays old = pictures_stay plain_view old

-- ---- constants

pub plain_constants : Plain constants_of
plain_constants = record { setup = λ i u e. e; waits = λ i. refl; subscribed = λ i x. refl; written = λ i c x. refl }
