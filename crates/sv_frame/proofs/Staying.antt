-- Behind whatever scripts do, derived stores are what their functions gave.
use Rattle.std.proofs.Common.{◌≡◌, ℕ, zero, suc, ◌<◌, List, [], ◌∷◌, length, Option, Some, None, refl, sym, ap, ◌∙◌, arith, Bool, true, false, nat_eq, subst, ⊎_elim, is_some, if◌then◌else◌}
use Rattle.std.specs.Prelude.{◌||◌, slice_set}
use Rattle.std.proofs.lemmas.Bool.{cases_Bool, true≢false}
use Rattle.std.proofs.lemmas.Option.{none-some}
use Rattle.sv_code.specs.declared.program.Program.{Program}
use Rattle.sv_derived.proofs.Ordering.{ordered-one, ordered-frozen}
use Rattle.sv_derived.specs.Derived.{Recipe, Derived, with_one, found, next, frozen_by, frozen}
use Rattle.sv_derived.specs.Order.{AreBelow, IsOrdered}
use Rattle.sv_frame.proofs.Computing.{Standing, Calm, calm-same, calm-then, calm-enqueued, calm-followed, calm-subscribed, calm-viewed, standing-calm, standing-mapped, standing-set, stirred, computed-on, below-any, computing}
use Rattle.sv_frame.proofs.Deriving.{derive-same}
use Rattle.sv_frame.proofs.Outcomes.{at_ends, Left, MaySet, Stays, Sets}
use Rattle.sv_frame.proofs.Settling.{Settled, settles-all}
use Rattle.sv_frame.proofs.Stepping.{Setups, either_world}
use Rattle.sv_frame.proofs.Stored.{value-more, value-last, value-dropped, inputs-same, IsOne, found-one, found-more}
use Rattle.sv_frame.specs.Computed.{IsComputed, AreComputed}
use Rattle.sv_frame.specs.Snapshots.{world_of}
use Rattle.sv_instance.specs.Bound.{Bound, bound_at}
use Rattle.sv_instance.specs.Cells as cells
use Rattle.sv_instance.specs.Subscriptions.{subscription_at, follower_of}
use Rattle.sv_instance.specs.declared.instance.Instance.{Instance}
use Rattle.sv_instance.specs.declared.subscriptions.Subscription.{Subscription}
use Rattle.sv_meaning.specs.Derived.{derive}
use Rattle.sv_meaning.specs.Outcome.{Ending, Ends, Fails}
use Rattle.sv_meaning.specs.Settling.{settled}
use Rattle.sv_states.proofs.Making.{made-same, tally-removed, made-store, made-derived}
use Rattle.sv_states.specs.Assignment.{Way, changes_in, cell_stored, written, sent, into, way_step, way, way_of, with_bound, bound_over, bound_up, handed_down, assigned, store_set}
use Rattle.sv_states.specs.Change.{removed, viewed, with_store, with_derived}
use Rattle.sv_states.specs.Moving.{goal_of, stores_after}
use Rattle.sv_states.specs.Refusal.{store_refusal, name_refusal, first_of, held_refusal, into_refusal, refusal_step, refusal, assign_refusal, sent_refusal, bind_refusal}
use Rattle.sv_states.specs.States.{States, live, with_instance, depth_of, value_in}
use Rattle.sv_states.specs.declared.error.AssignError.{AssignError}
use Rattle.sv_states.specs.declared.error.AssignError.TheVariants.{ReadOnly}
use Rattle.sv_store.specs.Stores.{Subscriber, value_at, made}
use Rattle.sv_value.specs.Value.{Val}
use Rattle.sv_view.specs.Level.{View}
use Rattle.sv_world.specs.declared.world.World.{World}

-- ---- at the end of a way stands no derived store, where nothing speaks against the assignment

-- no derived store, if a store
abbrev IsFree : List Derived → Option ℕ → Type 0
IsFree all None = Unit {0}
IsFree all (Some id) = found all id ≡ None

store-free : (s : States) (id : ℕ) → MaySet (store_refusal s id) → found s.derived id ≡ None
store-free s id may = by (found s.derived id) refl where
  by : (o : Option Derived) → found s.derived id ≡ o → found s.derived id ≡ None
  by None e = e
  by (Some d) e = absurd (may (λ k. if is_some (e k) then Some ReadOnly else None))

module _ (s : States) (v : Val) where
  name-free : (o : Option ℕ) → MaySet (name_refusal s o) → IsFree s.derived o
  name-free None may = tt
  name-free (Some id) may = store-free s id may

  first-may : (a b : Option AssignError) → MaySet (first_of a b) → MaySet a
  first-may None b may = λ e. absurd (none-some ReadOnly e)
  first-may (Some a) b may = may

  into-free : (x : Option Subscription) (changes : Bool) (follower : Option ℕ) (b : Option Bound) (p : Subscriber) (refuses : ℕ → ℕ → Option AssignError) (goes : ℕ → ℕ → Way)
      → ((n c : ℕ) → MaySet (refuses n c) → IsFree s.derived (goes n c).store) → MaySet (into_refusal s v x changes follower b refuses) → IsFree s.derived (into x changes b p goes).store
  into-free (Some x) changes follower b p refuses goes h may = name-free x.store may
  into-free None true follower None p refuses goes h may = tt
  into-free None true follower (Some b) p refuses goes h may = h b.owner b.target (first-may (refuses b.owner b.target) (held_refusal follower v) may)
  into-free None false follower b p refuses goes h may = tt

  step-free : (o : Option Instance) (n c : ℕ) (refuses : ℕ → ℕ → Option AssignError) (goes : ℕ → ℕ → Way)
      → ((m d : ℕ) → MaySet (refuses m d) → IsFree s.derived (goes m d).store) → MaySet (refusal_step s v o c refuses) → IsFree s.derived (way_step v o (record { inst = n; cell = c }) goes).store
  step-free None n c refuses goes h may = tt
  step-free (Some i) n c refuses goes h may =
      into-free (subscription_at i.subscriptions c) (cells.changes i.cells c v) (follower_of i.subscriptions c) (bound_at i.setup.bounds c) (record { inst = n; cell = c }) refuses goes h may

  way-free : (room n c : ℕ) → MaySet (refusal room s v n c) → IsFree s.derived (way room s v n c).store
  way-free zero n c may = tt
  way-free (suc room) n c may = step-free (live s n) n c (refusal room s v) (way room s v) (λ m d. way-free room m d) may

next-more : (all : List Derived) (id owner : ℕ) (r : Recipe) → next all ≡ None → next (with_one all id owner r) ≡ None
next-more [] id owner r h = refl
next-more (d ∷ all) id owner r h = ⊎_elim
    (λ b. absurd (none-some d.id (sym h ∙ (λ k. if b k then Some d.id else next all))))
    (λ b. rw b (next-more all id owner r (sym (λ k. if b k then Some d.id else next all) ∙ h)))
    (cases_Bool d.is_pending)

-- whoever goes leaves frozen ones behind
next-frozen : (all : List Derived) (n : ℕ) → next all ≡ None → next (frozen all n) ≡ None
next-frozen [] n h = refl
next-frozen (d ∷ all) n h = ⊎_elim
    (λ b. absurd (none-some d.id (sym h ∙ (λ k. if b k then Some d.id else next all))))
    (λ b. rw b (next-frozen all n (sym (λ k. if b k then Some d.id else next all) ∙ h)))
    (cases_Bool d.is_pending)

-- a value that goes to no store changes no value of one
calm-written : (qs : List Subscriber) (v : Val) (s : States) → Calm s (written qs None v s)
calm-written [] v s = calm-same s
calm-written (q ∷ qs) v s = ⊎_elim
    (λ b. rw b (calm-then (record { derived = refl; count = refl; values = λ id. refl }) (calm-then (calm-written qs v (cell_stored s q v)) (calm-enqueued (written qs None v (cell_stored s q v)) q.inst))))
    (λ b. rw b (calm-same s))
    (cases_Bool (changes_in (live s q.inst) q.cell v))

calm-sent : (qs : List Subscriber) (v : Val) (s : States) → Calm s (sent (record { cells = qs; store = None }) v s)
calm-sent qs v s = calm-then (calm-written qs v s) (calm-followed qs (goal_of s.stores v) (written qs None v s))

module _ {p : Program} where
  -- ---- a value goes its way

  standing-written : (qs : List Subscriber) (o : Option ℕ) (v : Val) (s : States) → IsFree s.derived o → Standing p s → Standing p (written qs o v s)
  standing-written [] None v s free h = h
  standing-written [] (Some id) v s free h = standing-set s id v free h
  standing-written (q ∷ qs) o v s free h = ⊎_elim
      (λ b. rw b (standing-calm (calm-enqueued (written qs o v (cell_stored s q v)) q.inst) (standing-written qs o v (cell_stored s q v) free (standing-calm (record { derived = refl; count = refl; values = λ id. refl }) h))))
      (λ b. rw b h)
      (cases_Bool (changes_in (live s q.inst) q.cell v))

  standing-sent : (s : States) (w : Way) (v : Val) → IsFree s.derived w.store → Standing p s → Standing p (sent w v s)
  standing-sent s w v free h = standing-calm (calm-followed w.cells (goal_of (stores_after w.store v s.stores) v) (written w.cells w.store v s)) (standing-written w.cells w.store v s free h)

  standing-assigned : (s : States) (n c : ℕ) (v : Val) → MaySet (assign_refusal s n c v) → Standing p s → Standing p (assigned s n c v)
  standing-assigned s n c v may h = standing-sent s (way_of s n c v) v (way-free s v (depth_of (live s n)) n c may) h

  standing-bound : (s : States) (n : ℕ) (b : Bound) → MaySet (bind_refusal s n b) → Standing p s → Standing p (bound_up s n b)
  standing-bound s n b may h = by (value_in (live s n) b.cell) may where
    now : States
    now = with_instance (with_bound b) s n

    same : Standing p now
    same = standing-calm (record { derived = refl; count = refl; values = λ id. refl }) h

    by : (o : Option Val) → MaySet (sent_refusal o s b.owner b.target) → Standing p (bound_over o b s now)
    by None free = same
    by (Some v) free = standing-sent now (way_of s b.owner b.target v) v (way-free s v (depth_of (live s b.owner)) b.owner b.target free) same

  -- ---- what settles behind it

  -- none is pending, so each is computed
  computed-standing : (s : States) → AreComputed p s → Standing p s
  computed-standing s h = record { ordered = h.ordered; made = h.made; computed = λ id d there live idle. h.computed id d there live }

  standing-computed : (s : States) → next s.derived ≡ None → Standing p s → AreComputed p s
  standing-computed s idle h = record { ordered = h.ordered; made = h.made; idle = idle; computed = λ id d there live. h.computed id d there live ((found-one s.derived id d there).idle idle) }

  pub computed_behind : (room : ℕ) (w : World) → Standing p w.states → Left (at_ends (AreComputed p)) (settled (derive p room) w)
  computed_behind room w h = by (settled (derive p room) w) (settles-all computing room w h) where
    by : {A : Type 0} (e : Ending A) → Left (at_ends (Settled (Standing p))) e → Left (at_ends (AreComputed p)) e
    by (Ends a w) h = standing-computed w.states h.idle h.holds
    by (Fails k s w) h = tt

  computed-calm : (s t : States) → Calm s t → AreComputed p s → AreComputed p t
  computed-calm s t c h = standing-computed t (ap next c.derived ∙ h.idle) (standing-calm c (computed-standing s h))

  -- ---- one more store

  -- values that are there stay
  one-more : (s t : States) (v : Val) (id : ℕ) (d : Derived) → t.stores ≡ made s.stores v → found s.derived id ≡ Some d → AreComputed p s → IsComputed p s d → IsComputed p t d
  one-more s t v id d is there h k =
      let one : IsOne s.derived id d = found-one s.derived id d there in
      let inside : d.id < length s.stores = one.made (length s.stores) h.made in
      computed-on s t d
      (λ n input. ap (λ stores. value_at stores n) is ∙ value-more s.stores v n (let low = below-any d.recipe.inputs n d.id (one.formed h.ordered.formed).inputs input in omega (arith, low, inside)))
      (ap (λ stores. value_at stores d.id) is ∙ value-more s.stores v d.id inside) k

  computed-store : (s : States) (v : Val) → AreComputed p s → AreComputed p (with_store s v)
  computed-store s v h = record {
    ordered = h.ordered;
    made = made-store s v h.made;
    idle = h.idle;
    computed = λ id d there live. one-more s (with_store s v) v id d refl there h (h.computed id d there live);
  }

  module _ (room : ℕ) (w w' : World) (owner : ℕ) (r : Recipe) (v : Val) (below : AreBelow r.inputs (length w.states.stores)) (gave : derive p room owner r w ≡ Ends v w') (h : AreComputed p w.states) where
    abbrev old : States
    old = w.states

    abbrev new : Derived
    new = record { id = length old.stores; owner = owner; recipe = r; is_pending = false; is_frozen = false }

    new_computed : IsComputed p (with_derived old owner r v) new
    new_computed = record {
      room = room;
      before = w;
      after = w';
      value = v;
      gave = gave;
      inputs = sym (inputs-same old.stores (made old.stores v) r.inputs (λ n input. value-more old.stores v n (below-any r.inputs n (length old.stores) below input)));
      has = value-last old.stores v;
    }

    more-computed : AreComputed p (with_derived old owner r v)
    more-computed = record {
      ordered = ordered-one old.derived (length old.stores) owner r below h.made h.ordered;
      made = made-derived old owner r v h.made;
      idle = next-more old.derived (length old.stores) owner r h.idle;
      computed = λ id d there live. ⊎_elim
          (λ before. one-more old (with_derived old owner r v) v id d refl before h (h.computed id d before live))
          (λ is. subst (IsComputed p (with_derived old owner r v)) is new_computed)
          (found-more old.derived (length old.stores) owner r id d there);
    }

    computed-derived : AreComputed p (with_derived w'.states owner r v)
    computed-derived = subst (λ s. AreComputed p (with_derived s owner r v)) (sym (subst (λ x. (world_of x).states ≡ w.states) gave (derive-same p room owner r w))) more-computed

  -- ---- whatever scripts do

  computed-setups : Setups (AreComputed p)
  computed-setups s f n h = computed-calm s (with_instance (λ i. record i { setup = f i.setup }) s n) (record { derived = refl; count = refl; values = λ id. refl }) h

  pub computed_stay : Stays p (at_ends (AreComputed p))
  computed_stay = record {
    left = λ ms s f n e h. computed-setups s f n h;
    with_store = λ ms s v h. computed-store s v h;
    with_derived = λ room w w' owner r v below gave h. computed-derived room w w' owner r v below gave h;
    settles = λ room w h. computed_behind room w (computed-standing w.states h);
    assigned = λ room w n c v may h. computed_behind room (record w { states = assigned w.states n c v }) (standing-assigned w.states n c v may (computed-standing w.states h));
    store_set = λ room w id v may h. computed_behind room (record w { states = store_set w.states id v }) (standing-set w.states id v (store-free w.states id may) (computed-standing w.states h));
  }

  pub computed_sets : (owner : ℕ) → Sets owner (λ ms. AreComputed p)
  computed_sets owner = record {
    constant = λ w file n v h. either_world (AreComputed p) (nat_eq owner 0) _ _ h (computed-setups w.states (λ u. record u { constants = slice_set u.constants n (Some v) }) owner h);
    declared = λ ms s cell v h. computed-calm s _ (record { derived = refl; count = refl; values = λ id. refl }) h;
    subscribed = λ ms s cell source v h. computed-calm s _ (calm-subscribed s (record { inst = owner; cell = cell }) source v) h;
  }

  -- ---- what the page does besides

  -- a prop is bound, and derived stores settle
  pub computed_bound : (room : ℕ) (w : World) (n : ℕ) (b : Bound) → MaySet (bind_refusal w.states n b) → AreComputed p w.states → Left (at_ends (AreComputed p)) (settled (derive p room) (record w { states = bound_up w.states n b }))
  computed_bound room w n b may h = computed_behind room (record w { states = bound_up w.states n b }) (standing-bound w.states n b may (computed-standing w.states h))

  -- nothing is handed on to a store
  pub computed-handed : (s : States) (q : Subscriber) (v : Val) → AreComputed p s → AreComputed p (handed_down s q v)
  computed-handed s q v h = computed-calm s (handed_down s q v) (⊎_elim (λ b. rw b (calm-sent (q ∷ []) v s)) (λ b. rw b (calm-sent [] v s)) (cases_Bool (changes_in (live s q.inst) q.cell v))) h

  pub computed-viewed : (s : States) (n c : ℕ) (view : View) → AreComputed p s → AreComputed p (viewed s n c view)
  computed-viewed s n c view h = computed-calm s _ (calm-viewed s n c view) h

  module _ (s : States) (n : ℕ) (h : AreComputed p s) where
    kept : (is_frozen there : Bool) → (is_frozen || there) ≡ false → is_frozen ≡ false
    kept false there e = refl
    kept true there e = absurd (true≢false e)

    gone_by : (gone : Bool) → is_some (live s n) ≡ gone → Standing p (removed s n)
    gone_by true b =
        standing-mapped (frozen_by n) (λ d. refl) s.derived (removed s n) (λ k. if b k then frozen s.derived n else s.derived) (subst IsOrdered (sym (λ k. if b k then frozen s.derived n else s.derived)) (ordered-frozen s.derived n h.ordered))
        (made-same s (removed s n) (tally-removed s n) h.made)
        (λ id d there live. λ idle. stirred (removed s n) d (frozen_by n d).is_pending (frozen_by n d).is_frozen
        (computed-on s (removed s n) d (λ i input. value-dropped s.stores n i) (value-dropped s.stores n d.id) (h.computed id d there (kept d.is_frozen (nat_eq d.owner n) live))))
    gone_by false b =
        standing-calm (record { derived = λ k. if b k then frozen s.derived n else s.derived; count = ap (λ x. x.1) (tally-removed s n); values = value-dropped s.stores n }) (computed-standing s h)

    idle_by : (gone : Bool) → next (if gone then frozen s.derived n else s.derived) ≡ None
    idle_by true = next-frozen s.derived n h.idle
    idle_by false = h.idle

    pub computed-removed : AreComputed p (removed s n)
    computed-removed = standing-computed (removed s n) (idle_by (is_some (live s n))) (gone_by (is_some (live s n)) refl)

  -- nor do instances that come, and snapshots
  pub computed-lives : (s t : States) → t.derived ≡ s.derived → t.stores ≡ s.stores → AreComputed p s → AreComputed p t
  computed-lives s t derived stores h = computed-calm s t (record { derived = derived; count = ap length stores; values = λ id. ap (λ all. value_at all id) stores }) h
