-- How the `$` names of all live instances stand, and what values that go their ways leave of it.
use Rattle.std.proofs.Common.{◌≡◌, ◌≢◌, ℕ, zero, suc, ◌≤◌, Bool, true, false, List, [], ◌∷◌, length, Option, Some, None, option_map, is_some, refl, sym, ap, subst, ◌∙◌, arith, inl, inr, ◌⊎◌, ⊎_elim}
use Rattle.std.specs.Prelude.{◌||◌}
use Rattle.std.specs.List.{list_any}
use Rattle.std.proofs.lemmas.Bool.{cases_eq, cases_Bool, eq-eqb, true≢false}
use Rattle.std.proofs.lemmas.List.{length_push}
use Rattle.std.proofs.lemmas.Option.{none-some, same_Some}
use Rattle.sv_code.specs.Names.{Each}
use Rattle.sv_code.specs.declared.known.Known.TheVariants as known
use Rattle.sv_code.specs.declared.program.Component.{Component}
use Rattle.sv_code.specs.declared.program.Program.{Program}
use Rattle.sv_code.specs.declared.program.StoreCell.{StoreCell}
use Rattle.sv_derived.specs.Derived.{marked, done}
use Rattle.sv_frame.proofs.Outcomes.{Stays, ending, ends_stay}
use Rattle.sv_frame.proofs.Stepping.{CodeSteps, both_code_stays}
use Rattle.sv_instance.specs.Bound.{Bound}
use Rattle.sv_instance.specs.Cells as cells
use Rattle.sv_instance.specs.Subscriptions.{subscription_at, is_cell, placed}
use Rattle.sv_instance.specs.declared.instance.Instance.{Instance}
use Rattle.sv_instance.specs.declared.setup.Setup.{Setup}
use Rattle.sv_instance.specs.declared.subscriptions.Subscription.{Subscription}
use Rattle.sv_meaning.specs.Components.{component_at}
use Rattle.sv_numbered.specs.Numbered.{at, altered}
use Rattle.sv_states.proofs.Altering.{at-altered_same, at-altered_none, at-altered_other, option_cases}
use Rattle.sv_states.proofs.Calm.{each_altered}
use Rattle.sv_states.proofs.Making.{tally-sent}
use Rattle.sv_states.proofs.Naming.{goal-none, goal-held, goal-set, sound-sent}
use Rattle.sv_states.proofs.Sounding.{sound-inert, sound-computed, sound-store, sound-derived}
use Rattle.sv_states.specs.Assignment.{Way, changes_in, cell_stored, taken, told, store_set, end_set, written, placed_at, looked, moved_if, followed, all_followed, sent, way_of, way_into, handed_down, with_bound, bound_over, bound_up}
use Rattle.sv_states.specs.Moving.{Goal, goal_of, stores_after, leaves, comes, store_in, name_in, follower_in}
use Rattle.sv_states.specs.Sound.{is_subscriber, IsSound}
use Rattle.sv_states.specs.States.{States, live, with_instance, cell_in, value_in}
use Rattle.sv_states.specs.Waiting.{joins, queued, enqueued}
use Rattle.sv_store.specs.Stores.{Store, Subscriber, same_subscriber, with_value, differs_at, subscribers_at, value_at, IsOnce}
use Rattle.sv_value.specs.Value.{Val, undefined, null, boolean, number, text, list, object, function, store}
use Rattle.sv_subscribed.proofs.Known.{name-placed, follower-is}
use Rattle.sv_subscribed.proofs.Once.{once-store_set, once-sent, once-made}
use Rattle.sv_subscribed.proofs.Standing.{Modules, Stand, stand-more, stand-valued, stand-assigned, stand-told, stand-followed, stand-unfollowed}
use Rattle.sv_subscribed.proofs.Ways.{if_either, Holds, went-all, went-down}
use Rattle.sv_subscribed.specs.Apart.{AreApart}
use Rattle.sv_subscribed.specs.Holders.{IsAmong, Looks}

-- ---- who is subscribed is a `$` name

abbrev pub IsName : States → Subscriber → Type 0
IsName s q = is_some (name_in (live s q.inst) q.cell) ≡ true

abbrev pub AreNames : States → Type 0
AreNames s = (n c id : ℕ) → is_subscriber s n c id ≡ true → is_some (name_in (live s n) c) ≡ true

pub sound-names : (s : States) → IsSound s → AreNames s
sound-names s sound n c id is = by (name_in (live s n) c) (sym (sound.subscribed n c id) ∙ is) where
  by : (o : Option Subscription) → is_cell (store_in o) id ≡ true → is_some o ≡ true
  by None e = absurd (true≢false (sym e))
  by (Some x) e = refl

-- so each subscriber of a store is
subscribers_are : (s : States) (id : ℕ) → AreNames s → Each (IsName s) (subscribers_at s.stores id)
subscribers_are s id names = each (subscribers_at s.stores id) (λ q is. names q.inst q.cell id is) where
  or_true : (b : Bool) → (b || true) ≡ true
  or_true true = refl
  or_true false = refl

  each : (qs : List Subscriber) → ((q : Subscriber) → list_any (same_subscriber q) qs ≡ true → IsName s q) → Each (IsName s) qs
  each [] k = tt
  each (q ∷ qs) k = (k q (rw (eq-eqb q.inst q.inst refl) (rw (eq-eqb q.cell q.cell refl) refl)), each qs (λ r is. k r (ap (λ b. same_subscriber r q || b) is ∙ or_true (same_subscriber r q))))

-- names stay where instances change in something else
name-altered : (f : Instance → Instance) (s : States) (n : ℕ) → ((i : Instance) → (f i).subscriptions ≡ i.subscriptions) → (m c : ℕ) → name_in (live (with_instance f s n) m) c ≡ name_in (live s m) c
name-altered f s n same m c = each_altered (λ k o. name_in o c ≡ name_in (live s k) c) f s.lives n (λ k. refl) (λ i there e. ap (λ l. subscription_at l c) (same i) ∙ e) m

name-enqueued : (s : States) (n m c : ℕ) → name_in (live (enqueued s n) m) c ≡ name_in (live s m) c
name-enqueued s n m c = if_either (λ lives. name_in (at lives m) c ≡ name_in (live s m) c) (joins (live s n)) (altered queued s.lives n) s.lives (name-altered queued s n (λ i. refl) m c) refl

name-taken : (s : States) (p : Subscriber) (v : Val) (m c : ℕ) → name_in (live (taken s p v) m) c ≡ name_in (live s m) c
name-taken s p v m c = if_either (λ t. name_in (live t m) c ≡ name_in (live s m) c) (changes_in (live s p.inst) p.cell v) (enqueued (cell_stored s p v) p.inst) s
    (name-enqueued (cell_stored s p v) p.inst m c ∙ name-altered _ s p.inst (λ i. refl) m c) refl

-- ---- one instance changed

-- a fact of each live instance, before and after one is changed
pub altered_at : (A B : ℕ → Instance → Type 0) (f : Instance → Instance) (s : States) (n : ℕ) → ((m : ℕ) (i : Instance) → live s m ≡ Some i → A m i) → ((i : Instance) → live s n ≡ Some i → A n i → B n (f i))
    → ((m : ℕ) (i : Instance) → m ≢ n → A m i → B m i) → (m : ℕ) (i : Instance) → live (with_instance f s n) m ≡ Some i → B m i
altered_at A B f s n all here others m i there = ⊎_elim
    (λ same. subst (λ k. B k i) (sym same) (⊎_elim
    (λ none. absurd (none-some i (sym (at-altered_none f s.lives n none) ∙ (ap (at (altered f s.lives n)) (sym same) ∙ there))))
    (λ some. subst (B n) (same_Some (f some.0) i (sym (at-altered_same f s.lives n some.0 some.1) ∙ (ap (at (altered f s.lives n)) (sym same) ∙ there))) (here some.0 some.1 (all n some.0 some.1)))
    (option_cases (live s n))))
    (λ other. others m i other (all m i (sym (at-altered_other f s.lives n m other) ∙ there)))
    (cases_eq m n)

-- a fact of an instance that code leaves, whatever it does to it: `$` names that are there move
pub record Rides (Q : Instance → Type 0) : Type 0 where
  pub setup : (i : Instance) (u : Setup) → u.constants ≡ i.setup.constants → Q i → Q (record i { setup = u })
  pub waits : (i : Instance) → Q i → Q (queued i)
  pub moved : (i : Instance) (c : ℕ) (st : Option ℕ) → Q i → Q (placed_at c st i)
  pub assigned : (i : Instance) (c : ℕ) (v : Val) → Q i → Q (record i { cells = cells.assigned i.cells c v })

-- variables to which a value went, by their instances
abbrev pub Places : Type 1
Places = ℕ → ℕ → Type 0

abbrev pub none : Places
none n c = ⊥

-- a cell is one of some
abbrev pub On : List Subscriber → Places
On [] n c = ⊥
On (p ∷ ps) n c = ((p.inst ≡ n) × (p.cell ≡ c)) ⊎ On ps n c

on-holds : (v : Val) (s : States) (ps : List Subscriber) (n c : ℕ) → Each (Holds v s) ps → On ps n c → value_in (live s n) c ≡ Some v
on-holds v s [] n c h on = absurd on
on-holds v s (p ∷ ps) n c h (inl is) = (λ k. value_in (live s (sym is.0 k)) (sym is.1 k)) ∙ h.0
on-holds v s (p ∷ ps) n c h (inr on) = on-holds v s ps n c h.1 on

-- ---- where a value goes

-- a store that is held is looked at
pub goal-looks : (many : ℕ) (set : Option ℕ) (stores : List Store) (v : Val) → many ≤ length stores → Looks many (Some v) (goal_of (stores_after set v stores) v).store
goal-looks many set stores (store id) enough = by (value_at stores id) refl where
  some : (goal_of (stores_after set (store id) stores) (store id)).store ≡ Some id → Looks many (Some (store id)) (goal_of (stores_after set (store id) stores) (store id)).store
  some e = record { right = λ n is. sym e ∙ is; there = λ n is below. e ∙ is }

  by : (o : Option Val) → value_at stores id ≡ o → Looks many (Some (store id)) (goal_of (stores_after set (store id) stores) (store id)).store
  by None e = record {
    right = λ n is. absurd (none-some n (sym (ap (λ (g : Goal). g.store) (goal-none set stores id e)) ∙ is));
    there = λ n is below. absurd (let l = past stores id e in let same = same_Some id n is in omega (arith, l, below, same, enough));
  } where
    past : (stores : List Store) (id : ℕ) → value_at stores id ≡ None → length stores ≤ id
    past [] id k = omega arith
    past (s ∷ stores) zero k = absurd (none-some s.value (sym k))
    past (s ∷ stores) (suc id) k = let l = past stores id k in omega (arith, l)
  by (Some u) e = some (⊎_elim
      (λ t. ap (λ (g : Goal). g.store) (goal-set set stores id u t e))
      (λ f. ap (λ (g : Goal). g.store) (goal-held set stores id u f e))
      (cases_Bool (is_cell set id)))
goal-looks many set stores undefined enough = record { right = λ n is. absurd (none-some n is); there = λ n is below. is }
goal-looks many set stores null enough = record { right = λ n is. absurd (none-some n is); there = λ n is below. is }
goal-looks many set stores (boolean b) enough = record { right = λ n is. absurd (none-some n is); there = λ n is below. is }
goal-looks many set stores (number x) enough = record { right = λ n is. absurd (none-some n is); there = λ n is below. is }
goal-looks many set stores (text t) enough = record { right = λ n is. absurd (none-some n is); there = λ n is below. is }
goal-looks many set stores (list vs) enough = record { right = λ n is. absurd (none-some n is); there = λ n is below. is }
goal-looks many set stores (object fs) enough = record { right = λ n is. absurd (none-some n is); there = λ n is below. is }
goal-looks many set stores (function c o vs) enough = record { right = λ n is. absurd (none-some n is); there = λ n is below. is }

-- ---- all instances

module _ (p : Program) (many : ℕ) (ms : Modules) (apart : AreApart p) (Old : ℕ → Type 0) (Q : ℕ → Instance → Type 0) (rides : (n : ℕ) → Rides (Q n)) where
  -- the `$` names of an instance, by its component
  abbrev pub Names : (Off Has : ℕ → Type 0) → Val → Instance → Type 0
  Names Off Has v i = (c : Component) → component_at p i.place.component ≡ Some c → Stand many ms c.stores Off Has v i.subscriptions i.cells.now i.setup.constants

  -- an instance whose script ran, and what is so of each
  abbrev pub Is : Places → Places → Val → ℕ → Instance → Type 0
  Is Off Has v n i = (Old n → Names (Off n) (Has n) v i) × Q n i

  abbrev pub All : Places → Places → Val → States → Type 0
  All Off Has v s = (n : ℕ) (i : Instance) → live s n ≡ Some i → Is Off Has v n i

  more-off : (Off Off' Has : Places) (v : Val) (n : ℕ) (i : Instance) → ((c : ℕ) → Off n c → Off' n c) → Is Off Has v n i → Is Off' Has v n i
  more-off Off Off' Has v n i more h = (λ old c is. stand-more ((apart i.place.component c is).names) more (h.0 old c is), h.1)

  all-more : (Off Off' Has : Places) (v : Val) (s : States) → ((n c : ℕ) → Off n c → Off' n c) → All Off Has v s → All Off' Has v s
  all-more Off Off' Has v s more h n i there = more-off Off Off' Has v n i (more n) (h n i there)

  module _ (Off Has : Places) (v : Val) where
    -- ---- the queue

    all-enqueued : (s : States) (n : ℕ) → All Off Has v s → All Off Has v (enqueued s n)
    all-enqueued s n h = if_either (λ lives. (m : ℕ) (i : Instance) → at lives m ≡ Some i → Is Off Has v m i) (joins (live s n)) (altered queued s.lives n) s.lives
        (altered_at (Is Off Has v) (Is Off Has v) queued s n h (λ i there k. (λ old c is. k.0 old c is, (rides n).waits i k.1)) (λ m i other k. k)) h

    -- ---- a cell takes a value

    -- where it holds a store, its `$` name is to follow
    abbrev IsFree : States → Subscriber → Type 0
    IsFree s q = (i : Instance) (c : Component) → live s q.inst ≡ Some i → Old q.inst → component_at p i.place.component ≡ Some c → (x : StoreCell) → IsAmong x c.stores → x.holder ≡ known.Cell q.cell
        → Off q.inst q.cell × (Has q.inst q.cell → ⊥)

    all-stored : (s : States) (q : Subscriber) (u : Val) → IsFree s q → All Off Has v s → All Off Has v (cell_stored s q u)
    all-stored s q u free h = altered_at (Is Off Has v) (Is Off Has v) _ s q.inst h
        (λ i there k. (λ old c is. stand-assigned ((apart i.place.component c is).names) q.cell u (k.0 old c is) (free i c there old is), (rides q.inst).assigned i q.cell u k.1))
        (λ m i other k. k)

    -- ---- a `$` name takes a value

    all-named : (s : States) (q : Subscriber) (u : Val) → IsName s q → All Off Has v s → All Off Has v (cell_stored s q u)
    all-named s q u name h = altered_at (Is Off Has v) (Is Off Has v) _ s q.inst h
        (λ i there k. (λ old c is. stand-told ((apart i.place.component c is).names) q.cell u (ap (λ o. is_some (name_in o q.cell)) (sym there) ∙ name) (k.0 old c is), (rides q.inst).assigned i q.cell u k.1))
        (λ m i other k. k)

    all-taken : (s : States) (q : Subscriber) (u : Val) → IsName s q → All Off Has v s → All Off Has v (taken s q u)
    all-taken s q u name h = if_either (All Off Has v) (changes_in (live s q.inst) q.cell u) (enqueued (cell_stored s q u) q.inst) s (all-enqueued (cell_stored s q u) q.inst (all-named s q u name h)) h

    all-told : (qs : List Subscriber) (u : Val) (s : States) → Each (IsName s) qs → All Off Has v s → All Off Has v (told qs u s)
    all-told [] u s names h = h
    all-told (q ∷ qs) u s names h = all-told qs u (taken s q u) (still qs names.1) (all-taken s q u names.0 h) where
      still : (rs : List Subscriber) → Each (IsName s) rs → Each (IsName (taken s q u)) rs
      still [] k = tt
      still (r ∷ rs) k = (ap is_some (name-taken s q u r.inst r.cell) ∙ k.0, still rs k.1)

    -- ---- a store takes a value

    pub all-set : (s : States) (id : ℕ) (u : Val) → AreNames s → All Off Has v s → All Off Has v (store_set s id u)
    all-set s id u names h = if_either (All Off Has v) (differs_at s.stores id u) _ s
        (all-told (subscribers_at s.stores id) u (record s { stores = with_value s.stores id u; derived = marked s.derived id }) (subscribers_are s id names) h) h

    all-end : (end : Option ℕ) (u : Val) (s : States) → AreNames s → All Off Has v s → All Off Has v (end_set end u s)
    all-end None u s names h = h
    all-end (Some id) u s names h = all-set s id u names h

  -- ---- a value goes its way

  names-stored : (s : States) (q : Subscriber) (u : Val) → AreNames s → AreNames (cell_stored s q u)
  names-stored s q u names n c id is = ap is_some (name-altered _ s q.inst (λ i. refl) n c) ∙ names n c id is

  all-written : (Off : Places) (qs : List Subscriber) (end : Option ℕ) (u : Val) (s : States) → ((n c : ℕ) → On qs n c → Off n c) → AreNames s → All Off none undefined s → All Off none undefined (written qs end u s)
  all-written Off [] end u s off names h = all-end Off none undefined end u s names h
  all-written Off (q ∷ qs) end u s off names h = if_either (All Off none undefined) (changes_in (live s q.inst) q.cell u) (enqueued (written qs end u (cell_stored s q u)) q.inst) s
      (all-enqueued Off none undefined (written qs end u (cell_stored s q u)) q.inst
      (all-written Off qs end u (cell_stored s q u) (λ n c on. off n c (inr on)) (names-stored s q u names)
      (all-stored Off none undefined s q u (λ i c there old is x among holds. (off q.inst q.cell (inl (refl, refl)), λ has. has)) h))) h

  -- ---- and `$` names follow

  module _ (Has : Places) (v : Val) where
    -- what is off, and one more
    abbrev And : Places → Subscriber → Places
    And Off q n c = Off n c ⊎ ((q.inst ≡ n) × (q.cell ≡ c))

    here_or : (Off : Places) (q : Subscriber) (c : ℕ) → And Off q q.inst c → Off q.inst c ⊎ (q.cell ≡ c)
    here_or Off q c (inl off) = inl off
    here_or Off q c (inr its) = inr its.1

    not_here : (Off : Places) (q : Subscriber) (m c : ℕ) → m ≢ q.inst → And Off q m c → Off m c
    not_here Off q m c other (inl off) = off
    not_here Off q m c other (inr its) = absurd (other (sym its.0))

    all-moved : (Off : Places) (s : States) (q : Subscriber) (d : ℕ) (g : Goal) → Has q.inst q.cell → Looks many (Some v) g.store → follower_in (live s q.inst) q.cell ≡ Some d
        → All (And Off q) Has v s → All Off Has v (looked (record { inst = q.inst; cell = d }) g.store g.value s)
    all-moved Off s q d g has looks follows h = all-taken Off Has v (with_instance (placed_at d g.store) s q.inst) (record { inst = q.inst; cell = d }) g.value name
        (altered_at (Is (And Off q) Has v) (Is Off Has v) (placed_at d g.store) s q.inst h here others)
      where
        name : IsName (with_instance (placed_at d g.store) s q.inst) (record { inst = q.inst; cell = d })
        name = over (live s q.inst) refl follows where
          over : (o : Option Instance) → live s q.inst ≡ o → follower_in o q.cell ≡ Some d → is_some (name_in (live (with_instance (placed_at d g.store) s q.inst) q.inst) d) ≡ true
          over None e k = absurd (none-some d k)
          over (Some i) e k =
              ap (λ o. is_some (name_in o d)) (at-altered_same (placed_at d g.store) s.lives q.inst i e)
              ∙ (ap is_some (name-placed i.subscriptions d g.store d) ∙ mapped (subscription_at i.subscriptions d) (follower-is i.subscriptions q.cell d k))
            where
              mapped : (o : Option Subscription) → is_some o ≡ true → is_some (option_map (placed d g.store) o) ≡ true
              mapped None k = k
              mapped (Some x) k = refl

        here : (i : Instance) → live s q.inst ≡ Some i → Is (And Off q) Has v q.inst i → Is Off Has v q.inst (placed_at d g.store i)
        here i there k = (
          λ old c is.
              stand-followed ((apart i.place.component c is).names) q.cell
              (stand-more ((apart i.place.component c is).names) (here_or Off q) (k.0 old c is))
              d g.store has (ap (λ o. follower_in o q.cell) (sym there) ∙ follows) looks,
          (rides q.inst).moved i d g.store k.1,
        )

        others : (m : ℕ) (i : Instance) → m ≢ q.inst → Is (And Off q) Has v m i → Is Off Has v m i
        others m i other k = more-off (And Off q) Off Has v m i (λ c. not_here Off q m c other) k

    all-unmoved : (Off : Places) (s : States) (q : Subscriber) → follower_in (live s q.inst) q.cell ≡ None → All (And Off q) Has v s → All Off Has v s
    all-unmoved Off s q nobody h n i there = by (cases_eq q.inst n) where
      here : (m : ℕ) → q.inst ≡ m → live s m ≡ Some i → Is (And Off q) Has v m i → Is Off Has v m i
      here m same is k = subst (λ j. Is Off Has v j i) same (own (ap (live s) same ∙ is) (subst (λ j. Is (And Off q) Has v j i) (sym same) k)) where
        own : live s q.inst ≡ Some i → Is (And Off q) Has v q.inst i → Is Off Has v q.inst i
        own it x = (
          λ old c comp. stand-unfollowed ((apart i.place.component c comp).names) q.cell (stand-more ((apart i.place.component c comp).names) (here_or Off q) (x.0 old c comp))
              (ap (λ o. follower_in o q.cell) (sym it) ∙ nobody),
          x.1,
        )

      by : (q.inst ≡ n) ⊎ (q.inst ≢ n) → Is Off Has v n i
      by (inl same) = here n same there (h n i there)
      by (inr other) = more-off (And Off q) Off Has v n i (λ c. not_here Off q n c (λ e. other (sym e))) (h n i there)

    all-follow : (Off : Places) (s : States) (q : Subscriber) (g : Goal) → Has q.inst q.cell → Looks many (Some v) g.store → All (And Off q) Has v s → All Off Has v (followed q g s)
    all-follow Off s q g has looks h = by (follower_in (live s q.inst) q.cell) refl where
      by : (o : Option ℕ) → follower_in (live s q.inst) q.cell ≡ o → All Off Has v (moved_if o q.inst g s)
      by None e = all-unmoved Off s q e h
      by (Some d) e = all-moved Off (record s { stores = comes g.store (record { inst = q.inst; cell = d }) (leaves (store_in (name_in (live s q.inst) d)) (record { inst = q.inst; cell = d }) s.stores) }) q d g has looks e h

    abbrev Yet : Places → List Subscriber → Places
    Yet Off qs n c = Off n c ⊎ On qs n c

    nothing_yet : (Off : Places) (n c : ℕ) → Yet Off [] n c → Off n c
    nothing_yet Off n c (inl off) = off
    nothing_yet Off n c (inr on) = absurd on

    first_yet : (Off : Places) (q : Subscriber) (qs : List Subscriber) (n c : ℕ) → Yet Off (q ∷ qs) n c → Yet (And Off q) qs n c
    first_yet Off q qs n c (inl off) = inl (inl off)
    first_yet Off q qs n c (inr on) = ⊎_elim (λ here. inl (inr here)) (λ later. inr later) on

    all-followed : (Off : Places) (qs : List Subscriber) (g : Goal) (s : States) → ((n c : ℕ) → On qs n c → Has n c) → Looks many (Some v) g.store → All (Yet Off qs) Has v s → All Off Has v (all_followed qs g s)
    all-followed Off [] g s has looks h = all-more (Yet Off []) Off Has v s (nothing_yet Off) h
    all-followed Off (q ∷ qs) g s has looks h =
        all-follow Off (all_followed qs g s) q g (has q.inst q.cell (inl (refl, refl))) looks
        (all-followed (And Off q) qs g s (λ n c on. has n c (inr on)) looks (all-more (Yet Off (q ∷ qs)) (Yet (And Off q) qs) Has v s (first_yet Off q qs) h))

  -- a value that stands in each cell of its way went it, and all `$` names followed
  pub all-sent : (w : Way) (v : Val) (s : States) → Each (Holds v (written w.cells w.store v s)) w.cells → many ≤ length s.stores → AreNames s → All none none undefined s → All none none undefined (sent w v s)
  all-sent w v s holds enough names h =
      without (all_followed w.cells g t)
      (all-followed (On w.cells) v none w.cells g t (λ n c on. on) (goal-looks many w.store s.stores v enough)
      (told_value (all-more (On w.cells) (λ n c. ⊥ ⊎ On w.cells n c) none undefined t (λ n c on. inr on)
      (all-written (On w.cells) w.cells w.store v s (λ n c on. on) names (all-more none (On w.cells) none undefined s (λ n c no. absurd no) h)))))
    where
      t : States
      t = written w.cells w.store v s

      g : Goal
      g = goal_of (stores_after w.store v s.stores) v

      told_value : All (λ n c. ⊥ ⊎ On w.cells n c) none undefined t → All (λ n c. ⊥ ⊎ On w.cells n c) (On w.cells) v t
      told_value k n i there = (
        λ old c is. stand-valued ((apart i.place.component c is).names) (On w.cells n) (λ d on. ap (λ o. value_in o d) (sym there) ∙ on-holds v t w.cells n d holds on) ((k n i there).0 old c is),
        (k n i there).1,
      )

      without : (r : States) → All none (On w.cells) v r → All none none undefined r
      without r k n i there = (λ old c is. stand-valued ((apart i.place.component c is).names) (none n) (λ d no. absurd no) ((k n i there).0 old c is), (k n i there).1)

  -- ---- whatever code does

  -- the states are sound, the first stores are there, and all `$` names stand well
  pub record Goes (s : States) : Type 0 where
    pub sound : IsSound s
    pub enough : many ≤ length s.stores
    pub once : IsOnce s.stores
    pub all : All none none undefined s

  goes-sent : (w : Way) (v : Val) (s : States) → Each (Holds v (written w.cells w.store v s)) w.cells → Goes s → Goes (sent w v s)
  goes-sent w v s holds h = record {
    sound = sound-sent s w v h.sound;
    enough = let e = ap (λ (x : List ℕ × ℕ). x.1) (tally-sent s w v) in let k = h.enough in omega (arith, e, k);
    once = once-sent w v s h.sound h.once;
    all = all-sent w v s holds h.enough (sound-names s h.sound) h.all;
  }

  -- what is left with an instance leaves its constants
  goes-left : (s : States) (f : Setup → Setup) (n : ℕ) → ((u : Setup) → (f u).constants ≡ u.constants) → Goes s → Goes (with_instance (λ i. record i { setup = f i.setup }) s n)
  goes-left s f n e h = record {
    sound = sound-inert (λ i. record i { setup = f i.setup }) s n (λ i. refl) (λ i. refl) (λ i. refl) h.sound;
    enough = h.enough;
    once = h.once;
    all = altered_at (Is none none undefined) (Is none none undefined) (λ i. record i { setup = f i.setup }) s n h.all
        (λ i there k. (
          λ old c is. subst (Stand many ms c.stores (none n) (none n) undefined i.subscriptions i.cells.now) (sym (e i.setup)) (k.0 old c is),
          (rides n).setup i (f i.setup) (e i.setup) k.1,
        ))
        (λ m i other k. k);
  }

  goes-set : (s t : States) (id : ℕ) (v : Val) → t.lives ≡ s.lives → t.stores ≡ s.stores → IsSound (store_set t id v) → Goes s → Goes (store_set t id v)
  goes-set s t id v lives stores sound h = record {
    sound = sound;
    enough = let e = ap (λ (x : List ℕ × ℕ). x.1) (tally-sent t (record { cells = []; store = Some id }) v) in let k = h.enough in let l = ap length stores in omega (arith, e, k, l);
    once = once-store_set t id v (subst IsOnce (sym stores) h.once);
    all = all-set none none undefined t id v (λ n c i is. ap (λ l. is_some (name_in (at l n) c)) lives ∙ sound-names s h.sound n c i (ap (λ l. list_any (same_subscriber (record { inst = n; cell = c })) (subscribers_at l i)) (sym stores) ∙ is))
        (λ n i there. h.all n i (ap (λ l. at l n) (sym lives) ∙ there));
  }

  pub goes_steps : CodeSteps Goes
  goes_steps = record {
    left = goes-left;
    assigned = λ s n c v h. goes-sent (way_of s n c v) v s (went-all s s n c v (λ m d. refl)) h;
    store_set = λ s id v h. goes-set s s id v refl refl (sound-sent s (record { cells = []; store = Some id }) v h.sound) h;
    computed = λ s id v h. goes-set s (record s { derived = done s.derived id }) id v refl refl (sound-computed s id v h.sound) h;
    with_store = λ s v h. record { sound = sound-store s v h.sound; enough = let l = length_push s.stores (record { value = v; subscribers = [] }) in let k = h.enough in omega (arith, l, k); once = once-made s.stores v h.once; all = h.all };
    with_derived = λ s owner r v h. record { sound = sound-derived s owner r v h.sound; enough = let l = length_push s.stores (record { value = v; subscribers = [] }) in let k = h.enough in omega (arith, l, k); once = once-made s.stores v h.once; all = h.all };
  }

  pub goes_stay : Stays p (ending (λ now s. Goes s × (now ≡ ms)))
  goes_stay = ends_stay (both_code_stays goes_steps p (λ now. now ≡ ms))

  -- ---- what the page does besides

  pub goes-handed : (s : States) (q : Subscriber) (v : Val) → Goes s → Goes (handed_down s q v)
  goes-handed s q v h = goes-sent (way_into s q v) v s (went-down s q v) h

  pub goes-bound : (s : States) (n : ℕ) (b : Bound) → Goes s → Goes (bound_up s n b)
  goes-bound s n b h = by (value_in (live s n) b.cell) where
    now : States
    now = with_instance (with_bound b) s n

    goes-now : Goes now
    goes-now = record {
      sound = sound-inert (with_bound b) s n (λ i. refl) (λ i. refl) (λ i. refl) h.sound;
      enough = h.enough;
      once = h.once;
      all = altered_at (Is none none undefined) (Is none none undefined) (with_bound b) s n h.all
          (λ i there k. (λ old c is. k.0 old c is, (rides n).setup i (record i.setup { bounds = b ∷ i.setup.bounds }) refl k.1)) (λ m i other k. k);
    }

    same : (m d : ℕ) → cell_in (live now m) d ≡ cell_in (live s m) d
    same m d = each_altered (λ k o. cell_in o d ≡ cell_in (live s k) d) (with_bound b) s.lives n (λ k. refl) (λ i there e. e) m

    by : (o : Option Val) → Goes (bound_over o b s now)
    by None = goes-now
    by (Some v) = goes-sent (way_of s b.owner b.target v) v now (went-all s now b.owner b.target v same) goes-now
