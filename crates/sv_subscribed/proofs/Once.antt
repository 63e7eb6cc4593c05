-- Each cell is subscribed once at most, whatever is done.
use Rattle.std.proofs.Common.{◌≡◌, ℕ, Bool, true, false, List, [], ◌∷◌, length, Option, Some, None, is_some, refl, sym, ap, subst, ◌∙◌, arith, if◌then◌else◌}
use Rattle.std.specs.Prelude.{not, count_by}
use Rattle.std.proofs.lemmas.Bool.{and_parts, true≢false}
use Rattle.std.proofs.lemmas.List.Sums.{sum_by_push}
use Rattle.sv_derived.specs.Derived.{marked}
use Rattle.sv_instance.specs.declared.subscriptions.Subscription.{Subscription}
use Rattle.sv_states.proofs.Making.{length-changed, tally-followed, tally-written}
use Rattle.sv_states.proofs.Naming.{free-nowhere, left-nowhere, nameless-nowhere, goal-made, sound-followed}
use Rattle.sv_states.proofs.Sounding.{sound-written}
use Rattle.sv_states.specs.Assignment.{Way, changes_in, cell_stored, handing, taken, told, store_set, end_set, written, placed_at, moved, moved_if, followed, all_followed, sent}
use Rattle.sv_states.specs.Change.{declared, with_subscription, named_over, may_follow, subscribed_to}
use Rattle.sv_states.specs.Moving.{Goal, goal_of, stores_after, leaves, comes, store_in, name_in, follower_in, IsThere}
use Rattle.sv_states.specs.Sound.{IsSound}
use Rattle.sv_states.specs.States.{States, live, with_instance, has_cell}
use Rattle.sv_states.specs.Waiting.{enqueued}
use Rattle.sv_store.proofs.Counts.{once-set, times-none, once-more, once-less}
use Rattle.sv_store.specs.Stores.{Store, Subscriber, same_subscriber, set_to, times, is_subscribed, with_value, differs_at, subscribers_at, made, IsOnce}
use Rattle.sv_value.specs.Value.{Val}
use Rattle.sv_subscribed.proofs.Ways.{if_either}

-- so it is in some states
abbrev pub Once : States → Type 0
Once s = IsOnce s.stores

-- ---- a value goes its way

once-handing : (p : Subscriber) (v : Val) (next : States → States) (s : States) → ((t : States) → Once t → Once (next t)) → Once s → Once (handing p v next s)
once-handing p v next s k h = if_either Once (changes_in (live s p.inst) p.cell v) (enqueued (next (cell_stored s p v)) p.inst) s (k (cell_stored s p v) h) h

once-taken : (s : States) (p : Subscriber) (v : Val) → Once s → Once (taken s p v)
once-taken s p v h = once-handing p v (λ t. t) s (λ t k. k) h

once-told : (ps : List Subscriber) (v : Val) (s : States) → Once s → Once (told ps v s)
once-told [] v s h = h
once-told (p ∷ ps) v s h = once-told ps v (taken s p v) (once-taken s p v h)

pub once-store_set : (s : States) (id : ℕ) (v : Val) → Once s → Once (store_set s id v)
once-store_set s id v h = if_either Once (differs_at s.stores id v) _ s
    (once-told (subscribers_at s.stores id) v (record s { stores = with_value s.stores id v; derived = marked s.derived id }) (once-set s.stores id v h)) h

once-end : (end : Option ℕ) (v : Val) (s : States) → Once s → Once (end_set end v s)
once-end None v s h = h
once-end (Some id) v s h = once-store_set s id v h

once-written : (ps : List Subscriber) (end : Option ℕ) (v : Val) (s : States) → Once s → Once (written ps end v s)
once-written [] end v s h = once-end end v s h
once-written (p ∷ ps) end v s h = once-handing p v (written ps end v) s (λ t k. once-written ps end v t k) h

-- ---- a `$` name moves

once-left : (st : Option ℕ) (p : Subscriber) (stores : List Store) → IsOnce stores → IsOnce (leaves st p stores)
once-left None p stores h = h
once-left (Some id) p stores h = once-less stores id p h

once-came : (st : Option ℕ) (p : Subscriber) (stores : List Store) → is_subscribed stores p ≡ false → IsOnce stores → IsOnce (comes st p stores)
once-came None p stores free h = h
once-came (Some id) p stores free h = once-more stores id p h free

once-moved : (s : States) (p : Subscriber) (g : Goal) → IsSound s → Once s → Once (moved s p g)
once-moved s p g sound h =
    let left : List Store = leaves (store_in (name_in (live s p.inst) p.cell)) p s.stores in
    once-taken (with_instance (placed_at p.cell g.store) (record s { stores = comes g.store p left }) p.inst) p g.value
    (once-came g.store p left (free-nowhere left p (left-nowhere s p sound)) (once-left (store_in (name_in (live s p.inst) p.cell)) p s.stores h))

once-followed : (s : States) (p : Subscriber) (g : Goal) → IsSound s → Once s → Once (followed p g s)
once-followed s p g sound h = by (follower_in (live s p.inst) p.cell) where
  by : (o : Option ℕ) → Once (moved_if o p.inst g s)
  by None = h
  by (Some c) = once-moved s (record { inst = p.inst; cell = c }) g sound h

once-all : (ps : List Subscriber) (g : Goal) (s : States) → IsThere (length s.stores) g.store → IsSound s → Once s
    → let t : States = all_followed ps g s in IsThere (length t.stores) g.store × (IsSound t × Once t)
once-all [] g s there sound h = (there, (sound, h))
once-all (p ∷ ps) g s there sound h =
    let t : States = all_followed ps g s in
    let k = once-all ps g s there sound h in (
      subst (λ n. IsThere n g.store) (sym (ap (λ (x : List ℕ × ℕ). x.1) (tally-followed p g t))) k.0,
      (sound-followed t p g k.0 k.1.0, once-followed t p g k.1.0 k.1.1),
    )

length-after : (end : Option ℕ) (v : Val) (stores : List Store) → length (stores_after end v stores) ≡ length stores
length-after None v stores = refl
length-after (Some id) v stores = length-changed (set_to v) stores id

pub once-sent : (w : Way) (v : Val) (s : States) → IsSound s → Once s → Once (sent w v s)
once-sent w v s sound h =
    let t : States = written w.cells w.store v s in
    let after : List Store = stores_after w.store v s.stores in
    (once-all w.cells (goal_of after v) t
    (subst (λ n. IsThere n (goal_of after v).store) (length-after w.store v s.stores ∙ sym (ap (λ (x : List ℕ × ℕ). x.1) (tally-written w.cells w.store v s))) (goal-made after v))
    (sound-written s w.cells w.store v sound) (once-written w.cells w.store v s h)).1.1

-- ---- a `$` name is subscribed

pub once-subscribed : (s : States) (p : Subscriber) (source : Option ℕ) (v : Val) → IsSound s → Once s → Once (subscribed_to s p source v)
once-subscribed s p source v sound h = by (may_follow s p) refl where
  g : Goal
  g = goal_of s.stores v

  nameless : (o : Option Subscription) → not (is_some o) ≡ true → o ≡ None
  nameless None e = refl
  nameless (Some x) e = absurd (true≢false (sym e))

  by : (b : Bool) → may_follow s p ≡ b → Once (if b then named_over source g s p else s)
  by false e = h
  by true e =
      let t : States = record s { lives = (with_instance (with_subscription (record { cell = p.cell; source = source; store = g.store })) s p.inst).lives; stores = comes g.store p s.stores } in
      let none = nameless (name_in (live s p.inst) p.cell) (and_parts (is_some (live s p.inst)) (not (is_some (name_in (live s p.inst) p.cell))) e).1 in
      if_either Once (has_cell (live t p.inst) p.cell) (taken t p g.value) (declared t p g.value)
      (once-taken t p g.value (once-came g.store p s.stores (free-nowhere s.stores p (nameless-nowhere s p none sound)) h))
      (once-came g.store p s.stores (free-nowhere s.stores p (nameless-nowhere s p none sound)) h)

-- ---- stores that are made

times-made : (q : Subscriber) (stores : List Store) (v : Val) → times q (made stores v) ≡ times q stores
times-made q stores v = let e = sum_by_push (λ (s : Store). count_by (same_subscriber q) s.subscribers) stores (record { value = v; subscribers = [] }) in omega (arith, e)

pub once-made : (stores : List Store) (v : Val) → IsOnce stores → IsOnce (made stores v)
once-made stores v h q = let e = times-made q stores v in let k = h q in omega (arith, e, k)

-- where nobody lives, nobody is subscribed
pub once-nobody : (s : States) → IsSound s → ((n : ℕ) → live s n ≡ None) → Once s
once-nobody s sound none q =
    let e = times-none q s.stores (free-nowhere s.stores q (nameless-nowhere s q (ap (λ o. name_in o q.cell) (none q.inst)) sound)) in
    omega (arith, e)
