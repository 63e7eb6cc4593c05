-- What takes a value on its way has it once `$` names followed.
use Rattle.std.proofs.Common.{◌≡◌, ℕ, zero, suc, ◌<◌, Bool, true, false, List, [], ◌∷◌, Option, Some, None, option_map, is_some, refl, sym, ap, subst, ◌∙◌, arith, ⊎_elim, if◌then◌else◌}
use Rattle.std.proofs.lemmas.Bool.{true≢false}
use Rattle.std.proofs.lemmas.Option.{none-some}
use Rattle.sv_bound.specs.Up.{Has, HaveAll, IsPlain, IsDeclared, AreSame}
use Rattle.sv_code.specs.Names.{Each}
use Rattle.sv_instance.specs.Bound.{Bound, bound_at}
use Rattle.sv_instance.specs.Cells as cells
use Rattle.sv_instance.specs.Cells.{cell_at, changes_cell}
use Rattle.sv_instance.specs.Subscriptions.{subscription_at, placed}
use Rattle.sv_instance.specs.declared.instance.Instance.{Instance}
use Rattle.sv_instance.specs.declared.subscriptions.Subscription.{Subscription}
use Rattle.sv_numbered.specs.Numbered.{at, altered}
use Rattle.sv_states.proofs.Calm.{each_altered}
use Rattle.sv_states.specs.Assignment.{Way, onward, up, into, way_step, way, way_of, changes_in, cell_stored, handing, taken, told, end_set, written, placed_at, looked, moved_if, followed, all_followed, sent, assigned, handed_down, with_bound, bound_over, bound_up}
use Rattle.sv_states.specs.Moving.{Goal, goal_of, stores_after, leaves, comes, store_in, name_in, follower_in}
use Rattle.sv_states.specs.States.{States, live, with_instance, depth_of, cell_in, value_in, has_cell}
use Rattle.sv_states.specs.Waiting.{joins, queued, enqueued}
use Rattle.sv_store.specs.Stores.{Subscriber, with_value, differs_at, subscribers_at}
use Rattle.sv_derived.specs.Derived.{marked}
use Rattle.sv_value.specs.Value.{Val}
use Rattle.sv_view.specs.Cell.{Cell}
use Rattle.sv_subscribed.proofs.Known.{name-placed, follower-is}
use Rattle.sv_subscribed.proofs.Ways.{if_either, went-all, went-down, stored-at, holds-written, value-cell, changes-cell, unchanged}

-- ---- names stay names

-- a cell has a name in one of two states where it has in the other
abbrev SameNames : States → States → Type 0
SameNames s t = (m c : ℕ) → is_some (name_in (live t m) c) ≡ is_some (name_in (live s m) c)

names-same : (s : States) → SameNames s s
names-same s m c = refl

names-then : (s t u : States) → SameNames s t → SameNames t u → SameNames s u
names-then s t u h k m c = k m c ∙ h m c

names-altered : (f : Instance → Instance) (s : States) (n : ℕ) → ((i : Instance) (c : ℕ) → is_some (subscription_at (f i).subscriptions c) ≡ is_some (subscription_at i.subscriptions c)) → SameNames s (with_instance f s n)
names-altered f s n same m c = each_altered (λ k o. is_some (name_in o c) ≡ is_some (name_in (live s k) c)) f s.lives n (λ k. refl) (λ i there e. same i c ∙ e) m

names-enqueued : (s : States) (n : ℕ) → SameNames s (enqueued s n)
names-enqueued s n m c = if_either (λ lives. is_some (name_in (at lives m) c) ≡ is_some (name_in (live s m) c)) (joins (live s n)) (altered queued s.lives n) s.lives (names-altered queued s n (λ i d. refl) m c) refl

names-handing : (p : Subscriber) (v : Val) (next : States → States) (s : States) → SameNames (cell_stored s p v) (next (cell_stored s p v)) → SameNames s (handing p v next s)
names-handing p v next s k = if_either (SameNames s) (changes_in (live s p.inst) p.cell v) (enqueued (next (cell_stored s p v)) p.inst) s
    (names-then s (next (cell_stored s p v)) (enqueued (next (cell_stored s p v)) p.inst) (names-then s (cell_stored s p v) (next (cell_stored s p v)) (names-altered _ s p.inst (λ i c. refl)) k) (names-enqueued (next (cell_stored s p v)) p.inst))
    (names-same s)

names-taken : (s : States) (p : Subscriber) (v : Val) → SameNames s (taken s p v)
names-taken s p v = names-handing p v (λ t. t) s (names-same (cell_stored s p v))

names-told : (ps : List Subscriber) (v : Val) (s : States) → SameNames s (told ps v s)
names-told [] v s = names-same s
names-told (p ∷ ps) v s = names-then s (taken s p v) (told ps v (taken s p v)) (names-taken s p v) (names-told ps v (taken s p v))

names-end : (end : Option ℕ) (v : Val) (s : States) → SameNames s (end_set end v s)
names-end None v s = names-same s
names-end (Some id) v s = if_either (SameNames s) (differs_at s.stores id v) _ s (names-told (subscribers_at s.stores id) v (record s { stores = with_value s.stores id v; derived = marked s.derived id })) (names-same s)

names-written : (ps : List Subscriber) (end : Option ℕ) (v : Val) (s : States) → SameNames s (written ps end v s)
names-written [] end v s = names-end end v s
names-written (p ∷ ps) end v s = names-handing p v (written ps end v) s (names-written ps end v (cell_stored s p v))

-- ---- what is no `$` name stays while they follow

taken-other : (s : States) (p : Subscriber) (u : Val) (m c : ℕ) → (((m ≡ p.inst) × (c ≡ p.cell)) → ⊥) → cell_in (live (taken s p u) m) c ≡ cell_in (live s m) c
taken-other s p u m c other = if_either (λ t. cell_in (live t m) c ≡ cell_in (live s m) c) (changes_in (live s p.inst) p.cell u) (enqueued (cell_stored s p u) p.inst) s
    (if_either (λ lives. cell_in (at lives m) c ≡ cell_in (live s m) c) (joins (live (cell_stored s p u) p.inst)) (altered queued (cell_stored s p u).lives p.inst) (cell_stored s p u).lives
    (each_altered (λ k o. (k ≡ m) → cell_in o c ≡ cell_in (live s m) c) queued (cell_stored s p u).lives p.inst (λ k e. subst (λ j. cell_in (live (cell_stored s p u) j) c ≡ cell_in (live s m) c) (sym e) stored) (λ i there k e. k e) m refl)
    stored) refl
  where
    stored : cell_in (live (cell_stored s p u) m) c ≡ cell_in (live s m) c
    stored = ⊎_elim (λ same. same) (λ set. absurd (other set.0)) (stored-at s p u m c)

-- a cell that is no `$` name's
abbrev Plain : States → Subscriber → Type 0
Plain s q = is_some (name_in (live s q.inst) q.cell) ≡ false

moved-plain : (s : States) (p : Subscriber) (g : Goal) (q : Subscriber) → is_some (name_in (live s p.inst) p.cell) ≡ true → Plain s q → (v : Val) → Has s v q → Has (looked p g.store g.value s) v q
moved-plain s p g q named plain v h =
    value-cell (live (looked p g.store g.value s) q.inst) q.cell
    ∙ (ap (option_map (λ (x : Cell). x.value)) (taken-other (with_instance (placed_at p.cell g.store) s p.inst) p g.value q.inst q.cell
    (λ is. true≢false (sym named ∙ (ap is_some (λ k. name_in (live s (sym is.0 k)) (sym is.1 k)) ∙ plain)))
    ∙ each_altered (λ k o. cell_in o q.cell ≡ cell_in (live s k) q.cell) (placed_at p.cell g.store) s.lives p.inst (λ k. refl) (λ i there e. e) q.inst)
    ∙ (sym (value-cell (live s q.inst) q.cell) ∙ h))

names-looked : (s : States) (p : Subscriber) (g : Goal) → SameNames s (looked p g.store g.value s)
names-looked s p g = names-then s (with_instance (placed_at p.cell g.store) s p.inst) (looked p g.store g.value s)
    (names-altered (placed_at p.cell g.store) s p.inst (λ i c. ap is_some (name-placed i.subscriptions p.cell g.store c) ∙ mapped (subscription_at i.subscriptions c)))
    (names-taken (with_instance (placed_at p.cell g.store) s p.inst) p g.value)
  where
    mapped : (o : Option Subscription) → is_some (option_map (placed p.cell g.store) o) ≡ is_some o
    mapped None = refl
    mapped (Some x) = refl

follower-named : (o : Option Instance) (v c : ℕ) → follower_in o v ≡ Some c → is_some (name_in o c) ≡ true
follower-named None v c e = absurd (none-some c e)
follower-named (Some i) v c e = follower-is i.subscriptions v c e

followed-both : (p : Subscriber) (g : Goal) (s : States) → SameNames s (followed p g s) × ((q : Subscriber) (v : Val) → Plain s q → Has s v q → Has (followed p g s) v q)
followed-both p g s = by (follower_in (live s p.inst) p.cell) refl where
  by : (o : Option ℕ) → follower_in (live s p.inst) p.cell ≡ o → SameNames s (moved_if o p.inst g s) × ((q : Subscriber) (v : Val) → Plain s q → Has s v q → Has (moved_if o p.inst g s) v q)
  by None e = (names-same s, λ q v plain h. h)
  by (Some c) e =
      let d : Subscriber = record { inst = p.inst; cell = c } in
      let t : States = record s { stores = comes g.store d (leaves (store_in (name_in (live s p.inst) c)) d s.stores) } in
      (names-looked t d g, λ q v plain h. moved-plain t d g q (follower-named (live s p.inst) p.cell c e) plain v h)

all-both : (ps : List Subscriber) (g : Goal) (s : States) → SameNames s (all_followed ps g s) × ((q : Subscriber) (v : Val) → Plain s q → Has s v q → Has (all_followed ps g s) v q)
all-both [] g s = (names-same s, λ q v plain h. h)
all-both (p ∷ ps) g s =
    let t : States = all_followed ps g s in
    let k = all-both ps g s in
    let l = followed-both p g t in
    (names-then s t (followed p g t) k.0 l.0, λ q v plain h. l.1 q v (k.0 q.inst q.cell ∙ plain) (k.1 q v plain h))

-- ---- values that went their ways

sent-has : (w : Way) (v : Val) (s : States) (q : Subscriber) → Plain s q → Has (written w.cells w.store v s) v q → Has (sent w v s) v q
sent-has w v s q plain h = (all-both w.cells (goal_of (stores_after w.store v s.stores) v) (written w.cells w.store v s)).1 q v (names-written w.cells w.store v s q.inst q.cell ∙ plain) h

sent-all : (w : Way) (v : Val) (s : States) (qs : List Subscriber) → Each (Plain s) qs → Each (λ q. Has (written w.cells w.store v s) v q) qs → Each (Has (sent w v s) v) qs
sent-all w v s [] plain h = tt
sent-all w v s (q ∷ qs) plain h = (sent-has w v s q plain.0 h.0, sent-all w v s qs plain.1 h.1)

-- no `$` name stands on a way
way-plain : (room : ℕ) (s : States) (v : Val) (n c : ℕ) → Each (Plain s) (way room s v n c).cells
way-plain zero s v n c = tt
way-plain (suc room) s v n c = over (λ m d. way-plain room s v m d) (live s n) refl where
  rest : ((m d : ℕ) → Each (Plain s) (way room s v m d).cells) → (o : Option Bound) → Each (Plain s) (up (record { cells = []; store = None }) o (way room s v)).cells
  rest on None = tt
  rest on (Some b) = on b.owner b.target

  inside : ((m d : ℕ) → Each (Plain s) (way room s v m d).cells) → (i : Instance) (x : Option Subscription) (b : Bool) → live s n ≡ Some i → subscription_at i.subscriptions c ≡ x
      → Each (Plain s) (into x b (bound_at i.setup.bounds c) (record { inst = n; cell = c }) (way room s v)).cells
  inside on i (Some x) b there e = tt
  inside on i None false there e = tt
  inside on i None true there e = (ap is_some (ap (λ o. name_in o c) there ∙ e), rest on (bound_at i.setup.bounds c))

  over : ((m d : ℕ) → Each (Plain s) (way room s v m d).cells) → (o : Option Instance) → live s n ≡ o → Each (Plain s) (way_step v o (record { inst = n; cell = c }) (way room s v)).cells
  over on None e = tt
  over on (Some i) e = inside on i (subscription_at i.subscriptions c) (cells.changes i.cells c v) e refl

pub assigned-has : (s : States) (n c : ℕ) (v : Val) → HaveAll (assigned s n c v) v (way_of s n c v).cells
assigned-has s n c v = sent-all (way_of s n c v) v s (way_of s n c v).cells (way-plain (depth_of (live s n)) s v n c) (went-all s s n c v (λ m d. refl))

-- ---- what an owner hands down

declared-some : (o : Option Instance) (c : ℕ) → has_cell o c ≡ true → is_some (cell_in o c) ≡ true
declared-some None c e = e
declared-some (Some i) c e = e

unchanged-has : (s : States) (v : Val) (q : Subscriber) → has_cell (live s q.inst) q.cell ≡ true → changes_in (live s q.inst) q.cell v ≡ false → Has s v q
unchanged-has s v q declared e = value-cell (live s q.inst) q.cell ∙ unchanged (cell_in (live s q.inst) q.cell) v (declared-some (live s q.inst) q.cell declared) (sym (changes-cell (live s q.inst) q.cell v) ∙ e)

pub handed-has : (s : States) (p : Subscriber) (v : Val) → IsPlain s p.inst p.cell → IsDeclared s p.inst p.cell → Has (handed_down s p v) v p
handed-has s p v plain declared = by (changes_in (live s p.inst) p.cell v) refl (went-down s p v) where
  by : (b : Bool) → changes_in (live s p.inst) p.cell v ≡ b → let x : Way = if b then onward p (record { cells = []; store = None }) else record { cells = []; store = None } in
      Each (λ q. Has (written x.cells x.store v s) v q) x.cells → Has (sent x v s) v p
  by true e h = sent-has (onward p (record { cells = []; store = None })) v s p (ap is_some plain) h.0
  by false e h = sent-has (record { cells = []; store = None }) v s p (ap is_some plain) (unchanged-has s v p declared e)

-- ---- binding callbacks

first-has : (old s : States) (v : Val) (n c : ℕ) → ((m d : ℕ) → cell_in (live s m) d ≡ cell_in (live old m) d) → IsPlain old n c → IsDeclared old n c → 0 < depth_of (live old n)
    → Has (written (way_of old n c v).cells (way_of old n c v).store v s) v (record { inst = n; cell = c })
first-has old s v n c same plain declared deep = by (depth_of (live old n)) refl (went-all old s n c v same) where
  p : Subscriber
  p = record { inst = n; cell = c }

  has-it : changes_in (live old n) c v ≡ false → Has s v p
  has-it e = value-cell (live s n) c ∙ (ap (option_map (λ (x : Cell). x.value)) (same n c) ∙ (sym (value-cell (live old n) c) ∙ unchanged-has old v p declared e))

  inside : (room : ℕ) (i : Instance) (x : Option Subscription) (b : Bool) → live old n ≡ Some i → x ≡ None → changes_in (live old n) c v ≡ b
      → let w : Way = into x b (bound_at i.setup.bounds c) p (way room old v) in Each (λ q. Has (written w.cells w.store v s) v q) w.cells → Has (written w.cells w.store v s) v p
  inside room i (Some x) b there e k h = absurd (none-some x (sym e))
  inside room i None true there e k h = h.0
  inside room i None false there e k h = holds-written v [] None s p (has-it k)

  over : (room : ℕ) (o : Option Instance) → live old n ≡ o → let w : Way = way_step v o p (way room old v) in Each (λ q. Has (written w.cells w.store v s) v q) w.cells → Has (written w.cells w.store v s) v p
  over room None e h = absurd (true≢false (sym declared ∙ ap (λ o. has_cell o c) e))
  over room (Some i) e h = inside room i (subscription_at i.subscriptions c) (cells.changes i.cells c v) e (ap (λ o. name_in o c) (sym e) ∙ plain) (ap (λ o. changes_in o c v) e) h

  by : (depth : ℕ) → depth_of (live old n) ≡ depth → let w : Way = way depth old v n c in Each (λ q. Has (written w.cells w.store v s) v q) w.cells → Has (written w.cells w.store v s) v p
  by zero e h = absurd (omega (arith, e, deep))
  by (suc room) e h = over room (live old n) refl h

pub bound-same : (s : States) (n : ℕ) (b : Bound) → IsPlain s n b.cell → IsPlain s b.owner b.target → IsDeclared s n b.cell → IsDeclared s b.owner b.target → 0 < depth_of (live s b.owner) → AreSame (bound_up s n b) n b
bound-same s n b plain above declared there deep = by (value_in (live s n) b.cell) refl where
  now : States
  now = with_instance (with_bound b) s n

  same : (m d : ℕ) → cell_in (live now m) d ≡ cell_in (live s m) d
  same m d = each_altered (λ k o. cell_in o d ≡ cell_in (live s k) d) (with_bound b) s.lives n (λ k. refl) (λ i there e. e) m

  names : SameNames s now
  names = names-altered (with_bound b) s n (λ i c. refl)

  valued : (o : Option Instance) (c : ℕ) → has_cell o c ≡ true → value_in o c ≡ None → ⊥
  valued None c e k = true≢false (sym e)
  valued (Some i) c e k = some (cell_at i.cells.now c) e k where
    some : (o : Option Cell) → is_some o ≡ true → option_map (λ (x : Cell). x.value) o ≡ None → ⊥
    some None e k = true≢false (sym e)
    some (Some x) e k = none-some x.value (sym k)

  by : (o : Option Val) → value_in (live s n) b.cell ≡ o → AreSame (bound_over o b s now) n b
  by None e = absurd (valued (live s n) b.cell declared e)
  by (Some v) e =
      let w : Way = way_of s b.owner b.target v in
      let t : States = written w.cells w.store v now in
      let prop : Has now v (record { inst = n; cell = b.cell }) = value-cell (live now n) b.cell ∙ (ap (option_map (λ (x : Cell). x.value)) (same n b.cell) ∙ (sym (value-cell (live s n) b.cell) ∙ e)) in
      let low = sent-has w v now (record { inst = n; cell = b.cell }) (names n b.cell ∙ ap is_some plain) (holds-written v w.cells w.store now (record { inst = n; cell = b.cell }) prop) in
      let high = sent-has w v now (record { inst = b.owner; cell = b.target }) (names b.owner b.target ∙ ap is_some above) (first-has s now v b.owner b.target same above there deep) in
      low ∙ sym high
