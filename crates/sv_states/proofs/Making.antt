-- Derived stores are stores, after each change.
use Rattle.std.proofs.Common.{◌≡◌, ℕ, zero, suc, ◌<◌, List, [], ◌∷◌, length, Option, Some, None, refl, sym, ap, ◌∙◌, arith, Bool, true, false, cond, is_some, ⊎_elim, subst}
use Rattle.std.proofs.lemmas.Bool.{cases_Bool}
use Rattle.std.proofs.lemmas.List.{length-map, length_push, map-append}
use Rattle.std.proofs.lemmas.List.Elements.{All-push, All-weaker}
use Rattle.sv_value.specs.Value.{Val}
use Rattle.sv_view.specs.Level.{View}
use Rattle.sv_derived.specs.Derived.{Derived, Recipe, marked_by, done, done_by, frozen, frozen_by}
use Rattle.sv_derived.specs.Order.{ids, AreBelow}
use Rattle.sv_derived.proofs.Ordering.{ids-map}
use Rattle.sv_store.specs.Stores.{Store, Subscriber, changed_at, set_to, with_subscriber, without_subscriber, differs_at, subscribers_at, made, without as without_of}
use Rattle.sv_instance.specs.Bound.{Bound}
use Rattle.sv_states.specs.States.{States, live, with_instance, has_cell, value_in}
use Rattle.sv_states.specs.Moving.{Goal, goal_of, stores_after, leaves, comes, store_in, name_in, follower_in}
use Rattle.sv_states.specs.Assignment.{Way, changes_in, cell_stored, handing, taken, told, store_set, computed, end_set, written, placed_at, looked, moved, moved_if, followed, all_followed, sent, way_of, with_bound, bound_over, bound_up}
use Rattle.sv_states.specs.Change.{removed, viewed, with_store, with_derived, given, named_over, may_follow, subscribed_to}
use Rattle.sv_states.specs.Board.{IsMade}
use Rattle.sv_states.proofs.Calm.{store_stored}

-- the numbers of the derived stores, and how many stores there are
abbrev pub tally : States → List ℕ × ℕ
tally s = (ids s.derived, length s.stores)

-- who is made stays so where nobody comes
pub made-same : (s t : States) → tally t ≡ tally s → IsMade s → IsMade t
made-same s t e k = subst (λ p. AreBelow p.0 p.1) (sym e) k

pub length-changed : {A : Type 0} (f : A → A) (xs : List A) (n : ℕ) → length (changed_at f xs n) ≡ length xs
length-changed f [] n = refl
length-changed f (x ∷ xs) zero = refl
length-changed f (x ∷ xs) (suc n) = ap suc (length-changed f xs n)

tally-handing : (p : Subscriber) (v : Val) (next : States → States) → ((t : States) → tally (next t) ≡ tally t) → (s : States) → tally (handing p v next s) ≡ tally s
tally-handing p v next keeps s = ⊎_elim (λ b. rw b (keeps (cell_stored s p v))) (λ b. rw b refl) (cases_Bool (changes_in (live s p.inst) p.cell v))

pub tally-taken : (s : States) (p : Subscriber) (v : Val) → tally (taken s p v) ≡ tally s
tally-taken s p v = tally-handing p v (λ t. t) (λ t. refl) s

tally-told : (ps : List Subscriber) (v : Val) (s : States) → tally (told ps v s) ≡ tally s
tally-told [] v s = refl
tally-told (p ∷ ps) v s = tally-told ps v (taken s p v) ∙ tally-taken s p v

tally-stored : (s : States) (id : ℕ) (v : Val) → tally (store_stored s id v) ≡ tally s
tally-stored s id v = λ k. (ids-map (marked_by id) (λ d. refl) s.derived k, length-changed (set_to v) s.stores id k)

tally-set : (s : States) (id : ℕ) (v : Val) → tally (store_set s id v) ≡ tally s
tally-set s id v = ⊎_elim
    (λ b. rw b (tally-told (subscribers_at s.stores id) v (store_stored s id v) ∙ tally-stored s id v))
    (λ b. rw b refl)
    (cases_Bool (differs_at s.stores id v))

pub tally-computed : (s : States) (id : ℕ) (v : Val) → tally (computed s id v) ≡ tally s
tally-computed s id v = tally-set (record s { derived = done s.derived id }) id v ∙ (λ k. (ids-map (done_by id) (λ d. refl) s.derived k, length s.stores))

tally-end : (store : Option ℕ) (v : Val) (s : States) → tally (end_set store v s) ≡ tally s
tally-end None v s = refl
tally-end (Some id) v s = tally-set s id v

pub tally-written : (ps : List Subscriber) (store : Option ℕ) (v : Val) (s : States) → tally (written ps store v s) ≡ tally s
tally-written [] store v s = tally-end store v s
tally-written (p ∷ ps) store v s = tally-handing p v (written ps store v) (tally-written ps store v) s

pub length-left : (st : Option ℕ) (p : Subscriber) (stores : List Store) → length (leaves st p stores) ≡ length stores
length-left None p stores = refl
length-left (Some id) p stores = length-changed (without_subscriber p) stores id

length-came : (st : Option ℕ) (p : Subscriber) (stores : List Store) → length (comes st p stores) ≡ length stores
length-came None p stores = refl
length-came (Some id) p stores = length-changed (with_subscriber p) stores id

tally-looked : (p : Subscriber) (st : Option ℕ) (v : Val) (s : States) → tally (looked p st v s) ≡ tally s
tally-looked p st v s = tally-taken (with_instance (placed_at p.cell st) s p.inst) p v

pub tally-moved : (s : States) (p : Subscriber) (g : Goal) → tally (moved s p g) ≡ tally s
tally-moved s p g =
    let left = leaves (store_in (name_in (live s p.inst) p.cell)) p s.stores in
    tally-looked p g.store g.value (record s { stores = comes g.store p left })
    ∙ (λ k. (ids s.derived, (length-came g.store p left ∙ length-left (store_in (name_in (live s p.inst) p.cell)) p s.stores) k))

tally-if : (o : Option ℕ) (n : ℕ) (g : Goal) (s : States) → tally (moved_if o n g s) ≡ tally s
tally-if None n g s = refl
tally-if (Some c) n g s = tally-moved s (record { inst = n; cell = c }) g

pub tally-followed : (p : Subscriber) (g : Goal) (s : States) → tally (followed p g s) ≡ tally s
tally-followed p g s = tally-if (follower_in (live s p.inst) p.cell) p.inst g s

pub tally-all : (ps : List Subscriber) (g : Goal) (s : States) → tally (all_followed ps g s) ≡ tally s
tally-all [] g s = refl
tally-all (p ∷ ps) g s = tally-followed p g (all_followed ps g s) ∙ tally-all ps g s

pub stores_followed : (ps : List Subscriber) (g : Goal) (s t : States) → t ≡ all_followed ps g s → length t.stores ≡ length s.stores
stores_followed ps g s t is = ap (λ x. x.1) (ap tally is ∙ tally-all ps g s)

pub tally-sent : (s : States) (w : Way) (v : Val) → tally (sent w v s) ≡ tally s
tally-sent s w v = tally-all w.cells (goal_of (stores_after w.store v s.stores) v) (written w.cells w.store v s) ∙ tally-written w.cells w.store v s

tally-over : (o : Option Val) (b : Bound) (old s : States) → tally (bound_over o b old s) ≡ tally s
tally-over None b old s = refl
tally-over (Some v) b old s = tally-sent s (way_of old b.owner b.target v) v

pub tally-bound : (s : States) (n : ℕ) (b : Bound) → tally (bound_up s n b) ≡ tally s
tally-bound s n b = tally-over (value_in (live s n) b.cell) b s (with_instance (with_bound b) s n)

pub tally-viewed : (s : States) (n c : ℕ) (view : View) → tally (viewed s n c view) ≡ tally s
tally-viewed s n c view = ⊎_elim (λ b. rw b refl) (λ b. rw b refl) (cases_Bool (has_cell (live s n) c))

tally-given : (s : States) (p : Subscriber) (v : Val) → tally (given s p v) ≡ tally s
tally-given s p v = ⊎_elim (λ b. rw b (tally-taken s p v)) (λ b. rw b refl) (cases_Bool (has_cell (live s p.inst) p.cell))

tally-named : (source : Option ℕ) (g : Goal) (s : States) (p : Subscriber) → tally (named_over source g s p) ≡ tally s
tally-named source g s p = tally-given _ p g.value ∙ (λ k. (ids s.derived, length-came g.store p s.stores k))

pub tally-subscribed : (s : States) (p : Subscriber) (source : Option ℕ) (v : Val) → tally (subscribed_to s p source v) ≡ tally s
tally-subscribed s p source v = ⊎_elim
    (λ b. rw b (tally-named source (goal_of s.stores v) s p))
    (λ b. rw b refl)
    (cases_Bool (may_follow s p))

ids-gone : (b : Bool) (all : List Derived) (n : ℕ) → ids (cond b (frozen all n) all) ≡ ids all
ids-gone true all n = ids-map (frozen_by n) (λ d. refl) all
ids-gone false all n = refl

pub tally-removed : (s : States) (n : ℕ) → tally (removed s n) ≡ tally s
tally-removed s n = λ k. (ids-gone (is_some (live s n)) s.derived n k, length-map s.stores (without_of n) k)

-- ---- more stores

pub made-store : (s : States) (v : Val) → IsMade s → IsMade (with_store s v)
made-store s v k =
    let more = length_push s.stores (record { value = v; subscribers = [] }) in
    All-weaker (λ m. m < length s.stores) (λ m. m < length (made s.stores v)) (λ m h. omega (arith, h, more)) (ids s.derived) k

pub made-derived : (s : States) (owner : ℕ) (r : Recipe) (v : Val) → IsMade s → IsMade (with_derived s owner r v)
made-derived s owner r v k =
    let d : Derived = record { id = length s.stores; owner = owner; recipe = r; is_pending = false; is_frozen = false } in
    let more = length_push s.stores (record { value = v; subscribers = [] }) in
    subst (λ l. AreBelow l (length (made s.stores v))) (sym (map-append (λ (e : Derived). e.id) s.derived (d ∷ [])))
    (All-push (λ m. m < length (made s.stores v)) (ids s.derived) (length s.stores) (made-store s v k) (omega (arith, more)))
