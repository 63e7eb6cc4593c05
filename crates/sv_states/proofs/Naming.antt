-- `$` names: where they look, and what a change of it leaves as it was.
use Rattle.std.proofs.Common.{◌≡◌, ◌≢◌, ℕ, zero, suc, ◌<◌, List, [], ◌∷◌, ◌++◌, length, Option, Some, None, refl, sym, ap, ◌∙◌, arith, Bool, true, false, cond, is_some, nat_eq, ⊎_elim, subst}
use Rattle.std.specs.Prelude.{not, ◌&&◌, ◌||◌}
use Rattle.std.specs.List.{list_any, filter}
use Rattle.std.proofs.lemmas.Bool.{cases_eq, cases_Bool, and_parts, not-true, eqb-true, eqb-false, eq-eqb, ne_eqb, true≢false}
use Rattle.std.proofs.Math.Bool.{or-false}
use Rattle.std.proofs.lemmas.List.Folds.{list_any-append}
use Rattle.sv_value.specs.Value.{Val, undefined, null, boolean, number, text, list, object, function, store}
use Rattle.sv_value.specs.Change.{differs}
use Rattle.sv_numbered.specs.Numbered.{at, altered}
use Rattle.sv_store.proofs.Counts.{same_from}
use Rattle.sv_store.specs.Stores.{Store, Subscriber, same_subscriber, subscribers_at, value_at, changed_at, with_subscriber, without_subscriber, is_subscribed, with_value, set_to}
use Rattle.sv_instance.specs.Cells as cells
use Rattle.sv_instance.specs.Bound.{Bound}
use Rattle.sv_instance.specs.Subscriptions.{subscription_at, follower_of, moved_to, is_cell}
use Rattle.sv_instance.specs.declared.instance.Instance.{Instance}
use Rattle.sv_instance.specs.declared.subscriptions.Subscription.{Subscription}
use Rattle.sv_states.specs.States.{States, live, with_instance, value_in}
use Rattle.sv_states.specs.Waiting.{is_waiting, has_shown, times}
use Rattle.sv_states.specs.Moving.{Goal, no_goal, goal_at, goal_of, stores_after, leaves, comes, IsThere, store_in, name_in, follower_in}
use Rattle.sv_states.specs.Assignment.{Way, way_of, placed_at, moved, moved_if, followed, all_followed, sent, written, with_bound, bound_over, bound_up}
use Rattle.sv_states.specs.Change.{with_subscription, named_over, may_follow, subscribed_to}
use Rattle.sv_states.specs.Sound.{DirtyCell, IsLater, IsSeen, looks_at, has_subscription, IsSound}
use Rattle.sv_states.proofs.Altering.{at-altered_same, at-altered_other, option_cases}
use Rattle.sv_states.proofs.Calm.{each_altered}
use Rattle.sv_states.proofs.Dirt.{IsWaiter, waiters_of}
use Rattle.sv_states.proofs.Sounding.{sound-written, sound-taken, sound-given, sound-inert}
use Rattle.sv_states.proofs.Making.{length-changed, length-left, tally, tally-written, tally-all}

-- ---- subscribers

same_self : (p : Subscriber) → same_subscriber p p ≡ true
same_self p = rw (eq-eqb p.inst p.inst refl) (eq-eqb p.cell p.cell refl)

any-filter : {A : Type 0} (p : A → Bool) (xs : List A) → list_any p (filter (λ x. not (p x)) xs) ≡ false
any-filter p [] = refl
any-filter p (x ∷ xs) = ⊎_elim (λ b. rw b (any-filter p xs)) (λ b. rw b (rw b (any-filter p xs))) (cases_Bool (p x))

any-filter_other : (p q : Subscriber) (xs : List Subscriber) → same_subscriber q p ≡ false → list_any (same_subscriber q) (filter (λ x. not (same_subscriber p x)) xs) ≡ list_any (same_subscriber q) xs
any-filter_other p q [] h = refl
any-filter_other p q (x ∷ xs) h = ⊎_elim
    (λ b. let e : same_subscriber q x ≡ false = ap (same_subscriber q) (sym (same_from p x b)) ∙ h in rw b (any-filter_other p q xs h ∙ sym (rw e refl)))
    (λ b. rw b (ap (λ r. same_subscriber q x || r) (any-filter_other p q xs h)))
    (cases_Bool (same_subscriber p x))

any-unsubscribed_other : (stores : List Store) (id other : ℕ) (p q : Subscriber) → same_subscriber q p ≡ false → list_any (same_subscriber q) (subscribers_at (changed_at (without_subscriber p) stores id) other) ≡ list_any (same_subscriber q) (subscribers_at stores other)
any-unsubscribed_other [] id other p q h = refl
any-unsubscribed_other (s ∷ stores) zero zero p q h = any-filter_other p q s.subscribers h
any-unsubscribed_other (s ∷ stores) zero (suc other) p q h = refl
any-unsubscribed_other (s ∷ stores) (suc id) zero p q h = refl
any-unsubscribed_other (s ∷ stores) (suc id) (suc other) p q h = any-unsubscribed_other stores id other p q h

any-unsubscribed_same : (stores : List Store) (id : ℕ) (p : Subscriber) → list_any (same_subscriber p) (subscribers_at (changed_at (without_subscriber p) stores id) id) ≡ false
any-unsubscribed_same [] id p = refl
any-unsubscribed_same (s ∷ stores) zero p = any-filter (same_subscriber p) s.subscribers
any-unsubscribed_same (s ∷ stores) (suc id) p = any-unsubscribed_same stores id p

any-unsubscribed_elsewhere : (stores : List Store) (id other : ℕ) (p : Subscriber) → id ≢ other → list_any (same_subscriber p) (subscribers_at (changed_at (without_subscriber p) stores id) other) ≡ list_any (same_subscriber p) (subscribers_at stores other)
any-unsubscribed_elsewhere [] id other p h = refl
any-unsubscribed_elsewhere (s ∷ stores) zero zero p h = absurd (h refl)
any-unsubscribed_elsewhere (s ∷ stores) zero (suc other) p h = refl
any-unsubscribed_elsewhere (s ∷ stores) (suc id) zero p h = refl
any-unsubscribed_elsewhere (s ∷ stores) (suc id) (suc other) p h = any-unsubscribed_elsewhere stores id other p (λ e. h (ap suc e))

any-left_other : (st : Option ℕ) (stores : List Store) (other : ℕ) (p q : Subscriber) → same_subscriber q p ≡ false → list_any (same_subscriber q) (subscribers_at (leaves st p stores) other) ≡ list_any (same_subscriber q) (subscribers_at stores other)
any-left_other None stores other p q h = refl
any-left_other (Some id) stores other p q h = any-unsubscribed_other stores id other p q h

-- who stood at this store alone stands nowhere then
any-left_same : (st : Option ℕ) (stores : List Store) (p : Subscriber) → ((other : ℕ) → list_any (same_subscriber p) (subscribers_at stores other) ≡ is_cell st other) → (other : ℕ) → list_any (same_subscriber p) (subscribers_at (leaves st p stores) other) ≡ false
any-left_same None stores p all other = all other
any-left_same (Some id) stores p all other = ⊎_elim
    (λ e. subst (λ n. list_any (same_subscriber p) (subscribers_at (changed_at (without_subscriber p) stores id) n) ≡ false) e (any-unsubscribed_same stores id p))
    (λ h. any-unsubscribed_elsewhere stores id other p h ∙ all other ∙ ne_eqb id other h)
    (cases_eq id other)

any_push : {A : Type 0} (f : A → Bool) (xs : List A) (x : A) → list_any f (xs ++ x ∷ []) ≡ (list_any f xs || f x)
any_push f xs x = list_any-append f xs (x ∷ []) ∙ ap (λ b. list_any f xs || b) (or-false (f x))

any-subscribed_other : (stores : List Store) (id other : ℕ) (p q : Subscriber) → same_subscriber q p ≡ false → list_any (same_subscriber q) (subscribers_at (changed_at (with_subscriber p) stores id) other) ≡ list_any (same_subscriber q) (subscribers_at stores other)
any-subscribed_other [] id other p q h = refl
any-subscribed_other (s ∷ stores) zero zero p q h = any_push (same_subscriber q) s.subscribers p ∙ ap (λ b. list_any (same_subscriber q) s.subscribers || b) h ∙ or-false (list_any (same_subscriber q) s.subscribers)
any-subscribed_other (s ∷ stores) zero (suc other) p q h = refl
any-subscribed_other (s ∷ stores) (suc id) zero p q h = refl
any-subscribed_other (s ∷ stores) (suc id) (suc other) p q h = any-subscribed_other stores id other p q h

eqb-suc : (a b : ℕ) → nat_eq a b ≡ nat_eq (suc a) (suc b)
eqb-suc a b = ⊎_elim (λ e. eq-eqb a b e ∙ sym (eq-eqb (suc a) (suc b) (ap suc e))) (λ h. ne_eqb a b h ∙ sym (ne_eqb (suc a) (suc b) (λ e. h (omega (arith, e))))) (cases_eq a b)

any-subscribed_same : (stores : List Store) (id : ℕ) (p : Subscriber) → id < length stores → ((other : ℕ) → list_any (same_subscriber p) (subscribers_at stores other) ≡ false) → (other : ℕ)
    → list_any (same_subscriber p) (subscribers_at (changed_at (with_subscriber p) stores id) other) ≡ nat_eq id other
any-subscribed_same [] id p within none other = absurd (omega arith)
any-subscribed_same (s ∷ stores) zero p within none zero = any_push (same_subscriber p) s.subscribers p ∙ ap (λ b. list_any (same_subscriber p) s.subscribers || b) (same_self p) ∙ ap (λ b. b || true) (none zero)
any-subscribed_same (s ∷ stores) zero p within none (suc other) = none (suc other) ∙ sym (ne_eqb 0 (suc other) (λ e. cc))
any-subscribed_same (s ∷ stores) (suc id) p within none zero = none zero ∙ sym (ne_eqb (suc id) 0 (λ e. cc))
any-subscribed_same (s ∷ stores) (suc id) p within none (suc other) = any-subscribed_same stores id p (omega arith) (λ n. none (suc n)) other ∙ eqb-suc id other

any-came_other : (st : Option ℕ) (stores : List Store) (other : ℕ) (p q : Subscriber) → same_subscriber q p ≡ false → list_any (same_subscriber q) (subscribers_at (comes st p stores) other) ≡ list_any (same_subscriber q) (subscribers_at stores other)
any-came_other None stores other p q h = refl
any-came_other (Some id) stores other p q h = any-subscribed_other stores id other p q h

any-came_same : (st : Option ℕ) (stores : List Store) (p : Subscriber) → IsThere (length stores) st → ((other : ℕ) → list_any (same_subscriber p) (subscribers_at stores other) ≡ false) → (other : ℕ)
    → list_any (same_subscriber p) (subscribers_at (comes st p stores) other) ≡ is_cell st other
any-came_same None stores p made none other = none other
any-came_same (Some id) stores p made none other = any-subscribed_same stores id p made none other

-- who stands at no store isn't subscribed
pub free-nowhere : (stores : List Store) (p : Subscriber) → ((other : ℕ) → list_any (same_subscriber p) (subscribers_at stores other) ≡ false) → is_subscribed stores p ≡ false
free-nowhere [] p none = refl
free-nowhere (s ∷ stores) p none = rw (none zero) (free-nowhere stores p (λ n. none (suc n)))

-- ---- names

name-moved_same : (names : List Subscription) (c : ℕ) (st : Option ℕ) → is_some (subscription_at names c) ≡ true → store_in (subscription_at (moved_to names c st) c) ≡ st
name-moved_same [] c st h = absurd (true≢false (sym h))
name-moved_same (x ∷ names) c st h = ⊎_elim
    (λ b. rw b (rw b refl))
    (λ b. rw b (rw b (name-moved_same names c st (rw b at h))))
    (cases_Bool (nat_eq x.cell c))

name-moved_other : (names : List Subscription) (c d : ℕ) (st : Option ℕ) → d ≢ c → subscription_at (moved_to names c st) d ≡ subscription_at names d
name-moved_other [] c d st h = refl
name-moved_other (x ∷ names) c d st h = ⊎_elim
    (λ b. let o : nat_eq x.cell d ≡ false = ne_eqb x.cell d (λ e. h (sym e ∙ eqb-true x.cell c b)) in rw b (rw o (name-moved_other names c d st h)))
    (λ b. rw b (ap (cond (nat_eq x.cell d) (Some x)) (name-moved_other names c d st h)))
    (cases_Bool (nat_eq x.cell c))

name_push_same : (names : List Subscription) (x : Subscription) → subscription_at names x.cell ≡ None → subscription_at (names ++ x ∷ []) x.cell ≡ Some x
name_push_same [] x h = rw (eq-eqb x.cell x.cell refl) refl
name_push_same (y ∷ names) x h = ⊎_elim
    (λ b. absurd (let e = rw b at h in cc))
    (λ b. rw b (name_push_same names x (rw b at h)))
    (cases_Bool (nat_eq y.cell x.cell))

name_push_other : (names : List Subscription) (x : Subscription) (d : ℕ) → d ≢ x.cell → subscription_at (names ++ x ∷ []) d ≡ subscription_at names d
name_push_other [] x d h = rw (ne_eqb x.cell d (λ e. h (sym e))) refl
name_push_other (y ∷ names) x d h = ap (cond (nat_eq y.cell d) (Some y)) (name_push_other names x d h)

-- the `$` name of a variable is a `$` name
follower-named : (names : List Subscription) (v c : ℕ) → follower_of names v ≡ Some c → is_some (subscription_at names c) ≡ true
follower-named [] v c e = absurd (let q = e in cc)
follower-named (x ∷ names) v c e = ⊎_elim
    (λ b. let q : x.cell ≡ c = some_same (rw b at e) in rw (eq-eqb x.cell c q) refl)
    (λ b. ⊎_elim (λ here. rw here refl) (λ other. rw other (follower-named names v c (rw b at e))) (cases_Bool (nat_eq x.cell c)))
    (cases_Bool (is_cell x.source v))
  where
    some_same : Some x.cell ≡ Some c → x.cell ≡ c
    some_same q = cc

-- ---- the states

-- one instance changed in its names alone, where the stores tell of the one name what it tells
module _ (s : States) (p : Subscriber) (st : Option ℕ) (f : Instance → Instance) (stores : List Store) (i : Instance) (there : live s p.inst ≡ Some i) (k : IsSound s)
    (cells' : (j : Instance) → (f j).cells ≡ j.cells) (idle : (j : Instance) → (f j).queued ≡ j.queued)
    (others : (q : Subscriber) (id : ℕ) → same_subscriber q p ≡ false → list_any (same_subscriber q) (subscribers_at stores id) ≡ list_any (same_subscriber q) (subscribers_at s.stores id))
    (here : (id : ℕ) → list_any (same_subscriber p) (subscribers_at stores id) ≡ is_cell st id)
    (name_here : store_in (name_in (Some (f i)) p.cell) ≡ st) (name_other : (c : ℕ) → c ≢ p.cell → name_in (Some (f i)) c ≡ name_in (Some i) c) where
  told-here : (c id : ℕ) → list_any (same_subscriber (record { inst = p.inst; cell = c })) (subscribers_at stores id) ≡ has_subscription (Some (f i)) c id
  told-here c id = ⊎_elim
      (λ same. subst (λ d. list_any (same_subscriber (record { inst = p.inst; cell = d })) (subscribers_at stores id) ≡ has_subscription (Some (f i)) d id) (sym same) (here id ∙ ap (λ o. is_cell o id) (sym name_here)))
      (λ other. others (record { inst = p.inst; cell = c }) id (rw (ne_eqb c p.cell other) (and-false (nat_eq p.inst p.inst)))
      ∙ k.subscribed p.inst c id ∙ ap (λ o. has_subscription o c id) there ∙ ap (looks_at id) (sym (name_other c other)))
      (cases_eq c p.cell)
    where
      and-false : (b : Bool) → (b && false) ≡ false
      and-false true = refl
      and-false false = refl

  told-other : (m c id : ℕ) → m ≢ p.inst → list_any (same_subscriber (record { inst = m; cell = c })) (subscribers_at stores id) ≡ has_subscription (live s m) c id
  told-other m c id h = others (record { inst = m; cell = c }) id (rw (ne_eqb m p.inst h) refl) ∙ k.subscribed m c id

  pub sound-named : IsSound (record s { lives = altered f s.lives p.inst; stores = stores })
  sound-named = record {
    seen = each_altered (λ _ o. IsSeen o) f s.lives p.inst k.seen (λ j _ q old is c. subst (λ x. IsLater (cells.cell_at old c) (cells.cell_at x.now c)) (sym (cells' j)) (q old (sym (ap (λ x. x.seen) (cells' j)) ∙ is) c));
    queued = each_altered (λ m o. times s.queue m ≡ cond (is_waiting o) 1 0) f s.lives p.inst k.queued (λ j _ q. q ∙ ap (λ w. cond w 1 0) (sym (idle j)));
    shown = each_altered (λ _ o. is_waiting o ≡ true → has_shown o ≡ true) f s.lives p.inst k.shown (λ j _ q w. ap (λ x. is_some x.seen) (cells' j) ∙ q (sym (idle j) ∙ w));
    dirty = λ m c h. each_altered (λ _ o. IsWaiter o) f s.lives p.inst (λ j. waiters_of s k j (λ e. e)) (λ j _ q d g. idle j ∙ q d (sym (ap (λ x. is_some x.seen && cells.is_dirty x d) (cells' j)) ∙ g)) m c h;
    due = each_altered (λ _ o. is_waiting o ≡ true → DirtyCell o) f s.lives p.inst k.due (λ j _ q w. let d = q (sym (idle j) ∙ w) in record { cell = d.cell; dirty = ap (λ x. cells.is_dirty x d.cell) (cells' j) ∙ d.dirty });
    subscribed = λ m c id. ⊎_elim
        (λ same. subst (λ j. list_any (same_subscriber (record { inst = j; cell = c })) (subscribers_at stores id) ≡ has_subscription (at (altered f s.lives p.inst) j) c id) (sym same)
        (told-here c id ∙ sym (ap (λ o. has_subscription o c id) (at-altered_same f s.lives p.inst i there))))
        (λ different. told-other m c id different ∙ sym (ap (λ o. has_subscription o c id) (at-altered_other f s.lives p.inst m different)))
        (cases_eq m p.inst);
  }

-- what the states tell of a `$` name of a live instance
told_of : (s : States) (p : Subscriber) (i : Instance) → live s p.inst ≡ Some i → IsSound s → (id : ℕ) → list_any (same_subscriber p) (subscribers_at s.stores id) ≡ is_cell (store_in (subscription_at i.subscriptions p.cell)) id
told_of s p i there k id = k.subscribed p.inst p.cell id ∙ ap (λ o. has_subscription o p.cell id) there

-- once it left, it stands nowhere
pub left-nowhere : (s : States) (p : Subscriber) → IsSound s → (id : ℕ) → list_any (same_subscriber p) (subscribers_at (leaves (store_in (name_in (live s p.inst) p.cell)) p s.stores) id) ≡ false
left-nowhere s p k = any-left_same (store_in (name_in (live s p.inst) p.cell)) s.stores p (λ id. k.subscribed p.inst p.cell id)

pub sound-moved : (s : States) (p : Subscriber) (g : Goal) → IsThere (length s.stores) g.store → is_some (name_in (live s p.inst) p.cell) ≡ true → IsSound s → IsSound (moved s p g)
sound-moved s p g made named k = ⊎_elim
    (λ none. absurd (true≢false (sym named ∙ ap (λ o. is_some (name_in o p.cell)) none)))
    (λ some. over some.0 some.1)
    (option_cases (live s p.inst))
  where
    over : (i : Instance) → live s p.inst ≡ Some i → IsSound (moved s p g)
    over i there =
        let left = leaves (store_in (name_in (live s p.inst) p.cell)) p s.stores in
        let now : is_some (subscription_at i.subscriptions p.cell) ≡ true = ap (λ o. is_some (name_in o p.cell)) (sym there) ∙ named in
        sound-taken (with_instance (placed_at p.cell g.store) (record s { stores = comes g.store p left }) p.inst) p g.value
        (sound-named s p g.store (placed_at p.cell g.store) (comes g.store p left) i there k (λ j. refl) (λ j. refl)
        (λ q id h. any-came_other g.store left id p q h ∙ any-left_other (store_in (name_in (live s p.inst) p.cell)) s.stores id p q h)
        (any-came_same g.store left p (subst (λ n. IsThere n g.store) (sym (length-left (store_in (name_in (live s p.inst) p.cell)) p s.stores)) made) (left-nowhere s p k))
        (name-moved_same i.subscriptions p.cell g.store now)
        (λ c other. name-moved_other i.subscriptions p.cell c g.store other))

follower-there : (o : Option Instance) (v c : ℕ) → follower_in o v ≡ Some c → is_some (name_in o c) ≡ true
follower-there None v c e = absurd (let q = e in cc)
follower-there (Some i) v c e = follower-named i.subscriptions v c e

moved-if : (o : Option ℕ) (s : States) (p : Subscriber) (g : Goal) → follower_in (live s p.inst) p.cell ≡ o → IsThere (length s.stores) g.store → IsSound s → IsSound (moved_if o p.inst g s)
moved-if None s p g e made k = k
moved-if (Some c) s p g e made k = sound-moved s (record { inst = p.inst; cell = c }) g made (follower-there (live s p.inst) p.cell c e) k

pub sound-followed : (s : States) (p : Subscriber) (g : Goal) → IsThere (length s.stores) g.store → IsSound s → IsSound (followed p g s)
sound-followed s p g made k = moved-if (follower_in (live s p.inst) p.cell) s p g refl made k

count_of_stores : (s t : States) → tally t ≡ tally s → length t.stores ≡ length s.stores
count_of_stores s t e = ap (λ x. x.1) e

pub sound-all : (ps : List Subscriber) (s : States) (g : Goal) → IsThere (length s.stores) g.store → IsSound s → IsSound (all_followed ps g s)
sound-all [] s g made k = k
sound-all (p ∷ ps) s g made k =
    let t = all_followed ps g s in
    sound-followed t p g (subst (λ n. IsThere n g.store) (sym (count_of_stores s t (tally-all ps g s))) made) (sound-all ps s g made k)

-- ---- goals

value-within : (stores : List Store) (id : ℕ) (v : Val) → value_at stores id ≡ Some v → id < length stores
value-within [] id v e = absurd (let q = e in cc)
value-within (s ∷ stores) zero v e = omega arith
value-within (s ∷ stores) (suc id) v e = let h = value-within stores id v e in omega (arith, h)

goal-at : (stores : List Store) (id : ℕ) (o : Option Val) → value_at stores id ≡ o → IsThere (length stores) (goal_at id o).store
goal-at stores id None e = tt
goal-at stores id (Some v) e = value-within stores id v e

pub goal-made : (stores : List Store) (v : Val) → IsThere (length stores) (goal_of stores v).store
goal-made stores undefined = tt
goal-made stores null = tt
goal-made stores (boolean b) = tt
goal-made stores (number n) = tt
goal-made stores (text t) = tt
goal-made stores (list vs) = tt
goal-made stores (object fs) = tt
goal-made stores (function c o vs) = tt
goal-made stores (store id) = goal-at stores id (value_at stores id) refl

set-value : (stores : List Store) (id other : ℕ) (v : Val) → other ≢ id → value_at (with_value stores other v) id ≡ value_at stores id
set-value [] id other v h = refl
set-value (s ∷ stores) zero zero v h = absurd (h refl)
set-value (s ∷ stores) zero (suc other) v h = refl
set-value (s ∷ stores) (suc id) zero v h = refl
set-value (s ∷ stores) (suc id) (suc other) v h = set-value stores id other v (λ e. h (ap suc e))

-- a store is a change of any value
store-differs : (w : Val) (id : ℕ) → differs w (store id) ≡ true
store-differs undefined id = refl
store-differs null id = refl
store-differs (boolean b) id = refl
store-differs (number n) id = refl
store-differs (text t) id = refl
store-differs (list vs) id = refl
store-differs (object fs) id = refl
store-differs (function c o vs) id = refl
store-differs (store n) id = refl

value-set : (stores : List Store) (id : ℕ) (u : Val) (n : ℕ) → value_at stores id ≡ Some u → value_at (with_value stores id (store n)) id ≡ Some (store n)
value-set [] id u n e = absurd (let q = e in cc)
value-set (s ∷ stores) zero u n e = rw (store-differs s.value n) refl
value-set (s ∷ stores) (suc id) u n e = value-set stores id u n e

value-set_none : (stores : List Store) (id other : ℕ) (v : Val) → value_at stores id ≡ None → value_at (with_value stores other v) id ≡ None
value-set_none [] id other v e = e
value-set_none (s ∷ stores) zero other v e = absurd (let q = e in cc)
value-set_none (s ∷ stores) (suc id) zero v e = e
value-set_none (s ∷ stores) (suc id) (suc other) v e = value-set_none stores id other v e

-- where a store's `$` name looks: nowhere, where the store was never made
pub goal-none : (set : Option ℕ) (stores : List Store) (id : ℕ) → value_at stores id ≡ None → goal_of (stores_after set (store id) stores) (store id) ≡ no_goal
goal-none None stores id e = ap (goal_at id) e
goal-none (Some n) stores id e = ap (goal_at id) (value-set_none stores id n (store id) e)

-- at the store, which has its value
pub goal-held : (set : Option ℕ) (stores : List Store) (id : ℕ) (u : Val) → is_cell set id ≡ false → value_at stores id ≡ Some u → goal_of (stores_after set (store id) stores) (store id) ≡ record { store = Some id; value = u }
goal-held None stores id u h e = ap (goal_at id) e
goal-held (Some n) stores id u h e = ap (goal_at id) (set-value stores id n (store id) (eqb-false n id h) ∙ e)

-- or was set to itself
pub goal-set : (set : Option ℕ) (stores : List Store) (id : ℕ) (u : Val) → is_cell set id ≡ true → value_at stores id ≡ Some u → goal_of (stores_after set (store id) stores) (store id) ≡ record { store = Some id; value = store id }
goal-set None stores id u h e = absurd (true≢false (sym h))
goal-set (Some n) stores id u h e = ap (λ k. goal_of (stores_after (Some k) (store id) stores) (store id)) (eqb-true n id h) ∙ ap (goal_at id) (value-set stores id u id e)

length-after : (st : Option ℕ) (v : Val) (stores : List Store) → length (stores_after st v stores) ≡ length stores
length-after None v stores = refl
length-after (Some id) v stores = length-changed (set_to v) stores id

-- ---- assignments

-- the stores of the goal of a value's way are there once it went it
pub goal-written : (s : States) (w : Way) (v : Val) → IsThere (length (written w.cells w.store v s).stores) (goal_of (stores_after w.store v s.stores) v).store
goal-written s w v =
    let t = written w.cells w.store v s in
    let after = stores_after w.store v s.stores in
    subst (λ n. IsThere n (goal_of after v).store) (length-after w.store v s.stores ∙ sym (count_of_stores s t (tally-written w.cells w.store v s))) (goal-made after v)

pub sound-sent : (s : States) (w : Way) (v : Val) → IsSound s → IsSound (sent w v s)
sound-sent s w v k = sound-all w.cells (written w.cells w.store v s) (goal_of (stores_after w.store v s.stores) v) (goal-written s w v) (sound-written s w.cells w.store v k)

bound-over : (o : Option Val) (b : Bound) (old s : States) → IsSound s → IsSound (bound_over o b old s)
bound-over None b old s k = k
bound-over (Some v) b old s k = sound-sent s (way_of old b.owner b.target v) v k

pub sound-bound : (s : States) (n : ℕ) (b : Bound) → IsSound s → IsSound (bound_up s n b)
sound-bound s n b k = bound-over (value_in (live s n) b.cell) b s (with_instance (with_bound b) s n) (sound-inert (with_bound b) s n (λ i. refl) (λ i. refl) (λ i. refl) k)

-- ---- new names

name-none : (o : Option Instance) (c : ℕ) → is_some (name_in o c) ≡ false → name_in o c ≡ None
name-none o c e = none (name_in o c) e
  where
    none : (x : Option Subscription) → is_some x ≡ false → x ≡ None
    none None h = refl
    none (Some y) h = absurd (true≢false h)

-- who has no `$` name stands nowhere
pub nameless-nowhere : (s : States) (p : Subscriber) → name_in (live s p.inst) p.cell ≡ None → IsSound s → (id : ℕ) → list_any (same_subscriber p) (subscribers_at s.stores id) ≡ false
nameless-nowhere s p none k id = k.subscribed p.inst p.cell id ∙ ap (looks_at id) none

named-over : (source : Option ℕ) (g : Goal) (s : States) (p : Subscriber) (i : Instance) → live s p.inst ≡ Some i → name_in (live s p.inst) p.cell ≡ None → IsThere (length s.stores) g.store → IsSound s → IsSound (named_over source g s p)
named-over source g s p i there none made k =
    let x : Subscription = record { cell = p.cell; source = source; store = g.store } in
    let t : States = record s { lives = altered (with_subscription x) s.lives p.inst; stores = comes g.store p s.stores } in
    sound-given t p g.value
    (sound-named s p g.store (with_subscription x) (comes g.store p s.stores) i there k (λ j. refl) (λ j. refl)
    (λ q id h. any-came_other g.store s.stores id p q h)
    (any-came_same g.store s.stores p made (nameless-nowhere s p none k))
    (ap store_in (name_push_same i.subscriptions x (ap (λ o. name_in o p.cell) (sym there) ∙ none)))
    (λ c other. name_push_other i.subscriptions x c other))

-- where a cell may become a `$` name's, its instance is live, and it has none
pub may-parts : (s : States) (p : Subscriber) → may_follow s p ≡ true → (is_some (live s p.inst) ≡ true) × (name_in (live s p.inst) p.cell ≡ None)
may-parts s p may =
    let both = and_parts (is_some (live s p.inst)) (not (is_some (name_in (live s p.inst) p.cell))) may in
    (both.0, name-none (live s p.inst) p.cell (not-true (is_some (name_in (live s p.inst) p.cell)) both.1))

pub sound-subscribed : (s : States) (p : Subscriber) (source : Option ℕ) (v : Val) → IsSound s → IsSound (subscribed_to s p source v)
sound-subscribed s p source v k = ⊎_elim
    (λ b. rw b (over b))
    (λ b. rw b k)
    (cases_Bool (may_follow s p))
  where
    over : may_follow s p ≡ true → IsSound (named_over source (goal_of s.stores v) s p)
    over b = ⊎_elim
        (λ none. absurd (true≢false (sym (may-parts s p b).0 ∙ ap is_some none)))
        (λ some. named-over source (goal_of s.stores v) s p some.0 some.1 (may-parts s p b).1 (goal-made s.stores v) k)
        (option_cases (live s p.inst))
