-- Stores set, and cells subscribed to them.
use Rattle.std.proofs.Common.{◌≡◌, ℕ, zero, suc, List, [], ◌∷◌, ◌++◌, Option, Some, None, refl, sym, ap, ◌∙◌, arith, true, false, slice_set, subst}
use Rattle.sv_value.specs.Value.{Val}
use Rattle.sv_derived.specs.Derived.{Derived, marked}
use Rattle.sv_store.specs.Stores.{Store, Subscriber, with_value, differs_at, subscribers_at}
use Rattle.sv_numbered.specs.Numbered.{at, altered, altered_over}
use Rattle.sv_instance.specs.Bound.{Bound}
use Rattle.sv_instance.specs.declared.instance.Instance.{Instance}
use Rattle.sv_instance.specs.declared.subscriptions.Subscription.{Subscription}
use Rattle.sv_states.specs.States.{States, live}
use Rattle.sv_states.specs.Assignment.{placed_at, with_bound, told, store_set}
use Rattle.sv_states.specs.Moving.{Goal, goal_of, comes}
use Rattle.sv_states.specs.Change.{with_subscription, named_over, may_follow, subscribed_to, given}
use Rattle.sv_states.specs.Prepared.{with_subscriptions, subscriptions_of}
use Rattle.sv_states.specs.Board.{IsReady, seen_as}
use Rattle.sv_states.specs.declared.board.Board.{Board}
use Rattle.sv_states.proofs.Ready.{ready-altered, counts_of}

-- a store that takes a value keeps its subscribers
pub subscribers-set : (stores : List Store) (id other : ℕ) (v : Val) → subscribers_at (with_value stores id v) other ≡ subscribers_at stores other
subscribers-set [] id other v = refl
subscribers-set (s ∷ stores) zero zero v = refl
subscribers-set (s ∷ stores) zero (suc other) v = refl
subscribers-set (s ∷ stores) (suc id) zero v = refl
subscribers-set (s ∷ stores) (suc id) (suc other) v = subscribers-set stores id other v

-- a value that is no change changes nothing
pub with_value-same : (stores : List Store) (id : ℕ) (v : Val) → differs_at stores id v ≡ false → with_value stores id v ≡ stores
with_value-same [] id v e = refl
with_value-same (s ∷ stores) zero v e = rw e refl
with_value-same (s ∷ stores) (suc id) v e = ap (λ l. s ∷ l) (with_value-same stores id v e)

module _ (b : Board) (id : ℕ) (v w : Val) (stores : List Store) (same : w ≡ v) (is : stores ≡ with_value b.stores id w) where
  pub set-told : (t : States) (derived : List Derived) → derived ≡ marked b.derived id → differs_at b.stores id w ≡ true → t ≡ told (subscribers_at stores id) v (record (seen_as b) { stores = stores; derived = derived }) → t ≡ store_set (seen_as b) id v
  set-told t derived marks differs' e =
      let d : differs_at b.stores id v ≡ true = ap (differs_at b.stores id) (sym same) ∙ differs' in
      let set = is ∙ ap (with_value b.stores id) same in
      e ∙ ap (λ l. told l v (record (seen_as b) { stores = stores; derived = derived })) (ap (λ l. subscribers_at l id) set ∙ subscribers-set b.stores id id v)
      ∙ (λ k. told (subscribers_at b.stores id) v (record (seen_as b) { stores = set k; derived = marks k }))
      ∙ sym (let step : store_set (seen_as b) id v ≡ told (subscribers_at b.stores id) v (record (seen_as b) { stores = with_value b.stores id v; derived = marked b.derived id }) = rw d refl in step)

  pub set-same : differs_at b.stores id w ≡ false → record (seen_as b) { stores = stores } ≡ store_set (seen_as b) id v
  set-same differs' =
      let d : differs_at b.stores id v ≡ false = ap (differs_at b.stores id) (sym same) ∙ differs' in
      ap (λ l. record (seen_as b) { stores = l }) (is ∙ with_value-same b.stores id w differs')
      ∙ sym (let step : store_set (seen_as b) id v ≡ seen_as b = rw d refl in step)

-- what isn't a cell or a place in the queue may change
pub ready_bound : (b : Board) (n : ℕ) (x : Bound) → IsReady b → (new : Board) → new ≡ record b { lives = altered (with_bound x) b.lives n } → IsReady new
ready_bound b n x r new is =
    subst IsReady (sym is) (ready-altered b (with_bound x) n b.clock r (omega arith) (λ i. refl) (λ i there c. counts_of b.clock b.lives n i r.counted there c))

pub ready_placed : (b : Board) (n c : ℕ) (st : Option ℕ) → IsReady b → (new : Board) → new ≡ record b { lives = altered (placed_at c st) b.lives n } → IsReady new
ready_placed b n c st r new is =
    subst IsReady (sym is) (ready-altered b (placed_at c st) n b.clock r (omega arith) (λ i. refl) (λ i there d. counts_of b.clock b.lives n i r.counted there d))

module _ (b : Board) (p : Subscriber) (x : Subscription) (stores : List Store) (list : List Subscription) (put : Board) (is : put ≡ record b { lives = altered (with_subscriptions list) b.lives p.inst; stores = stores }) where
  pub ready_subscribed : IsReady b → IsReady put
  ready_subscribed r =
      let a = ready-altered b (with_subscriptions list) p.inst b.clock r (omega arith) (λ i. refl) (λ i there c. counts_of b.clock b.lives p.inst i r.counted there c) in
      subst IsReady (sym is) (record { synced = a.synced; fits = a.fits; counted = a.counted })

  list_over : (o : Option Instance) → list ≡ subscriptions_of o ++ x ∷ [] → altered_over (with_subscriptions list) o b.lives p.inst ≡ altered_over (with_subscription x) o b.lives p.inst
  list_over None e = refl
  list_over (Some i) e = ap (λ l. slice_set b.lives p.inst (Some (with_subscriptions l i))) e

  -- the name looks where its goal is, and has the value
  pub subscribed-all : (new : Board) (source : Option ℕ) (g : Goal) (v w : Val) → x ≡ record { cell = p.cell; source = source; store = g.store } → may_follow (seen_as b) p ≡ true → list ≡ subscriptions_of (live (seen_as b) p.inst) ++ x ∷ []
      → g ≡ goal_of b.stores v → w ≡ g.value → stores ≡ comes g.store p b.stores → seen_as new ≡ given (seen_as put) p w → seen_as new ≡ subscribed_to (seen_as b) p source v
  subscribed-all new source g v w name may e goal shows came next =
      next ∙ ap (λ q. given (seen_as q) p w) is
      ∙ (λ k. given (record { lives = (list_over (at b.lives p.inst) e ∙ ap (λ y. altered (with_subscription y) b.lives p.inst) name) k; stores = came k; derived = b.derived; queue = b.queue.order }) p (shows k))
      ∙ ap (λ h. named_over source h (seen_as b) p) goal
      ∙ sym (let step : subscribed_to (seen_as b) p source v ≡ named_over source (goal_of b.stores v) (seen_as b) p = rw may refl in step)
