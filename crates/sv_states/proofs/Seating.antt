-- What moves of `$` names take, before and after one.
use Rattle.std.proofs.Common.{◌≡◌, ℕ, zero, suc, ◌+◌, ◌≤◌, List, [], ◌∷◌, ◌++◌, length, Option, Some, None, refl, sym, ap, ◌∙◌, arith, Bool, subst, ⊎_elim, All}
use Rattle.std.specs.Prelude.{not}
use Rattle.std.specs.List.{filter}
use Rattle.std.proofs.lemmas.Bool.{cases_Bool}
use Rattle.std.proofs.lemmas.List.{length_push}
use Rattle.std.proofs.lemmas.List.Elements.{All-nil, All-cons, All-head, All-tail, All-weaker}
use Rattle.sv_value.specs.Value.{Val}
use Rattle.sv_store.specs.Stores.{Store, Subscriber, same_subscriber, subscribers_at, changed_at, without_subscriber, subscribed, differs_at}
use Rattle.sv_states.specs.States.{States, live}
use Rattle.sv_states.specs.Moving.{leaves}
use Rattle.sv_states.specs.Moves.{AreReadyTo, AreReady}
use Rattle.sv_states.specs.Assignment.{changes_in, cell_stored, handing, taken, told, store_set, end_set, written}
use Rattle.sv_states.specs.declared.moves.Moves.{Moves}
use Rattle.sv_states.proofs.Calm.{store_stored}
use Rattle.sv_states.proofs.Subscribing.{subscribers-set}
use Rattle.sv_states.proofs.Telling.{stores-taken}

length-filter : {A : Type 0} (p : A → Bool) (xs : List A) → length (filter p xs) ≤ length xs
length-filter p [] = omega arith
length-filter p (x ∷ xs) = let r = length-filter p xs in ⊎_elim (λ b. rw b (omega (arith, r))) (λ b. rw b (omega (arith, r))) (cases_Bool (p x))

length-unsubscribed : (stores : List Store) (id other : ℕ) (p : Subscriber) → length (subscribers_at (changed_at (without_subscriber p) stores id) other) ≤ length (subscribers_at stores other)
length-unsubscribed [] id other p = omega arith
length-unsubscribed (s ∷ stores) zero zero p = length-filter (λ x. not (same_subscriber p x)) s.subscribers
length-unsubscribed (s ∷ stores) zero (suc other) p = omega arith
length-unsubscribed (s ∷ stores) (suc id) zero p = omega arith
length-unsubscribed (s ∷ stores) (suc id) (suc other) p = length-unsubscribed stores id other p

length-leaves : (st : Option ℕ) (p : Subscriber) (stores : List Store) (id : ℕ) → length (subscribers_at (leaves st p stores) id) ≤ length (subscribers_at stores id)
length-leaves None p stores id = omega arith
length-leaves (Some n) p stores id = length-unsubscribed stores n id p

length-subscribed : (stores : List Store) (id : ℕ) (p : Subscriber) → length (subscribers_at (subscribed stores id p) id) ≤ length (subscribers_at stores id) + 1
length-subscribed [] id p = omega arith
length-subscribed (s ∷ stores) zero p = let e = length_push s.subscribers p in omega (arith, e)
length-subscribed (s ∷ stores) (suc id) p = length-subscribed stores id p

-- a subscriber that leaves needs nothing
pub ready-left : (st : Option ℕ) (p : Subscriber) (stores : List Store) (n : ℕ) (m : Moves) → AreReadyTo stores n m → AreReadyTo (leaves st p stores) n m
ready-left st p stores n m r = record {
  values = r.values;
  seats = r.seats;
  room = All-weaker (λ seat. length (subscribers_at stores m.store) + n ≤ seat) (λ seat. length (subscribers_at (leaves st p stores) m.store) + n ≤ seat) (λ seat h. let e = length-leaves st p stores m.store in omega (arith, e, h)) m.seats.items r.room;
}

all_front : {A : Type 0} (P : A → Type 0) (xs ys : List A) → All P (xs ++ ys) → All P xs
all_front P [] ys h = All-nil P
all_front P (x ∷ xs) ys h = All-cons P x xs (All-head P x (xs ++ ys) h) (all_front P xs ys (All-tail P x (xs ++ ys) h))

-- one that comes takes a value and a seat
pub ready-came : (stores : List Store) (p : Subscriber) (n : ℕ) (m m' : Moves) (seat : ℕ) → AreReadyTo stores (1 + n) m → m'.store ≡ m.store → m'.values.left + 1 ≡ m.values.left → m.seats.items ≡ m'.seats.items ++ seat ∷ []
    → AreReadyTo (subscribed stores m.store p) n m'
ready-came stores p n m m' seat r same fewer popped = record {
  values = let e = r.values in omega (arith, e, fewer);
  seats = let e = r.seats in let l = ap length popped in let k = length_push m'.seats.items seat in omega (arith, e, l, k);
  room = subst (λ id. All (λ seat'. length (subscribers_at (subscribed stores m.store p) id) + n ≤ seat') m'.seats.items) (sym same)
      (All-weaker (λ seat'. length (subscribers_at stores m.store) + (1 + n) ≤ seat') (λ seat'. length (subscribers_at (subscribed stores m.store p) m.store) + n ≤ seat')
      (λ seat' h. let e = length-subscribed stores m.store p in omega (arith, e, h)) m'.seats.items
      (all_front (λ seat'. length (subscribers_at stores m.store) + (1 + n) ≤ seat') m'.seats.items (seat ∷ []) (subst (λ l. All (λ seat'. length (subscribers_at stores m.store) + (1 + n) ≤ seat') l) popped r.room)));
}

-- what is ready for more is ready for less
pub ready-fewer : (stores : List Store) (n k : ℕ) (o : Option Moves) → k ≤ n → AreReady stores n o → AreReady stores k o
ready-fewer stores n k None h r = tt
ready-fewer stores n k (Some m) h r = record {
  values = let e = r.values in omega (arith, e, h);
  seats = let e = r.seats in omega (arith, e, h);
  room = All-weaker (λ seat. length (subscribers_at stores m.store) + n ≤ seat) (λ seat. length (subscribers_at stores m.store) + k ≤ seat) (λ seat e. omega (arith, e, h)) m.seats.items r.room;
}

-- ---- a value on its way changes no subscription

abbrev pub KeepsSubscribers : (States → States) → Type 0
KeepsSubscribers f = (s : States) (id : ℕ) → subscribers_at (f s).stores id ≡ subscribers_at s.stores id

keeps-handing : (p : Subscriber) (v : Val) (next : States → States) → KeepsSubscribers next → KeepsSubscribers (handing p v next)
keeps-handing p v next keeps s id = ⊎_elim (λ b. rw b (keeps (cell_stored s p v) id)) (λ b. rw b refl) (cases_Bool (changes_in (live s p.inst) p.cell v))

keeps-told : (ps : List Subscriber) (v : Val) → KeepsSubscribers (told ps v)
keeps-told [] v s id = refl
keeps-told (p ∷ ps) v s id = keeps-told ps v (taken s p v) id ∙ ap (λ l. subscribers_at l id) (stores-taken s p v)

keeps-set : (n : ℕ) (v : Val) → KeepsSubscribers (λ s. store_set s n v)
keeps-set n v s id = ⊎_elim
    (λ b. rw b (keeps-told (subscribers_at s.stores n) v (store_stored s n v) id ∙ subscribers-set s.stores n id v))
    (λ b. rw b refl)
    (cases_Bool (differs_at s.stores n v))

keeps-end : (store : Option ℕ) (v : Val) → KeepsSubscribers (end_set store v)
keeps-end None v s id = refl
keeps-end (Some n) v s id = keeps-set n v s id

keeps-written : (ps : List Subscriber) (store : Option ℕ) (v : Val) → KeepsSubscribers (written ps store v)
keeps-written [] store v = keeps-end store v
keeps-written (p ∷ ps) store v = keeps-handing p v (written ps store v) (keeps-written ps store v)

-- so what was ready before is ready behind it
pub ready-written : (ps : List Subscriber) (store : Option ℕ) (v : Val) (s : States) (n : ℕ) (o : Option Moves) → AreReady s.stores n o → AreReady (written ps store v s).stores n o
ready-written ps store v s n None r = tt
ready-written ps store v s n (Some m) r = record {
  values = r.values;
  seats = r.seats;
  room = subst (λ l. All (λ seat. length l + n ≤ seat) m.seats.items) (sym (keeps-written ps store v s m.store)) r.room;
}
