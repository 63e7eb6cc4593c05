-- Settling ends with nothing pending, and computes each derived store once at most.
use Rattle.std.proofs.Common.{◌≡◌, ℕ, zero, suc, ◌+◌, ◌<◌, ◌≤◌, List, [], ◌∷◌, map, length, get_or, Option, Some, None, refl, sym, ap, ◌∙◌, arith, Bool, true, false, nat_eq, subst, ⊎_elim, All, is_some}
use Rattle.std.specs.Prelude.{not, ◌&&◌, ◌||◌}
use Rattle.std.specs.List.{AllPairs, list_any}
use Rattle.std.proofs.lemmas.Bool.{cases_Bool, cases_lt, eq-eqb, ne_eqb, true≢false}
use Rattle.std.proofs.lemmas.List.{length-map}
use Rattle.std.proofs.lemmas.List.Elements.{All-head, All-tail}
use Rattle.sv_code.specs.declared.program.Program.{Program}
use Rattle.sv_derived.proofs.Ordering.{ordered-marked, ordered-done}
use Rattle.sv_derived.specs.Derived.{Derived, found, next, is_input, marked_by, marked, done_by, done}
use Rattle.sv_derived.specs.Order.{ids, AreBelow, IsFormed, IsOrdered}
use Rattle.sv_frame.proofs.Deriving.{derive-same}
use Rattle.sv_frame.proofs.Outcomes.{at_ends, Left}
use Rattle.sv_frame.specs.Settling.{after, first_computed, computed_within, computed_in, computed_at}
use Rattle.sv_frame.specs.Snapshots.{world_of}
use Rattle.sv_meaning.specs.Derived.{derive}
use Rattle.sv_meaning.specs.Outcome.{Ending, Ends, Fails, Deed, then_do}
use Rattle.sv_meaning.specs.Runs.{settle, calls, each_in_turn}
use Rattle.sv_meaning.specs.Settling.{Derives, compute, first_settled, settled_within, settled}
use Rattle.sv_meaning.specs.declared.limits.TheConstants.{CALL_LIMIT}
use Rattle.sv_states.specs.Assignment.{changes_in, taken, told, computed}
use Rattle.sv_states.specs.States.{States, live}
use Rattle.sv_store.specs.Stores.{Subscriber, subscribers_at, differs_at, with_value}
use Rattle.sv_value.specs.Value.{Val}
use Rattle.sv_world.specs.declared.world.World.{World}

-- ---- the graph

-- the first so many aren't pending
abbrev Clear : ℕ → List Derived → Type 0
Clear zero all = Unit {0}
Clear (suc i) [] = Unit {0}
Clear (suc i) (d ∷ all) = (d.is_pending ≡ false) × Clear i all

none-next : (all : List Derived) (i : ℕ) → length all ≤ i → Clear i all → next all ≡ None
none-next [] i long h = refl
none-next (d ∷ all) zero long h = absurd (omega arith)
none-next (d ∷ all) (suc i) long h = rw h.0 (none-next all i (omega arith) h.1)

pairs_tail : (n : ℕ) (ns : List ℕ) → AllPairs (λ a b. a < b) (n ∷ ns) → AllPairs (λ a b. a < b) ns
pairs_tail n ns h i j d lt inside = h (suc i) (suc j) d (omega arith) (omega arith)

-- a store that is pending is above those before it
next-above : (all : List Derived) (n id : ℕ) → ((k d : ℕ) → k < length (ids all) → n < get_or (ids all) k d) → next all ≡ Some id → n < id
next-above [] n id h e = absurd (let q = e in cc)
next-above (d ∷ all) n id h e = ⊎_elim
    (λ b. let q : Some d.id ≡ Some id = rw b at e in subst (λ m. n < m) (some_same d.id id q) (h 0 0 (omega arith)))
    (λ b. next-above all n id (λ k x inside. h (suc k) x (omega arith)) (rw b at e))
    (cases_Bool d.is_pending)
  where
    some_same : (a b : ℕ) → Some a ≡ Some b → a ≡ b
    some_same a b q = cc

no-input : (inputs : List ℕ) (n id : ℕ) → AreBelow inputs n → n ≤ id → list_any (nat_eq id) inputs ≡ false
no-input [] n id h le = refl
no-input (m ∷ inputs) n id h le =
    let small : m < n = All-head (λ x. x < n) m inputs h in
    rw (ne_eqb id m (λ e. absurd (omega (arith, small, le, e)))) (no-input inputs n id (All-tail (λ x. x < n) m inputs h) le)

-- once it is computed, one more of the first ones isn't pending
module _ (f : Derived → Derived) (id : ℕ)
    (done_here : (d : Derived) → IsFormed d → d.id ≡ id → (f d).is_pending ≡ false) (stays : (d : Derived) → IsFormed d → d.id < id → d.is_pending ≡ false → (f d).is_pending ≡ false) where
  one-more : (i : ℕ) (all : List Derived) → AllPairs (λ a b. a < b) (ids all) → All IsFormed all → Clear i all → next all ≡ Some id → Clear (suc i) (map f all)
  one-more i [] ascending formed h e = absurd (let q = e in cc)
  one-more i (d ∷ all) ascending formed h e = ⊎_elim (λ b. pending i h b)
      (λ b. waiting (λ k c. one-more k all (pairs_tail d.id (ids all) ascending) (All-tail IsFormed d all formed) c (rw b at e)) i h b) (cases_Bool d.is_pending)
    where
      own : IsFormed d
      own = All-head IsFormed d all formed

      some_same : (a b : ℕ) → Some a ≡ Some b → a ≡ b
      some_same a b q = cc

      pending : (k : ℕ) → Clear k (d ∷ all) → d.is_pending ≡ true → Clear (suc k) (map f (d ∷ all))
      pending zero c b = (done_here d own (some_same d.id id (rw b at e)), tt)
      pending (suc k) c b = absurd (true≢false (sym b ∙ c.0))

      below : d.is_pending ≡ false → d.id < id
      below b = next-above all d.id id (λ k x inside. ascending 0 (suc k) x (omega arith) (omega (arith, inside))) (rw b at e)

      waiting : ((k : ℕ) → Clear k all → Clear (suc k) (map f all)) → (k : ℕ) → Clear k (d ∷ all) → d.is_pending ≡ false → Clear (suc k) (map f (d ∷ all))
      waiting later zero c b = (stays d own (below b) b, tt)
      waiting later (suc k) c b = (stays d own (below b) b, later k c.1)

-- what is computed isn't pending, and those before it aren't, when it is done and when it changed
done-here : (id : ℕ) (d : Derived) → IsFormed d → d.id ≡ id → (done_by id d).is_pending ≡ false
done-here id d w e = ap (λ b. d.is_pending && not b) (eq-eqb d.id id e) ∙ and-false d.is_pending
  where
    and-false : (b : Bool) → (b && false) ≡ false
    and-false true = refl
    and-false false = refl

done-stays : (id : ℕ) (d : Derived) → IsFormed d → d.id < id → d.is_pending ≡ false → (done_by id d).is_pending ≡ false
done-stays id d w lt b = ap (λ p. p && not (nat_eq d.id id)) b

unmarked : (p frozen input : Bool) → input ≡ false → ((p && false) || (not frozen && input)) ≡ false
unmarked true true input h = refl
unmarked true false input h = h
unmarked false true input h = refl
unmarked false false input h = h

marked-here : (id : ℕ) (d : Derived) → IsFormed d → d.id ≡ id → (marked_by id (done_by id d)).is_pending ≡ false
marked-here id d w e = rw (eq-eqb d.id id e) (unmarked d.is_pending d.is_frozen (is_input id d) (no-input d.recipe.inputs d.id id w.inputs (omega (arith, e))))

marked-stays : (id : ℕ) (d : Derived) → IsFormed d → d.id < id → d.is_pending ≡ false → (marked_by id (done_by id d)).is_pending ≡ false
marked-stays id d w lt b = rw b (unmarked false d.is_frozen (is_input id d) (no-input d.recipe.inputs d.id id w.inputs (omega (arith, lt))))

pub marked-done : (id : ℕ) (xs : List Derived) → map (λ d. marked_by id (done_by id d)) xs ≡ marked (done xs id) id
marked-done id [] = refl
marked-done id (x ∷ xs) = ap (λ l. marked_by id (done_by id x) ∷ l) (marked-done id xs)

clear-done : (i id : ℕ) (all : List Derived) → IsOrdered all → Clear i all → next all ≡ Some id → Clear (suc i) (done all id)
clear-done i id all k = one-more (done_by id) id (done-here id) (done-stays id) i all k.ascending k.formed

clear-marked : (i id : ℕ) (all : List Derived) → IsOrdered all → Clear i all → next all ≡ Some id → Clear (suc i) (marked (done all id) id)
clear-marked i id all k c e = subst (Clear (suc i)) (marked-done id all) (one-more (λ d. marked_by id (done_by id d)) id (marked-here id) (marked-stays id) i all k.ascending k.formed c e)

found-next : (all : List Derived) (id : ℕ) → next all ≡ Some id → is_some (found all id) ≡ true
found-next [] id e = absurd (let q = e in cc)
found-next (d ∷ all) id e = ⊎_elim
    (λ here. rw here refl)
    (λ other. rw other (⊎_elim
    (λ b. absurd (true≢false (sym (eq-eqb d.id id (some_same (rw b at e))) ∙ other)))
    (λ b. found-next all id (rw b at e))
    (cases_Bool d.is_pending)))
    (cases_Bool (nat_eq d.id id))
  where
    some_same : Some d.id ≡ Some id → d.id ≡ id
    some_same q = cc

-- ---- a store that is computed

derived-taken : (s : States) (p : Subscriber) (v : Val) → (taken s p v).derived ≡ s.derived
derived-taken s p v = ⊎_elim (λ b. rw b refl) (λ b. rw b refl) (cases_Bool (changes_in (live s p.inst) p.cell v))

derived-told : (ps : List Subscriber) (v : Val) (s : States) → (told ps v s).derived ≡ s.derived
derived-told [] v s = refl
derived-told (p ∷ ps) v s = derived-told ps v (taken s p v) ∙ derived-taken s p v

-- what holds where it has no more to tell, and where it has, holds
derived-computed : (Q : List Derived → Type 0) (s : States) (id : ℕ) (v : Val) → Q (done s.derived id) → Q (marked (done s.derived id) id) → Q (computed s id v).derived
derived-computed Q s id v still more = ⊎_elim
    (λ b. rw b (subst Q (sym (derived-told (subscribers_at s.stores id) v (record s { stores = with_value s.stores id v; derived = marked (done s.derived id) id }))) more))
    (λ b. rw b still)
    (cases_Bool (differs_at s.stores id v))

-- ---- settling

then_ends : (Q R : States → Type 0) {A B : Type 0} (e : Ending A) (go : A → Deed B) → Left (at_ends Q) e → ((a : A) (w : World) → Q w.states → Left (at_ends R) (go a w)) → Left (at_ends R) (then_do e go)
then_ends Q R (Ends a w) go h k = k a w h
then_ends Q R (Fails kind s w) go h k = tt

abbrev now_computed : ℕ → Val → Deed (Unit {0})
now_computed id v w = Ends tt (record w { states = computed w.states id v })

compute-ends : (Q : States → Type 0) (p : Program) (room id : ℕ) (w : World) (o : Option Derived) → is_some o ≡ true
    → ((d : Derived) (v : Val) (w' : World) → o ≡ Some d → derive p room d.owner d.recipe w ≡ Ends v w' → Q (computed w.states id v)) → Left (at_ends Q) (compute (derive p room) id o w)
compute-ends Q p room id w None h k = absurd (true≢false (sym h))
compute-ends Q p room id w (Some d) h k = by (derive p room d.owner d.recipe w) refl where
  by : (e : Ending Val) → derive p room d.owner d.recipe w ≡ e → Left (at_ends Q) (then_do e (now_computed id))
  by (Ends v w') e = subst (λ s. Q (computed s id v)) (sym (subst (λ x. (world_of x).states ≡ w.states) e (derive-same p room d.owner d.recipe w))) (k d v w' refl e)
  by (Fails kind at w') e = tt

-- what stays true as derived stores are computed
pub record Computes (p : Program) (I : States → Type 0) : Type 0 where
  pub ordered : (s : States) → I s → IsOrdered s.derived
  pub computed : (room : ℕ) (w w' : World) (id : ℕ) (d : Derived) (v : Val) → found w.states.derived id ≡ Some d → derive p room d.owner d.recipe w ≡ Ends v w' → I w.states → I (computed w.states id v)

-- and where no derived store is pending
pub record Settled (I : States → Type 0) (s : States) : Type 0 where
  pub holds : I s
  pub idle : next s.derived ≡ None

module _ {p : Program} {I : States → Type 0} (computes : Computes p I) where
  -- what holds in the midst: the first ones are settled, and there are turns for the others
  record Halfway (i room : ℕ) (s : States) : Type 0 where
    holds : I s
    clear : Clear i s.derived
    enough : length s.derived ≤ i + room

  halfway-computed : (i room id : ℕ) (s : States) (v : Val) → next s.derived ≡ Some id → Halfway i (suc room) s → I (computed s id v) → Halfway (suc i) room (computed s id v)
  halfway-computed i room id s v e h holds =
      let all : List Derived = s.derived in
      let k = computes.ordered s h.holds in
      let long = h.enough in
      let a = length-map all (done_by id) in
      let b = length-map (done all id) (marked_by id) in
      record {
        holds = holds;
        clear = derived-computed (Clear (suc i)) s id v (clear-done i id all k h.clear e) (clear-marked i id all k h.clear e);
        enough = derived-computed (λ ds. length ds ≤ suc i + room) s id v (omega (arith, long, a)) (omega (arith, long, a, b));
      }

  within-ends : (calls room i : ℕ) (w : World) → Halfway i room w.states → Left (at_ends (Settled I)) (settled_within room (derive p calls) w)
  within-ends calls zero i w h = let long = h.enough in record { holds = h.holds; idle = none-next w.states.derived i (omega (arith, long)) h.clear }
  within-ends calls (suc room) i w h = by (λ w' half. within-ends calls room (suc i) w' half) (next w.states.derived) refl
    where
      all : List Derived
      all = w.states.derived

      by : ((w' : World) → Halfway (suc i) room w'.states → Left (at_ends (Settled I)) (settled_within room (derive p calls) w')) → (o : Option ℕ) → next all ≡ o
          → Left (at_ends (Settled I)) (first_settled o (derive p calls) (settled_within room (derive p calls)) w)
      by rest None e = record { holds = h.holds; idle = e }
      by rest (Some id) e =
          then_ends (Halfway (suc i) room) (Settled I) (compute (derive p calls) id (found all id) w) (λ u. settled_within room (derive p calls))
          (compute-ends (Halfway (suc i) room) p calls id w (found all id) (found-next all id e)
          (λ d v w' there gave. halfway-computed i room id w.states v e h (computes.computed calls w w' id d v there gave h.holds)))
          (λ u w' half. rest w' half)

  pub settles-all : (calls : ℕ) (w : World) → I w.states → Left (at_ends (Settled I)) (settled (derive p calls) w)
  settles-all calls w h = within-ends calls (length w.states.derived) 0 w (record { holds = h; clear = tt; enough = omega arith })

ends_in : (Q : States → Type 0) (e : Ending (Unit {0})) (w : World) → e ≡ Ends tt w → Left (at_ends Q) e → Q w.states
ends_in Q e w is h = subst (Left (at_ends Q)) is h

-- the order alone
order_stays : (p : Program) → Computes p (λ s. IsOrdered s.derived)
order_stays p = record {
  ordered = λ s h. h;
  computed = λ room w w' id d v there gave h. derived-computed IsOrdered w.states id v (ordered-done w.states.derived id h) (ordered-marked (done w.states.derived id) id (ordered-done w.states.derived id h));
}

pub settles : (p : Program) (w w' : World) → IsOrdered w.states.derived → settle p w ≡ Ends tt w' → next w'.states.derived ≡ None
settles p w w' k is = (ends_in (Settled (λ s. IsOrdered s.derived)) (settle p w) w' is (settles-all (order_stays p) CALL_LIMIT w k)).idle

-- ---- nothing but what is computed

abbrev one-computed : Derives → ℕ → Deed (Unit {0})
one-computed derives id w = compute derives id (found w.states.derived id) w

then_all : (derives : Derives) (room : ℕ) (e : Ending (Unit {0})) → ((w : World) → settled_within room derives w ≡ each_in_turn (one-computed derives) (computed_within room derives w) w)
    → then_do e (λ u. settled_within room derives) ≡ then_do e (λ u. each_in_turn (one-computed derives) (after e (computed_within room derives)))
then_all derives room (Ends u w) h = h w
then_all derives room (Fails k s w) h = refl

within-all : (derives : Derives) (room : ℕ) (w : World) → settled_within room derives w ≡ each_in_turn (one-computed derives) (computed_within room derives w) w
within-all derives zero w = refl
within-all derives (suc room) w = by (λ w'. within-all derives room w') (next w.states.derived)
  where
    by : ((w' : World) → settled_within room derives w' ≡ each_in_turn (one-computed derives) (computed_within room derives w') w') → (o : Option ℕ)
        → first_settled o derives (settled_within room derives) w ≡ each_in_turn (one-computed derives) (first_computed o derives (computed_within room derives) w) w
    by rest None = refl
    by rest (Some id) = then_all derives room (one-computed derives id w) rest

pub computes-all : (p : Program) (w : World) → settle p w ≡ each_in_turn (computed_at p) (computed_in p w) w
computes-all p w = within-all (calls p).derives (length w.states.derived) w

-- ---- each once

-- none of those up to a number is pending
abbrev Low : ℕ → List Derived → Type 0
Low n [] = Unit {0}
Low n (d ∷ all) = (d.id < n → d.is_pending ≡ false) × Low n all

low-start : (all : List Derived) → Low 0 all
low-start [] = tt
low-start (d ∷ all) = ((λ h. absurd (omega (arith, h))), low-start all)

-- so the next one is above
low-next : (all : List Derived) (n id : ℕ) → Low n all → next all ≡ Some id → n ≤ id
low-next [] n id h e = absurd (let q = e in cc)
low-next (d ∷ all) n id h e = ⊎_elim
    (λ b. let q : d.id ≡ id = some_same (rw b at e) in ⊎_elim (λ lt. absurd (true≢false (sym b ∙ h.0 lt))) (λ le. omega (arith, le, q)) (cases_lt d.id n))
    (λ b. low-next all n id h.1 (rw b at e))
    (cases_Bool d.is_pending)
  where
    some_same : Some d.id ≡ Some id → d.id ≡ id
    some_same q = cc

low-above : (f : Derived → Derived) → ((d : Derived) → (f d).id ≡ d.id) → (all : List Derived) (id : ℕ) → ((k x : ℕ) → k < length (ids all) → id < get_or (ids all) k x) → Low (suc id) (map f all)
low-above f same [] id h = tt
low-above f same (d ∷ all) id h = ((λ lt. let e = same d in let first = h 0 0 (omega arith) in absurd (omega (arith, lt, e, first))), low-above f same all id (λ k x inside. h (suc k) x (omega arith)))

-- once one is computed, none up to it is pending
module _ (f : Derived → Derived) (id : ℕ) (same : (d : Derived) → (f d).id ≡ d.id)
    (done_here : (d : Derived) → IsFormed d → d.id ≡ id → (f d).is_pending ≡ false) (stays : (d : Derived) → IsFormed d → d.id < id → d.is_pending ≡ false → (f d).is_pending ≡ false) where
  low-more : (all : List Derived) → AllPairs (λ a b. a < b) (ids all) → All IsFormed all → next all ≡ Some id → Low (suc id) (map f all)
  low-more [] ascending formed e = tt
  low-more (d ∷ all) ascending formed e = ⊎_elim
      (λ b. let q : d.id ≡ id = some_same (rw b at e) in
      ((λ lt. done_here d own q), subst (λ m. Low (suc m) (map f all)) q (low-above f same all d.id (λ k x inside. ascending 0 (suc k) x (omega arith) (omega (arith, inside))))))
      (λ b. let lower = next-above all d.id id (λ k x inside. ascending 0 (suc k) x (omega arith) (omega (arith, inside))) (rw b at e) in
      ((λ lt. stays d own lower b), low-more all (pairs_tail d.id (ids all) ascending) (All-tail IsFormed d all formed) (rw b at e)))
      (cases_Bool d.is_pending)
    where
      own : IsFormed d
      own = All-head IsFormed d all formed

      some_same : Some d.id ≡ Some id → d.id ≡ id
      some_same q = cc

low-done : (id : ℕ) (all : List Derived) → IsOrdered all → next all ≡ Some id → Low (suc id) (done all id)
low-done id all k e = low-more (done_by id) id (λ d. refl) (done-here id) (done-stays id) all k.ascending k.formed e

low-marked : (id : ℕ) (all : List Derived) → IsOrdered all → next all ≡ Some id → Low (suc id) (marked (done all id) id)
low-marked id all k e = subst (Low (suc id)) (marked-done id all) (low-more (λ d. marked_by id (done_by id d)) id (λ d. refl) (marked-here id) (marked-stays id) all k.ascending k.formed e)

-- from a number on, each is above those before it
abbrev RisesFrom : ℕ → List ℕ → Type 0
RisesFrom n [] = Unit {0}
RisesFrom n (m ∷ ms) = (n ≤ m) × RisesFrom (suc m) ms

record Between (n : ℕ) (all : List Derived) : Type 0 where
  ordered : IsOrdered all
  low : Low n all

after-rises : (Q : States → Type 0) (n : ℕ) (e : Ending (Unit {0})) (rest : World → List ℕ) → Left (at_ends Q) e → ((w : World) → Q w.states → RisesFrom n (rest w)) → RisesFrom n (after e rest)
after-rises Q n (Ends u w) rest h k = k w h
after-rises Q n (Fails kind s w) rest h k = tt

within-rises : (p : Program) (calls room n : ℕ) (w : World) → Between n w.states.derived → RisesFrom n (computed_within room (derive p calls) w)
within-rises p calls zero n w h = tt
within-rises p calls (suc room) n w h = by (λ m w' half. within-rises p calls room m w' half) (next w.states.derived) refl
  where
    all : List Derived
    all = w.states.derived

    by : ((m : ℕ) (w' : World) → Between m w'.states.derived → RisesFrom m (computed_within room (derive p calls) w')) → (o : Option ℕ) → next all ≡ o → RisesFrom n (first_computed o (derive p calls) (computed_within room (derive p calls)) w)
    by rest None e = tt
    by rest (Some id) e = (
      low-next all n id h.low e,
      after-rises (λ s. Between (suc id) s.derived) (suc id) (compute (derive p calls) id (found all id) w) (computed_within room (derive p calls))
          (compute-ends (λ s. Between (suc id) s.derived) p calls id w (found all id) (found-next all id e)
          (λ d v w' there gave. derived-computed (Between (suc id)) w.states id v
          (record { ordered = ordered-done all id h.ordered; low = low-done id all h.ordered e })
          (record { ordered = ordered-marked (done all id) id (ordered-done all id h.ordered); low = low-marked id all h.ordered e })))
          (λ w' half. rest (suc id) w' half),
    )

rises-above : (ms : List ℕ) (n j d : ℕ) → RisesFrom n ms → j < length ms → n ≤ get_or ms j d
rises-above [] n j d h inside = absurd (omega arith)
rises-above (m ∷ ms) n zero d h inside = h.0
rises-above (m ∷ ms) n (suc j) d h inside = let later = rises-above ms (suc m) j d h.1 (omega arith) in let first = h.0 in omega (arith, later, first)

rises-pairs : (ms : List ℕ) (n : ℕ) → RisesFrom n ms → AllPairs (λ a b. a < b) ms
rises-pairs [] n h i j d lt inside = absurd (omega (arith, inside))
rises-pairs (m ∷ ms) n h zero zero d lt inside = absurd (omega arith)
rises-pairs (m ∷ ms) n h zero (suc j) d lt inside = rises-above ms (suc m) j d h.1 (omega arith)
rises-pairs (m ∷ ms) n h (suc i) zero d lt inside = absurd (omega arith)
rises-pairs (m ∷ ms) n h (suc i) (suc j) d lt inside = rises-pairs ms (suc m) h.1 i j d (omega arith) (omega arith)

pub rises : (p : Program) (w : World) → IsOrdered w.states.derived → AllPairs (λ a b. a < b) (computed_in p w)
rises p w k = rises-pairs (computed_in p w) 0 (within-rises p CALL_LIMIT (length w.states.derived) 0 w (record { ordered = k; low = low-start w.states.derived }))
