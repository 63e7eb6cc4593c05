-- Derived stores stay what their functions gave, whatever changes.
use Rattle.std.proofs.Common.{◌≡◌, ◌≢◌, ℕ, ◌<◌, List, [], ◌∷◌, map, length, Option, Some, None, option_map, refl, sym, ap, ◌∙◌, arith, Bool, true, false, nat_eq, subst, ⊎_elim}
use Rattle.std.specs.Prelude.{not, ◌&&◌, ◌||◌}
use Rattle.std.specs.List.{list_any}
use Rattle.std.proofs.lemmas.Bool.{cases_Bool, eqb-true, eq-eqb, true≢false}
use Rattle.std.proofs.lemmas.List.Elements.{All-head, All-tail}
use Rattle.std.proofs.lemmas.Option.{none-some, same_Some}
use Rattle.sv_code.specs.declared.program.Program.{Program}
use Rattle.sv_derived.proofs.Ordering.{ordered-marked, ordered-done, ids-map}
use Rattle.sv_derived.specs.Derived.{Derived, found, is_input, marked_by, marked, done_by, done}
use Rattle.sv_derived.specs.Order.{AreBelow, IsOrdered}
use Rattle.sv_frame.proofs.Settling.{Computes, marked-done}
use Rattle.sv_frame.proofs.Stored.{value-other, value-taken, value-held, left-values, came-values, left-count, came-count, inputs-same, found-map, IsOne, found-one}
use Rattle.sv_frame.specs.Computed.{IsComputed}
use Rattle.sv_meaning.specs.Derived.{derive}
use Rattle.sv_meaning.specs.Outcome.{Ends}
use Rattle.sv_states.proofs.Making.{made-same, length-changed}
use Rattle.sv_numbered.specs.Numbered.{altered}
use Rattle.sv_states.specs.Assignment.{changes_in, taken, told, store_set, computed, placed_at, moved, moved_if, all_followed}
use Rattle.sv_states.specs.Board.{IsMade}
use Rattle.sv_states.specs.Change.{given, with_subscription, named_over, may_follow, subscribed_to, viewed}
use Rattle.sv_states.specs.Moving.{Goal, goal_of, leaves, comes, store_in, name_in, follower_in}
use Rattle.sv_states.specs.States.{States, live, with_instance, has_cell}
use Rattle.sv_states.specs.Waiting.{enqueued}
use Rattle.sv_store.specs.Stores.{Store, Subscriber, value_at, subscribers_at, differs_at, set_to, with_value}
use Rattle.sv_value.specs.Value.{Val}
use Rattle.sv_view.specs.Level.{View}
use Rattle.sv_world.specs.declared.world.World.{World}

-- ---- what changes no value

pub record Calm (s t : States) : Type 0 where
  pub derived : t.derived ≡ s.derived
  pub count : length t.stores ≡ length s.stores
  pub values : (id : ℕ) → value_at t.stores id ≡ value_at s.stores id

pub calm-same : (s : States) → Calm s s
calm-same s = record { derived = refl; count = refl; values = λ id. refl }

pub calm-then : {s t u : States} → Calm s t → Calm t u → Calm s u
calm-then a b = record { derived = b.derived ∙ a.derived; count = b.count ∙ a.count; values = λ id. b.values id ∙ a.values id }

pub calm-enqueued : (s : States) (n : ℕ) → Calm s (enqueued s n)
calm-enqueued s n = record { derived = refl; count = refl; values = λ id. refl }

calm-taken : (s : States) (q : Subscriber) (v : Val) → Calm s (taken s q v)
calm-taken s q v = ⊎_elim (λ b. rw b (record { derived = refl; count = refl; values = λ id. refl })) (λ b. rw b (calm-same s)) (cases_Bool (changes_in (live s q.inst) q.cell v))

calm-told : (qs : List Subscriber) (v : Val) (s : States) → Calm s (told qs v s)
calm-told [] v s = calm-same s
calm-told (q ∷ qs) v s = calm-then (calm-taken s q v) (calm-told qs v (taken s q v))

calm-moved : (s : States) (q : Subscriber) (g : Goal) → Calm s (moved s q g)
calm-moved s q g =
    let old : Option ℕ = store_in (name_in (live s q.inst) q.cell) in
    let stores : List Store = comes g.store q (leaves old q s.stores) in
    calm-then
    (record {
      derived = refl;
      count = came-count g.store q (leaves old q s.stores) ∙ left-count old q s.stores;
      values = λ id. came-values g.store q (leaves old q s.stores) id ∙ left-values old q s.stores id;
    })
    (calm-taken (with_instance (placed_at q.cell g.store) (record s { stores = stores }) q.inst) q g.value)

calm-if : (o : Option ℕ) (n : ℕ) (g : Goal) (s : States) → Calm s (moved_if o n g s)
calm-if None n g s = calm-same s
calm-if (Some c) n g s = calm-moved s (record { inst = n; cell = c }) g

pub calm-followed : (qs : List Subscriber) (g : Goal) (s : States) → Calm s (all_followed qs g s)
calm-followed [] g s = calm-same s
calm-followed (q ∷ qs) g s = calm-then (calm-followed qs g s) (calm-if (follower_in (live (all_followed qs g s) q.inst) q.cell) q.inst g (all_followed qs g s))

calm-given : (s : States) (q : Subscriber) (v : Val) → Calm s (given s q v)
calm-given s q v = ⊎_elim (λ b. rw b (calm-taken s q v)) (λ b. rw b (record { derived = refl; count = refl; values = λ id. refl })) (cases_Bool (has_cell (live s q.inst) q.cell))

calm-named : (source : Option ℕ) (g : Goal) (s : States) (q : Subscriber) → Calm s (named_over source g s q)
calm-named source g s q =
    let now : States = record s { lives = altered (with_subscription (record { cell = q.cell; source = source; store = g.store })) s.lives q.inst; stores = comes g.store q s.stores } in
    calm-then {t = now} (record { derived = refl; count = came-count g.store q s.stores; values = came-values g.store q s.stores }) (calm-given now q g.value)

pub calm-subscribed : (s : States) (q : Subscriber) (source : Option ℕ) (v : Val) → Calm s (subscribed_to s q source v)
calm-subscribed s q source v = ⊎_elim (λ b. rw b (calm-named source (goal_of s.stores v) s q)) (λ b. rw b (calm-same s)) (cases_Bool (may_follow s q))

pub calm-viewed : (s : States) (n c : ℕ) (view : View) → Calm s (viewed s n c view)
calm-viewed s n c view = ⊎_elim (λ b. rw b (record { derived = refl; count = refl; values = λ id. refl })) (λ b. rw b (calm-same s)) (cases_Bool (has_cell (live s n) c))

-- ---- derived stores that change

mapped-one : (f : Derived → Derived) → ((d : Derived) → (f d).id ≡ d.id) → (all : List Derived) (id : ℕ) (d : Derived) → found (map f all) id ≡ Some d → (e : Derived) × ((found all id ≡ Some e) × (f e ≡ d))
mapped-one f same all id d there = by (found all id) refl (sym (found-map f same all id) ∙ there) where
  by : (o : Option Derived) → found all id ≡ o → option_map f o ≡ Some d → (e : Derived) × ((found all id ≡ Some e) × (f e ≡ d))
  by None e h = absurd (none-some d h)
  by (Some x) e h = (x, (e, same_Some (f x) d h))

no_other : (id : ℕ) (d : Derived) (i : ℕ) → is_input id d ≡ false → list_any (nat_eq i) d.recipe.inputs ≡ true → id ≢ i
no_other id d i none there same = absurd (true≢false (sym there ∙ subst (λ n. list_any (nat_eq n) d.recipe.inputs ≡ false) same none))

-- what a mark leaves unmarked
or-parts : (a b : Bool) → (a || b) ≡ false → (a ≡ false) × (b ≡ false)
or-parts false false e = (refl, refl)
or-parts false true e = absurd (true≢false e)
or-parts true b e = absurd (true≢false e)

unfrozen-input : (is_frozen input : Bool) → is_frozen ≡ false → (not is_frozen && input) ≡ false → input ≡ false
unfrozen-input false input live e = e
unfrozen-input true input live e = absurd (true≢false live)

pub below-any : (ids : List ℕ) (i n : ℕ) → AreBelow ids n → list_any (nat_eq i) ids ≡ true → i < n
below-any [] i n h e = absurd (true≢false (sym e))
below-any (m ∷ ids) i n h e = ⊎_elim
    (λ b. let same = eqb-true i m b in let low : m < n = All-head (λ x. x < n) m ids h in omega (arith, same, low))
    (λ b. below-any ids i n (All-tail (λ x. x < n) m ids h) (sym (λ k. b k || list_any (nat_eq i) ids) ∙ e))
    (cases_Bool (nat_eq i m))

undone : (pending : Bool) (e id : ℕ) → nat_eq e id ≡ false → (pending && not (nat_eq e id)) ≡ false → pending ≡ false
undone true e id other h = absurd (true≢false ((λ k. not (sym other k)) ∙ h))
undone false e id other h = refl

-- ---- what stays true at every moment

pub record Standing (p : Program) (s : States) : Type 0 where
  pub ordered : IsOrdered s.derived
  pub made : IsMade s
  pub computed : (id : ℕ) (d : Derived) → found s.derived id ≡ Some d → d.is_frozen ≡ false → d.is_pending ≡ false → IsComputed p s d

module _ {p : Program} where
  -- ---- one derived store

  pub stirred : (s : States) (d : Derived) (pending is_frozen : Bool) → IsComputed p s d → IsComputed p s (record d { is_pending = pending; is_frozen = is_frozen })
  stirred s d pending is_frozen h = record { room = h.room; before = h.before; after = h.after; value = h.value; gave = h.gave; inputs = h.inputs; has = h.has }

  pub computed-on : (s t : States) (d : Derived) → ((id : ℕ) → list_any (nat_eq id) d.recipe.inputs ≡ true → value_at t.stores id ≡ value_at s.stores id) → value_at t.stores d.id ≡ value_at s.stores d.id → IsComputed p s d → IsComputed p t d
  computed-on s t d inputs own h = record {
    room = h.room;
    before = h.before;
    after = h.after;
    value = h.value;
    gave = h.gave;
    inputs = h.inputs ∙ sym (inputs-same s.stores t.stores d.recipe.inputs inputs);
    has = own ∙ h.has;
  }

  pub standing-calm : {s t : States} → Calm s t → Standing p s → Standing p t
  standing-calm {s = s} {t = t} c h = record {
    ordered = subst IsOrdered (sym c.derived) h.ordered;
    made = made-same s t (λ k. (map (λ (d : Derived). d.id) (c.derived k), c.count k)) h.made;
    computed = λ id d there live idle. computed-on s t d (λ i input. c.values i) (c.values d.id) (h.computed id d (subst (λ all. found all id ≡ Some d) c.derived there) live idle);
  }

  -- ---- derived stores that change

  pub standing-mapped : (f : Derived → Derived) → ((d : Derived) → (f d).id ≡ d.id) → (all : List Derived) (t : States) → t.derived ≡ map f all → IsOrdered t.derived → IsMade t
      → ((id : ℕ) (e : Derived) → found all id ≡ Some e → (f e).is_frozen ≡ false → (f e).is_pending ≡ false → IsComputed p t (f e)) → Standing p t
  standing-mapped f same all t is ordered made each = record { ordered = ordered; made = made; computed = λ id d there live idle. by id d (mapped-one f same all id d (subst (λ l. found l id ≡ Some d) is there)) live idle } where
    by : (id : ℕ) (d : Derived) → (e : Derived) × ((found all id ≡ Some e) × (f e ≡ d)) → d.is_frozen ≡ false → d.is_pending ≡ false → IsComputed p t d
    by id d x live idle = subst (IsComputed p t) x.1.1 (each id x.0 x.1.0 (subst (λ y. y.is_frozen ≡ false) (sym x.1.1) live) (subst (λ y. y.is_pending ≡ false) (sym x.1.1) idle))

  -- ---- a store is set

  module _ (s : States) (id : ℕ) (v : Val) (free : found s.derived id ≡ None) (h : Standing p s) where
    abbrev set_now : States
    set_now = record s { stores = with_value s.stores id v; derived = marked s.derived id }

    one_set : (i : ℕ) (e : Derived) → found s.derived i ≡ Some e → e.is_frozen ≡ false → (marked_by id e).is_pending ≡ false → IsComputed p set_now (marked_by id e)
    one_set i e there live idle =
        let parts = or-parts e.is_pending (not e.is_frozen && is_input id e) idle in
        let own = (found-one s.derived i e there).number in
        stirred set_now e (marked_by id e).is_pending e.is_frozen
        (computed-on s set_now e
        (λ n input. value-other s.stores id n v (no_other id e n (unfrozen-input e.is_frozen (is_input id e) live parts.1) input))
        (value-other s.stores id e.id v (λ same. absurd (none-some e (sym free ∙ ap (found s.derived) (same ∙ own) ∙ there))))
        (h.computed i e there live parts.0))

    set_standing : Standing p set_now
    set_standing =
        standing-mapped (marked_by id) (λ d. refl) s.derived set_now refl (ordered-marked s.derived id h.ordered)
        (made-same s set_now (λ k. (ids-map (marked_by id) (λ d. refl) s.derived k, length-changed (set_to v) s.stores id k)) h.made) one_set

    pub standing-set : Standing p (store_set s id v)
    standing-set = ⊎_elim (λ b. rw b (standing-calm (calm-told (subscribers_at s.stores id) v set_now) set_standing)) (λ b. rw b h) (cases_Bool (differs_at s.stores id v))

  -- ---- a derived store is computed

  module _ (room : ℕ) (w w' : World) (id : ℕ) (d : Derived) (v : Val) (there : found w.states.derived id ≡ Some d) (gave : derive p room d.owner d.recipe w ≡ Ends v w') (h : Standing p w.states) where
    abbrev old : States
    old = w.states

    one : IsOne old.derived id d
    one = found-one old.derived id d there

    inside : id < length old.stores
    inside = subst (λ n. n < length old.stores) one.number (one.made (length old.stores) h.made)

    -- it has what it came to, on inputs that were made before it
    now_computed : (t : States) → ((n : ℕ) → id ≢ n → value_at t.stores n ≡ value_at old.stores n) → value_at t.stores id ≡ Some v → IsComputed p t d
    now_computed t others here = record {
      room = room;
      before = w;
      after = w';
      value = v;
      gave = gave;
      inputs = sym (inputs-same old.stores t.stores d.recipe.inputs (λ n input. others n (λ same. let low = below-any d.recipe.inputs n d.id (one.formed h.ordered.formed).inputs input in let is = one.number in absurd (omega (arith, same, low, is)))));
      has = subst (λ n. value_at t.stores n ≡ Some v) (sym one.number) here;
    }

    same_one : (i : ℕ) (e : Derived) → found old.derived i ≡ Some e → nat_eq e.id id ≡ true → d ≡ e
    same_one i e at b = same_Some d e (sym there ∙ ap (found old.derived) (sym (eqb-true e.id id b) ∙ (found-one old.derived i e at).number) ∙ at)

    apart_from : (e : Derived) → nat_eq e.id id ≡ false → id ≢ e.id
    apart_from e b same = absurd (true≢false (sym (eq-eqb e.id id (sym same)) ∙ b))

    -- where it had the value already
    abbrev done_now : States
    done_now = record old { derived = done old.derived id }

    one_done : value_at old.stores id ≡ Some v → (i : ℕ) (e : Derived) → found old.derived i ≡ Some e → e.is_frozen ≡ false → (done_by id e).is_pending ≡ false → IsComputed p done_now (done_by id e)
    one_done has i e at live idle = ⊎_elim
        (λ b. subst (λ x. IsComputed p done_now (done_by id x)) (same_one i e at b) (stirred done_now d (done_by id d).is_pending d.is_frozen (now_computed done_now (λ n other. refl) has)))
        (λ b. stirred done_now e (done_by id e).is_pending e.is_frozen (computed-on old done_now e (λ n input. refl) refl (h.computed i e at live (undone e.is_pending e.id id b idle))))
        (cases_Bool (nat_eq e.id id))

    done_standing : value_at old.stores id ≡ Some v → Standing p done_now
    done_standing has =
        standing-mapped (done_by id) (λ e. refl) old.derived done_now refl (ordered-done old.derived id h.ordered)
        (made-same old done_now (λ k. (ids-map (done_by id) (λ e. refl) old.derived k, length old.stores)) h.made) (one_done has)

    -- where it takes it
    abbrev taken_by : Derived → Derived
    taken_by e = marked_by id (done_by id e)

    abbrev taken_now : States
    taken_now = record old { stores = with_value old.stores id v; derived = marked (done old.derived id) id }

    one_taken : value_at taken_now.stores id ≡ Some v → (i : ℕ) (e : Derived) → found old.derived i ≡ Some e → e.is_frozen ≡ false → (taken_by e).is_pending ≡ false → IsComputed p taken_now (taken_by e)
    one_taken has i e at live idle =
        let parts = or-parts (done_by id e).is_pending (not e.is_frozen && is_input id e) idle in
        ⊎_elim
        (λ b. subst (λ x. IsComputed p taken_now (taken_by x)) (same_one i e at b) (stirred taken_now d (taken_by d).is_pending d.is_frozen (now_computed taken_now (λ n other. value-other old.stores id n v other) has)))
        (λ b. stirred taken_now e (taken_by e).is_pending e.is_frozen
        (computed-on old taken_now e
        (λ n input. value-other old.stores id n v (no_other id e n (unfrozen-input e.is_frozen (is_input id e) live parts.1) input))
        (value-other old.stores id e.id v (apart_from e b))
        (h.computed i e at live (undone e.is_pending e.id id b parts.0))))
        (cases_Bool (nat_eq e.id id))

    taken_standing : value_at taken_now.stores id ≡ Some v → Standing p taken_now
    taken_standing has =
        standing-mapped taken_by (λ e. refl) old.derived taken_now (sym (marked-done id old.derived)) (ordered-marked (done old.derived id) id (ordered-done old.derived id h.ordered))
        (made-same old taken_now (λ k. ((ids-map (marked_by id) (λ e. refl) (done old.derived id) ∙ ids-map (done_by id) (λ e. refl) old.derived) k, length-changed (set_to v) old.stores id k)) h.made) (one_taken has)

    standing-computed : Standing p (computed old id v)
    standing-computed = ⊎_elim
        (λ b. rw b (standing-calm (calm-told (subscribers_at old.stores id) v taken_now) (taken_standing (value-taken old.stores id v b))))
        (λ b. rw b (done_standing (value-held old.stores id v inside b)))
        (cases_Bool (differs_at old.stores id v))

  pub computing : Computes p (Standing p)
  computing = record { ordered = λ s h. h.ordered; computed = λ room w w' id d v there gave h. standing-computed room w w' id d v there gave h }
