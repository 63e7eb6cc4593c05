-- Instances that go, with all that are below them.
use Rattle.std.proofs.Common.{◌≡◌, ℕ, zero, suc, ◌+◌, ◌<◌, ◌≤◌, List, [], ◌∷◌, Option, Some, None, refl, sym, ap, subst, ◌∙◌, arith, slice_get, ⊎_elim, inl, inr}
use Rattle.std.specs.Prelude.{slice_set, option_map}
use Rattle.std.proofs.lemmas.List.{map-set}
use Rattle.sv_code.proofs.Each.{each_mono}
use Rattle.sv_code.specs.Names.{Each}
use Rattle.sv_code.specs.declared.program.Program.{Program}
use Rattle.sv_family.proofs.Course.{Fact, Leaves, Destroys, Ascends}
use Rattle.sv_family.proofs.Scripts.{About, At, are_stay, scripted_brings}
use Rattle.sv_family.proofs.Passing.{child-absent}
use Rattle.sv_family.proofs.Removal.{found-gone}
use Rattle.sv_family.proofs.Taken.{still-none, shown-kept, at-kept}
use Rattle.sv_family.specs.Family.{AreSorted}
use Rattle.sv_family.specs.Kin.{Kins, kin_of, kins, depth_at}
use Rattle.sv_family.specs.Pending.{Pending, AreBefore}
use Rattle.sv_flush.proofs.Bringing.{Afterwards, Brings, brings_then, nothing_brings, changed_brings, each_brings}
use Rattle.sv_flush.proofs.Playing.{all_back_leave, called_if_leaves, unless_leaves}
use Rattle.sv_flush.specs.Callbacks.{callbacks_of, called_if, unless, after}
use Rattle.sv_flush.specs.Destruction.{gone, taken, child_task, destroyed_by, children_destroyed, destroyed}
use Rattle.sv_flush.specs.Outcome.{Outcome, Done, Halted, Task, each}
use Rattle.sv_flush.specs.Rounds.{has_run, with_ran, waiting_callbacks}
use Rattle.sv_flush.specs.declared.page.Page.{Page}
use Rattle.sv_instance.specs.declared.callbacks.When.TheVariants.{After, Destroy, Returned}
use Rattle.sv_parts.specs.declared.state.Effect.{Effect}
use Rattle.sv_parts.specs.declared.state.Effect.TheVariants as effect
use Rattle.sv_shapes.specs.Showing.{Showing, places_of, child_at, without_child, removed as unshown}
use Rattle.sv_places.specs.Any.{Any}
use Rattle.sv_states.specs.declared.states.TheConstants.{DEPTH_LIMIT}

-- places have their children by ascending number
abbrev pub KeepsSorted : Fact → Type 0
KeepsSorted P = (pend : Pending) (new : Option ℕ) (leaving : List ℕ) (ks : Kins) (s : Showing) (next : ℕ) → P pend new leaving ks s next → AreSorted s.children

-- what is wanted of a page may be weaker
pub brings_less : {Q R S : Page → Type 0} {task : Task} → Brings Q R task → ((m : Page) → R m → S m) → Brings Q S task
brings_less {R = R} {S = S} {task = task} k less = record { held = λ m h. by (task m) (k.held m h) } where
  by : (o : Outcome (Unit {0})) → Afterwards R o → Afterwards S o
  by (Done a m) h = less m h
  by (Halted r m) h = tt

-- a fact stays where children leave their places, and where instances go that were made no earlier than one
pub record Stable (low : ℕ) (F : About) : Type 0 where
  pub left : (ks : Kins) (s : Showing) (next place : ℕ) → F ks s next → F ks (without_child s place) next
  pub goes : (ks : Kins) (s : Showing) (next n : ℕ) → low ≤ n → F ks s next → F (slice_set ks n None) (unshown s n) next

pub stable_from : {low least : ℕ} {F : About} → least ≤ low → Stable least F → Stable low F
stable_from le h = record { left = h.left; goes = λ ks s next n k. h.goes ks s next n (omega (arith, le, k)) }

abbrev pub anyhow : About
anyhow ks s next = Unit {0}

stable_anyhow : (low : ℕ) → Stable low anyhow
stable_anyhow low = record { left = λ ks s next place h. h; goes = λ ks s next n k h. h }

-- ---- what an instance shows, how deep it is, and places that have no child

module _ (F : About) (n : ℕ) (places : List ℕ) (depth : ℕ) (empty : List ℕ) where
  pub record Watched (ks : Kins) (s : Showing) (next : ℕ) : Type 0 where
    pub fact : F ks s next
    pub places_are : places_of s n ≡ places
    pub depth_is : depth_at ks n ≡ depth
    pub none : Each (λ l. child_at s l ≡ None) empty

  stable_watched : Stable (suc n) F → Stable (suc n) Watched
  stable_watched h = record {
    left = λ ks s next place w. record {
      fact = h.left ks s next place w.fact;
      places_are = w.places_are;
      depth_is = w.depth_is;
      none = each_mono (λ l. child_at s l ≡ None) (λ l. child_at (without_child s place) l ≡ None) (λ l. still-none s.children place l) empty w.none;
    };
    goes = λ ks s next d le w. record {
      fact = h.goes ks s next d le w.fact;
      places_are = shown-kept s d n (omega (arith, le)) ∙ w.places_are;
      depth_is = at-kept ks d n (omega (arith, le)) ∙ w.depth_is;
      none = w.none;
    };
  }

-- ---- instances that go

module _ (p : Program) where
  pub after_keeps : (F : About) (n at : ℕ) → Brings (At F) (At F) (after p n at)
  after_keeps F n at = record {
    held = λ m h. (scripted_brings F {deed = unless (has_run m.rounds n at) (λ w. called_if p (slice_get (callbacks_of w n After) at) w)}
        (λ old. unless_leaves (are_stay p old) (has_run m.rounds n at) (record { held = λ w k. (called_if_leaves (are_stay p old) (slice_get (callbacks_of w n After) at)).held w k }))).held
        (record m { rounds = with_ran m.rounds n at }) h;
  }

module _ (p : Program) (P : Fact) (leave : Leaves P) (sorted : KeepsSorted P) where
  -- one is leaving, and no child stands in what it shows
  pub record Emptied (pend : Pending) (leaving : List ℕ) (n : ℕ) (F : About) (ks : Kins) (s : Showing) (next : ℕ) : Type 0 where
    pub fact : P pend None (n ∷ leaving) ks s next
    pub besides : F ks s next
    pub empty : (place : ℕ) → Any (λ l. l ≡ place) (places_of s n) → child_at s place ≡ None

  -- one is leaving, which isn't so deep that there isn't room for all below it
  pub record Going (room : ℕ) (pend : Pending) (leaving : List ℕ) (n : ℕ) (F : About) (ks : Kins) (s : Showing) (next : ℕ) : Type 0 where
    pub fact : P pend None (n ∷ leaving) ks s next
    pub besides : F ks s next
    pub room_is : DEPTH_LIMIT ≤ depth_at ks n + room

  abbrev pub Left : Pending → List ℕ → About → About
  Left pend leaving F ks s next = P pend None leaving ks s next × F ks s next

  -- its callbacks run and its children go; then it goes itself
  destroyed_brings : {children : Task} (B : About) (pend : Pending) (leaving : List ℕ) (n : ℕ) (F : About) → AreBefore n pend → Each (λ l. l < n) leaving → Stable n F
      → Brings (At B) (At (Emptied pend leaving n F)) children → Brings (At B) (At (Left pend leaving F)) (destroyed_by children p n)
  destroyed_brings B pend leaving n F before later stable k =
      brings_then (record { held = λ m h. (each_brings (waiting_callbacks m.rounds n) (after_keeps p B n)).held m h }) (λ _.
      brings_then (scripted_brings B (λ old. all_back_leave (are_stay p old) n Destroy)) (λ _.
      brings_then (scripted_brings B (λ old. all_back_leave (are_stay p old) n Returned)) (λ _.
      brings_then k (λ _. brings_then (changed_brings {Q = At (Emptied pend leaving n F)} {R = At (Left pend leaving F)} (gone n) (λ m h.
      subst (λ ks. Left pend leaving F ks (unshown m.showing n) m.counters.next) (sym (map-set (option_map kin_of) m.world.states.lives n None))
      (leave.goes pend leaving n (kins m.world.states) m.showing m.counters.next before later h.empty h.fact, stable.goes (kins m.world.states) m.showing m.counters.next n (omega arith) h.besides))) (λ _. nothing_brings)))))

  abbrev pub Goes : ℕ → Type 1
  Goes room = (pend : Pending) (leaving : List ℕ) (n : ℕ) (F : About) → AreBefore n pend → Each (λ l. l < n) leaving → Stable n F
      → Brings (At (Going room pend leaving n F)) (At (Left pend leaving F)) (destroyed_by (children_destroyed room p n) p n)

  -- ---- children

  module _ (pend : Pending) (leaving : List ℕ) (n : ℕ) (before : AreBefore n pend) (later : Each (λ l. l < n) leaving) where
    earlier_all : (d : ℕ) → n < d → AreBefore d pend
    earlier_all d lt = each_mono (λ e. e.0 < n) (λ e. e.0 < d) (λ e k. omega (arith, k, lt)) pend before

    later_all : (d : ℕ) → n < d → Each (λ l. l < d) (n ∷ leaving)
    later_all d lt = (lt, each_mono (λ l. l < n) (λ l. l < d) (λ l k. omega (arith, k, lt)) leaving later)

    -- none are so deep
    no_deeper : (F : About) (ks : Kins) (s : Showing) (next : ℕ) → Going zero pend leaving n F ks s next → (place : ℕ) → Any (λ l. l ≡ place) (places_of s n) → child_at s place ≡ None
    no_deeper F ks s next h place in_it = by (child_at s place) refl where
      by : (o : Option ℕ) → child_at s place ≡ o → o ≡ None
      by None e = refl
      by (Some d) e = absurd (
          let parents = leave.parents pend None (n ∷ leaving) ks s next h.fact in
          let a = parents.deeper d n (leave.child_of pend (n ∷ leaving) n place d ks s next before in_it e h.fact) in
          let b = parents.shallow d in
          let c = h.room_is in
          omega (arith, a, b, c))

    module _ (room : ℕ) (goes : Goes room) (F : About) (stable : Stable (suc n) F) (places : List ℕ) (depth : ℕ) (deep : DEPTH_LIMIT ≤ depth + suc room) where
      abbrev Watching : List ℕ → About
      Watching empty ks s next = P pend None (n ∷ leaving) ks s next × Watched F n places depth empty ks s next

      -- the child at a place goes, if there is one
      taken_brings : (empty : List ℕ) (place : ℕ) → Any (λ l. l ≡ place) places
          → Brings (At (Watching empty)) (At (Watching (place ∷ empty))) (taken (λ d. destroyed_by (children_destroyed room p d) p d) place)
      taken_brings empty place in_it = record { held = λ m h. by m (child_at m.showing place) refl h } where
        by : (m : Page) (o : Option ℕ) → child_at m.showing place ≡ o → At (Watching empty) m
            → Afterwards (At (Watching (place ∷ empty))) (child_task (λ d. destroyed_by (children_destroyed room p d) p d) o (record m { showing = without_child m.showing place }))
        by m None e h = subst (λ s. Watching (place ∷ empty) (kins m.world.states) s m.counters.next) (sym (child-absent m.showing place e))
            (h.0, record { fact = h.1.fact; places_are = h.1.places_are; depth_is = h.1.depth_is; none = (e, h.1.none) })
        by m (Some d) e h =
            let ks : Kins = kins m.world.states in
            let parent = leave.child_of pend (n ∷ leaving) n place d ks m.showing m.counters.next before (subst (Any (λ l. l ≡ place)) (sym h.1.places_are) in_it) e h.0 in
            let parents = leave.parents pend None (n ∷ leaving) ks m.showing m.counters.next h.0 in
            let lt : n < d = parents.earlier d n parent in
            let watched = (stable_watched F n places depth empty stable).left ks m.showing m.counters.next place h.1 in
            (goes pend (n ∷ leaving) d (Watched F n places depth (place ∷ empty)) (earlier_all d lt) (later_all d lt) (stable_from {F = Watched F n places depth (place ∷ empty)} (omega (arith, lt)) (stable_watched F n places depth (place ∷ empty) stable))).held
            (record m { showing = without_child m.showing place })
            (record {
              fact = leave.leaves pend (n ∷ leaving) n place d ks m.showing m.counters.next e parent (inl refl) h.0;
              besides = record {
                fact = watched.fact;
                places_are = watched.places_are;
                depth_is = watched.depth_is;
                none = (found-gone place m.showing.children (sorted pend None (n ∷ leaving) ks m.showing m.counters.next h.0), watched.none);
              };
              room_is = let a = parents.deeper d n parent in let b = h.1.depth_is in omega (arith, a, b, deep);
            })

      -- those at all places of it
      all_taken : (rest : List ℕ) (empty : List ℕ) → ((l : ℕ) → Any (λ k. k ≡ l) rest → Any (λ k. k ≡ l) places)
          → Brings (At (Watching empty)) (At (λ ks s next. Watching empty ks s next × Each (λ l. child_at s l ≡ None) rest)) (each (taken (λ d. destroyed_by (children_destroyed room p d) p d)) rest)
      all_taken [] empty in_it = record { held = λ m h. (h, tt) }
      all_taken (place ∷ rest) empty in_it = brings_less
          (brings_then (taken_brings empty place (in_it place (inl refl))) (λ _. all_taken rest (place ∷ empty) (λ l h. in_it l (inr h))))
          (λ m h. ((h.0.0, record { fact = h.0.1.fact; places_are = h.0.1.places_are; depth_is = h.0.1.depth_is; none = h.0.1.none.1 }), (h.0.1.none.0, h.1)))

      all_empty : (s : Showing) (list : List ℕ) → Each (λ l. child_at s l ≡ None) list → (place : ℕ) → Any (λ l. l ≡ place) list → child_at s place ≡ None
      all_empty s [] h place none = absurd none
      all_empty s (l ∷ list) h place there = ⊎_elim (λ same. ap (child_at s) (sym same) ∙ h.0) (λ more. all_empty s list h.1 place more) there

      emptied : (m : Page) → At (λ ks s next. Watching [] ks s next × Each (λ l. child_at s l ≡ None) places) m → At (Emptied pend leaving n F) m
      emptied m h = record {
        fact = h.0.0;
        besides = h.0.1.fact;
        empty = λ place there. all_empty m.showing places h.1 place (subst (Any (λ l. l ≡ place)) h.0.1.places_are there);
      }

  children_bring : (room : ℕ) (pend : Pending) (leaving : List ℕ) (n : ℕ) (F : About) → AreBefore n pend → Each (λ l. l < n) leaving → Stable n F
      → Brings (At (Going room pend leaving n F)) (At (Emptied pend leaving n F)) (children_destroyed room p n)
  unfolding children_destroyed
  children_bring zero pend leaving n F before later stable = record {
    held = λ m h. record { fact = h.fact; besides = h.besides; empty = no_deeper pend leaving n before later F (kins m.world.states) m.showing m.counters.next h };
  }
  children_bring (suc room) pend leaving n F before later stable =
      let goes : Goes room = λ pend' leaving' d G b l st. destroyed_brings (Going room pend' leaving' d G) pend' leaving' d G b l st (children_bring room pend' leaving' d G b l st) in
      record {
        held = λ m h.
            let places : List ℕ = places_of m.showing n in
            let depth : ℕ = depth_at (kins m.world.states) n in
            (brings_less (all_taken pend leaving n before later room goes F (stable_from {F = F} (omega arith) stable) places depth h.room_is places [] (λ l k. k))
            (emptied pend leaving n before later room goes F (stable_from {F = F} (omega arith) stable) places depth h.room_is)).held m
            (h.fact, record { fact = h.besides; places_are = refl; depth_is = refl; none = tt });
      }

  -- an instance goes, and all below it
  pub all_go : (pend : Pending) (n : ℕ) → AreBefore n pend → Brings (At (P pend None (n ∷ []))) (At (P pend None [])) (destroyed DEPTH_LIMIT p n)
  all_go pend n before = brings_less
      (record {
        held = λ m h. (destroyed_brings (Going DEPTH_LIMIT pend [] n anyhow) pend [] n anyhow before tt (stable_anyhow n) (children_bring DEPTH_LIMIT pend [] n anyhow before tt (stable_anyhow n))).held m
            (record { fact = h; besides = tt; room_is = omega arith });
      })
      (λ m h. h.0)

  -- ---- the effect

  module _ (destroys : Destroys P) (ascends : Ascends P) where
    pub taken_keeps : (pend : Pending) (q place : ℕ) (es : List Effect) → Brings (At (P ((q, effect.Destroy place ∷ es) ∷ pend) None [])) (At (P ((q, es) ∷ pend) None [])) (taken (destroyed DEPTH_LIMIT p) place)
    taken_keeps pend q place es = record { held = λ m h. by m (child_at m.showing place) refl h } where
      by : (m : Page) (o : Option ℕ) → child_at m.showing place ≡ o → At (P ((q, effect.Destroy place ∷ es) ∷ pend) None []) m
          → Afterwards (At (P ((q, es) ∷ pend) None [])) (child_task (destroyed DEPTH_LIMIT p) o (record m { showing = without_child m.showing place }))
      by m None e h = destroys pend q place es (kins m.world.states) m.showing m.counters.next e h
      by m (Some n) e h =
          let ks : Kins = kins m.world.states in
          let parents = leave.parents ((q, effect.Destroy place ∷ es) ∷ pend) None [] ks m.showing m.counters.next h in
          let lt : q < n = parents.earlier n q (leave.destroyed_child pend q place es n ks m.showing m.counters.next e h) in
          let order = (ascends ((q, effect.Destroy place ∷ es) ∷ pend) None [] ks m.showing m.counters.next h).0 in
          (all_go ((q, es) ∷ pend) n (lt, each_mono (λ e. e.0 < q) (λ e. e.0 < n) (λ e k. omega (arith, k, lt)) pend order.0)).held
          (record m { showing = without_child m.showing place }) (leave.leaves_destroyed pend q place es n ks m.showing m.counters.next e h)
