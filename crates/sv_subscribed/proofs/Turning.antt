-- Behind each turn all `$` names are subscribed where they should be.
use Rattle.std.proofs.Common.{◌≡◌, ℕ, zero, suc, ◌<◌, Bool, true, false, List, [], ◌∷◌, length, Option, Some, None, option_map, refl, sym, ap, subst, ◌∙◌, arith, ◌⊎◌, ⊎_elim}
use Rattle.std.specs.List.{All}
use Rattle.std.proofs.lemmas.Bool.{eqb-true, eq-eqb, true≢false}
use Rattle.std.proofs.lemmas.List.{length-map}
use Rattle.std.proofs.lemmas.List.Elements.{All-nil, All-cons}
use Rattle.std.proofs.lemmas.Option.{none-some}
use Rattle.sv_code.specs.declared.program.Component.{Component}
use Rattle.sv_code.specs.declared.program.Program.{Program}
use Rattle.sv_code.specs.declared.program.StoreCell.{StoreCell}
use Rattle.sv_document.specs.Element.{Element}
use Rattle.sv_document.specs.declared.tree.Node.{Node}
use Rattle.sv_events.specs.declared.event.Event.{Event}
use Rattle.sv_flush.proofs.Bringing.{Afterwards, after_then}
use Rattle.sv_flush.proofs.Playing.{rooted, rooted_brings, flushed_brings}
use Rattle.sv_flush.proofs.Tracking.{Tracks, goes_sets, tracks_go, tracks_stay, picture_at}
use Rattle.sv_flush.specs.Creation.{mounted}
use Rattle.sv_flush.specs.Flush.{flushed}
use Rattle.sv_flush.specs.Outcome.{Outcome, Done, Halted, and_then, ended}
use Rattle.sv_flush.specs.Page.{blank, begun}
use Rattle.sv_flush.specs.Records.{nobody}
use Rattle.sv_flush.specs.declared.page.Page.{Page}
use Rattle.sv_flush.proofs.Blank.{blank_tracked}
use Rattle.sv_frame.proofs.Altering.{pictures, pictures_setup, pictures_stay}
use Rattle.sv_frame.proofs.Outcomes.{ending, at_ends, Leaves, Left, both_stay, both_sets, ends_stay}
use Rattle.sv_frame.proofs.Running.{modules_leave}
use Rattle.sv_frame.proofs.Stepping.{sets_by, steps_stay}
use Rattle.sv_frame.specs.Snapshots.{world_of}
use Rattle.sv_input.specs.Named.{named}
use Rattle.sv_input.specs.Typed.{taken, laid, laid_down}
use Rattle.sv_input.specs.Walk.{walked, delivery, dispatched}
use Rattle.sv_instance.specs.Subscriptions.{subscription_at, is_cell}
use Rattle.sv_instance.specs.declared.instance.Instance.{Instance}
use Rattle.sv_instance.specs.declared.subscriptions.Subscription.{Subscription}
use Rattle.sv_meaning.specs.Components.{component_at}
use Rattle.sv_meaning.specs.Outcome.{Ending, Ends, Fails, then_do}
use Rattle.sv_meaning.specs.Runs.{run_modules}
use Rattle.sv_numbered.specs.Numbered.{at}
use Rattle.sv_page.proofs.Delivering.{walked_leaves}
use Rattle.sv_page.specs.Run.{followed, turns, run}
use Rattle.sv_page.specs.Turns.{nodes_of, settled, first_turn, next_turn}
use Rattle.sv_states.specs.Moving.{store_in}
use Rattle.sv_states.specs.Sound.{has_subscription, is_subscriber}
use Rattle.sv_states.specs.States.{States, live}
use Rattle.sv_value.specs.Value.{undefined}
use Rattle.sv_world.specs.declared.world.World.{World}
use Rattle.sv_subscribed.proofs.Known.{of_name}
use Rattle.sv_subscribed.proofs.Once.{once-nobody}
use Rattle.sv_subscribed.proofs.Phases.{unit_of, file_of, plain_file, At, at_stay, standing_last}
use Rattle.sv_subscribed.proofs.Standing.{Modules, Stand, IsNamed, IsUnnamed}
use Rattle.sv_subscribed.specs.Apart.{AreApart}
use Rattle.sv_subscribed.specs.Subscribed.{HasName, held_now, AreSubscribed, first_stores, LeavesSubscribed}

module _ (p : Program) (apart : AreApart p) where
  -- what module files leave
  abbrev loaded : World
  loaded = world_of (run_modules p (begun blank).world)

  -- what is so behind them
  abbrev Stands : Modules → States → Type 0
  Stands now s = At p (first_stores p) loaded.modules apart nobody (Unit {0}) now s

  abbrev Known : Page → Type 0
  Known m = Stands m.world.modules m.world.states

  abbrev Knows : Outcome Bool → Type 0
  Knows o = Afterwards Known o

  -- ---- what is told

  module _ (ms : Modules) (s : States) (h : At p (first_stores p) ms apart nobody (Unit {0}) ms s) where
    stand_of : (n : ℕ) (i : Instance) (c : Component) → live s n ≡ Some i → component_at p i.place.component ≡ Some c
        → Stand (first_stores p) ms c.stores (λ k. ⊥) (λ k. ⊥) undefined i.subscriptions i.cells.now i.setup.constants
    stand_of n i c there is = (h.0.0.all n i there).0 (λ no. no) c is

    -- a subscriber is a name that looks at the store
    looks : (n c id : ℕ) (i : Instance) → live s n ≡ Some i → is_subscriber s n c id ≡ true → is_cell (store_in (subscription_at i.subscriptions c)) id ≡ true
    looks n c id i there is = ap (λ o. has_subscription o c id) (sym there) ∙ (sym (h.0.0.sound.subscribed n c id) ∙ is)

    told_named : (n c id : ℕ) → is_subscriber s n c id ≡ true → (x : StoreCell) × (HasName p s n x × (x.cell ≡ c))
    told_named n c id is = over (live s n) refl (sym (h.0.0.sound.subscribed n c id) ∙ is) where
      named_by : (i : Instance) → live s n ≡ Some i → (o : Option Subscription) → subscription_at i.subscriptions c ≡ o → is_cell (store_in o) id ≡ true → (x : StoreCell) × (HasName p s n x × (x.cell ≡ c))
      named_by i there None e k = absurd (true≢false (sym k))
      named_by i there (Some name) e k =
          let one = (h.0.0.all n i there).1.1 in
          let of = of_name one.0.stores i.subscriptions c name (stand_of n i one.0 there one.1).of e in
          (of.0.0, (record { instance = i; component = one.0; there = there; is = one.1; among = of.0.1.0 }, of.0.1.1.0 ∙ of.1))

      over : (o : Option Instance) → live s n ≡ o → has_subscription o c id ≡ true → (x : StoreCell) × (HasName p s n x × (x.cell ≡ c))
      over None e k = absurd (true≢false (sym k))
      over (Some i) e k = named_by i e (subscription_at i.subscriptions c) refl k

    module _ (n id : ℕ) (x : StoreCell) (name : HasName p s n x) where
      abbrev i : Instance
      i = name.instance

      each : IsNamed (first_stores p) ms (λ k. ⊥) i.subscriptions i.cells.now i.setup.constants x ⊎ IsUnnamed ms i.subscriptions i.cells.now i.setup.constants x
      each = (stand_of n i name.component name.there name.is).each x name.among

      held_at : (o : Option ℕ) → is_cell o id ≡ true → o ≡ Some id
      held_at None e = absurd (true≢false (sym e))
      held_at (Some k) e = ap Some (eqb-true k id e)

      told_right : is_subscriber s n x.cell id ≡ true → held_now ms i x ≡ Some id
      told_right is = ⊎_elim
          (λ k. ⊎_elim
          (λ l. l.right id (held_at k.name.store (ap (λ o. is_cell (store_in o) id) (sym k.there) ∙ looks n x.cell id i name.there is)))
          (λ off. absurd off.1.1)
          k.looks)
          (λ k. absurd (true≢false (sym (looks n x.cell id i name.there is) ∙ ap (λ o. is_cell (store_in o) id) k.absent)))
          each

      told_there : held_now ms i x ≡ Some id → id < first_stores p → is_subscriber s n x.cell id ≡ true
      told_there e below = ⊎_elim
          (λ k. ⊎_elim
          (λ l. h.0.0.sound.subscribed n x.cell id
          ∙ (ap (λ o. has_subscription o x.cell id) name.there
          ∙ (ap (λ o. is_cell (store_in o) id) k.there ∙ (ap (λ o. is_cell o id) (l.there id e below) ∙ eq-eqb id id refl))))
          (λ off. absurd off.1.1)
          k.looks)
          (λ k. absurd (none-some id (sym k.none ∙ e)))
          each

    told : AreSubscribed p (first_stores p) ms s
    told = record { named = told_named; right = told_right; there = told_there; once = h.0.0.once }

  -- ---- the first page

  -- nobody was made
  abbrev IsEmpty : States → Type 0
  IsEmpty s = Tracks nobody [] s × (pictures file_of s ≡ None ∷ [])

  empty_leaves : Leaves (at_ends IsEmpty) (run_modules p)
  empty_leaves = modules_leave (both_stay (tracks_stay p []) (ends_stay (steps_stay (pictures_stay plain_file (None ∷ [])) p)))
      (both_sets (goes_sets (tracks_go []) 0) (sets_by (pictures_setup (λ i u. refl) (None ∷ [])) (pictures_stay plain_file (None ∷ [])) 0)) (λ now now' s h. h)

  none_there : {A : Type 0} (n : ℕ) → at {T = A} (None ∷ []) n ≡ None
  none_there zero = refl
  none_there (suc n) = refl

  nobody_live : (s : States) → pictures file_of s ≡ None ∷ [] → (n : ℕ) (i : Instance) → live s n ≡ Some i → ⊥
  nobody_live s e n i there = none-some (file_of i) (sym (ap (λ l. at l n) e ∙ none_there n) ∙ picture_at file_of s n (Some i) there)

  nobody_at : (s : States) → pictures file_of s ≡ None ∷ [] → (n : ℕ) → live s n ≡ None
  nobody_at s e n = by (live s n) refl where
    by : (o : Option Instance) → live s n ≡ o → live s n ≡ None
    by None k = k
    by (Some i) k = absurd (nobody_live s e n i k)

  begins : (w : World) (u : Unit {0}) → run_modules p (begun blank).world ≡ Ends u w → IsEmpty w.states → Stands w.modules w.states
  begins w u is h = (
    (
      record {
        sound = h.0.sound;
        enough = let e = ap (λ (x : Ending (Unit {0})). length (world_of x).states.stores) is in omega (arith, e);
        once = once-nobody w.states h.0.sound (λ n. nobody_at w.states h.1 n);
        all = λ n i there. absurd (nobody_live w.states h.1 n i there);
      },
      sym (ap (λ (x : Ending (Unit {0})). (world_of x).modules) is),
    ),
    (let e = ap length h.1 in let a = length-map w.states.lives (option_map file_of) in let b = length-map w.states.lives (option_map unit_of) in omega (arith, e, a, b), tt),
  )

  mounted_known : Afterwards Known (mounted p (begun blank))
  unfolding mounted
  mounted_known = by (run_modules p (begun blank).world) refl (empty_leaves.held (begun blank).world (blank_tracked, refl)) where
    by : (e : Ending (Unit {0})) → run_modules p (begun blank).world ≡ e → Left (at_ends IsEmpty) e → Afterwards Known (and_then (ended (begun blank) e) (λ _. rooted p))
    by (Ends u w) is h = (rooted_brings (standing_last p (first_stores p) loaded.modules apart) []).held (record (begun blank) { world = w }) (begins w u is h)
    by (Fails k s w) is h = tt

  -- ---- turns

  settled_known : (target : Bool) (m : Page) → Known m → Knows (settled p target m)
  settled_known false m h = h
  settled_known true m h = after_then Known Known (flushed p m) (λ _. Done true) ((flushed_brings (standing_last p (first_stores p) loaded.modules apart) []).held m h) (λ a n k. k)

  first_known : Knows (first_turn p blank)
  unfolding first_turn
  first_known = after_then Known Known (mounted p (begun blank)) (λ _. settled p true) mounted_known (λ a n k. settled_known true n k)

  walked_known : (m : Page) (e : Ending (Unit {0})) → Left (ending Stands) e → Knows (and_then (ended m (then_do e (λ u. Ends true))) (settled p))
  walked_known m (Ends u w) h = settled_known true (record m { world = w }) h
  walked_known m (Fails k s w) h = tt

  delivered_known : (event : Event) (path : Option (List Element)) (m : Page) → Known m → Knows (and_then (ended (record m { showing = laid_down path event m.showing }) (dispatched p event path m.world)) (settled p))
  delivered_known event None m h = h
  delivered_known event (Some []) m h = h
  delivered_known event (Some (e ∷ outer)) m h =
      walked_known (record m { showing = laid (taken e event) e m.showing }) (walked (delivery p event e) outer m.world)
      ((walked_leaves (delivery p event e) (at_stay p (first_stores p) loaded.modules apart nobody (Unit {0})) outer).held m.world h)

  next_known : (event : Event) (nodes : List Node) (m : Page) → Known m → Knows (next_turn p event nodes m)
  unfolding next_turn
  next_known event nodes m h = delivered_known event (named event.target nodes) (begun m) h

  -- ---- runs

  leaves : (o : Outcome Bool) → Knows o → LeavesSubscribed p o
  leaves (Done target m) h = subst (λ now. AreSubscribed p (first_stores p) now m.world.states) (sym h.0.1) (told loaded.modules m.world.states ((h.0.0, refl), h.1))
  leaves (Halted r m) h = tt

  followed_known : (o : Outcome Bool) (more : Page → List (Outcome Bool)) → Knows o → ((m : Page) → Known m → All (LeavesSubscribed p) (more m)) → All (LeavesSubscribed p) (followed o more)
  followed_known (Done target m) more h k = All-cons (LeavesSubscribed p) (Done target m) (more m) (leaves (Done target m) h) (k m h)
  followed_known (Halted r m) more h k = All-cons (LeavesSubscribed p) (Halted r m) [] tt (All-nil (LeavesSubscribed p))

  turns_known : (events : List Event) (m : Page) → Known m → All (LeavesSubscribed p) (turns p events m)
  turns_known [] m h = All-nil (LeavesSubscribed p)
  turns_known (event ∷ events) m h = followed_known (next_turn p event (nodes_of p m) m) (turns p events) (next_known event (nodes_of p m) m h) (turns_known events)

  pub run_known : (events : List Event) → All (LeavesSubscribed p) (run p events)
  unfolding run
  run_known events = followed_known (first_turn p blank) (turns p events) first_known (turns_known events)
