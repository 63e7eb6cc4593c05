-- What is so of live instances against what is shown of them, and that scripts leave it so.
use Rattle.std.proofs.Common.{◌≡◌, ◌≢◌, ℕ, ◌<◌, ◌≤◌, Bool, true, false, List, [], length, Option, Some, None, option_map, is_some, refl, sym, ap, subst, ◌∙◌, arith, inl, inr, ⊎_elim, slice_get, slice_set, nat_eq, if◌then◌else◌}
use Rattle.std.specs.BTreeMap.{is_at}
use Rattle.std.specs.Map.{lookup}
use Rattle.std.specs.Ordering.{nat_cmp}
use Rattle.std.proofs.lemmas.Bool.{cases_eq, cases_lt, eqb-true, true≢false}
use Rattle.std.proofs.lemmas.List.{get_or-set_same, get_or-set_other, set_past, length-map}
use Rattle.std.proofs.lemmas.Option.{none-some, same_Some}
use Rattle.sv_code.specs.declared.program.Component.{Component}
use Rattle.sv_code.specs.declared.program.Program.{Program}
use Rattle.sv_course.specs.Watched.{view_in, IsFixed, IsLentStill}
use Rattle.sv_family.proofs.Opening.{Lasts, In, Has, has-set, has_lasts, enqueued_in, handed_in, bound_in, lasting_steps}
use Rattle.sv_flush.proofs.Lasting.{TakesAt}
use Rattle.sv_flush.proofs.Recording.{Only}
use Rattle.sv_frame.proofs.Altering.{Plain, pictures, pictures_keep, pictures-altered, pictures-bound, pictures-handed, pictures-viewed}
use Rattle.sv_frame.proofs.Outcomes.{Modules, ending, Stays, Sets, both_stay, ends_stay}
use Rattle.sv_frame.proofs.Stepping.{Steps, steps_stay, both_steps_stay}
use Rattle.sv_instance.specs.Bound.{Bound}
use Rattle.sv_instance.specs.Cells as cells
use Rattle.sv_instance.specs.Cells.{cell_at, count_of, count_at, present, touched_cell}
use Rattle.sv_instance.specs.declared.instance.Instance.{Instance}
use Rattle.sv_instance.specs.declared.setup.Setup.{Setup}
use Rattle.sv_instance.specs.declared.subscriptions.Subscription.{Subscription}
use Rattle.sv_meaning.specs.Components.{component_at, component_for}
use Rattle.sv_numbered.specs.Numbered.{at}
use Rattle.sv_shapes.specs.declared.shown.Shown.{Shown}
use Rattle.sv_states.proofs.Altering.{at_within}
use Rattle.sv_states.proofs.Calm.{each_altered}
use Rattle.sv_states.proofs.Later.{seen-assigned, seen-snapped}
use Rattle.sv_states.specs.Assignment.{handed_down, bound_up}
use Rattle.sv_states.specs.Change.{with_view, viewed}
use Rattle.sv_states.specs.States.{States, live, with_instance, has_cell}
use Rattle.sv_states.specs.Waiting.{enqueued}
use Rattle.sv_store.specs.Stores.{Subscriber}
use Rattle.sv_value.specs.Value.{Val}
use Rattle.sv_view.specs.Cell.{Cell}
use Rattle.sv_view.specs.Constants.{with_module_constant}
use Rattle.sv_view.specs.Level.{View}
use Rattle.sv_world.specs.Setup.{set_up}
use Rattle.sv_world.specs.declared.world.World.{World}

abbrev pub shown_in : List (ℕ × Shown) → ℕ → Option Shown
shown_in shown n = lookup (is_at (nat_cmp n)) shown

-- ---- one instance

-- an instance was shown on a view of its own, with no locals and with the constants that there are; and so it is of the view that it was lent
pub record WasShown (p : Program) (ms : Modules) (n : ℕ) (i : Instance) (x : Shown) : Type 0 where
  pub inst : x.view.own.inst ≡ n
  pub locals : x.view.own.locals ≡ []
  pub fixed : IsFixed ms x i
  pub lent : IsLentStill p x i

-- the cell for the owner's view is declared, if there is one
abbrev pub HasView : Program → Instance → Type 0
HasView p i = (c : Component) (cell : ℕ) → component_at p i.place.component ≡ Some c → c.view ≡ Some cell → Has cell i

-- one whose script is still to run isn't shown, and has had no snapshot; any other has the cell for its owner's view
pub record IsWatched (p : Program) (ms : Modules) (New : ℕ → Type 0) (shown : List (ℕ × Shown)) (n : ℕ) (i : Instance) : Type 0 where
  pub unshown : New n → shown_in shown n ≡ None
  pub unseen : New n → i.cells.seen ≡ None
  pub opened : (New n → ⊥) → HasView p i
  pub last : (x : Shown) → shown_in shown n ≡ Some x → WasShown p ms n i x

-- ---- counts of cells

raised : (now : List (Option Cell)) (c d : ℕ) (x : Option Cell) → count_at now c ≤ count_of x → count_at now d ≤ count_at (slice_set now c x) d
raised now c d x more = ⊎_elim
    (λ same. ⊎_elim
    (λ below.
    subst (λ e. count_at now e ≤ count_at (slice_set now c x) e) (sym same)
    (let e = ap count_of (get_or-set_same now c x None below) in omega (arith, e, more)))
    (λ past. let e = ap (λ l. count_at l d) (set_past now c x past) in omega (arith, e))
    (cases_lt c (length now)))
    (λ other. let e = ap count_of (get_or-set_other now c d x None other) in omega (arith, e))
    (cases_eq d c)

assigned-raised : (i : Instance) (c : ℕ) (v : Val) (d : ℕ) → count_at i.cells.now d ≤ count_at (cells.assigned i.cells c v).now d
assigned-raised i c v d = (seen-assigned (cells.snapped i.cells) c v (seen-snapped i.cells) i.cells.now refl d).least

declared-count : (seen : Option (List (Option Cell))) (o : Option Cell) (v : Val) → count_of o ≡ count_of (cells.declared_cell seen o v)
declared-count None None v = refl
declared-count None (Some c) v = refl
declared-count (Some seen) o v = refl

touched-more : (now : List (Option Cell)) (c : ℕ) → is_some (cell_at now c) ≡ true → count_at now c < count_at (slice_set now c (touched_cell (cell_at now c))) c
touched-more now c = by (cell_at now c) refl where
  by : (o : Option Cell) → cell_at now c ≡ o → is_some o ≡ true → count_at now c < count_at (slice_set now c (touched_cell (cell_at now c))) c
  by None e h = absurd (true≢false (sym h))
  by (Some x) e h =
      let a = ap count_of e in
      let b = ap count_of (get_or-set_same now c (touched_cell (cell_at now c)) None (at_within now c x e)) ∙ ap (λ o. count_of (touched_cell o)) e in
      omega (arith, a, b)

touched-some : (o : Option Cell) → is_some o ≡ true → is_some (touched_cell o) ≡ true
touched-some None h = h
touched-some (Some x) h = refl

-- a component takes its owner's view in one cell at most
one_cell : (o : Option Component) (c d : ℕ) → ((k : Component) → o ≡ Some k → k.view ≡ Some c) → view_in o ≡ Some d → d ≡ c
one_cell None c d takes is = absurd (none-some d is)
one_cell (Some k) c d takes is = same_Some d c (sym is ∙ takes k refl)

module _ (p : Program) (ms : Modules) (New : ℕ → Type 0) (shown : List (ℕ × Shown)) (n : ℕ) where
  abbrev Is : Instance → Type 0
  Is = IsWatched p ms New shown n

  besides : (i : Instance) (u : Setup) (queued : Bool) (names : List Subscription) → u.constants ≡ i.setup.constants → Is i → Is (record i { setup = u; queued = queued; subscriptions = names })
  besides i u queued names e h = record {
    unshown = h.unshown;
    unseen = h.unseen;
    opened = h.opened;
    last = λ x is. let w = h.last x is in record { inst = w.inst; locals = w.locals; fixed = record { constants = w.fixed.constants ∙ sym e; modules = w.fixed.modules }; lent = w.lent };
  }

  written : (i : Instance) (c : ℕ) (o : Option Cell) → ((cell : ℕ) → Has cell i → Has cell (record i { cells = record i.cells { now = slice_set i.cells.now c o } }))
      → ((d : ℕ) → count_at i.cells.now d ≤ count_at (slice_set i.cells.now c o) d) → Is i → Is (record i { cells = record i.cells { now = slice_set i.cells.now c o } })
  written i c o has more h = record {
    unshown = h.unshown;
    unseen = h.unseen;
    opened = λ old k cell comp view. has cell (h.opened old k cell comp view);
    last = λ x is. let w = h.last x is in record {
      inst = w.inst;
      locals = w.locals;
      fixed = record { constants = w.fixed.constants; modules = w.fixed.modules };
      lent = λ d view. ⊎_elim (λ less. inl (let m = more d in omega (arith, less, m))) (λ same. inr same) (w.lent d view);
    };
  }

  watched_lasts : Lasts Is
  watched_lasts = record {
    setup = λ i u e h. besides i u i.queued i.subscriptions e h;
    waits = λ i h. besides i i.setup true i.subscriptions refl h;
    subscribed = λ i names h. besides i i.setup i.queued names refl h;
    assigned = λ i c v h. written i c _ (λ cell. (has_lasts cell).assigned i c v) (assigned-raised i c v) h;
    declared = λ i c v h. written i c _ (λ cell. (has_lasts cell).declared i c v)
        (λ d. raised i.cells.now c d _ (let e = declared-count i.cells.seen (cell_at i.cells.now c) v in omega (arith, e))) h;
  }

  -- it is lent a view, where the cell for that counts no less than when it was shown
  lent_watched : (i : Instance) (c : ℕ) (view : View) → ((k : Component) → component_at p i.place.component ≡ Some k → k.view ≡ Some c) → has_cell (Some i) c ≡ true
      → ((x : Shown) → shown_in shown n ≡ Some x → count_of (slice_get x.view.own.cells c) ≤ count_at i.cells.now c) → Is i → Is (with_view c view i)
  lent_watched i c view takes has least h = record {
    unshown = h.unshown;
    unseen = h.unseen;
    opened = λ old k cell comp is. has-set i.cells.now cell c (touched_cell (cell_at i.cells.now c)) (touched-some (cell_at i.cells.now c)) (h.opened old k cell comp is);
    last = λ x is. let w = h.last x is in record {
      inst = w.inst;
      locals = w.locals;
      fixed = record { constants = w.fixed.constants; modules = w.fixed.modules };
      lent = λ d is_view.
          let same : d ≡ c = one_cell (component_at p i.place.component) c d takes is_view in
          inl (subst (λ e. count_of (slice_get x.view.own.cells e) < count_at (cells.touched i.cells c).now e) (sym same)
          (let l = least x is in let m = touched-more i.cells.now c has in omega (arith, l, m)));
    };
  }

-- ---- all of them

-- a fact of each live instance by its number
abbrev pub EachIs : (ℕ → Instance → Type 0) → States → Type 0
EachIs Q s = (n : ℕ) → In (Q n) n s.lives

module _ (Q : ℕ → Instance → Type 0) where
  pub altered_each : (f : Instance → Instance) (s : States) (n : ℕ) → EachIs Q s → ((i : Instance) → live s n ≡ Some i → Q n i → Q n (f i)) → EachIs Q (with_instance f s n)
  altered_each f s n h k = each_altered (λ m o. (i : Instance) → o ≡ Some i → Q m i) f s.lives n h (λ i there q j is. subst (Q n) (same_Some (f i) j is) (k i there (q i refl)))

  module _ (lasts : (n : ℕ) → Lasts (Q n)) where
    each_steps : Steps (EachIs Q)
    each_steps = record {
      left = λ s f m e h n. (lasting_steps (Q n) (lasts n) n).left s f m e (h n);
      assigned = λ s m c v h n. (lasting_steps (Q n) (lasts n) n).assigned s m c v (h n);
      store_set = λ s id v h n. (lasting_steps (Q n) (lasts n) n).store_set s id v (h n);
      computed = λ s id v h n. (lasting_steps (Q n) (lasts n) n).computed s id v (h n);
      with_store = λ s v h. h;
      with_derived = λ s owner r v h. h;
      declared = λ s at v h n. (lasting_steps (Q n) (lasts n) n).declared s at v (h n);
      subscribed = λ s at source v h n. (lasting_steps (Q n) (lasts n) n).subscribed s at source v (h n);
    }

    viewed_each : (s : States) (n c : ℕ) (view : View) → EachIs Q s → ((i : Instance) → live s n ≡ Some i → has_cell (Some i) c ≡ true → Q n i → Q n (with_view c view i)) → EachIs Q (viewed s n c view)
    viewed_each s n c view h k = by (has_cell (live s n) c) refl where
      by : (b : Bool) → has_cell (live s n) c ≡ b → EachIs Q (if b then enqueued (with_instance (with_view c view) s n) n else s)
      by false e = h
      by true e = λ m. enqueued_in (Q m) (lasts m) m (with_instance (with_view c view) s n) n
          (altered_each (with_view c view) s n h (λ i there. k i there (ap (λ o. has_cell o c) (sym there) ∙ e)) m)

abbrev pub number_of : Instance → Unit {0}
number_of i = tt

-- one for each number that was given
abbrev pub numbers : States → List (Option (Unit {0}))
numbers s = pictures number_of s

pub numbers-count : (s : States) → length (numbers s) ≡ length s.lives
numbers-count s = length-map s.lives (option_map number_of)

plain_number : Plain number_of
plain_number = record { setup = λ i u e. refl; waits = λ i. refl; subscribed = λ i names. refl; written = λ i c x. refl }

-- number 0 was given, which is no new instance
abbrev pub AreGiven : (ℕ → Type 0) → List (Option (Unit {0})) → Type 0
AreGiven New l = (0 < length l) × ((n : ℕ) → New n → n ≢ 0)

numbers-viewed : (s : States) (n c : ℕ) (view : View) → numbers (viewed s n c view) ≡ numbers s
numbers-viewed s n c view = by (has_cell (live s n) c) refl where
  by : (b : Bool) → has_cell (live s n) c ≡ b → numbers (viewed s n c view) ≡ numbers s
  by true e = pictures-viewed plain_number s n c view e ∙ pictures-altered number_of (with_view c view) s.lives n (λ i. refl)
  by false e = ap (λ b. numbers (if b then enqueued (with_instance (with_view c view) s n) n else s)) e

-- all are watched, and the constants of module files are these
abbrev pub Watches : Program → Modules → (ℕ → Type 0) → List (ℕ × Shown) → Modules → States → Type 0
Watches p ms New shown now s = (EachIs (IsWatched p ms New shown) s × (now ≡ ms)) × AreGiven New (numbers s)

module _ {p : Program} {ms : Modules} {New : ℕ → Type 0} {shown : List (ℕ × Shown)} where
  -- whatever scripts do
  pub watches_stay : Stays p (ending (Watches p ms New shown))
  watches_stay =
      both_stay (ends_stay (both_steps_stay (each_steps (IsWatched p ms New shown) (watched_lasts p ms New shown)) p (λ now. now ≡ ms)))
      (ends_stay (steps_stay (pictures_keep plain_number (AreGiven New)) p))

  pub watches-handed : (now : Modules) (s : States) (at : Subscriber) (v : Val) → Watches p ms New shown now s → Watches p ms New shown now (handed_down s at v)
  watches-handed now s at v h = (
    (λ n. handed_in (IsWatched p ms New shown n) (watched_lasts p ms New shown n) n s at v (h.0.0 n), h.0.1),
    subst (AreGiven New) (sym (pictures-handed plain_number s at v)) h.1,
  )

  pub watches-bound : (now : Modules) (s : States) (n : ℕ) (b : Bound) → Watches p ms New shown now s → Watches p ms New shown now (bound_up s n b)
  watches-bound now s n b h = (
    (λ m. bound_in (IsWatched p ms New shown m) (watched_lasts p ms New shown m) m s n b (h.0.0 m), h.0.1),
    subst (AreGiven New) (sym (pictures-bound plain_number s n b)) h.1,
  )

  pub watches-viewed : (now : Modules) (s : States) (n c : ℕ) (view : View) → TakesAt p (live s n) c
      → ((x : Shown) (i : Instance) → shown_in shown n ≡ Some x → live s n ≡ Some i → count_of (slice_get x.view.own.cells c) ≤ count_at i.cells.now c)
      → Watches p ms New shown now s → Watches p ms New shown now (viewed s n c view)
  watches-viewed now s n c view takes least h = (
    (
      viewed_each (IsWatched p ms New shown) (watched_lasts p ms New shown) s n c view h.0.0
          (λ i there has. lent_watched p ms New shown n i c view (λ k is. takes k (ap (component_for p) there ∙ is)) has (λ x is. least x i is there)),
      h.0.1,
    ),
    subst (AreGiven New) (sym (numbers-viewed s n c view)) h.1,
  )

-- ---- the script of a new instance

module _ (p : Program) (ms : Modules) (shown : List (ℕ × Shown)) (n : ℕ) where
  abbrev Before : Modules → States → Type 0
  Before = Watches p ms (Only n) shown

  abbrev with_constant : ℕ → Val → Instance → Instance
  with_constant c v i = record i { setup = record i.setup { constants = slice_set i.setup.constants c (Some v) } }

  new_set : (c : ℕ) (v : Val) (i : Instance) → IsWatched p ms (Only n) shown n i → IsWatched p ms (Only n) shown n (with_constant c v i)
  new_set c v i h = record { unshown = h.unshown; unseen = h.unseen; opened = h.opened; last = λ x is. absurd (none-some x (sym (h.unshown refl) ∙ is)) }

  -- gives it constants, and no other
  pub watches_set : Sets n Before
  watches_set = record {
    constant = λ w file c v h. by w file c v h (nat_eq n 0) refl;
    declared = λ now s cell v h. ((cells_steps.declared s (record { inst = n; cell = cell }) v h.0.0, h.0.1), given_steps.declared s (record { inst = n; cell = cell }) v h.1);
    subscribed = λ now s cell source v h. ((cells_steps.subscribed s (record { inst = n; cell = cell }) source v h.0.0, h.0.1), given_steps.subscribed s (record { inst = n; cell = cell }) source v h.1);
  } where
    cells_steps : Steps (EachIs (IsWatched p ms (Only n) shown))
    cells_steps = each_steps (IsWatched p ms (Only n) shown) (watched_lasts p ms (Only n) shown)

    given_steps : Steps (λ s. AreGiven (Only n) (numbers s))
    given_steps = pictures_keep plain_number (AreGiven (Only n))

    by : (w : World) (file c : ℕ) (v : Val) → Before w.modules w.states → (b : Bool) → nat_eq n 0 ≡ b
        → let u : World = if b then record w { modules = with_module_constant w.modules file c v } else set_up (λ s. record s { constants = slice_set s.constants c (Some v) }) w n in Before u.modules u.states
    by w file c v h true e = absurd (h.1.1 n refl (eqb-true n 0 e))
    by w file c v h false e = (
      (altered_each (IsWatched p ms (Only n) shown) (with_constant c v) w.states n h.0.0 (λ i there. new_set c v i), h.0.1),
      subst (AreGiven (Only n)) (sym (pictures-altered number_of (with_constant c v) w.states.lives n (λ i. refl))) h.1,
    )
