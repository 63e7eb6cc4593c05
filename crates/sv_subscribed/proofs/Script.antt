-- The script of a new instance: behind it all `$` names of it stand well.
use Rattle.std.proofs.Common.{◌≡◌, ◌≢◌, ℕ, zero, suc, true, List, [], ◌∷◌, ◌++◌, map, length, Option, Some, None, option_map, is_some, refl, sym, ap, subst, ◌∙◌, inl, inr, ⊎_elim, slice_set}
use Rattle.std.proofs.lemmas.Bool.{cases_eq, ne_eqb}
use Rattle.std.proofs.lemmas.List.{length-set, append-nil}
use Rattle.std.proofs.lemmas.Option.{none-some, same_Some}
use Rattle.sv_base.specs.declared.span.Span.{Span}
use Rattle.sv_code.proofs.Each.{each_back, each_mono}
use Rattle.sv_code.specs.Names.{Each}
use Rattle.sv_code.specs.declared.functions.CodeArm.{CodeArm}
use Rattle.sv_code.specs.declared.functions.CodeDecl.{CodeDecl}
use Rattle.sv_code.specs.declared.functions.CodeStmt.{CodeStmt}
use Rattle.sv_code.specs.declared.functions.CodeStmtKind.{CodeStmtKind, CodeStmtKind-F, out-CodeStmtKind}
use Rattle.sv_code.specs.declared.known.Known.{Known}
use Rattle.sv_code.specs.declared.known.Known.TheVariants as known
use Rattle.sv_code.specs.declared.program.Component.{Component}
use Rattle.sv_code.specs.declared.program.Program.{Program}
use Rattle.sv_code.specs.declared.program.StoreCell.{StoreCell}
use Rattle.sv_frame.proofs.Outcomes.{ending, Stays, Held, Left, if_left}
use Rattle.sv_frame.proofs.Running.{calls_keep, prop_value_keeps}
use Rattle.sv_frame.proofs.Statements.{value_or_keeps, valued_keeps, run_keeps}
use Rattle.sv_instance.specs.Cells.{cell_at}
use Rattle.sv_instance.specs.Subscriptions.{subscription_at, moved_to}
use Rattle.sv_instance.specs.declared.instance.Instance.{Instance}
use Rattle.sv_meaning.specs.Env.{Env}
use Rattle.sv_meaning.specs.Outcome.{Ending, Ends, Fails, Outcome, Done, Failed, Meaning, Flow, Next, Broken, Continued, Returned, and_then, then_do, kept, left, given, counted, counted_in, with_steps}
use Rattle.sv_meaning.specs.Runs.{world_ground, calls, each_in_turn, function_set, functions_set, given_for, declarations, prop_value, top_declared, top_or, top, script, cell_opened, cells_opened, view_opened, name_opened, name_subscribed, opened, run_component}
use Rattle.sv_meaning.specs.Statements.{value_or, valued, initialized, variable, may_show, subscribe, declare, constant_set, go_on, in_order}
use Rattle.sv_ops.specs.declared.faults.FaultKind.TheVariants.{NotAStore, UseBeforeInit}
use Rattle.sv_states.specs.Change.{declared, subscribed_to}
use Rattle.sv_states.specs.Moving.{goal_of}
use Rattle.sv_states.specs.States.{States, live, with_instance, value_in}
use Rattle.sv_value.specs.Value.{Val, undefined, function, none}
use Rattle.sv_view.specs.Cell.{Cell}
use Rattle.sv_view.specs.Constants.{module_constant_at}
use Rattle.sv_world.specs.declared.world.World.{World}
use Rattle.sv_subscribed.proofs.Declaring.{IsWell, well-named, named-well, IsHeld, well-cell, held-cell, well-set, held-set, well-settles, held-had, held-new, held-fewer}
use Rattle.sv_subscribed.proofs.Following.{Rides, Goes, goes_stay, goal-looks}
use Rattle.sv_subscribed.proofs.Known.{name-placed}
use Rattle.sv_subscribed.proofs.Opening.{IsBare, IsOpening, bare-declared, bare-set, bare-opening, opening-settles, opening-had, opening-none, opening-new, IsAbsent, IsDeclaring, opened-names, opened-declares}
use Rattle.sv_subscribed.proofs.Stages.{Stage, stage-mono, stage-declared, stage-constant, stage-subscribed}
use Rattle.sv_subscribed.proofs.Standing.{Modules, IsUnnamed}
use Rattle.sv_subscribed.specs.Apart.{IsApart, AreApart, IsTold, AreOnce, declared_by, declared_at_top}
use Rattle.sv_subscribed.specs.Holders.{IsAmong, store_held, held, Looks}

module _ (p : Program) (many : ℕ) (ms : Modules) (apart : AreApart p) (n : ℕ) (real : n ≢ 0) (c : Component) (its : IsApart c) where
  -- so it is in a world whose module files left these constants
  abbrev pub In : (Instance → Type 0) → Modules → States → Type 0
  In A now s = Stage p many ms n A s × (now ≡ ms)

  -- ---- before the script

  cells_bare : (list : List ℕ) (w : World) → In (IsBare p many ms c its) w.modules w.states → In (IsBare p many ms c its) (cells_opened n list w).modules (cells_opened n list w).states
  cells_bare [] w h = h
  cells_bare (k ∷ list) w h = cells_bare list (cell_opened n w k) (stage-declared p many ms n (IsBare p many ms c its) (IsBare p many ms c its) w.states k undefined (λ i there b. bare-declared p many ms c its i k b) h.0, h.1)

  view_bare : (o : Option ℕ) (w : World) → In (IsBare p many ms c its) w.modules w.states → In (IsBare p many ms c its) (view_opened n o w).modules (view_opened n o w).states
  view_bare None w h = h
  view_bare (Some k) w h = (stage-declared p many ms n (IsBare p many ms c its) (IsBare p many ms c its) w.states k undefined (λ i there b. bare-declared p many ms c its i k b) h.0, h.1)

  -- a constant of the instance gets its value
  set_in : (A B : Instance → Type 0) (file k : ℕ) (v : Val) (w : World)
      → ((i : Instance) → live w.states n ≡ Some i → A i → B (record i { setup = record i.setup { constants = slice_set i.setup.constants k (Some v) } }))
      → In A w.modules w.states → In B (constant_set n file k v w).modules (constant_set n file k v w).states
  set_in A B file k v w f h = subst (λ (u : World). In B u.modules u.states) (sym is) (stage-constant p many ms n A B w.states k v f h.0, h.1) where
    is : constant_set n file k v w ≡ record w { states = with_instance (λ i. record i { setup = record i.setup { constants = slice_set i.setup.constants k (Some v) } }) w.states n }
    is = rw (ne_eqb n 0 real) refl

  function_bare : (s : Span) (x : CodeStmtKind-F CodeStmtKind CodeArm CodeStmt) (w : World) → In (IsBare p many ms c its) w.modules w.states
      → In (IsBare p many ms c its) (function_set n s x w).modules (function_set n s x w).states
  function_bare s (CodeStmtKind-F.Function x exported (known.Constant k) code) w h = set_in (IsBare p many ms c its) (IsBare p many ms c its) s.file k (function code n none) w (λ i there b. bare-set p many ms c its i k (function code n none) refl b) h
  function_bare s _ w h = h

  functions_bare : (stmts : List CodeStmt) (w : World) → In (IsBare p many ms c its) w.modules w.states → In (IsBare p many ms c its) (functions_set n stmts w).modules (functions_set n stmts w).states
  functions_bare [] w h = h
  functions_bare (s ∷ stmts) w h = functions_bare stmts (function_set n s.span (out-CodeStmtKind s.kind) w) (function_bare s.span (out-CodeStmtKind s.kind) w h)

  opened_bare : (w : World) → In (IsBare p many ms c its) w.modules w.states → In (IsBare p many ms c its) (opened c n w).modules (opened c n w).states
  opened_bare w h = functions_bare c.script _ (view_bare c.view _ (cells_bare c.reactive w h))

  -- ---- `$` names that are subscribed before it

  abbrev Opening : List StoreCell → Modules → States → Type 0
  Opening rest = In (IsOpening p many ms c its rest)

  -- the name looks at what its name holds
  shown_left : (y : StoreCell) (rest : List StoreCell) (source : Option ℕ) (v : Val) (w : World) → IsAmong y c.stores → variable y.holder ≡ source → ((k : ℕ) → y.holder ≢ known.Constant k)
      → ((i : Instance) → live w.states n ≡ Some i → held ms i.cells.now i.setup.constants y.holder ≡ Some v) → ((i : Instance) → live w.states n ≡ Some i → (d : ℕ) → y.holder ≡ known.Cell d → is_some (cell_at i.cells.now d) ≡ true)
      → Opening (y ∷ rest) w.modules w.states → Left (ending (Opening rest)) (subscribe n y.cell source y.span v w)
  shown_left y rest source v w among from no_constant holds declared h =
      if_left (ending (Opening rest)) (may_show source v) (Ends tt (record w { states = subscribed_to w.states (record { inst = n; cell = y.cell }) source v })) (Fails NotAStore y.span w) (
        stage-subscribed p many ms n (IsOpening p many ms c its (y ∷ rest)) (IsOpening p many ms c its rest) w.states y.cell source v (opening-settles p many ms c its y rest among)
            (λ i there o some. opening-had p many ms c its y rest among i o some)
            (λ i there o absent. opening-new p many ms c its y rest among i o source (goal_of w.states.stores v).store from no_constant absent
            (subst (λ x. Looks many x (goal_of w.states.stores v).store) (sym (holds i there)) (goal-looks many None w.states.stores v h.0.enough)) (declared i there))
            h.0,
        h.1,
      ) tt

  -- nothing holds a store for the name
  none_left : (y : StoreCell) (rest : List StoreCell) (w : World) → IsAmong y c.stores
      → ((i : Instance) → live w.states n ≡ Some i → IsOpening p many ms c its (y ∷ rest) i → subscription_at i.subscriptions y.cell ≡ None → IsUnnamed ms i.subscriptions i.cells.now i.setup.constants y)
      → Opening (y ∷ rest) w.modules w.states → Opening rest w.modules w.states
  none_left y rest w among un h = (stage-mono p many ms n (IsOpening p many ms c its (y ∷ rest)) (IsOpening p many ms c its rest) w.states (λ i there o. opening-none p many ms c its y rest among i o (un i there o)) h.0, h.1)

  value-none : (o : Option Cell) → option_map (λ (x : Cell). x.value) o ≡ None → o ≡ None
  value-none None e = refl
  value-none (Some x) e = absurd (none-some x.value (sym e))

  value-there : (o : Option Cell) (v : Val) → option_map (λ (x : Cell). x.value) o ≡ Some v → is_some o ≡ true
  value-there None v e = absurd (none-some v e)
  value-there (Some x) v e = refl

  name_left : (k : Known) (y : StoreCell) (rest : List StoreCell) (w : World) → let z : StoreCell = record y { holder = k } in IsAmong z c.stores → Opening (z ∷ rest) w.modules w.states → Left (ending (Opening rest)) (name_subscribed n z w)
  name_left (known.Export file k) y rest w among h = by (module_constant_at w.modules file k) refl where
    z : StoreCell
    z = record y { holder = known.Export file k }

    by : (o : Option Val) → module_constant_at w.modules file k ≡ o → Left (ending (Opening rest)) (then_do (given UseBeforeInit y.span o w) (subscribe n y.cell None y.span))
    by None e = tt
    by (Some v) e = shown_left z rest None v w among refl (λ d same. known_apart d same) (λ i there. ap (λ l. module_constant_at l file k) (sym h.1) ∙ e) (λ i there d same. absurd (none-some d (ap variable same))) h where
      known_apart : (d : ℕ) → known.Export file k ≡ known.Constant d → ⊥
      known_apart d same = let q = same in cc
  name_left (known.Constant k) y rest w among h = none_left (record y { holder = known.Constant k }) rest w among
      (λ i there o absent. record { absent = absent; none = o.sets k; undeclared = λ d same. absurd (none-some d (ap variable same)) }) h
  name_left (known.Cell k) y rest w among h = by (value_in (live w.states n) k) refl where
    z : StoreCell
    z = record y { holder = known.Cell k }

    there_value : (i : Instance) → live w.states n ≡ Some i → (o : Option Val) → value_in (live w.states n) k ≡ o → option_map (λ (x : Cell). x.value) (cell_at i.cells.now k) ≡ o
    there_value i there o e = ap (λ x. value_in x k) (sym there) ∙ e

    same_cell : (d : ℕ) → known.Cell k ≡ known.Cell d → k ≡ d
    same_cell d q = same_Some k d (ap variable q)

    by : (o : Option Val) → value_in (live w.states n) k ≡ o → Left (ending (Opening rest)) (name_opened o n k z w)
    by None e = none_left z rest w among
        (λ i there o absent. record {
          absent = absent;
          none = ap store_held (there_value i there None e);
          undeclared = λ d same. ap (cell_at i.cells.now) (sym (same_cell d same)) ∙ value-none (cell_at i.cells.now k) (there_value i there None e);
        }) h
    by (Some v) e = shown_left z rest (Some k) v w among refl (λ d same. absurd (none-some k (sym (ap variable same)))) (λ i there. there_value i there (Some v) e)
        (λ i there d same. ap is_some (ap (cell_at i.cells.now) (sym (same_cell d same))) ∙ value-there (cell_at i.cells.now k) v (there_value i there (Some v) e)) h
  name_left (known.Local x) y rest w among h = tt
  name_left (known.Life l) y rest w among h = tt
  name_left known.Writable y rest w among h = tt
  name_left known.Derived y rest w among h = tt
  name_left (known.BuiltIn b) y rest w among h = tt

  names_left : (rest : List StoreCell) (w : World) → ((x : StoreCell) → IsAmong x rest → IsAmong x c.stores) → Opening rest w.modules w.states → Left (ending (Opening [])) (each_in_turn (name_subscribed n) rest w)
  names_left [] w more h = h
  names_left (y ∷ rest) w more h = after (λ u k. names_left rest u (λ x is. more x (inr is)) k) (name_subscribed n y w) (name_left y.holder y rest w (more y (inl refl)) h) where
    after : ((u : World) → Opening rest u.modules u.states → Left (ending (Opening [])) (each_in_turn (name_subscribed n) rest u)) → (e : Ending (Unit {0})) → Left (ending (Opening rest)) e → Left (ending (Opening [])) (then_do e (λ u. each_in_turn (name_subscribed n) rest))
    after further (Ends a u) k = further u k
    after further (Fails kind s u) k = tt

  -- ---- the script

  -- what is so of the instance while code runs, beside that of its `$` names
  abbrev pub Its : List CodeDecl → ℕ → Instance → Type 0
  Its rest m i = m ≡ n → IsDeclaring p many ms c its rest i

  pub its_ride : (rest : List CodeDecl) (m : ℕ) → Rides (Its rest m)
  its_ride rest m = record {
    setup = λ i u e h same. let d = h same in record { open_yet = record { is = d.open_yet.is; unseen = d.open_yet.unseen; cells = d.open_yet.cells; constants = ap length e ∙ d.open_yet.constants }; absent = d.absent };
    waits = λ i h same. let d = h same in record { open_yet = record { is = d.open_yet.is; unseen = d.open_yet.unseen; cells = d.open_yet.cells; constants = d.open_yet.constants }; absent = d.absent };
    moved = λ i k st h same. let d = h same in record {
      open_yet = record { is = d.open_yet.is; unseen = d.open_yet.unseen; cells = d.open_yet.cells; constants = d.open_yet.constants };
      absent = each_mono (IsAbsent p many ms c its i.subscriptions) (IsAbsent p many ms c its (moved_to i.subscriptions k st)) (λ e a x j among holds same. name-placed i.subscriptions k st x.cell ∙ ap (option_map _) (a x j among holds same)) rest d.absent;
    };
    assigned = λ i k v h same. let d = h same in record { open_yet = record { is = d.open_yet.is; unseen = d.open_yet.unseen; cells = length-set i.cells.now k _ ∙ d.open_yet.cells; constants = d.open_yet.constants }; absent = d.absent };
  }

  abbrev pub anybody : ℕ → Type 0
  anybody m = Unit {0}

  abbrev pub Script : List CodeDecl → Modules → States → Type 0
  Script rest now s = Goes p many ms apart anybody (Its rest) (its_ride rest) s × (now ≡ ms)

  script_stays : (rest : List CodeDecl) → Stays p (ending (Script rest))
  script_stays rest = goes_stay p many ms apart anybody (Its rest) (its_ride rest)

  fewer : (more rest : List CodeDecl) (now : Modules) (s : States) → Script (more ++ rest) now s → Script rest now s
  fewer more rest now s h = (
    record {
      sound = h.0.sound;
      enough = h.0.enough;
      once = h.0.once;
      all = λ m i there. let k = h.0.all m i there in (k.0, λ same. let d = k.1 same in record { open_yet = d.open_yet; absent = each_back (IsAbsent p many ms c its i.subscriptions) more rest d.absent });
    },
    h.1,
  )

  staged : (rest : List CodeDecl) (now : Modules) (s : States) → Script rest now s → In (IsWell p many ms c its rest) now s
  staged rest now s h = (
    record {
      sound = h.0.sound;
      enough = h.0.enough;
      once = h.0.once;
      beside = λ m i there. let k = h.0.all m i there in (λ other. k.0 tt, λ same. named-well p many ms c its rest i (k.1 same) (k.0 tt));
    },
    h.1,
  )

  scripted : (rest : List CodeDecl) (now : Modules) (s : States) → In (IsWell p many ms c its rest) now s → Script rest now s
  scripted rest now s h = (
    record {
      sound = h.0.sound;
      enough = h.0.enough;
      once = h.0.once;
      all = λ m i there. let k = h.0.beside m i there in (
        λ old. ⊎_elim (λ same. well-named p many ms c its rest i (k.1 same)) (λ other. k.0 other) (cases_eq m n),
        λ same. IsWell.declaring (k.1 same),
      );
    },
    h.1,
  )

  -- ---- a declaration

  -- the `$` name of what was declared is subscribed
  held_left : (rest : List CodeDecl) (y : StoreCell) (source : Option ℕ) (cell : ℕ) (span : Span) (v : Val) (w : World) → IsAmong y c.stores → y.cell ≡ cell → variable y.holder ≡ source → Each (λ (e : CodeDecl). y.holder ≢ e.target) rest
      → In (IsHeld p many ms c its rest y v) w.modules w.states → Left (ending (Script rest)) (subscribe n cell source span v w)
  held_left rest y source cell span v w among at from others h = subst (λ d. Left (ending (Script rest)) (subscribe n d source span v w)) at
      (if_left (ending (Script rest)) (may_show source v) (Ends tt (record w { states = subscribed_to w.states (record { inst = n; cell = y.cell }) source v })) (Fails NotAStore span w)
      (scripted rest w.modules _ (
        stage-subscribed p many ms n (IsHeld p many ms c its rest y v) (IsWell p many ms c its rest) w.states y.cell source v (well-settles p many ms c its rest y among)
            (λ i there k some. held-had p many ms c its rest y among v i k some)
            (λ i there k absent. held-new p many ms c its rest y among v i k source (goal_of w.states.stores v).store from others absent (goal-looks many None w.states.stores v h.0.enough))
            h.0,
        h.1,
      )) tt)

  pub declare_left : (t : Known) (o : Option ℕ) (d : CodeDecl) (rest : List CodeDecl) (v : Val) (w : World) → let e : CodeDecl = record d { target = t; store = o } in IsTold c.stores e → Each (λ (x : CodeDecl). t ≢ x.target) rest
      → In (IsWell p many ms c its (e ∷ rest)) w.modules w.states → Left (ending (Script rest)) (declare n e v w)
  declare_left (known.Cell k) None d rest v w told others h =
      fewer (record d { target = known.Cell k; store = None } ∷ []) rest w.modules _ (scripted (record d { target = known.Cell k; store = None } ∷ rest) w.modules _ (
        stage-declared p many ms n (IsWell p many ms c its (record d { target = known.Cell k; store = None } ∷ rest)) (IsWell p many ms c its (record d { target = known.Cell k; store = None } ∷ rest)) w.states k v (λ i there x. well-cell p many ms c its (record d { target = known.Cell k; store = None } ∷ rest) k v i x (λ y among holds. absurd (none-some y.cell (told.named y among (sym holds))))) h.0,
        h.1,
      ))
  declare_left (known.Cell k) (Some cell) d rest v w told others h = by (told.names cell refl) where
    e : CodeDecl
    e = record d { target = known.Cell k; store = Some cell }

    by : (x : StoreCell) × (IsAmong x c.stores × ((x.cell ≡ cell) × (known.Cell k ≡ x.holder))) → Left (ending (Script rest)) (declare n e v w)
    by y = held_left rest y.0 (Some k) cell d.name.span v (initialized n (known.Cell k) d.name.span v w) y.1.0 y.1.1.0 (ap variable (sym y.1.1.1)) (each_mono _ _ (λ x other same. other (y.1.1.1 ∙ same)) rest others) (
      stage-declared p many ms n (IsWell p many ms c its (e ∷ rest)) (IsHeld p many ms c its rest y.0 v) w.states k v (λ i there x. held-fewer p many ms c its e rest y.0 v _ (held-cell p many ms c its (e ∷ rest) k v i x y.0 y.1.0 (sym y.1.1.1))) h.0,
      h.1,
    )
  declare_left (known.Constant k) None d rest v w told others h =
      fewer (record d { target = known.Constant k; store = None } ∷ []) rest _ _ (scripted (record d { target = known.Constant k; store = None } ∷ rest) _ _
      (set_in (IsWell p many ms c its (record d { target = known.Constant k; store = None } ∷ rest)) (IsWell p many ms c its (record d { target = known.Constant k; store = None } ∷ rest)) d.name.span.file k v w (λ i there x. well-set p many ms c its (record d { target = known.Constant k; store = None } ∷ rest) k v i x (λ y among holds. absurd (none-some y.cell (told.named y among (sym holds))))) h))
  declare_left (known.Constant k) (Some cell) d rest v w told others h = by (told.names cell refl) where
    e : CodeDecl
    e = record d { target = known.Constant k; store = Some cell }

    by : (x : StoreCell) × (IsAmong x c.stores × ((x.cell ≡ cell) × (known.Constant k ≡ x.holder))) → Left (ending (Script rest)) (declare n e v w)
    by y = held_left rest y.0 None cell d.name.span v (initialized n (known.Constant k) d.name.span v w) y.1.0 y.1.1.0 (ap variable (sym y.1.1.1)) (each_mono _ _ (λ x other same. other (y.1.1.1 ∙ same)) rest others)
        (set_in (IsWell p many ms c its (e ∷ rest)) (IsHeld p many ms c its rest y.0 v) d.name.span.file k v w
        (λ i there x. held-fewer p many ms c its e rest y.0 v _ (held-set p many ms c its (e ∷ rest) k v i x y.0 y.1.0 (sym y.1.1.1) (absent_now i x))) h)
      where
        absent_now : (i : Instance) → IsWell p many ms c its (e ∷ rest) i → subscription_at i.subscriptions y.0.cell ≡ None
        absent_now i x = x.declaring.absent.0 y.0 k y.1.0 (sym y.1.1.1) y.1.1.1
  declare_left (known.Local x) None d rest v w told others h = fewer (record d { target = known.Local x; store = None } ∷ []) rest w.modules w.states (scripted (record d { target = known.Local x; store = None } ∷ rest) w.modules w.states h)
  declare_left (known.Export file x) None d rest v w told others h = fewer (record d { target = known.Export file x; store = None } ∷ []) rest w.modules w.states (scripted (record d { target = known.Export file x; store = None } ∷ rest) w.modules w.states h)
  declare_left (known.Life l) None d rest v w told others h = fewer (record d { target = known.Life l; store = None } ∷ []) rest w.modules w.states (scripted (record d { target = known.Life l; store = None } ∷ rest) w.modules w.states h)
  declare_left known.Writable None d rest v w told others h = fewer (record d { target = known.Writable; store = None } ∷ []) rest w.modules w.states (scripted (record d { target = known.Writable; store = None } ∷ rest) w.modules w.states h)
  declare_left known.Derived None d rest v w told others h = fewer (record d { target = known.Derived; store = None } ∷ []) rest w.modules w.states (scripted (record d { target = known.Derived; store = None } ∷ rest) w.modules w.states h)
  declare_left (known.BuiltIn b) None d rest v w told others h = fewer (record d { target = known.BuiltIn b; store = None } ∷ []) rest w.modules w.states (scripted (record d { target = known.BuiltIn b; store = None } ∷ rest) w.modules w.states h)
  declare_left (known.Local x) (Some cell) d rest v w told others h = absurd (told.own cell refl)
  declare_left (known.Export file x) (Some cell) d rest v w told others h = absurd (told.own cell refl)
  declare_left (known.Life l) (Some cell) d rest v w told others h = absurd (told.own cell refl)
  declare_left known.Writable (Some cell) d rest v w told others h = absurd (told.own cell refl)
  declare_left known.Derived (Some cell) d rest v w told others h = absurd (told.own cell refl)
  declare_left (known.BuiltIn b) (Some cell) d rest v w told others h = absurd (told.own cell refl)

  -- ---- statements at the top

  -- one thing after another, where what is so changes
  on_held : {A B : Type 0} (before after : List CodeDecl) (o : Outcome A) (go : A → Meaning B) → Held (ending (Script before)) o → ((a : A) (env : Env) (w : World) → Script before w.modules w.states → Held (ending (Script after)) (go a env w))
      → Held (ending (Script after)) (and_then o go)
  on_held before after (Done a env w) go h k = k a env w h
  on_held before after (Failed kind s w) go h k = tt

  then_held : {A : Type 0} (rest : List CodeDecl) (e : Ending (Unit {0})) (a : A) (env : Env) → Left (ending (Script rest)) e → Held (ending (Script rest)) (kept env (then_do e (λ u. Ends a)))
  then_held rest (Ends u w) a env h = h
  then_held rest (Fails kind s w) a env h = tt

  go_on_held : (more rest : List CodeDecl) (f : Flow) (m : Meaning Flow) (env : Env) (w : World) → Script (more ++ rest) w.modules w.states → (Script (more ++ rest) w.modules w.states → Held (ending (Script rest)) (m env w))
      → Held (ending (Script rest)) (go_on f m env w)
  go_on_held more rest Next m env w h k = k h
  go_on_held more rest Broken m env w h k = fewer more rest w.modules w.states h
  go_on_held more rest Continued m env w h k = fewer more rest w.modules w.states h
  go_on_held more rest (Returned v) m env w h k = fewer more rest w.modules w.states h

  module _ (props : List (ℕ × Val)) where
    declared_held : (d : CodeDecl) (rest : List CodeDecl) → IsTold c.stores d → Each (λ (x : CodeDecl). d.target ≢ x.target) rest → (env : Env) (w : World) → Script (d ∷ rest) w.modules w.states
        → Held (ending (Script rest)) (top_declared p n props d env w)
    declared_held d rest told others env w h =
        on_held (d ∷ rest) rest (prop_value (given_for props d.target) (value_or (valued (world_ground p) (calls p) n d.first)) env w) _
        ((prop_value_keeps (script_stays (d ∷ rest)) (given_for props d.target)
        (value_or_keeps (script_stays (d ∷ rest)) (valued (world_ground p) (calls p) n d.first) (valued_keeps (script_stays (d ∷ rest)) (world_ground p) (calls p) (calls_keep (script_stays (d ∷ rest))) n d.first))).held env w h)
        (λ v env' w' k. then_held rest (declare n d v w') Next env' (declare_left d.target d.store d rest v w' told others (staged (d ∷ rest) w'.modules w'.states k)))

    all_declared : (ds rest : List CodeDecl) → Each (IsTold c.stores) (ds ++ rest) → AreOnce (ds ++ rest) → (env : Env) (w : World) → Script (ds ++ rest) w.modules w.states
        → Held (ending (Script rest)) (in_order (map (top_declared p n props) ds) env w)
    all_declared [] rest told once env w h = h
    all_declared (d ∷ ds) rest told once env w h =
        on_held (ds ++ rest) rest (top_declared p n props d env w) _ (declared_held d (ds ++ rest) told.0 once.0 env w h)
        (λ f env' w' k. go_on_held ds rest f (in_order (map (top_declared p n props) ds)) env' w' k (λ k'. all_declared ds rest told.1 once.1 env' w' k'))

    counted_held : (before after : List CodeDecl) (s : Span) (m : Meaning Flow) (env : Env) (w : World) → Script before w.modules w.states
        → ((env' : Env) (w' : World) → Script before w'.modules w'.states → Held (ending (Script after)) (m env' w')) → Held (ending (Script after)) (counted s m env w)
    counted_held before after s m env w h k = by w.turn.steps where
      by : (steps : ℕ) → Held (ending (Script after)) (counted_in steps s m env w)
      by zero = tt
      by (suc steps) = k env (with_steps steps w) h

    top_held : (o : Option (List CodeDecl)) (s : CodeStmt) (rest : List CodeDecl) → Each (IsTold c.stores) (declared_by o ++ rest) → AreOnce (declared_by o ++ rest) → (env : Env) (w : World)
        → Script (declared_by o ++ rest) w.modules w.states → Held (ending (Script rest)) (top_or p n props o s env w)
    top_held (Some ds) s rest told once env w h = counted_held (ds ++ rest) rest s.span (in_order (map (top_declared p n props) ds)) env w h (λ env' w' k. all_declared ds rest told once env' w' k)
    top_held None s rest told once env w h = (run_keeps (script_stays rest) (world_ground p) (calls p) (calls_keep (script_stays rest)) n s).held env w h

    once_back : (ds rest : List CodeDecl) → AreOnce (ds ++ rest) → AreOnce rest
    once_back [] rest h = h
    once_back (d ∷ ds) rest h = once_back ds rest h.1

    tops_held : (stmts : List CodeStmt) → Each (IsTold c.stores) (declared_at_top stmts) → AreOnce (declared_at_top stmts) → (env : Env) (w : World) → Script (declared_at_top stmts) w.modules w.states
        → Held (ending (Script [])) (in_order (map (top p n props) stmts) env w)
    tops_held [] told once env w h = h
    tops_held (s ∷ stmts) told once env w h =
        let ds : List CodeDecl = declared_by (declarations (out-CodeStmtKind s.kind)) in
        let rest : List CodeDecl = declared_at_top stmts in
        on_held rest [] (top p n props s env w) _ (top_held (declarations (out-CodeStmtKind s.kind)) s rest told once env w h)
        (λ f env' w' k. go_on_held rest [] f (in_order (map (top p n props) stmts)) env' w' (subst (λ l. Script l w'.modules w'.states) (sym (append-nil rest)) k)
        (λ k'. tops_held stmts (each_back (IsTold c.stores) ds rest told) (once_back ds rest once) env' w' k))

    script_left : (stmts : List CodeStmt) → Each (IsTold c.stores) (declared_at_top stmts) → AreOnce (declared_at_top stmts) → (w : World) → Script (declared_at_top stmts) w.modules w.states
        → Left (ending (Script [])) (script p n props stmts w)
    script_left stmts told once w h = by (in_order (map (top p n props) stmts) [] w) (tops_held stmts told once [] w h) where
      by : (o : Outcome Flow) → Held (ending (Script [])) o → Left (ending (Script [])) {A = Unit {0}} (then_do (left o) (λ f. Ends tt))
      by (Done a env u) k = k
      by (Failed kind s u) k = tt

    -- behind `$` names that are subscribed before it
    opening_script : (w : World) → Opening [] w.modules w.states → Script (declared_at_top c.script) w.modules w.states
    opening_script w h = (
      record {
        sound = h.0.sound;
        enough = h.0.enough;
        once = h.0.once;
        all = λ m i there. let k = h.0.beside m i there in (
          λ old. ⊎_elim (λ same. opened-names p many ms c its i (k.1 same)) (λ other. k.0 other) (cases_eq m n),
          λ same. opened-declares p many ms c its (declared_at_top c.script) i (k.1 same),
        );
      },
      h.1,
    )

    pub component_left : (w : World) → In (IsBare p many ms c its) w.modules w.states → Left (ending (Script [])) (run_component p c n props w)
    component_left w h = by (each_in_turn (name_subscribed n) c.stores (opened c n w)) (names_left c.stores (opened c n w) (λ x is. is) (bare_opening (opened_bare w h))) where
      bare_opening : {now : Modules} {s : States} → In (IsBare p many ms c its) now s → In (IsOpening p many ms c its c.stores) now s
      bare_opening {s = s} k = (stage-mono p many ms n (IsBare p many ms c its) (IsOpening p many ms c its c.stores) s (λ i there b. bare-opening p many ms c its i b) k.0, k.1)

      by : (e : Ending (Unit {0})) → Left (ending (Opening [])) e → Left (ending (Script [])) (then_do e (λ u. script p n props c.script))
      by (Ends a u) k = script_left c.script its.told its.once u (opening_script u k)
      by (Fails kind s u) k = tt
