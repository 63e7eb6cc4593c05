-- What stays true of the states while names are read and assigned, and while calls run.
use Rattle.std.proofs.Common.{◌≡◌, ℕ, suc, refl, sym, subst, Bool, true, false, List, [], ◌∷◌, ◌++◌, length, Option, Some, None, if◌then◌else◌}
use Rattle.sv_base.specs.declared.span.Span.{Span}
use Rattle.sv_code.specs.declared.functions.TheConstants.{WRITABLE}
use Rattle.sv_code.specs.declared.known.Known.{Known}
use Rattle.sv_code.specs.declared.known.Known.TheVariants as known
use Rattle.sv_code.specs.declared.known.Method.{Method}
use Rattle.sv_code.specs.declared.known.Method.TheVariants as method
use Rattle.sv_code.specs.declared.program.Program.{Program}
use Rattle.sv_derived.specs.Derived.{Recipe}
use Rattle.sv_derived.specs.Order.{AreBelow}
use Rattle.sv_frame.proofs.Deriving.{derive_left, recipe-below}
use Rattle.sv_frame.proofs.Outcomes.{Fact, MaySet, Stays, Keeps, Leaves, Held, Left, if_left, then_left, kept_held, then_keeps, done_keeps, then_leaves, ends_leaves, fails_leaves, if_leaves, given_leaves, spent_leaves, answered_leaves, doing_keeps, kept_keeps, answered_keeps}
use Rattle.sv_meaning.specs.Calls.{Caller, call_value, first, is_function, takes_function, resumed, visited, start, visit_from, visit_with, set_store, update_store, make_store, make_computed, recipe_in, make_derived, list_answer, on_list, on_store, log_line, log_texts, log}
use Rattle.sv_meaning.specs.Env.{Env, look}
use Rattle.sv_meaning.specs.Derived.{derive}
use Rattle.sv_meaning.specs.Outcome.{Ending, Ends, Fails, Meaning, Deed, and_then, then_do, kept, doing, given}
use Rattle.sv_meaning.specs.Refused.{unless}
use Rattle.sv_meaning.specs.Settling.{Derives as Deriving, settled}
use Rattle.sv_meaning.specs.Sight.{Ground, cell_seen, constant_seen, modules_seen, read, local_set, cell_assigned, cell_put, put, may_change, set}
use Rattle.sv_ops.specs.Answer.{function_made}
use Rattle.sv_ops.specs.Texts.{line_of, texts_of}
use Rattle.sv_ops.specs.Visits.{Turn, Ends as Stops, Puts as PutsIn, Passes, Holds, turn, arguments, finish}
use Rattle.sv_ops.specs.declared.faults.FaultKind.TheVariants.{NotAFunction, NotAStore, NoMember, NotText, UseBeforeInit}
use Rattle.sv_states.specs.Assignment as states
use Rattle.sv_states.specs.Change.{with_derived}
use Rattle.sv_states.specs.Refusal.{assign_refusal, store_refusal}
use Rattle.sv_states.specs.States.{States}
use Rattle.sv_states.specs.declared.error.AssignError.{AssignError}
use Rattle.sv_states.specs.declared.error.AssignError.TheVariants.{ReadOnly, NotAStore, NoMemory}
use Rattle.sv_value.specs.Value.{Val, Vals, undefined, null, boolean, number, text, list, object, function, store}
use Rattle.sv_view.specs.Level.{View}
use Rattle.sv_view.specs.Constants.{module_constant_at}
use Rattle.sv_world.specs.declared.world.World.{World}

-- what derived stores come to, where so many calls may be open
pub record DerivesAs (p : Program) (derives : Deriving) : Type 0 where
  pub room : ℕ
  pub is : derives ≡ derive p room

-- calls keep it true, whatever is called, and derived stores come to what the program says
pub record CallerKeeps (p : Program) (P : Fact) (call : Caller) : Type 0 where
  pub called : (c o : ℕ) (held : Vals) (args : List Val) (s : Span) → Leaves P (call.calls c o held args s)
  pub derived : DerivesAs p call.derives

module _ {p : Program} {P : Fact} (stays : Stays p P) where
  -- ---- names

  pub read_keeps : (g : Ground) (owner : ℕ) (x : Known) (s : Span) → Keeps P (read g owner x s)
  read_keeps g owner (known.Local x) s = kept_keeps (λ env. given_leaves UseBeforeInit s (look x.0 env))
  read_keeps g owner (known.Cell n) s = doing_keeps (record { held = λ w h. (given_leaves {P = P} UseBeforeInit s (cell_seen g.sight g.is_own owner n w)).held w h })
  read_keeps g owner (known.Constant n) s = doing_keeps (record { held = λ w h. (given_leaves {P = P} UseBeforeInit s (constant_seen g.sight owner s.file n w)).held w h })
  read_keeps g owner (known.Export file n) s = doing_keeps (record { held = λ w h. (given_leaves {P = P} UseBeforeInit s (module_constant_at (modules_seen g.sight w) file n)).held w h })
  read_keeps g owner known.Writable s = answered_keeps s (function_made WRITABLE 0 [])
  read_keeps g owner known.Derived s = done_keeps undefined
  read_keeps g owner (known.Life l) s = done_keeps undefined
  read_keeps g owner (known.BuiltIn b) s = done_keeps undefined

  local_held : (o : Option Val) (x : ℕ) (v : Val) (s : Span) (env : Env) (w : World) → P.ends w.modules w.states → Held P (local_set o x v s env w)
  local_held None x v s env w h = P.weaker w.modules w.states h
  local_held (Some old) x v s env w h = h

  -- ---- settling

  settled_left : {derives : Deriving} → DerivesAs p derives → (w : World) → P.ends w.modules w.states → Left P (settled derives w)
  settled_left d w h = subst (λ derives. Left P (settled derives w)) (sym d.is) (stays.settles d.room w h)

  changed_leaves : {derives : Deriving} → DerivesAs p derives → (b : Bool) → Leaves P (λ w. if b then settled derives w else Ends tt w)
  changed_leaves {derives = derives} d b = record { held = λ w h. if_left P b (settled derives w) (Ends tt w) (settled_left d w h) h }

  -- something is set, unless something speaks against it, and derived stores settle
  module _ {A B : Type 0} (derives : Deriving) (f : States → States) (a : A) (b : B) (s : Span) where
    abbrev settled_behind : Option AssignError → Deed B
    settled_behind o w = then_do (unless o s (λ w'. Ends a (record w' { states = f w'.states })) w) (λ u w'. then_do (settled derives w') (λ t. Ends b))

    behind_left : (o : Option AssignError) (w : World) → P.ends w.modules w.states → (MaySet o → Left P (settled derives (record w { states = f w.states }))) → Left P (settled_behind o w)
    behind_left None w h k = then_left P (settled derives (record w { states = f w.states })) (λ t. Ends b) (k (λ e. absurd (let q = e in cc))) (λ t w' h'. h')
    behind_left (Some ReadOnly) w h k = P.weaker w.modules w.states h
    behind_left (Some NotAStore) w h k = P.weaker w.modules w.states h
    behind_left (Some NoMemory) w h k = then_left P (settled derives (record w { states = f w.states })) (λ t. Ends b) (k (λ e. absurd (let q = e in cc))) (λ t w' h'. h')

  -- ---- calls

  module _ (call : Caller) (calls : CallerKeeps p P call) where
    pub value_leaves : (s : Span) (f : Val) (args : List Val) → Leaves P (call_value call s f args)
    value_leaves s (function c o held) args = calls.called c o held args s
    value_leaves s undefined args = fails_leaves NotAFunction s
    value_leaves s null args = fails_leaves NotAFunction s
    value_leaves s (boolean b) args = fails_leaves NotAFunction s
    value_leaves s (number n) args = fails_leaves NotAFunction s
    value_leaves s (text t) args = fails_leaves NotAFunction s
    value_leaves s (list vs) args = fails_leaves NotAFunction s
    value_leaves s (object fs) args = fails_leaves NotAFunction s
    value_leaves s (store id) args = fails_leaves NotAFunction s

    resumed_leaves : (s : Span) (made : List Val) (held : Val) (t : Turn) {go : List Val → Val → Deed Val} → ((made : List Val) (held : Val) → Leaves P (go made held)) → Leaves P (resumed s made held t go)
    resumed_leaves s made held (Stops v) k = ends_leaves v
    resumed_leaves s made held (PutsIn v) k = spent_leaves 1 s (k (made ++ v ∷ []) held)
    resumed_leaves s made held Passes k = k made held
    resumed_leaves s made held (Holds v) k = k made v

    visited_leaves : (m : Method) (s : Span) (f : Val) (made : List Val) (held : Val) (n : ℕ) (vs : List Val) → Leaves P (visited call m s f made held n vs)
    visited_leaves m s f made held n [] = answered_leaves s (finish m made held)
    visited_leaves m s f made held n (v ∷ vs) =
        then_leaves (value_leaves s f (arguments m held v n)) (λ gave. resumed_leaves s made held (turn m gave v n) (λ made' held'. visited_leaves m s f made' held' (suc n) vs))

    from_leaves : (o : Option Val) (m : Method) (s : Span) (vs : List Val) (f : Val) → Leaves P (visit_from o call m s vs f)
    from_leaves None m s vs f = fails_leaves NoMember s
    from_leaves (Some held) m s vs f = visited_leaves m s f [] held 0 vs

    with_leaves : (b : Bool) (m : Method) (s : Span) (vs args : List Val) → Leaves P (visit_with b call m s vs args)
    with_leaves false m s vs args = fails_leaves NotAFunction s
    with_leaves true m s vs args = from_leaves (start m args) m s vs (first args)

    pub on_list_leaves : (m : Method) (s : Span) (vs args : List Val) → Leaves P (on_list m call s vs args)
    on_list_leaves m s vs args = if_leaves (takes_function m) (with_leaves (is_function (first args)) m s vs args) (answered_leaves s (list_answer m vs args))

    abbrev of_room : {A : Type 0} (d : Deriving → A) (Q : A → Type 0) → Q (d (derive p calls.derived.room)) → Q (d call.derives)
    of_room d Q h = subst (λ derives. Q (d derives)) (sym calls.derived.is) h

    pub set_leaves : (s : Span) (id : ℕ) (v : Val) → Leaves P (set_store call s id v)
    set_leaves s id v = record {
      held = λ w h. behind_left call.derives (λ t. states.store_set t id v) tt undefined s (store_refusal w.states id) w h
          (λ may. of_room (λ derives. settled derives (record w { states = states.store_set w.states id v })) (Left P) (stays.store_set calls.derived.room w id v may h));
    }

    -- a name other than a cell
    other_set : (g : Ground) (owner : ℕ) (x : Known) (v : Val) (s : Span) → Keeps P (put g owner x v s) → Keeps P (set g call owner x v s)
    other_set g owner x v s k = then_keeps k (λ u. doing_keeps (then_leaves (changed_leaves calls.derived (may_change g.sight x)) (λ t. ends_leaves u)))

    abbrev settled_on : Option View → (n : ℕ) → Val → Meaning Val
    settled_on sight n u = doing (λ w. then_do (if may_change sight (known.Cell n) then settled call.derives w else Ends tt w) (λ t. Ends u))

    assigned_held : (sight : Option View) (owner n : ℕ) (v : Val) (s : Span) (env : Env) (w : World) → P.ends w.modules w.states → Held P (and_then (kept env (cell_assigned sight owner n v s w)) (settled_on sight n))
    assigned_held (Some view) owner n v s env w h = h
    assigned_held None owner n v s env w h = by (assign_refusal w.states owner n v) (λ may. of_room (λ derives. settled derives (record w { states = states.assigned w.states owner n v })) (Left P) (stays.assigned calls.derived.room w owner n v may h)) where
      now : World
      now = record w { states = states.assigned w.states owner n v }

      done : Left P (settled call.derives now) → Held P (kept env (then_do (settled call.derives now) (λ t. Ends v)))
      done k = kept_held P env (then_do (settled call.derives now) (λ t. Ends v)) (then_left P (settled call.derives now) (λ t. Ends v) k (λ t w' h'. h'))

      by : (o : Option AssignError) → (MaySet o → Left P (settled call.derives now)) → Held P (and_then (kept env (unless o s (λ w'. Ends v (record w' { states = states.assigned w'.states owner n v })) w)) (settled_on None n))
      by None k = done (k (λ e. absurd (let q = e in cc)))
      by (Some ReadOnly) k = P.weaker w.modules w.states h
      by (Some NotAStore) k = P.weaker w.modules w.states h
      by (Some NoMemory) k = done (k (λ e. absurd (let q = e in cc)))

    cell_held : (o : Option Val) (g : Ground) (owner n : ℕ) (v : Val) (s : Span) (env : Env) (w : World) → P.ends w.modules w.states → Held P (and_then (cell_put o g owner n v s env w) (settled_on g.sight n))
    cell_held None g owner n v s env w h = P.weaker w.modules w.states h
    cell_held (Some old) g owner n v s env w h = assigned_held g.sight owner n v s env w h

    pub set_keeps : (g : Ground) (owner : ℕ) (x : Known) (v : Val) (s : Span) → Keeps P (set g call owner x v s)
    set_keeps g owner (known.Cell n) v s = record { held = λ env w h. cell_held (cell_seen g.sight g.is_own owner n w) g owner n v s env w h }
    set_keeps g owner (known.Local x) v s = other_set g owner (known.Local x) v s (record { held = λ env w h. local_held (look x.0 env) x.0 v s env w h })
    set_keeps g owner (known.Constant n) v s = other_set g owner (known.Constant n) v s (done_keeps v)
    set_keeps g owner (known.Export file n) v s = other_set g owner (known.Export file n) v s (done_keeps v)
    set_keeps g owner known.Writable v s = other_set g owner known.Writable v s (done_keeps v)
    set_keeps g owner known.Derived v s = other_set g owner known.Derived v s (done_keeps v)
    set_keeps g owner (known.Life l) v s = other_set g owner (known.Life l) v s (done_keeps v)
    set_keeps g owner (known.BuiltIn b) v s = other_set g owner (known.BuiltIn b) v s (done_keeps v)

    update_leaves : (b : Bool) (s : Span) (id : ℕ) (f : Val) → Leaves P (update_store b call s id f)
    update_leaves false s id f = fails_leaves NotAFunction s
    update_leaves true s id f = then_leaves (record { held = λ w h. (value_leaves s f _).held w h }) (set_leaves s id)

    pub on_store_leaves : (m : Method) (s : Span) (id : ℕ) (args : List Val) → Leaves P (on_store m call s id args)
    on_store_leaves method.Set s id args = set_leaves s id (first args)
    on_store_leaves _ s id args = update_leaves (is_function (first args)) s id (first args)

    abbrev with_one : ℕ → Recipe → Val → Deed Val
    with_one owner r v w = Ends (store (length w.states.stores)) (record w { states = with_derived w.states owner r v })

    computed_left : (owner : ℕ) (r : Recipe) (w : World) → AreBelow r.inputs (length w.states.stores) → P.ends w.modules w.states → Left P (make_computed call owner r w)
    computed_left owner r w below h = of_room (λ derives. then_do (derives owner r w) (with_one owner r)) (Left P) (by (derive p calls.derived.room owner r w) refl) where
      by : (e : Ending Val) → derive p calls.derived.room owner r w ≡ e → Left P (then_do e (with_one owner r))
      by (Ends v w') e = stays.with_derived calls.derived.room w w' owner r v below e h
      by (Fails k s w') e = subst (Left P) e (derive_left P p calls.derived.room owner r w h)

    recipe_left : (q : Program) (owner : ℕ) (s : Span) (args : List Val) (w : World) (o : Option Recipe) → recipe_in q s args w.states.stores ≡ o → P.ends w.modules w.states → Left P (then_do (given NotAStore s o w) (make_computed call owner))
    recipe_left q owner s args w None e h = P.weaker w.modules w.states h
    recipe_left q owner s args w (Some r) e h = computed_left owner r w (recipe-below w.states.stores q s args r e) h

    pub derived_leaves : (q : Program) (owner : ℕ) (s : Span) (args : List Val) → Leaves P (make_derived q call owner s args)
    derived_leaves q owner s args = record { held = λ w h. recipe_left q owner s args w (recipe_in q s args w.states.stores) refl h }

  pub make_leaves : (v : Val) → Leaves P (make_store v)
  make_leaves v = record { held = λ w h. stays.with_store w.modules w.states v h }

  line_leaves : (s : Span) (line : List ℕ) → Leaves P (log_line s line)
  line_leaves s line = spent_leaves (length line) s (record { held = λ w h. h })

  texts_leaves : (s : Span) (o : Option (List (List ℕ))) → Leaves P (log_texts s o)
  texts_leaves s None = fails_leaves NotText s
  texts_leaves s (Some ts) = line_leaves s (line_of ts)

  pub log_leaves : (s : Span) (args : List Val) → Leaves P (log s args)
  log_leaves s args = texts_leaves s (texts_of args)
