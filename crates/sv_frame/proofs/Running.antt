-- What stays true of the states whatever is called, told or run.
use Rattle.std.proofs.Common.{◌≡◌, refl, ℕ, zero, suc, Bool, true, false, List, [], ◌∷◌, map, Option, Some, None, Result, Ok, Err, slice_get}
use Rattle.sv_base.specs.declared.span.Span.{Span}
use Rattle.sv_code.specs.declared.fragments.FragAttr.{FragAttr}
use Rattle.sv_code.specs.declared.functions.CodeDecl.{CodeDecl}
use Rattle.sv_code.specs.declared.functions.CodeStmt.{CodeStmt}
use Rattle.sv_code.specs.declared.functions.CodeArm.{CodeArm}
use Rattle.sv_code.specs.declared.functions.CodeStmtKind.{CodeStmtKind, CodeStmtKind-F, out-CodeStmtKind}
use Rattle.sv_code.specs.declared.functions.Function.{Function}
use Rattle.sv_code.specs.declared.functions.FunctionBody.{FunctionBody}
use Rattle.sv_code.specs.declared.functions.FunctionBody.TheVariants as body
use Rattle.sv_code.specs.declared.known.Known.{Known}
use Rattle.sv_code.specs.declared.known.Known.TheVariants as known
use Rattle.sv_code.specs.declared.parts.Part.{Part}
use Rattle.sv_code.specs.declared.program.Component.{Component}
use Rattle.sv_code.specs.declared.program.FileCode.{FileCode}
use Rattle.sv_code.specs.declared.program.FileCode.TheVariants as file_code
use Rattle.sv_code.specs.declared.program.Program.{Program}
use Rattle.sv_code.specs.declared.program.ProgramFile.{ProgramFile}
use Rattle.sv_code.specs.declared.program.Run.{Run}
use Rattle.sv_code.specs.declared.program.StoreCell.{StoreCell}
use Rattle.sv_code.specs.declared.tags.Handler.{Handler}
use Rattle.sv_frame.proofs.Outcomes.{Modules, Fact, Stays, Sets, Keeps, Leaves, Left, if_left, then_left, then_keeps, done_keeps, counted_keeps, then_leaves, ends_leaves, fails_leaves, given_leaves, answered_leaves, doing_keeps, left_leaves}
use Rattle.sv_frame.proofs.Statements.{value_or_keeps, in_order_keeps, valued_keeps, run_keeps, runs_keep}
use Rattle.sv_frame.proofs.Values.{Each, expr_keeps}
use Rattle.sv_frame.proofs.Calls.{DerivesAs, CallerKeeps, value_leaves, make_leaves}
use Rattle.sv_meaning.specs.Calls.{Caller, first, second}
use Rattle.sv_meaning.specs.Components.{component_of}
use Rattle.sv_meaning.specs.Env.{Env}
use Rattle.sv_meaning.specs.Derived.{running}
use Rattle.sv_meaning.specs.Functions.{Teller, Mode, dispatched, dispatch, event_fields, entered, env_of, found, if_there, returned, called_within, caller}
use Rattle.sv_meaning.specs.Listeners.{heard_value, heard_result, heard_on, heard, heard_if, heard_attr, heard_by, heard_from, handler_of, is_named, listener_view, Hearer, hearer_of, attrs_of, told, teller}
use Rattle.sv_meaning.specs.Outcome.{Fails, Meaning, Deed, Next, given}
use Rattle.sv_meaning.specs.Parts.{part_value}
use Rattle.sv_meaning.specs.Runs.{world_ground, calls, each_in_turn, function_set, functions_set, given_for, declarations, prop_value, top_declared, top_or, top, script, modules_opened, run_module, run_modules, cell_opened, cells_opened, view_opened, name_opened, name_subscribed, opened, run_component, run_top, is_due, inner, run_at, run_due, run_reactive, called, settle}
use Rattle.sv_meaning.specs.Sight.{Ground, ground_in, is_there}
use Rattle.sv_meaning.specs.Sources.{source, source_of}
use Rattle.sv_meaning.specs.Statements.{initialized, variable, may_show, subscribe, subscribe_if, declare}
use Rattle.sv_meaning.specs.declared.limits.TheConstants.{CALL_LIMIT}
use Rattle.sv_ops.specs.Answer.{object_made}
use Rattle.sv_ops.specs.declared.faults.Fault.{Fault}
use Rattle.sv_ops.specs.declared.faults.FaultKind.TheVariants.{NotText, NotAFunction, NotAStore, CallDepth, UseBeforeInit}
use Rattle.sv_states.specs.States.{States, live, value_in}
use Rattle.sv_states.specs.declared.states.TheConstants.{DEPTH_LIMIT}
use Rattle.sv_value.specs.Value.{Val, Vals, undefined, null, boolean, number, text, list, object, function, store, items, none}
use Rattle.sv_view.specs.Constants.{module_constant_at}
use Rattle.sv_view.specs.Level.{View}
use Rattle.sv_view.specs.Local.{Local}
use Rattle.sv_world.specs.declared.world.World.{World}

module _ (p : Program) (P : Fact) where
  abbrev pub TellerKeeps : Teller → Type 0
  TellerKeeps tell = (call : Caller) → CallerKeeps p P call → (i : ℕ) (name : List ℕ) (e : Val) → Leaves P (tell call i name e)

  pub record ModeKeeps (mode : Mode) : Type 0 where
    pub told_of : TellerKeeps mode.tells
    pub derived : (room : ℕ) → DerivesAs p (mode.derives room)

module _ {p : Program} {P : Fact} (stays : Stays p P) where
  -- ---- functions

  dispatched_leaves : {tell : Val → Deed (Unit {0})} (s : Span) (name : List ℕ) (d : Val) → ((e : Val) → Leaves P (tell e)) → Leaves P (dispatched tell s name d)
  dispatched_leaves s name d k = then_leaves (answered_leaves s (object_made (event_fields name d))) (λ e. then_leaves (k e) (λ u. ends_leaves (boolean true)))

  dispatch_leaves : {tell : List ℕ → Val → Deed (Unit {0})} (s : Span) (v d : Val) → ((name : List ℕ) (e : Val) → Leaves P (tell name e)) → Leaves P (dispatch tell s v d)
  dispatch_leaves s (text name) d k = dispatched_leaves s name d (k name)
  dispatch_leaves s undefined d k = fails_leaves NotText s
  dispatch_leaves s null d k = fails_leaves NotText s
  dispatch_leaves s (boolean b) d k = fails_leaves NotText s
  dispatch_leaves s (number n) d k = fails_leaves NotText s
  dispatch_leaves s (list vs) d k = fails_leaves NotText s
  dispatch_leaves s (object fs) d k = fails_leaves NotText s
  dispatch_leaves s (function c o held) d k = fails_leaves NotText s
  dispatch_leaves s (store id) d k = fails_leaves NotText s

  module _ (tell : Teller) (tells : TellerKeeps p P tell) where
    entered_leaves : (g : Ground) (call : Caller) → CallerKeeps p P call → (b : FunctionBody) (o : ℕ) (env : Env) (args : List Val) (s : Span) → Leaves P (entered b tell g call o env args s)
    entered_leaves g call k (body.Value e) o env args s = left_leaves env (expr_keeps stays g call k o e)
    entered_leaves g call k (body.Block stmts) o env args s = then_leaves (left_leaves env (in_order_keeps stays _ (runs_keep stays g call k o stmts))) (λ f. ends_leaves (returned f))
    entered_leaves g call k body.Dispatch o env args s = dispatch_leaves s (first args) (second args) (λ name e. tells call k o name e)
    entered_leaves g call k body.Writable o env args s = make_leaves stays (first args)

    found_leaves : (g : Ground) (call : Caller) → CallerKeeps p P call → (f : Option Function) (o : ℕ) (held args : List Val) (s : Span) → Leaves P (found f tell g call o held args s)
    found_leaves g call k None o held args s = ends_leaves undefined
    found_leaves g call k (Some f) o held args s = entered_leaves g call k f.body o (env_of f held args) args s

  module _ (mode : Mode) (keeps : ModeKeeps p P mode) where
    there_left : (b : Bool) (s : Span) (d : Deed Val) (w : World) → Leaves P d → P.ends w.modules w.states → Left P (if_there b s d w)
    there_left true s d w k h = k.held w h
    there_left false s d w k h = P.weaker w.modules w.states h

    -- a call, with so many more that may be open
    within_leaves : (g : Ground) (room c o : ℕ) (held : Vals) (args : List Val) (s : Span) → Leaves P (called_within mode g room c o held args s)
    within_leaves g zero c o held args s = record { held = λ w h. there_left (is_there g.sight o w) s (Fails CallDepth s) w (fails_leaves CallDepth s) h }
    within_leaves g (suc room) c o held args s =
        let inside : CallerKeeps p P (caller mode (ground_in g c) room) = record { called = within_leaves (ground_in g c) room; derived = keeps.derived room } in
        record { held = λ w h. there_left (is_there g.sight o w) s _ w (found_leaves mode.tells keeps.told_of (ground_in g c) (caller mode (ground_in g c) room) inside (slice_get g.program.functions c) o (items held) args s) h }

    pub caller_keeps : (g : Ground) (room : ℕ) → CallerKeeps p P (caller mode g room)
    caller_keeps g room = record { called = within_leaves g room; derived = keeps.derived room }

  -- ---- listeners of tags

  module _ (call : Caller) (k : CallerKeeps p P call) where
    heard_value_leaves : (s : Span) (v e : Val) → Leaves P (heard_value p call s v e)
    heard_value_leaves s undefined e = ends_leaves tt
    heard_value_leaves s null e = ends_leaves tt
    heard_value_leaves s (function c o held) e = then_leaves (k.called c o held (e ∷ []) (source p c s)) (λ v. ends_leaves tt)
    heard_value_leaves s (boolean b) e = fails_leaves NotAFunction s
    heard_value_leaves s (number n) e = fails_leaves NotAFunction s
    heard_value_leaves s (text t) e = fails_leaves NotAFunction s
    heard_value_leaves s (list vs) e = fails_leaves NotAFunction s
    heard_value_leaves s (object fs) e = fails_leaves NotAFunction s
    heard_value_leaves s (store id) e = fails_leaves NotAFunction s

    heard_result_leaves : (s : Span) (r : Result Val Fault) (e : Val) → Leaves P (heard_result p call s r e)
    heard_result_leaves s (Ok v) e = heard_value_leaves s v e
    heard_result_leaves s (Err f) e = fails_leaves f.kind f.span

    heard_on_leaves : (o : Option View) (part : Part) (e : Val) → Leaves P (heard_on o p call part e)
    heard_on_leaves None part e = ends_leaves tt
    heard_on_leaves (Some v) part e = heard_result_leaves part.span (part_value p v part) e

    abbrev OnwardKeeps : (ℕ → Val → Deed (Unit {0})) → Type 0
    OnwardKeeps onward = (owner : ℕ) (e : Val) → Leaves P (onward owner e)

    heard_leaves : (onward : ℕ → Val → Deed (Unit {0})) → OnwardKeeps onward → (owner : ℕ) (locals : List Local) (o : Option Part) (e : Val) → Leaves P (heard onward p call owner locals o e)
    heard_leaves onward on owner locals None e = on owner e
    heard_leaves onward on owner locals (Some part) e = record { held = λ w h. (heard_on_leaves (listener_view w owner locals) part e).held w h }

    heard_if_leaves : (b : Bool) (onward : ℕ → Val → Deed (Unit {0})) → OnwardKeeps onward → (owner : ℕ) (locals : List Local) (o : Option Part) (e : Val) → Leaves P (heard_if b onward p call owner locals o e)
    heard_if_leaves true onward on owner locals o e = heard_leaves onward on owner locals o e
    heard_if_leaves false onward on owner locals o e = ends_leaves tt

    heard_attr_leaves : (o : Option Handler) (onward : ℕ → Val → Deed (Unit {0})) → OnwardKeeps onward → (name : List ℕ) (owner : ℕ) (locals : List Local) (e : Val) → Leaves P (heard_attr o onward p call name owner locals e)
    heard_attr_leaves None onward on name owner locals e = ends_leaves tt
    heard_attr_leaves (Some h) onward on name owner locals e = heard_if_leaves (is_named p name h) onward on owner locals h.listener e

    heard_by_leaves : (onward : ℕ → Val → Deed (Unit {0})) → OnwardKeeps onward → (name : List ℕ) (owner : ℕ) (locals : List Local) (attrs : List FragAttr) (e : Val)
        → Leaves P (heard_by onward p call name owner locals attrs e)
    heard_by_leaves onward on name owner locals [] e = ends_leaves tt
    heard_by_leaves onward on name owner locals (a ∷ attrs) e = then_leaves (heard_attr_leaves (handler_of p a) onward on name owner locals e) (λ u. heard_by_leaves onward on name owner locals attrs e)

    heard_from_leaves : (onward : ℕ → Val → Deed (Unit {0})) → OnwardKeeps onward → (name : List ℕ) (o : Option Hearer) (e : Val) → Leaves P (heard_from onward p call name o e)
    heard_from_leaves onward on name None e = ends_leaves tt
    heard_from_leaves onward on name (Some h) e = heard_by_leaves onward on name h.owner h.locals (attrs_of p h.tag) e

    told_leaves : (room i : ℕ) (name : List ℕ) (e : Val) → Leaves P (told room p call i name e)
    told_leaves zero i name e = ends_leaves tt
    told_leaves (suc room) i name e =
        record { held = λ w h. (heard_from_leaves (λ owner. told room p call owner name) (λ owner e'. told_leaves room owner name e') name (hearer_of (live w.states i)) e).held w h }

  pub teller_keeps : TellerKeeps p P (teller p)
  teller_keeps call k i name e = told_leaves call k DEPTH_LIMIT i name e

  pub running_keeps : ModeKeeps p P (running p)
  running_keeps = record { told_of = teller_keeps; derived = λ room. record { room = room; is = refl } }

  -- ---- calls by the page

  pub calls_keep : CallerKeeps p P (calls p)
  calls_keep = caller_keeps (running p) running_keeps (world_ground p) CALL_LIMIT

  pub settle_leaves : Leaves P (settle p)
  settle_leaves = record { held = λ w h. stays.settles CALL_LIMIT w h }

  pub called_leaves : (v : Val) (args : List Val) (s : Span) → Leaves P (called p v args s)
  called_leaves v args s = value_leaves stays (calls p) calls_keep (source_of p v s) v args

  -- ---- scripts

  pub in_turn_leaves : {A : Type 0} (f : A → Deed (Unit {0})) (xs : List A) → ((x : A) → Leaves P (f x)) → Leaves P (each_in_turn f xs)
  in_turn_leaves f [] k = ends_leaves tt
  in_turn_leaves f (x ∷ xs) k = then_leaves (k x) (λ u. in_turn_leaves f xs k)

  function_stays : (owner : ℕ) → Sets owner P.ends → (s : Span) (x : CodeStmtKind-F CodeStmtKind CodeArm CodeStmt) (w : World) → P.ends w.modules w.states → P.ends (function_set owner s x w).modules (function_set owner s x w).states
  function_stays owner sets s (CodeStmtKind-F.Function x exported (known.Constant n) c) w h = sets.constant w s.file n (function c owner none) h
  function_stays owner sets s (CodeStmtKind-F.Function x exported (known.Local n) c) w h = h
  function_stays owner sets s (CodeStmtKind-F.Function x exported (known.Cell n) c) w h = h
  function_stays owner sets s (CodeStmtKind-F.Function x exported (known.Export file n) c) w h = h
  function_stays owner sets s (CodeStmtKind-F.Function x exported (known.Life l) c) w h = h
  function_stays owner sets s (CodeStmtKind-F.Function x exported known.Writable c) w h = h
  function_stays owner sets s (CodeStmtKind-F.Function x exported known.Derived c) w h = h
  function_stays owner sets s (CodeStmtKind-F.Function x exported (known.BuiltIn b) c) w h = h
  function_stays owner sets s CodeStmtKind-F.Empty w h = h
  function_stays owner sets s (CodeStmtKind-F.Block names ms) w h = h
  function_stays owner sets s (CodeStmtKind-F.Let ds) w h = h
  function_stays owner sets s (CodeStmtKind-F.Const ds exported) w h = h
  function_stays owner sets s (CodeStmtKind-F.If arms last) w h = h
  function_stays owner sets s (CodeStmtKind-F.While test body) w h = h
  function_stays owner sets s (CodeStmtKind-F.For names first test next body) w h = h
  function_stays owner sets s (CodeStmtKind-F.Each x fixed e body) w h = h
  function_stays owner sets s CodeStmtKind-F.Break w h = h
  function_stays owner sets s CodeStmtKind-F.Continue w h = h
  function_stays owner sets s (CodeStmtKind-F.Return e) w h = h
  function_stays owner sets s (CodeStmtKind-F.Eval e) w h = h
  function_stays owner sets s (CodeStmtKind-F.Import i) w h = h
  function_stays owner sets s (CodeStmtKind-F.Export ds) w h = h
  function_stays owner sets s (CodeStmtKind-F.React m) w h = h

  functions_stay : (owner : ℕ) → Sets owner P.ends → (stmts : List CodeStmt) (w : World) → P.ends w.modules w.states → P.ends (functions_set owner stmts w).modules (functions_set owner stmts w).states
  functions_stay owner sets [] w h = h
  functions_stay owner sets (s ∷ stmts) w h = functions_stay owner sets stmts (function_set owner s.span (out-CodeStmtKind s.kind) w) (function_stays owner sets s.span (out-CodeStmtKind s.kind) w h)

  pub prop_value_keeps : (v : Val) {first : Meaning Val} → Keeps P first → Keeps P (prop_value v first)
  prop_value_keeps undefined k = k
  prop_value_keeps null k = done_keeps null
  prop_value_keeps (boolean b) k = done_keeps (boolean b)
  prop_value_keeps (number n) k = done_keeps (number n)
  prop_value_keeps (text t) k = done_keeps (text t)
  prop_value_keeps (list vs) k = done_keeps (list vs)
  prop_value_keeps (object fs) k = done_keeps (object fs)
  prop_value_keeps (function c o held) k = done_keeps (function c o held)
  prop_value_keeps (store id) k = done_keeps (store id)

  subscribe_leaves : (owner : ℕ) → Sets owner P.ends → (cell : ℕ) (source : Option ℕ) (s : Span) (v : Val) → Leaves P (subscribe owner cell source s v)
  subscribe_leaves owner sets cell source s v =
      record { held = λ w h. if_left P (may_show source v) _ (Fails NotAStore s w) (sets.subscribed w.modules w.states cell source v h) (P.weaker w.modules w.states h) }

  subscribe_if_leaves : (o : Option ℕ) (owner : ℕ) → Sets owner P.ends → (source : Option ℕ) (s : Span) (v : Val) → Leaves P (subscribe_if o owner source s v)
  subscribe_if_leaves None owner sets source s v = ends_leaves tt
  subscribe_if_leaves (Some cell) owner sets source s v = subscribe_leaves owner sets cell source s v

  -- a name at the top gets its first value
  initialized_stays : (owner : ℕ) → Sets owner P.ends → (x : Known) (s : Span) (v : Val) (w : World) → P.ends w.modules w.states → P.ends (initialized owner x s v w).modules (initialized owner x s v w).states
  initialized_stays owner sets (known.Cell n) s v w h = sets.declared w.modules w.states n v h
  initialized_stays owner sets (known.Constant n) s v w h = sets.constant w s.file n v h
  initialized_stays owner sets (known.Local x) s v w h = h
  initialized_stays owner sets (known.Export file n) s v w h = h
  initialized_stays owner sets (known.Life l) s v w h = h
  initialized_stays owner sets known.Writable s v w h = h
  initialized_stays owner sets known.Derived s v w h = h
  initialized_stays owner sets (known.BuiltIn b) s v w h = h

  module _ (owner : ℕ) (sets : Sets owner P.ends) (props : List (ℕ × Val)) where
    declare_leaves : (d : CodeDecl) (v : Val) → Leaves P (declare owner d v)
    declare_leaves d v =
        record { held = λ w h. (subscribe_if_leaves d.store owner sets (variable d.target) d.name.span v).held (initialized owner d.target d.name.span v w) (initialized_stays owner sets d.target d.name.span v w h) }

    declared_keeps : (d : CodeDecl) → Keeps P (top_declared p owner props d)
    declared_keeps d =
        then_keeps (prop_value_keeps (given_for props d.target) (value_or_keeps stays _ (valued_keeps stays (world_ground p) (calls p) calls_keep owner d.first)))
        (λ v. doing_keeps (then_leaves (declare_leaves d v) (λ u. ends_leaves Next)))

    all_declared_keep : (ds : List CodeDecl) → Each (Keeps P) (map (top_declared p owner props) ds)
    all_declared_keep [] = tt
    all_declared_keep (d ∷ ds) = (declared_keeps d, all_declared_keep ds)

    top_keeps : (o : Option (List CodeDecl)) (s : CodeStmt) → Keeps P (top_or p owner props o s)
    top_keeps (Some ds) s = counted_keeps s.span (in_order_keeps stays _ (all_declared_keep ds))
    top_keeps None s = run_keeps stays (world_ground p) (calls p) calls_keep owner s

    tops_keep : (stmts : List CodeStmt) → Each (Keeps P) (map (top p owner props) stmts)
    tops_keep [] = tt
    tops_keep (s ∷ stmts) = (top_keeps (declarations (out-CodeStmtKind s.kind)) s, tops_keep stmts)

    script_leaves : (stmts : List CodeStmt) → Leaves P (script p owner props stmts)
    script_leaves stmts = then_leaves (left_leaves [] (in_order_keeps stays _ (tops_keep stmts))) (λ f. ends_leaves tt)

  -- ---- module files

  -- it is so whatever constants module files have
  module _ (sets : Sets 0 P.ends) (free : (ms ms' : Modules) (s : States) → P.ends ms s → P.ends ms' s) where
    file_left : (c : FileCode) (f : ProgramFile) (w : World) → P.ends w.modules w.states → Left P (run_module p (Some (record f { code = c })) w)
    file_left (file_code.Component c) f w h = h
    file_left (file_code.Module m) f w h = (script_leaves 0 sets [] m.script).held (functions_set 0 m.script w) (functions_stay 0 sets m.script w h)

    module_leaves : (o : Option ProgramFile) → Leaves P (run_module p o)
    module_leaves None = ends_leaves tt
    module_leaves (Some f) = record { held = λ w h. file_left f.code f w h }

    pub modules_leave : Leaves P (run_modules p)
    modules_leave = record {
      held = λ w h. (in_turn_leaves (λ n. run_module p (slice_get p.files n)) p.modules (λ n. module_leaves (slice_get p.files n))).held (modules_opened p w) (free w.modules (modules_opened p w).modules w.states h);
    }

  -- ---- components

  cells_stay : (owner : ℕ) → Sets owner P.ends → (cells : List ℕ) (w : World) → P.ends w.modules w.states → P.ends (cells_opened owner cells w).modules (cells_opened owner cells w).states
  cells_stay owner sets [] w h = h
  cells_stay owner sets (n ∷ cells) w h = cells_stay owner sets cells (cell_opened owner w n) (sets.declared w.modules w.states n undefined h)

  view_stays : (owner : ℕ) → Sets owner P.ends → (o : Option ℕ) (w : World) → P.ends w.modules w.states → P.ends (view_opened owner o w).modules (view_opened owner o w).states
  view_stays owner sets None w h = h
  view_stays owner sets (Some n) w h = sets.declared w.modules w.states n undefined h

  opened_stays : (c : Component) (owner : ℕ) → Sets owner P.ends → (w : World) → P.ends w.modules w.states → P.ends (opened c owner w).modules (opened c owner w).states
  opened_stays c owner sets w h = functions_stay owner sets c.script _ (view_stays owner sets c.view _ (cells_stay owner sets c.reactive w h))

  name_left : (o : Option Val) (owner : ℕ) → Sets owner P.ends → (n : ℕ) (x : StoreCell) (w : World) → P.ends w.modules w.states → Left P (name_opened o owner n x w)
  name_left None owner sets n x w h = h
  name_left (Some v) owner sets n x w h = (subscribe_leaves owner sets x.cell (Some n) x.span v).held w h

  holder_left : (owner : ℕ) → Sets owner P.ends → (k : Known) (x : StoreCell) (w : World) → P.ends w.modules w.states → Left P (name_subscribed owner (record x { holder = k }) w)
  holder_left owner sets (known.Export file n) x w h =
      then_left P (given UseBeforeInit x.span (module_constant_at w.modules file n) w) (subscribe owner x.cell None x.span) ((given_leaves {P = P} UseBeforeInit x.span (module_constant_at w.modules file n)).held w h)
      (λ v w' h'. (subscribe_leaves owner sets x.cell None x.span v).held w' h')
  holder_left owner sets (known.Local n) x w h = P.weaker w.modules w.states h
  holder_left owner sets (known.Cell n) x w h = name_left (value_in (live w.states owner) n) owner sets n (record x { holder = known.Cell n }) w h
  holder_left owner sets (known.Constant n) x w h = h
  holder_left owner sets (known.Life l) x w h = P.weaker w.modules w.states h
  holder_left owner sets known.Writable x w h = P.weaker w.modules w.states h
  holder_left owner sets known.Derived x w h = P.weaker w.modules w.states h
  holder_left owner sets (known.BuiltIn b) x w h = P.weaker w.modules w.states h

  name_leaves : (owner : ℕ) → Sets owner P.ends → (x : StoreCell) → Leaves P (name_subscribed owner x)
  name_leaves owner sets x = record { held = λ w h. holder_left owner sets x.holder x w h }

  component_leaves : (c : Component) (owner : ℕ) → Sets owner P.ends → (props : List (ℕ × Val)) → Leaves P (run_component p c owner props)
  component_leaves c owner sets props =
      then_leaves (record { held = λ w h. (in_turn_leaves (name_subscribed owner) c.stores (name_leaves owner sets)).held (opened c owner w) (opened_stays c owner sets w h) }) (λ u. script_leaves owner sets props c.script)

  pub top_leaves : (i : ℕ) → Sets i P.ends → (props : List (ℕ × Val)) → Leaves P (run_top p i props)
  top_leaves i sets props = record { held = λ w h. by w (component_of p w i) refl h } where
    by : (w : World) (o : Option Component) → component_of p w i ≡ o → P.ends w.modules w.states → Left P (run_top p i props w)
    by w None e h = rw e h
    by w (Some c) e h = rw e ((component_leaves c i sets props).held w h)

  -- ---- reactive statements

  at_leaves : (i : ℕ) (o : Option CodeStmt) → Leaves P (run_at p i o)
  at_leaves i None = ends_leaves tt
  at_leaves i (Some s) = then_leaves (left_leaves [] (run_keeps stays (world_ground p) (calls p) calls_keep i (inner s))) (λ f. ends_leaves tt)

  due_leaves : (all : Bool) (i : ℕ) (stmts : List CodeStmt) (r : Run) → Leaves P (run_due p all i stmts r)
  due_leaves all i stmts r = record { held = λ w h. by w (is_due all i r w) refl h } where
    by : (w : World) (b : Bool) → is_due all i r w ≡ b → P.ends w.modules w.states → Left P (run_due p all i stmts r w)
    by w true e h = rw e ((at_leaves i (slice_get stmts r.stmt)).held w h)
    by w false e h = rw e h

  pub reactive_leaves : (i : ℕ) (all : Bool) → Leaves P (run_reactive p i all)
  reactive_leaves i all = record { held = λ w h. by w (component_of p w i) refl h } where
    by : (w : World) (o : Option Component) → component_of p w i ≡ o → P.ends w.modules w.states → Left P (run_reactive p i all w)
    by w None e h = rw e h
    by w (Some c) e h = rw e ((in_turn_leaves (run_due p all i c.script) c.runs (due_leaves all i c.script)).held w h)
