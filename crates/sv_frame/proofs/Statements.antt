-- What stays true of the states while statements run.
use Rattle.std.proofs.Common.{◌≡◌, ℕ, zero, suc, true, List, [], ◌∷◌, ◌++◌, map, length, take, Option, Some, None, sym, subst}
use Rattle.sv_base.specs.declared.names.Name.{Name}
use Rattle.sv_base.specs.declared.span.Span.{Span}
use Rattle.sv_code.specs.declared.code.Code.{Code}
use Rattle.sv_code.specs.declared.functions.CodeArm.{CodeArm, CodeArm-F, roll-CodeArm, map-CodeArm, fold-roll-CodeArm}
use Rattle.sv_code.specs.declared.functions.CodeDecl.{CodeDecl}
use Rattle.sv_code.specs.declared.functions.CodeStmt.{CodeStmt, CodeStmt-F, roll-CodeStmt, map-CodeStmt, fold-roll-CodeStmt, ind-CodeStmt}
use Rattle.sv_code.specs.declared.functions.CodeStmtKind.{CodeStmtKind, CodeStmtKind-F, roll-CodeStmtKind, map-CodeStmtKind, fold-roll-CodeStmtKind}
use Rattle.sv_code.specs.declared.program.Program.{Program}
use Rattle.sv_frame.proofs.Outcomes.{Fact, Stays, Keeps, then_held, then_keeps, done_keeps, failed_keeps, either_keeps, counted_keeps}
use Rattle.sv_frame.proofs.Values.{Each, each_made, Maybe, expr_keeps}
use Rattle.sv_frame.proofs.Calls.{CallerKeeps}
use Rattle.sv_meaning.specs.Calls.{Caller}
use Rattle.sv_meaning.specs.Env.{Env, opened}
use Rattle.sv_meaning.specs.Outcome.{Done, Meaning, Flow, Next, Broken, Continued, Returned}
use Rattle.sv_meaning.specs.Sight.{Ground}
use Rattle.sv_meaning.specs.Statements.{value_or, go_on, in_order, after_turn, tested, turns, loop, scoped, item_turns, over_list, each_step, otherwise, for_step, Doing, Silent, Counts, done, Arm, first_of, valued, decl_of, stmt_kind_step, stmt_step, arm_step, run, doing_of, arm_of}
use Rattle.sv_meaning.specs.Values.{value}
use Rattle.sv_ops.specs.declared.faults.FaultKind.TheVariants.{NotAList, Steps}
use Rattle.sv_value.specs.Change.{truthy}
use Rattle.sv_value.specs.Value.{Val, undefined, null, boolean, number, text, list, object, function, store, items}

module _ {p : Program} {P : Fact} (stays : Stays p P) where
  -- ---- declarations

  pub value_or_keeps : (o : Option (Meaning Val)) → Maybe (Keeps P) o → Keeps P (value_or o)
  value_or_keeps None h = done_keeps undefined
  value_or_keeps (Some m) h = h

  go_on_keeps : (f : Flow) {m : Meaning Flow} → Keeps P m → Keeps P (go_on f m)
  go_on_keeps Next k = k
  go_on_keeps Broken k = done_keeps Broken
  go_on_keeps Continued k = done_keeps Continued
  go_on_keeps (Returned v) k = done_keeps (Returned v)

  pub in_order_keeps : (ms : List (Meaning Flow)) → Each (Keeps P) ms → Keeps P (in_order ms)
  in_order_keeps [] h = done_keeps Next
  in_order_keeps (m ∷ ms) h = then_keeps h.0 (λ f. go_on_keeps f (in_order_keeps ms h.1))

  -- ---- loops

  after_keeps : (f : Flow) {m : Meaning Flow} → Keeps P m → Keeps P (after_turn f m)
  after_keeps Next k = k
  after_keeps Continued k = k
  after_keeps Broken k = done_keeps Next
  after_keeps (Returned v) k = done_keeps (Returned v)

  tested_keeps : (o : Option (Meaning Val)) → Maybe (Keeps P) o → Keeps P (tested o)
  tested_keeps None h = done_keeps true
  tested_keeps (Some m) h = then_keeps h (λ v. done_keeps (truthy v))

  turns_keep : (n : ℕ) (s : Span) (test next : Option (Meaning Val)) {body : Meaning Flow} → Maybe (Keeps P) test → Maybe (Keeps P) next → Keeps P body → Keeps P (turns n s test next body)
  turns_keep zero s test next t n k = failed_keeps Steps s
  turns_keep (suc i) s test next t n k =
      then_keeps (tested_keeps test t) (λ b. either_keeps b (then_keeps k (λ f. after_keeps f (then_keeps (value_or_keeps next n) (λ u. turns_keep i s test next t n k)))) (done_keeps Next))

  loop_keeps : (s : Span) (test next : Option (Meaning Val)) {body : Meaning Flow} → Maybe (Keeps P) test → Maybe (Keeps P) next → Keeps P body → Keeps P (loop s test next body)
  loop_keeps s test next t n k = record { held = λ env w h. (turns_keep (suc w.turn.steps) s test next t n k).held env w h }

  scoped_keeps : {A : Type 0} (names : Env) {m : Meaning A} → Keeps P m → Keeps P (scoped names m)
  scoped_keeps names {m = m} k = record { held = λ env w h. then_held P (m (env ++ names) w) (λ a env'. Done a (take (length env) env')) (k.held (env ++ names) w h) (λ a env' w' h'. h') }

  items_keep : (x : Name) (vs : List Val) {body : Meaning Flow} → Keeps P body → Keeps P (item_turns x vs body)
  items_keep x [] k = done_keeps Next
  items_keep x (v ∷ vs) k = then_keeps (scoped_keeps ((x.0, Some v) ∷ []) k) (λ f. after_keeps f (items_keep x vs k))

  over_keeps : (s : Span) (x : Name) {body : Meaning Flow} (v : Val) → Keeps P body → Keeps P (over_list s x body v)
  over_keeps s x (list vs) k = items_keep x (items vs) k
  over_keeps s x undefined k = failed_keeps NotAList s
  over_keeps s x null k = failed_keeps NotAList s
  over_keeps s x (boolean b) k = failed_keeps NotAList s
  over_keeps s x (number n) k = failed_keeps NotAList s
  over_keeps s x (text t) k = failed_keeps NotAList s
  over_keeps s x (object fs) k = failed_keeps NotAList s
  over_keeps s x (function c o held) k = failed_keeps NotAList s
  over_keeps s x (store id) k = failed_keeps NotAList s

  each_keeps : (s : Span) (x : Name) {m : Meaning Val} {body : Meaning Flow} → Keeps P m → Keeps P body → Keeps P (each_step s x m body)
  each_keeps s x k l = then_keeps (scoped_keeps (opened (x ∷ [])) k) (λ v. over_keeps s x v l)

  otherwise_keeps : (o : Option (Meaning Flow)) → Maybe (Keeps P) o → Keeps P (otherwise o)
  otherwise_keeps None h = done_keeps Next
  otherwise_keeps (Some m) h = h

  for_keeps : (s : Span) (names : Env) (first : Option (Meaning Flow)) (test next : Option (Meaning Val)) {body : Meaning Flow} → Maybe (Keeps P) first → Maybe (Keeps P) test → Maybe (Keeps P) next → Keeps P body
      → Keeps P (for_step s names first test next body)
  for_keeps s names first test next f t n k = scoped_keeps names (then_keeps (otherwise_keeps first f) (λ u. loop_keeps s test next t n k))

  -- ---- forms

  abbrev DoingKeeps : Doing → Type 0
  DoingKeeps Silent = Unit {0}
  DoingKeeps (Counts f) = (s : Span) → Keeps P (f s)

  done_stmt_keeps : (d : Doing) (s : Span) → DoingKeeps d → Keeps P (done d s)
  done_stmt_keeps Silent s h = done_keeps Next
  done_stmt_keeps (Counts f) s h = counted_keeps s (h s)

  abbrev ArmMeans : Arm → Type 0
  ArmMeans a = Keeps P a.test × Keeps P a.body

  arms_keep : (arms : List Arm) (last : Option (Meaning Flow)) → Each ArmMeans arms → Maybe (Keeps P) last → Keeps P (first_of arms last)
  arms_keep [] last h l = otherwise_keeps last l
  arms_keep (a ∷ arms) last h l = then_keeps h.0.0 (λ v. either_keeps (truthy v) h.0.1 (arms_keep arms last h.1 l))

  module _ (g : Ground) (call : Caller) (calls : CallerKeeps p P call) (owner : ℕ) where
    pub valued_keeps : (o : Option Code) → Maybe (Keeps P) (valued g call owner o)
    valued_keeps None = tt
    valued_keeps (Some c) = expr_keeps stays g call calls owner c

    decl_keeps : (d : CodeDecl) → Keeps P (decl_of g call owner d)
    decl_keeps d = then_keeps (value_or_keeps (valued g call owner d.first) (valued_keeps d.first)) (λ v. record { held = λ env w h. h })

    decls_keep : (ds : List CodeDecl) → Each (Keeps P) (map (decl_of g call owner) ds)
    decls_keep [] = tt
    decls_keep (d ∷ ds) = (decl_keeps d, decls_keep ds)

    -- ---- trees, with what is known of each

    abbrev StmtKeeps : CodeStmt → Type 0
    StmtKeeps x = Keeps P (run g call owner x)

    abbrev KnownStmt : Type 0
    KnownStmt = (x : CodeStmt) × StmtKeeps x

    abbrev KindKeeps : CodeStmtKind → Type 0
    KindKeeps x = DoingKeeps (doing_of g call owner x)

    abbrev KnownKind : Type 0
    KnownKind = (x : CodeStmtKind) × KindKeeps x

    abbrev ArmKeeps : CodeArm → Type 0
    ArmKeeps x = ArmMeans (arm_of g call owner x)

    abbrev KnownArm : Type 0
    KnownArm = (x : CodeArm) × ArmKeeps x

    -- ---- a layer of a tree

    abbrev bare_kind : CodeStmtKind-F KnownKind KnownArm KnownStmt → CodeStmtKind-F CodeStmtKind CodeArm CodeStmt
    bare_kind = map-CodeStmtKind KnownKind KnownArm KnownStmt CodeStmtKind CodeArm CodeStmt (λ p. p.0) (λ p. p.0) (λ p. p.0)

    abbrev made_kind : CodeStmtKind-F CodeStmtKind CodeArm CodeStmt → CodeStmtKind-F Doing Arm (Meaning Flow)
    made_kind = map-CodeStmtKind CodeStmtKind CodeArm CodeStmt Doing Arm (Meaning Flow) (doing_of g call owner) (arm_of g call owner) (run g call owner)

    abbrev bare_arm : CodeArm-F KnownKind KnownArm KnownStmt → CodeArm-F CodeStmtKind CodeArm CodeStmt
    bare_arm = map-CodeArm KnownKind KnownArm KnownStmt CodeStmtKind CodeArm CodeStmt (λ p. p.0) (λ p. p.0) (λ p. p.0)

    abbrev made_arm : CodeArm-F CodeStmtKind CodeArm CodeStmt → CodeArm-F Doing Arm (Meaning Flow)
    made_arm = map-CodeArm CodeStmtKind CodeArm CodeStmt Doing Arm (Meaning Flow) (doing_of g call owner) (arm_of g call owner) (run g call owner)

    abbrev bare_stmt : CodeStmt-F KnownKind KnownArm KnownStmt → CodeStmt-F CodeStmtKind CodeArm CodeStmt
    bare_stmt = map-CodeStmt KnownKind KnownArm KnownStmt CodeStmtKind CodeArm CodeStmt (λ p. p.0) (λ p. p.0) (λ p. p.0)

    abbrev made_stmt : CodeStmt-F CodeStmtKind CodeArm CodeStmt → CodeStmt-F Doing Arm (Meaning Flow)
    made_stmt = map-CodeStmt CodeStmtKind CodeArm CodeStmt Doing Arm (Meaning Flow) (doing_of g call owner) (arm_of g call owner) (run g call owner)

    kind_keeps : (y : CodeStmtKind-F KnownKind KnownArm KnownStmt) → DoingKeeps (stmt_kind_step g call owner (made_kind (bare_kind y)))
    kind_keeps CodeStmtKind-F.Empty = λ s. done_keeps Next
    kind_keeps (CodeStmtKind-F.Block names ms) = λ s. scoped_keeps (opened names) (in_order_keeps _ (each_made (run g call owner) (Keeps P) ms))
    kind_keeps (CodeStmtKind-F.Let ds) = λ s. in_order_keeps _ (decls_keep ds)
    kind_keeps (CodeStmtKind-F.Const ds exported) = λ s. in_order_keeps _ (decls_keep ds)
    kind_keeps (CodeStmtKind-F.If arms None) = λ s. arms_keep _ None (each_made (arm_of g call owner) ArmMeans arms) tt
    kind_keeps (CodeStmtKind-F.If arms (Some last)) = λ s. arms_keep _ (Some _) (each_made (arm_of g call owner) ArmMeans arms) last.1
    kind_keeps (CodeStmtKind-F.While test body) = λ s. loop_keeps s (Some (value g call owner test)) None (expr_keeps stays g call calls owner test) tt body.1
    kind_keeps (CodeStmtKind-F.For names None test next body) = λ s. for_keeps s (opened names) None (valued g call owner test) (valued g call owner next) tt (valued_keeps test) (valued_keeps next) body.1
    kind_keeps (CodeStmtKind-F.For names (Some first) test next body) = λ s. for_keeps s (opened names) (Some _) (valued g call owner test) (valued g call owner next) first.1 (valued_keeps test) (valued_keeps next) body.1
    kind_keeps (CodeStmtKind-F.Each x fixed e body) = λ s. each_keeps s x.name (expr_keeps stays g call calls owner e) body.1
    kind_keeps CodeStmtKind-F.Break = λ s. done_keeps Broken
    kind_keeps CodeStmtKind-F.Continue = λ s. done_keeps Continued
    kind_keeps (CodeStmtKind-F.Return e) = λ s. then_keeps (value_or_keeps (valued g call owner e) (valued_keeps e)) (λ v. done_keeps (Returned v))
    kind_keeps (CodeStmtKind-F.Eval e) = λ s. then_keeps (expr_keeps stays g call calls owner e) (λ v. done_keeps Next)
    kind_keeps (CodeStmtKind-F.Import i) = tt
    kind_keeps (CodeStmtKind-F.Export ds) = λ s. in_order_keeps _ (decls_keep ds)
    kind_keeps (CodeStmtKind-F.React m) = tt
    kind_keeps (CodeStmtKind-F.Function x exported target c) = tt

    arm_keeps : (y : CodeArm-F KnownKind KnownArm KnownStmt) → ArmMeans (arm_step g call owner (made_arm (bare_arm y)))
    arm_keeps y = (expr_keeps stays g call calls owner y.test, y.body.1)

    stmt_keeps : (y : CodeStmt-F KnownKind KnownArm KnownStmt) → Keeps P (stmt_step g call owner (made_stmt (bare_stmt y)))
    stmt_keeps y = done_stmt_keeps _ y.span y.kind.1

    -- ---- whole trees

    kind_whole : (x : CodeStmtKind-F CodeStmtKind CodeArm CodeStmt) (y : CodeStmtKind-F KnownKind KnownArm KnownStmt) → bare_kind y ≡ x → KindKeeps (roll-CodeStmtKind x)
    kind_whole x y e =
        subst DoingKeeps (sym (fold-roll-CodeStmtKind Doing Arm (Meaning Flow) (stmt_kind_step g call owner) (arm_step g call owner) (stmt_step g call owner) x)) (subst (λ z. DoingKeeps (stmt_kind_step g call owner (made_kind z))) e (kind_keeps y))

    arm_whole : (x : CodeArm-F CodeStmtKind CodeArm CodeStmt) (y : CodeArm-F KnownKind KnownArm KnownStmt) → bare_arm y ≡ x → ArmKeeps (roll-CodeArm x)
    arm_whole x y e =
        subst ArmMeans (sym (fold-roll-CodeArm Doing Arm (Meaning Flow) (stmt_kind_step g call owner) (arm_step g call owner) (stmt_step g call owner) x)) (subst (λ z. ArmMeans (arm_step g call owner (made_arm z))) e (arm_keeps y))

    stmt_whole : (x : CodeStmt-F CodeStmtKind CodeArm CodeStmt) (y : CodeStmt-F KnownKind KnownArm KnownStmt) → bare_stmt y ≡ x → StmtKeeps (roll-CodeStmt x)
    stmt_whole x y e =
        subst (Keeps P) (sym (fold-roll-CodeStmt Doing Arm (Meaning Flow) (stmt_kind_step g call owner) (arm_step g call owner) (stmt_step g call owner) x)) (subst (λ z. Keeps P (stmt_step g call owner (made_stmt z))) e (stmt_keeps y))

    -- a statement keeps it true
    pub run_keeps : (x : CodeStmt) → Keeps P (run g call owner x)
    run_keeps = ind-CodeStmt KindKeeps ArmKeeps StmtKeeps kind_whole arm_whole stmt_whole

    pub runs_keep : (stmts : List CodeStmt) → Each (Keeps P) (map (run g call owner) stmts)
    runs_keep [] = tt
    runs_keep (s ∷ stmts) = (run_keeps s, runs_keep stmts)
