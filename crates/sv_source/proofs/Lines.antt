-- Each form of a statement's code does what the form of the tree does, where its parts do.
use Rattle.std.proofs.Common.{◌≡◌, ℕ, Bool, false, List, [], ◌∷◌, ◌++◌, Option, None, Some, map, option_map, refl, sym, ap, subst, ◌∙◌}
use Rattle.sv_ast.specs.declared.names.Named.{Named}
use Rattle.sv_ast.specs.declared.names.Ref.{Ref}
use Rattle.sv_ast.specs.declared.script_tree.Import.{Import}
use Rattle.sv_base.specs.declared.span.Span.{Span}
use Rattle.sv_code.specs.declared.code.Code.{Code}
use Rattle.sv_code.specs.declared.functions.CodeArm.{CodeArm, fold-roll-CodeArm}
use Rattle.sv_code.specs.declared.functions.CodeDecl.{CodeDecl}
use Rattle.sv_code.specs.declared.functions.CodeStmt.{CodeStmt, fold-roll-CodeStmt}
use Rattle.sv_code.specs.declared.functions.CodeStmtKind
use Rattle.sv_code.specs.declared.functions.CodeStmtKind.{CodeStmtKind as AnyKind, CodeStmtKind-F, roll-CodeStmtKind, map-CodeStmtKind, fold-roll-CodeStmtKind, out-CodeStmtKind, out-roll-CodeStmtKind}
use Rattle.sv_code.specs.declared.functions.CodeStmtKind.TheVariants as stmt_code
use Rattle.sv_code.specs.declared.functions.Function.{Function}
use Rattle.sv_code.specs.declared.functions.FunctionBody.TheVariants as body_code
use Rattle.sv_code.specs.declared.known.Known.{Known}
use Rattle.sv_lower.specs.Lower.{store_of}
use Rattle.sv_local.proofs.Outcomes.{Alike, then_alike, done_alike}
use Rattle.sv_meaning.specs.Calls.{Caller}
use Rattle.sv_meaning.specs.Env.{Env, opened, numbers, given_value}
use Rattle.sv_meaning.specs.Outcome.{Done, Meaning, Flow, Next, Broken, Continued, Returned, and_then}
use Rattle.sv_meaning.specs.Sight.{Ground}
use Rattle.sv_meaning.specs.Statements.{Doing, Silent, Arm, done, first_of, in_order, scoped, loop, each_step, for_step, value_or, valued, name_given, decl_of, stmt_kind_step, stmt_step, arm_step, run, run_all, doing_of, arm_of}
use Rattle.sv_meaning.specs.Values.{value}
use Rattle.sv_names.specs.Distinct.{has}
use Rattle.sv_names.specs.Locals.{name_of}
use Rattle.sv_names.specs.Uses.{named}
use Rattle.sv_value.specs.Value.{Val}
use Rattle.sv_source.specs.Functions.{Acts, Gives, Runs, Fun}
use Rattle.sv_source.specs.Script.{Seen, does, Declared, Form, Acting, Naming, Reacting, Line, declares, doing, runs, in_turn, value_if, line_if, acting, declaring}
use Rattle.sv_source.proofs.Alike.{Always, BodyAlike, NumberAlike, SeenAlike, DeclAlike, SaysAlike, FormAlike, LineAlike, BranchAlike, DeclaredAlike}
use Rattle.sv_source.proofs.Loops.{DoingAlike, ArmAlike, done_same, value_or_alike, in_order_alike, loop_alike, first_alike, each_alike, for_alike}
use Rattle.sv_source.proofs.Names.{heads_opened}
use Rattle.sv_source.proofs.Scopes.{In, late, scoped_alike}
use Rattle.sv_source.proofs.Tables.{Beside, Perhaps, beside_map, perhaps_map}

abbrev AnyLayer : Type 0
AnyLayer = CodeStmtKind-F AnyKind CodeArm CodeStmt

module _ (all : List Function) (xs : List ℕ) (locals : List Ref) where
  abbrev E : Env → Env → Type 0
  E = In xs

  -- ---- parts

  pub means_of : (c : Code) (e : Seen) → SeenAlike all xs c e → Always all (λ g call owner. Alike E (value g call owner c) (does (e.sees g call owner)))
  means_of c e r g call owner p = late xs (value g call owner c) (λ env. does (e.sees g call owner)) (λ env k. (r.alike g call owner p env k).means)

  value_of : (c : Option Code) (e : Option Seen) → Perhaps (SeenAlike all xs) c e → Always all (λ g call owner. Perhaps (Alike E) (valued g call owner c) (value_if e g call owner))
  value_of c e r g call owner p = perhaps_map (SeenAlike all xs) (Alike E) (value g call owner) (λ x. does (x.sees g call owner)) (λ a b q. means_of a b q g call owner p) c e r

  line_of : (c : Option CodeStmt) (l : Option (Acts Line)) → Perhaps (LineAlike all xs locals) c l → Always all (λ g call owner. Perhaps (Alike E) (option_map (run g call owner) c) (line_if l g call owner))
  line_of c l r g call owner p = perhaps_map (LineAlike all xs locals) (Alike E) (run g call owner) (λ x. runs (x g call owner)) (λ a b q. q.runs g call owner p) c l r

  pub turns_of : (cs : List CodeStmt) (ls : List (Acts Line)) → Beside (LineAlike all xs locals) cs ls → Always all (λ g call owner. Alike E (run_all g call owner cs) (in_turn ls g call owner))
  turns_of cs ls h g call owner p =
      in_order_alike xs (map (run g call owner) cs) (map (λ l. runs (l g call owner)) ls) (beside_map (LineAlike all xs locals) (Alike E) (run g call owner) (λ l. runs (l g call owner)) (λ a b q. q.runs g call owner p) cs ls h)

  declares_alike : (g : Ground) (call : Caller) (owner : ℕ) (d : CodeDecl) (d' : Declared) → DeclAlike xs locals g call owner d d' → Alike E (decl_of g call owner d) (declares d')
  declares_alike g call owner d d' h = then_alike (value_or_alike xs (valued g call owner d.first) d'.first h.first) h.gives

  decls_beside : (ds : List CodeDecl) (ds' : List (Acts Declared)) → Beside (DeclaredAlike all xs locals) ds ds' → Always all (λ g call owner. Beside (DeclAlike xs locals g call owner) ds (map (λ d. d g call owner) ds'))
  decls_beside [] [] h g call owner p = tt
  decls_beside (d ∷ ds) (d' ∷ ds') h g call owner p = (h.0.alike g call owner p, decls_beside ds ds' h.1 g call owner p)
  decls_beside [] (d' ∷ ds') h g call owner p = absurd h
  decls_beside (d ∷ ds) [] h g call owner p = absurd h

  decls_run : (g : Ground) (call : Caller) (owner : ℕ) (ds : List CodeDecl) (ds' : List Declared) → Beside (DeclAlike xs locals g call owner) ds ds' → Alike E (in_order (map (decl_of g call owner) ds)) (in_order (map declares ds'))
  decls_run g call owner ds ds' h =
      in_order_alike xs (map (decl_of g call owner) ds) (map declares ds') (beside_map (DeclAlike xs locals g call owner) (Alike E) (decl_of g call owner) declares (λ a b q. declares_alike g call owner a b q) ds ds' h)

  -- ---- each form

  abbrev mapped : Ground → Caller → ℕ → AnyLayer → CodeStmtKind-F Doing Arm (Meaning Flow)
  mapped g call owner = map-CodeStmtKind AnyKind CodeArm CodeStmt Doing Arm (Meaning Flow) (doing_of g call owner) (arm_of g call owner) (run g call owner)

  form_alike : (layer : AnyLayer) (source : Acts Form) → Always all (λ g call owner. DoingAlike xs (stmt_kind_step g call owner (mapped g call owner layer)) (doing (source g call owner)))
      → Always all (λ g call owner. SaysAlike xs locals g call owner layer (source g call owner)) → FormAlike all xs locals (roll-CodeStmtKind layer) source
  form_alike layer source h k = record {
    doing = λ g call owner p. subst (λ z. DoingAlike xs z (doing (source g call owner))) (sym (fold-roll-CodeStmtKind Doing Arm (Meaning Flow) (stmt_kind_step g call owner) (arm_step g call owner) (stmt_step g call owner) layer)) (h g call owner p);
    says = λ g call owner p. subst (λ z. SaysAlike xs locals g call owner z (source g call owner)) (sym (out-roll-CodeStmtKind layer)) (k g call owner p);
  }

  pub empty_alike : FormAlike all xs locals stmt_code.Empty (acting (λ g call owner s. Done Next))
  unfolding CodeStmtKind.roll-CodeStmtKind denote.Hole.Carrier.roll
  empty_alike = form_alike CodeStmtKind-F.Empty (acting (λ g call owner s. Done Next)) (λ g call owner p s. done_alike Next) (λ g call owner p. tt)

  pub break_alike : FormAlike all xs locals stmt_code.Break (acting (λ g call owner s. Done Broken))
  unfolding CodeStmtKind.roll-CodeStmtKind denote.Hole.Carrier.roll
  break_alike = form_alike CodeStmtKind-F.Break (acting (λ g call owner s. Done Broken)) (λ g call owner p s. done_alike Broken) (λ g call owner p. tt)

  pub continue_alike : FormAlike all xs locals stmt_code.Continue (acting (λ g call owner s. Done Continued))
  unfolding CodeStmtKind.roll-CodeStmtKind denote.Hole.Carrier.roll
  continue_alike = form_alike CodeStmtKind-F.Continue (acting (λ g call owner s. Done Continued)) (λ g call owner p s. done_alike Continued) (λ g call owner p. tt)

  pub import_alike : (i : Import) → FormAlike all xs locals (stmt_code.Import i) (λ g call owner. Acting Silent)
  unfolding CodeStmtKind.roll-CodeStmtKind denote.Hole.Carrier.roll
  import_alike i = form_alike (CodeStmtKind-F.Import i) (λ g call owner. Acting Silent) (λ g call owner p. tt) (λ g call owner p. tt)

  pub let_alike : (ds : List CodeDecl) (ds' : List (Acts Declared)) → Beside (DeclaredAlike all xs locals) ds ds' → FormAlike all xs locals (stmt_code.Let ds) (declaring ds')
  unfolding CodeStmtKind.roll-CodeStmtKind denote.Hole.Carrier.roll
  let_alike ds ds' h = form_alike (CodeStmtKind-F.Let ds) (declaring ds') (λ g call owner p s. decls_run g call owner ds (map (λ d. d g call owner) ds') (decls_beside ds ds' h g call owner p)) (decls_beside ds ds' h)

  pub const_alike : (exported : Bool) (ds : List CodeDecl) (ds' : List (Acts Declared)) → Beside (DeclaredAlike all xs locals) ds ds' → FormAlike all xs locals (stmt_code.Const ds exported) (declaring ds')
  unfolding CodeStmtKind.roll-CodeStmtKind denote.Hole.Carrier.roll
  const_alike exported ds ds' h = form_alike (CodeStmtKind-F.Const ds exported) (declaring ds') (λ g call owner p s. decls_run g call owner ds (map (λ d. d g call owner) ds') (decls_beside ds ds' h g call owner p)) (decls_beside ds ds' h)

  pub export_alike : (ds : List CodeDecl) (ds' : List (Acts Declared)) → Beside (DeclaredAlike all xs locals) ds ds' → FormAlike all xs locals (stmt_code.Export ds) (declaring ds')
  unfolding CodeStmtKind.roll-CodeStmtKind denote.Hole.Carrier.roll
  export_alike ds ds' h = form_alike (CodeStmtKind-F.Export ds) (declaring ds') (λ g call owner p s. decls_run g call owner ds (map (λ d. d g call owner) ds') (decls_beside ds ds' h g call owner p)) (decls_beside ds ds' h)

  pub if_alike : (arms : List CodeArm) (bs : List (Acts Arm)) (last : Option CodeStmt) (l : Option (Acts Line)) → Beside (BranchAlike all xs) arms bs → Perhaps (LineAlike all xs locals) last l
      → FormAlike all xs locals (stmt_code.If arms last) (acting (λ g call owner s. first_of (map (λ b. b g call owner) bs) (line_if l g call owner)))
  unfolding CodeStmtKind.roll-CodeStmtKind denote.Hole.Carrier.roll
  if_alike arms bs None None h k = form_alike (CodeStmtKind-F.If arms None) (acting (λ g call owner s. first_of (map (λ b. b g call owner) bs) (line_if None g call owner)))
      (λ g call owner p s. first_alike xs (map (arm_of g call owner) arms) (map (λ b. b g call owner) bs) None (line_if None g call owner) (beside_map (BranchAlike all xs) (ArmAlike xs) (arm_of g call owner) (λ b. b g call owner) (λ a b q. q.alike g call owner p) arms bs h) (line_of None None k g call owner p))
      (λ g call owner p. tt)
  if_alike arms bs (Some last) (Some l) h k = form_alike (CodeStmtKind-F.If arms (Some last)) (acting (λ g call owner s. first_of (map (λ b. b g call owner) bs) (line_if (Some l) g call owner)))
      (λ g call owner p s. first_alike xs (map (arm_of g call owner) arms) (map (λ b. b g call owner) bs) (Some (run g call owner last)) (line_if (Some l) g call owner) (beside_map (BranchAlike all xs) (ArmAlike xs) (arm_of g call owner) (λ b. b g call owner) (λ a b q. q.alike g call owner p) arms bs h) (line_of (Some last) (Some l) k g call owner p))
      (λ g call owner p. tt)
  if_alike arms bs None (Some l) h k = absurd k
  if_alike arms bs (Some last) None h k = absurd k

  pub while_alike : (c : Code) (e : Seen) (turn : CodeStmt) (l : Acts Line) → SeenAlike all xs c e → LineAlike all xs locals turn l
      → FormAlike all xs locals (stmt_code.While c turn) (acting (λ g call owner s. loop s (Some (does (e.sees g call owner))) None (runs (l g call owner))))
  unfolding CodeStmtKind.roll-CodeStmtKind denote.Hole.Carrier.roll
  while_alike c e turn l h k = form_alike (CodeStmtKind-F.While c turn) (acting (λ g call owner s. loop s (Some (does (e.sees g call owner))) None (runs (l g call owner))))
      (λ g call owner p s. loop_alike xs s (Some (value g call owner c)) (Some (does (e.sees g call owner))) None None (run g call owner turn) (runs (l g call owner)) (means_of c e h g call owner p) tt (k.runs g call owner p))
      (λ g call owner p. tt)

  pub return_alike : (c : Option Code) (e : Option Seen) → Perhaps (SeenAlike all xs) c e
      → FormAlike all xs locals (stmt_code.Return c) (acting (λ g call owner s env w. and_then (value_or (value_if e g call owner) env w) (λ v. Done (Returned v))))
  unfolding CodeStmtKind.roll-CodeStmtKind denote.Hole.Carrier.roll
  return_alike c e h = form_alike (CodeStmtKind-F.Return c) (acting (λ g call owner s env w. and_then (value_or (value_if e g call owner) env w) (λ v. Done (Returned v))))
      (λ g call owner p s. then_alike (value_or_alike xs (valued g call owner c) (value_if e g call owner) (value_of c e h g call owner p)) (λ v. done_alike (Returned v)))
      (λ g call owner p. tt)

  pub eval_alike : (c : Code) (e : Seen) → SeenAlike all xs c e → FormAlike all xs locals (stmt_code.Eval c) (acting (λ g call owner s env w. and_then (does (e.sees g call owner) env w) (λ v. Done Next)))
  unfolding CodeStmtKind.roll-CodeStmtKind denote.Hole.Carrier.roll
  eval_alike c e h = form_alike (CodeStmtKind-F.Eval c) (acting (λ g call owner s env w. and_then (does (e.sees g call owner) env w) (λ v. Done Next)))
      (λ g call owner p s. then_alike (means_of c e h g call owner p) (λ v. done_alike Next)) (λ g call owner p. tt)

  pub react_alike : (turn : CodeStmt) (l : Acts Line) → LineAlike all xs locals turn l → FormAlike all xs locals (stmt_code.React turn) (λ g call owner. Reacting (runs (l g call owner)))
  unfolding CodeStmtKind.roll-CodeStmtKind denote.Hole.Carrier.roll
  react_alike turn l h = form_alike (CodeStmtKind-F.React turn) (λ g call owner. Reacting (runs (l g call owner))) (λ g call owner p. tt) (λ g call owner p. h.runs g call owner p)

  pub function_alike : (name : Named) (exported : Bool) (x y : Known) → (has (named name) locals ≡ false → x ≡ y) → (n : ℕ) (f : ℕ × Fun) → NumberAlike all n f
      → FormAlike all xs locals (stmt_code.Function name exported x n) (λ g call owner. Naming y f.0)
  unfolding CodeStmtKind.roll-CodeStmtKind denote.Hole.Carrier.roll
  function_alike name exported x y h n f r = form_alike (CodeStmtKind-F.Function name exported x n) (λ g call owner. Naming y f.0) (λ g call owner p. tt) (λ g call owner p. (h, r.number))

  -- a statement with its place
  pub line_alike : (s : Span) (k : AnyKind) (f : Acts Form) → FormAlike all xs locals k f → LineAlike all xs locals (record { span = s; kind = k }) (λ g call owner. record { span = s; form = f g call owner })
  line_alike s k f h = record {
    runs = λ g call owner p. subst (λ z. Alike E z (done (doing (f g call owner)) s)) (sym (fold-roll-CodeStmt Doing Arm (Meaning Flow) (stmt_kind_step g call owner) (arm_step g call owner) (stmt_step g call owner) (record { span = s; kind = k })))
        (done_same xs (doing_of g call owner k) (doing (f g call owner)) s (h.doing g call owner p));
    span = λ g call owner p. refl;
    says = h.says;
  }

  pub branch_alike : (c : Code) (e : Seen) (turn : CodeStmt) (l : Acts Line) → SeenAlike all xs c e → LineAlike all xs locals turn l
      → BranchAlike all xs (record { test = c; body = turn }) (λ g call owner. record { test = does (e.sees g call owner); body = runs (l g call owner) })
  branch_alike c e turn l h k = record {
    alike = λ g call owner p.
        subst (λ z. ArmAlike xs z (record { test = does (e.sees g call owner); body = runs (l g call owner) })) (sym (fold-roll-CodeArm Doing Arm (Meaning Flow) (stmt_kind_step g call owner) (arm_step g call owner) (stmt_step g call owner) (record { test = c; body = turn })))
        (record { test = means_of c e h g call owner p; body = k.runs g call owner p });
  }

  pub declared_alike : (name : Named) (x y x' y' : Known) → ((v : Val) → Alike E (λ env. Done Next (name_given x v env)) (λ env. Done Next (given_value name.name.0 v env)))
      → (has (named name) locals ≡ false → x ≡ x') → y ≡ y' → (c : Option Code) (e : Option Seen) → Perhaps (SeenAlike all xs) c e
      → DeclaredAlike all xs locals (record { name = name; target = x; store = store_of x y; first = c }) (λ g call owner. record { name = name; target = x'; store = store_of x' y'; first = value_if e g call owner })
  declared_alike name x y x' y' h k l c e r = record {
    alike = λ g call owner p. record {
      name = refl;
      gives = h;
      target = k;
      store = λ z. ap (λ a. store_of a y) (k z) ∙ ap (λ b. store_of x' b) l;
      first = value_of c e r g call owner p;
    };
  }

  pub gives_alike : (c : Code) (e : Seen) → SeenAlike all xs c e → BodyAlike all xs (body_code.Value c) (Gives (λ g call owner. does (e.sees g call owner)))
  gives_alike c e h = means_of c e h

  pub runs_alike : (cs : List CodeStmt) (ls : List (Acts Line)) → Beside (LineAlike all xs locals) cs ls → BodyAlike all xs (body_code.Block cs) (Runs (in_turn ls))
  runs_alike cs ls h = turns_of cs ls h

-- ---- scopes

module _ (all : List Function) (xs : List ℕ) (locals : List Ref) where
  pub block_alike : (names : List Ref) (cs : List CodeStmt) (ls : List (Acts Line)) → Beside (LineAlike all (xs ++ numbers (map name_of names)) (names ++ locals)) cs ls
      → FormAlike all xs locals (stmt_code.Block (map name_of names) cs) (acting (λ g call owner s. scoped (opened (map name_of names)) (in_turn ls g call owner)))
  unfolding CodeStmtKind.roll-CodeStmtKind denote.Hole.Carrier.roll
  block_alike names cs ls h = form_alike all xs locals (CodeStmtKind-F.Block (map name_of names) cs) (acting (λ g call owner s. scoped (opened (map name_of names)) (in_turn ls g call owner)))
      (λ g call owner p s. scoped_alike xs (numbers (map name_of names)) (opened (map name_of names)) (run_all g call owner cs) (in_turn ls g call owner) (heads_opened (map name_of names)) (turns_of all (xs ++ numbers (map name_of names)) (names ++ locals) cs ls h g call owner p))
      (λ g call owner p. tt)

  pub for_turns_alike : (names : List Ref) (first : Option CodeStmt) (a : Option (Acts Line)) (test : Option Code) (b : Option Seen) (next : Option Code) (c : Option Seen) (turn : CodeStmt) (l : Acts Line)
      → Perhaps (LineAlike all (xs ++ numbers (map name_of names)) (names ++ locals)) first a → Perhaps (SeenAlike all (xs ++ numbers (map name_of names))) test b → Perhaps (SeenAlike all (xs ++ numbers (map name_of names))) next c → LineAlike all (xs ++ numbers (map name_of names)) (names ++ locals) turn l
      → FormAlike all xs locals (stmt_code.For (map name_of names) first test next turn) (acting (λ g call owner s. for_step s (opened (map name_of names)) (line_if a g call owner) (value_if b g call owner) (value_if c g call owner) (runs (l g call owner))))
  unfolding CodeStmtKind.roll-CodeStmtKind denote.Hole.Carrier.roll
  for_turns_alike names None None test b next c turn l h k m n =
      let ys : List ℕ = numbers (map name_of names) in
      form_alike all xs locals (CodeStmtKind-F.For (map name_of names) None test next turn) (acting (λ g call owner s. for_step s (opened (map name_of names)) (line_if None g call owner) (value_if b g call owner) (value_if c g call owner) (runs (l g call owner))))
      (λ g call owner p s. for_alike xs ys s (opened (map name_of names)) None (line_if None g call owner) (valued g call owner test) (value_if b g call owner) (valued g call owner next) (value_if c g call owner) (run g call owner turn) (runs (l g call owner)) (heads_opened (map name_of names))
      (line_of all (xs ++ ys) (names ++ locals) None None h g call owner p) (value_of all (xs ++ ys) (names ++ locals) test b k g call owner p) (value_of all (xs ++ ys) (names ++ locals) next c m g call owner p) (n.runs g call owner p))
      (λ g call owner p. tt)
  for_turns_alike names (Some first) (Some a) test b next c turn l h k m n =
      let ys : List ℕ = numbers (map name_of names) in
      form_alike all xs locals (CodeStmtKind-F.For (map name_of names) (Some first) test next turn) (acting (λ g call owner s. for_step s (opened (map name_of names)) (line_if (Some a) g call owner) (value_if b g call owner) (value_if c g call owner) (runs (l g call owner))))
      (λ g call owner p s. for_alike xs ys s (opened (map name_of names)) (Some (run g call owner first)) (line_if (Some a) g call owner) (valued g call owner test) (value_if b g call owner) (valued g call owner next) (value_if c g call owner) (run g call owner turn) (runs (l g call owner)) (heads_opened (map name_of names))
      (line_of all (xs ++ ys) (names ++ locals) (Some first) (Some a) h g call owner p) (value_of all (xs ++ ys) (names ++ locals) test b k g call owner p) (value_of all (xs ++ ys) (names ++ locals) next c m g call owner p) (n.runs g call owner p))
      (λ g call owner p. tt)
  for_turns_alike names None (Some a) test b next c turn l h k m n = absurd h
  for_turns_alike names (Some first) None test b next c turn l h k m n = absurd h

  pub each_turns_alike : (x : Named) (fixed : Bool) (c : Code) (e : Seen) (turn : CodeStmt) (l : Acts Line) → SeenAlike all (xs ++ x.name.0 ∷ []) c e → LineAlike all (xs ++ x.name.0 ∷ []) (named x ∷ locals) turn l
      → FormAlike all xs locals (stmt_code.Each x fixed c turn) (acting (λ g call owner s. each_step s x.name (does (e.sees g call owner)) (runs (l g call owner))))
  unfolding CodeStmtKind.roll-CodeStmtKind denote.Hole.Carrier.roll
  each_turns_alike x fixed c e turn l h k = form_alike all xs locals (CodeStmtKind-F.Each x fixed c turn) (acting (λ g call owner s. each_step s x.name (does (e.sees g call owner)) (runs (l g call owner))))
      (λ g call owner p s. each_alike xs s x.name (value g call owner c) (does (e.sees g call owner)) (run g call owner turn) (runs (l g call owner)) (means_of all (xs ++ x.name.0 ∷ []) (named x ∷ locals) c e h g call owner p) (k.runs g call owner p))
      (λ g call owner p. tt)
