-- What statements do on two views that are alike at the cells that they read: the same.
use Rattle.std.proofs.Common.{◌≡◌, Bool, ℕ, refl, sym, ap, ap₂, subst, ◌∙◌, List, [], ◌++◌, map, Option, Some, None}
use Rattle.sv_code.specs.declared.code.Code.{Code}
use Rattle.sv_code.specs.declared.functions.CodeArm.{CodeArm, CodeArm-F, roll-CodeArm, map-CodeArm, fold-roll-CodeArm}
use Rattle.sv_code.specs.declared.functions.CodeDecl.{CodeDecl}
use Rattle.sv_code.specs.declared.functions.CodeStmt.{CodeStmt, CodeStmt-F, roll-CodeStmt, map-CodeStmt, fold-roll-CodeStmt, ind-CodeStmt}
use Rattle.sv_code.specs.declared.functions.CodeStmtKind.{CodeStmtKind, CodeStmtKind-F, roll-CodeStmtKind, map-CodeStmtKind, fold-roll-CodeStmtKind}
use Rattle.sv_code.specs.declared.functions.Function.{Function}
use Rattle.sv_code.specs.declared.known.Known.{Known}
use Rattle.sv_code.specs.declared.parts.Arrows.{Arrows}
use Rattle.sv_code.specs.declared.program.Program.{Program}
use Rattle.sv_local.proofs.Lists.{map_made, map_same, option_same}
use Rattle.sv_local.proofs.Outcomes.{IsSame, meaning_is}
use Rattle.sv_local.proofs.Values.{Fine, expr_alike}
use Rattle.sv_code.proofs.Each.{each_front, each_back}
use Rattle.sv_code.specs.Names.{Each, joined, of_code, of_maybe, of_decl, of_decls, stmt_kind_names, arm_names, stmt_names, of_stmt, of_stmt_kind, of_arm}
use Rattle.sv_meaning.specs.Calls.{Caller}
use Rattle.sv_meaning.specs.Env.{Env, opened}
use Rattle.sv_meaning.specs.Outcome.{Done, Meaning, Flow, Next, Returned, and_then}
use Rattle.sv_meaning.specs.Sight.{Ground}
use Rattle.sv_meaning.specs.Statements.{value_or, name_given, in_order, loop, scoped, each_step, for_step, Doing, Counts, done, Arm, first_of, valued, decl_of, stmt_kind_step, stmt_step, arm_step, run, doing_of, arm_of}
use Rattle.sv_meaning.specs.Values.{value}
use Rattle.sv_value.specs.Value.{Val}
use Rattle.sv_view.specs.Level.{View}

abbrev for_with : Env → Option (Meaning Flow) → Option (Meaning Val) → Option (Meaning Val) → Meaning Flow → Doing
for_with names first test next turn = Counts (λ s. for_step s names first test next turn)

for_same : (names : Env) (f f' : Option (Meaning Flow)) (t t' n n' : Option (Meaning Val)) (b b' : Meaning Flow) → f ≡ f' → t ≡ t' → n ≡ n' → b ≡ b' → for_with names f t n b ≡ for_with names f' t' n' b'
for_same names f f' t t' n n' b b' ef et en eb = ap₂ (λ x y. for_with names x y n b) ef et ∙ ap₂ (λ x y. for_with names f' t' x y) en eb

abbrev arm_with : Meaning Val → Meaning Flow → Arm
arm_with t b = record { test = t; body = b }

module _ (p : Program) (arrows : Arrows) (own : Bool) (v v' : View) (constants : v.own.constants ≡ v'.own.constants) (modules : v.modules ≡ v'.modules) (call : Caller) (owner : ℕ) where
  abbrev g : Ground
  g = record { program = p; sight = Some v; arrows = arrows; is_own = own }

  abbrev g' : Ground
  g' = record { program = p; sight = Some v'; arrows = arrows; is_own = own }

  abbrev Q : Known → Type 0
  Q x = Fine IsSame own v v' x

  abbrev fs : List Function
  fs = p.functions

  pub value_same : (c : Code) → Each Q (of_code fs c) → value g call owner c ≡ value g' call owner c
  value_same c h = meaning_is (expr_alike IsSame p arrows own v v' constants modules call owner c h)

  valued_same : (o : Option Code) → Each Q (of_maybe fs o) → valued g call owner o ≡ valued g' call owner o
  valued_same o h = option_same (value g call owner) (value g' call owner) (of_code fs) Q value_same o h

  decl_same : (d : CodeDecl) → Each Q (of_decl fs d) → decl_of g call owner d ≡ decl_of g' call owner d
  decl_same d h = ap (λ o env w. and_then (value_or o env w) (λ v env'. Done Next (name_given d.target v env'))) (valued_same d.first h)

  decls_same : (ds : List CodeDecl) → Each Q (of_decls fs ds) → map (decl_of g call owner) ds ≡ map (decl_of g' call owner) ds
  decls_same ds h = map_same (decl_of g call owner) (decl_of g' call owner) (of_decl fs) Q decl_same ds h

  -- ---- trees, with what is claimed of each

  abbrev ClaimKind : CodeStmtKind → Type 0
  ClaimKind x = Each Q (of_stmt_kind fs x) → doing_of g call owner x ≡ doing_of g' call owner x

  abbrev KnownKind : Type 0
  KnownKind = (x : CodeStmtKind) × ClaimKind x

  abbrev ClaimArm : CodeArm → Type 0
  ClaimArm x = Each Q (of_arm fs x) → arm_of g call owner x ≡ arm_of g' call owner x

  abbrev KnownArm : Type 0
  KnownArm = (x : CodeArm) × ClaimArm x

  abbrev ClaimStmt : CodeStmt → Type 0
  ClaimStmt x = Each Q (of_stmt fs x) → run g call owner x ≡ run g' call owner x

  abbrev KnownStmt : Type 0
  KnownStmt = (x : CodeStmt) × ClaimStmt x

  abbrev Names : Type 0
  Names = List Known

  -- ---- a layer of a tree

  abbrev bare_kind : CodeStmtKind-F KnownKind KnownArm KnownStmt → CodeStmtKind-F CodeStmtKind CodeArm CodeStmt
  bare_kind = map-CodeStmtKind KnownKind KnownArm KnownStmt CodeStmtKind CodeArm CodeStmt (λ p. p.0) (λ p. p.0) (λ p. p.0)

  abbrev made_kind : CodeStmtKind-F CodeStmtKind CodeArm CodeStmt → CodeStmtKind-F Doing Arm (Meaning Flow)
  made_kind = map-CodeStmtKind CodeStmtKind CodeArm CodeStmt Doing Arm (Meaning Flow) (doing_of g call owner) (arm_of g call owner) (run g call owner)

  abbrev made_kind' : CodeStmtKind-F CodeStmtKind CodeArm CodeStmt → CodeStmtKind-F Doing Arm (Meaning Flow)
  made_kind' = map-CodeStmtKind CodeStmtKind CodeArm CodeStmt Doing Arm (Meaning Flow) (doing_of g' call owner) (arm_of g' call owner) (run g' call owner)

  abbrev names_kind : CodeStmtKind-F CodeStmtKind CodeArm CodeStmt → CodeStmtKind-F Names Names Names
  names_kind = map-CodeStmtKind CodeStmtKind CodeArm CodeStmt Names Names Names (of_stmt_kind fs) (of_arm fs) (of_stmt fs)

  abbrev bare_arm : CodeArm-F KnownKind KnownArm KnownStmt → CodeArm-F CodeStmtKind CodeArm CodeStmt
  bare_arm = map-CodeArm KnownKind KnownArm KnownStmt CodeStmtKind CodeArm CodeStmt (λ p. p.0) (λ p. p.0) (λ p. p.0)

  abbrev made_arm : CodeArm-F CodeStmtKind CodeArm CodeStmt → CodeArm-F Doing Arm (Meaning Flow)
  made_arm = map-CodeArm CodeStmtKind CodeArm CodeStmt Doing Arm (Meaning Flow) (doing_of g call owner) (arm_of g call owner) (run g call owner)

  abbrev made_arm' : CodeArm-F CodeStmtKind CodeArm CodeStmt → CodeArm-F Doing Arm (Meaning Flow)
  made_arm' = map-CodeArm CodeStmtKind CodeArm CodeStmt Doing Arm (Meaning Flow) (doing_of g' call owner) (arm_of g' call owner) (run g' call owner)

  abbrev names_arm : CodeArm-F CodeStmtKind CodeArm CodeStmt → CodeArm-F Names Names Names
  names_arm = map-CodeArm CodeStmtKind CodeArm CodeStmt Names Names Names (of_stmt_kind fs) (of_arm fs) (of_stmt fs)

  abbrev bare_stmt : CodeStmt-F KnownKind KnownArm KnownStmt → CodeStmt-F CodeStmtKind CodeArm CodeStmt
  bare_stmt = map-CodeStmt KnownKind KnownArm KnownStmt CodeStmtKind CodeArm CodeStmt (λ p. p.0) (λ p. p.0) (λ p. p.0)

  abbrev made_stmt : CodeStmt-F CodeStmtKind CodeArm CodeStmt → CodeStmt-F Doing Arm (Meaning Flow)
  made_stmt = map-CodeStmt CodeStmtKind CodeArm CodeStmt Doing Arm (Meaning Flow) (doing_of g call owner) (arm_of g call owner) (run g call owner)

  abbrev made_stmt' : CodeStmt-F CodeStmtKind CodeArm CodeStmt → CodeStmt-F Doing Arm (Meaning Flow)
  made_stmt' = map-CodeStmt CodeStmtKind CodeArm CodeStmt Doing Arm (Meaning Flow) (doing_of g' call owner) (arm_of g' call owner) (run g' call owner)

  abbrev names_stmt : CodeStmt-F CodeStmtKind CodeArm CodeStmt → CodeStmt-F Names Names Names
  names_stmt = map-CodeStmt CodeStmtKind CodeArm CodeStmt Names Names Names (of_stmt_kind fs) (of_arm fs) (of_stmt fs)

  stmts_same : (ms : List KnownStmt) → Each Q (joined (map (of_stmt fs) (map (λ p. p.0) ms))) → map (run g call owner) (map (λ p. p.0) ms) ≡ map (run g' call owner) (map (λ p. p.0) ms)
  stmts_same ms h = map_made (run g call owner) (run g' call owner) (of_stmt fs) Q ms h

  arms_same : (rows : List KnownArm) → Each Q (joined (map (of_arm fs) (map (λ p. p.0) rows))) → map (arm_of g call owner) (map (λ p. p.0) rows) ≡ map (arm_of g' call owner) (map (λ p. p.0) rows)
  arms_same rows h = map_made (arm_of g call owner) (arm_of g' call owner) (of_arm fs) Q rows h

  kind_same : (y : CodeStmtKind-F KnownKind KnownArm KnownStmt) → Each Q (stmt_kind_names fs (names_kind (bare_kind y))) → stmt_kind_step g call owner (made_kind (bare_kind y)) ≡ stmt_kind_step g' call owner (made_kind' (bare_kind y))
  kind_same CodeStmtKind-F.Empty h = refl
  kind_same (CodeStmtKind-F.Block names ms) h = ap (λ zs. Counts (λ s. scoped (opened names) (in_order zs))) (stmts_same ms h)
  kind_same (CodeStmtKind-F.Let ds) h = ap (λ zs. Counts (λ s. in_order zs)) (decls_same ds h)
  kind_same (CodeStmtKind-F.Const ds exported) h = ap (λ zs. Counts (λ s. in_order zs)) (decls_same ds h)
  kind_same (CodeStmtKind-F.If arms None) h = ap (λ zs. Counts (λ s. first_of zs None)) (arms_same arms (each_front Q (joined (map (of_arm fs) (map (λ p. p.0) arms))) [] h))
  kind_same (CodeStmtKind-F.If arms (Some last)) h =
      ap₂ (λ zs m. Counts (λ s. first_of zs (Some m))) (arms_same arms (each_front Q (joined (map (of_arm fs) (map (λ p. p.0) arms))) (of_stmt fs last.0) h)) (last.1 (each_back Q (joined (map (of_arm fs) (map (λ p. p.0) arms))) (of_stmt fs last.0) h))
  kind_same (CodeStmtKind-F.While test turn) h =
      ap₂ (λ t b. Counts (λ s. loop s (Some t) None b)) (value_same test (each_front Q (of_code fs test) (of_stmt fs turn.0) h)) (turn.1 (each_back Q (of_code fs test) (of_stmt fs turn.0) h))
  kind_same (CodeStmtKind-F.For names None test next turn) h =
      let k : Each Q (of_maybe fs next ++ of_stmt fs turn.0) = each_back Q (of_maybe fs test) (of_maybe fs next ++ of_stmt fs turn.0) h in
      for_same (opened names) None None (valued g call owner test) (valued g' call owner test) (valued g call owner next) (valued g' call owner next) _ _ refl
      (valued_same test (each_front Q (of_maybe fs test) (of_maybe fs next ++ of_stmt fs turn.0) h)) (valued_same next (each_front Q (of_maybe fs next) (of_stmt fs turn.0) k)) (turn.1 (each_back Q (of_maybe fs next) (of_stmt fs turn.0) k))
  kind_same (CodeStmtKind-F.For names (Some first) test next turn) h =
      let j : Each Q (of_maybe fs test ++ (of_maybe fs next ++ of_stmt fs turn.0)) = each_back Q (of_stmt fs first.0) (of_maybe fs test ++ (of_maybe fs next ++ of_stmt fs turn.0)) h in
      let k : Each Q (of_maybe fs next ++ of_stmt fs turn.0) = each_back Q (of_maybe fs test) (of_maybe fs next ++ of_stmt fs turn.0) j in
      for_same (opened names) _ _ (valued g call owner test) (valued g' call owner test) (valued g call owner next) (valued g' call owner next) _ _ (ap Some (first.1 (each_front Q (of_stmt fs first.0) (of_maybe fs test ++ (of_maybe fs next ++ of_stmt fs turn.0)) h)))
      (valued_same test (each_front Q (of_maybe fs test) (of_maybe fs next ++ of_stmt fs turn.0) j)) (valued_same next (each_front Q (of_maybe fs next) (of_stmt fs turn.0) k)) (turn.1 (each_back Q (of_maybe fs next) (of_stmt fs turn.0) k))
  kind_same (CodeStmtKind-F.Each x fixed e turn) h =
      ap₂ (λ m b. Counts (λ s. each_step s x.name m b)) (value_same e (each_front Q (of_code fs e) (of_stmt fs turn.0) h)) (turn.1 (each_back Q (of_code fs e) (of_stmt fs turn.0) h))
  kind_same CodeStmtKind-F.Break h = refl
  kind_same CodeStmtKind-F.Continue h = refl
  kind_same (CodeStmtKind-F.Return e) h = ap (λ o. Counts (λ s env w. and_then (value_or o env w) (λ u. Done (Returned u)))) (valued_same e h)
  kind_same (CodeStmtKind-F.Eval e) h = ap (λ m. Counts (λ s env w. and_then (m env w) (λ u. Done Next))) (value_same e h)
  kind_same (CodeStmtKind-F.Import i) h = refl
  kind_same (CodeStmtKind-F.Export ds) h = ap (λ zs. Counts (λ s. in_order zs)) (decls_same ds h)
  kind_same (CodeStmtKind-F.React m) h = refl
  kind_same (CodeStmtKind-F.Function x exported target c) h = refl

  arm_same : (y : CodeArm-F KnownKind KnownArm KnownStmt) → Each Q (arm_names fs (names_arm (bare_arm y))) → arm_step g call owner (made_arm (bare_arm y)) ≡ arm_step g' call owner (made_arm' (bare_arm y))
  arm_same y h = ap₂ arm_with (value_same y.test (each_front Q (of_code fs y.test) (of_stmt fs y.body.0) h)) (y.body.1 (each_back Q (of_code fs y.test) (of_stmt fs y.body.0) h))

  stmt_same : (y : CodeStmt-F KnownKind KnownArm KnownStmt) → Each Q (stmt_names fs (names_stmt (bare_stmt y))) → stmt_step g call owner (made_stmt (bare_stmt y)) ≡ stmt_step g' call owner (made_stmt' (bare_stmt y))
  stmt_same y h = ap (λ d. done d y.span) (y.kind.1 h)

  -- ---- whole trees

  kind_whole : (x : CodeStmtKind-F CodeStmtKind CodeArm CodeStmt) (y : CodeStmtKind-F KnownKind KnownArm KnownStmt) → bare_kind y ≡ x → ClaimKind (roll-CodeStmtKind x)
  kind_whole x y e h =
      fold-roll-CodeStmtKind Doing Arm (Meaning Flow) (stmt_kind_step g call owner) (arm_step g call owner) (stmt_step g call owner) x
      ∙ (subst (λ z. Each Q (stmt_kind_names fs (names_kind z)) → stmt_kind_step g call owner (made_kind z) ≡ stmt_kind_step g' call owner (made_kind' z)) e (kind_same y)
      (subst (Each Q) (fold-roll-CodeStmtKind Names Names Names (stmt_kind_names fs) (arm_names fs) (stmt_names fs) x) h)
      ∙ sym (fold-roll-CodeStmtKind Doing Arm (Meaning Flow) (stmt_kind_step g' call owner) (arm_step g' call owner) (stmt_step g' call owner) x))

  arm_whole : (x : CodeArm-F CodeStmtKind CodeArm CodeStmt) (y : CodeArm-F KnownKind KnownArm KnownStmt) → bare_arm y ≡ x → ClaimArm (roll-CodeArm x)
  arm_whole x y e h =
      fold-roll-CodeArm Doing Arm (Meaning Flow) (stmt_kind_step g call owner) (arm_step g call owner) (stmt_step g call owner) x
      ∙ (subst (λ z. Each Q (arm_names fs (names_arm z)) → arm_step g call owner (made_arm z) ≡ arm_step g' call owner (made_arm' z)) e (arm_same y)
      (subst (Each Q) (fold-roll-CodeArm Names Names Names (stmt_kind_names fs) (arm_names fs) (stmt_names fs) x) h)
      ∙ sym (fold-roll-CodeArm Doing Arm (Meaning Flow) (stmt_kind_step g' call owner) (arm_step g' call owner) (stmt_step g' call owner) x))

  stmt_whole : (x : CodeStmt-F CodeStmtKind CodeArm CodeStmt) (y : CodeStmt-F KnownKind KnownArm KnownStmt) → bare_stmt y ≡ x → ClaimStmt (roll-CodeStmt x)
  stmt_whole x y e h =
      fold-roll-CodeStmt Doing Arm (Meaning Flow) (stmt_kind_step g call owner) (arm_step g call owner) (stmt_step g call owner) x
      ∙ (subst (λ z. Each Q (stmt_names fs (names_stmt z)) → stmt_step g call owner (made_stmt z) ≡ stmt_step g' call owner (made_stmt' z)) e (stmt_same y)
      (subst (Each Q) (fold-roll-CodeStmt Names Names Names (stmt_kind_names fs) (arm_names fs) (stmt_names fs) x) h)
      ∙ sym (fold-roll-CodeStmt Doing Arm (Meaning Flow) (stmt_kind_step g' call owner) (arm_step g' call owner) (stmt_step g' call owner) x))

  -- a statement does the same on both views
  pub run_same : (x : CodeStmt) → Each Q (of_stmt fs x) → run g call owner x ≡ run g' call owner x
  run_same = ind-CodeStmt ClaimKind ClaimArm ClaimStmt kind_whole arm_whole stmt_whole

  pub runs_same : (ms : List CodeStmt) → Each Q (joined (map (of_stmt fs) ms)) → map (run g call owner) ms ≡ map (run g' call owner) ms
  runs_same ms h = map_same (run g call owner) (run g' call owner) (of_stmt fs) Q run_same ms h
