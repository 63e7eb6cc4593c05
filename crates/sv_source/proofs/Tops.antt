-- The code of a script does at the top of a file what the script does there.
use Rattle.std.proofs.Common.{◌≡◌, ℕ, refl, ap, ap₂, subst, ◌∙◌, Bool, List, [], ◌∷◌, map, Option, Some}
use mathlib.Core.Path.{fun_ext}
use Rattle.sv_base.specs.declared.span.Span.{Span}
use Rattle.sv_code.specs.declared.functions.CodeArm.{CodeArm}
use Rattle.sv_code.specs.declared.functions.CodeDecl.{CodeDecl}
use Rattle.sv_code.specs.declared.functions.CodeStmt.{CodeStmt}
use Rattle.sv_code.specs.declared.functions.CodeStmtKind.{CodeStmtKind, CodeStmtKind-F, out-CodeStmtKind}
use Rattle.sv_code.specs.declared.functions.Function.{Function}
use Rattle.sv_code.specs.declared.known.Known.{Known}
use Rattle.sv_code.specs.declared.known.Known.TheVariants as known
use Rattle.sv_code.specs.declared.program.Program.{Program}
use Rattle.sv_local.proofs.Outcomes.{Alike, then_alike, done_alike, counted_alike, doing_alike}
use Rattle.sv_meaning.specs.Calls.{Caller}
use Rattle.sv_meaning.specs.Outcome.{Ends, Deed, Meaning, Flow, Next, then_do, left, doing, counted}
use Rattle.sv_meaning.specs.Runs.{world_ground, calls, function_set, functions_set, declarations, given_for, prop_value, top_declared, top_or, top, inner, inner_kind}
use Rattle.sv_meaning.specs.Runs as code
use Rattle.sv_meaning.specs.Sight.{Ground}
use Rattle.sv_meaning.specs.Statements.{declare, in_order, initialized, run, subscribe_if, value_or, valued, variable}
use Rattle.sv_ast.specs.declared.names.Named.{Named}
use Rattle.sv_value.specs.Value.{Val, undefined, null, boolean, number, text, list, object, function, store}
use Rattle.sv_world.specs.declared.world.World.{World}
use Rattle.sv_source.specs.Functions.{Acts}
use Rattle.sv_source.specs.Script.{Declared, Form, Acting, Declaring, Naming, Reacting, Line, runs}
use Rattle.sv_source.specs.Tops.{form_set, forms_set, declare_top, behind_form, reacts, code_reacts, declared_top, top_form, top_line}
use Rattle.sv_source.specs.Tops as script
use Rattle.sv_source.proofs.Alike.{DeclAlike, SaysAlike, LineAlike}
use Rattle.sv_source.proofs.Loops.{in_order_alike, value_or_alike}
use Rattle.sv_source.proofs.Scopes.{In, same_at}
use Rattle.sv_source.proofs.Tables.{Beside, beside_map}

-- a prop has what was given, or its first value
prop_alike : (v : Val) {m m' : Meaning Val} → Alike (In []) m m' → Alike (In []) (prop_value v m) (prop_value v m')
prop_alike undefined h = h
prop_alike null h = done_alike null
prop_alike (boolean b) h = done_alike (boolean b)
prop_alike (number n) h = done_alike (number n)
prop_alike (text t) h = done_alike (text t)
prop_alike (list vs) h = done_alike (list vs)
prop_alike (object fs) h = done_alike (object fs)
prop_alike (function c o held) h = done_alike (function c o held)
prop_alike (store id) h = done_alike (store id)

abbrev declared_with : ℕ → Val → Option ℕ → Known → Named → Deed (Unit {0})
declared_with owner v s x name w = subscribe_if s owner (variable x) name.span v (initialized owner x name.span v w)

-- a function that is a constant of the file
constant_same : (owner : ℕ) (s : Span) (name : Named) (exported : Bool) (x : Known) (n : ℕ) (w : World) → function_set owner s (CodeStmtKind-F.Function name exported x n) w ≡ form_set owner s (Naming x n) w
constant_same owner s name exported (known.Constant c) n w = refl
constant_same owner s name exported (known.Local x) n w = refl
constant_same owner s name exported (known.Cell c) n w = refl
constant_same owner s name exported (known.Export file c) n w = refl
constant_same owner s name exported (known.Life l) n w = refl
constant_same owner s name exported known.Writable n w = refl
constant_same owner s name exported known.Derived n w = refl
constant_same owner s name exported (known.BuiltIn b) n w = refl

module _ (g : Ground) (call : Caller) (owner : ℕ) where
  abbrev Says : CodeStmtKind-F CodeStmtKind CodeArm CodeStmt → Form → Type 0
  Says = SaysAlike [] [] g call owner

  set_same : (s : Span) (k : CodeStmtKind-F CodeStmtKind CodeArm CodeStmt) (f : Form) (w : World) → Says k f → function_set owner s k w ≡ form_set owner s f w
  set_same s (CodeStmtKind-F.Function x exported target n) (Naming target' n') w h = constant_same owner s x exported target n w ∙ ap₂ (λ a b. form_set owner s (Naming a b) w) (h.0 refl) h.1
  set_same s (CodeStmtKind-F.Let ds) (Declaring ds') w h = refl
  set_same s (CodeStmtKind-F.Const ds exported) (Declaring ds') w h = refl
  set_same s (CodeStmtKind-F.Export ds) (Declaring ds') w h = refl
  set_same s (CodeStmtKind-F.React r) (Reacting m) w h = refl
  set_same s (CodeStmtKind-F.Let ds) (Acting d) w h = absurd h
  set_same s (CodeStmtKind-F.Const ds exported) (Acting d) w h = absurd h
  set_same s (CodeStmtKind-F.Export ds) (Acting d) w h = absurd h
  set_same s (CodeStmtKind-F.Function x exported target n) (Acting d) w h = absurd h
  set_same s (CodeStmtKind-F.React r) (Acting d) w h = absurd h
  set_same s k (Acting d) w h = refl
  set_same s _ _ w h = absurd h

  behind_same : (k : CodeStmtKind-F CodeStmtKind CodeArm CodeStmt) (f : Form) (s : CodeStmt) (m : Meaning Flow) → Says k f → Alike (In []) (run g call owner s) m → Alike (In []) (run g call owner (inner_kind k s)) (behind_form f m)
  behind_same (CodeStmtKind-F.React r) (Reacting n) s m h k = h
  behind_same (CodeStmtKind-F.Function x exported target n) (Naming target' n') s m h k = k
  behind_same (CodeStmtKind-F.Let ds) (Declaring ds') s m h k = k
  behind_same (CodeStmtKind-F.Const ds exported) (Declaring ds') s m h k = k
  behind_same (CodeStmtKind-F.Export ds) (Declaring ds') s m h k = k
  behind_same (CodeStmtKind-F.Let ds) (Acting d) s m h k = absurd h
  behind_same (CodeStmtKind-F.Const ds exported) (Acting d) s m h k = absurd h
  behind_same (CodeStmtKind-F.Export ds) (Acting d) s m h k = absurd h
  behind_same (CodeStmtKind-F.Function x exported target n) (Acting d) s m h k = absurd h
  behind_same (CodeStmtKind-F.React r) (Acting d) s m h k = absurd h
  behind_same _ (Acting d) s m h k = k
  behind_same _ _ s m h k = absurd h

-- ---- scripts

module _ (p : Program) (owner : ℕ) (props : List (ℕ × Val)) where
  abbrev DeclSame : CodeDecl → Declared → Type 0
  DeclSame = DeclAlike [] [] (world_ground p) (calls p) owner

  declare_same : (d : CodeDecl) (d' : Declared) (v : Val) → DeclSame d d' → declare owner d v ≡ declare_top owner d' v
  declare_same d d' v h =
      ap (λ s. declared_with owner v s d.target d.name) (h.store refl) ∙ ap (λ x. declared_with owner v d'.store x d.name) (h.target refl) ∙ ap (λ n. declared_with owner v d'.store d'.target n) h.name

  declared_same : (d : CodeDecl) (d' : Declared) → DeclSame d d' → Alike (In []) (top_declared p owner props d) (declared_top owner props d')
  declared_same d d' h =
      then_alike (subst (λ x. Alike (In []) (prop_value (given_for props d.target) (value_or (valued (world_ground p) (calls p) owner d.first))) (prop_value (given_for props x) (value_or d'.first))) (h.target refl)
      (prop_alike (given_for props d.target) (value_or_alike [] (valued (world_ground p) (calls p) owner d.first) d'.first h.first)))
      (λ v. subst (λ f. Alike (In []) (doing (λ w'. then_do (declare owner d v w') (λ u. Ends Next))) (doing (λ w'. then_do (f w') (λ u. Ends Next)))) (declare_same d d' v h) (doing_alike (λ w'. then_do (declare owner d v w') (λ u. Ends Next))))

  decls_same : (ds : List CodeDecl) (ds' : List Declared) → Beside DeclSame ds ds' → Alike (In []) (in_order (map (top_declared p owner props) ds)) (in_order (map (declared_top owner props) ds'))
  decls_same ds ds' h = in_order_alike [] (map (top_declared p owner props) ds) (map (declared_top owner props) ds') (beside_map DeclSame (Alike (In [])) (top_declared p owner props) (declared_top owner props) declared_same ds ds' h)

  counted_same : (s : CodeStmt) (l : Line) (ds : List CodeDecl) (ds' : List Declared) → s.span ≡ l.span → Beside DeclSame ds ds' → Alike (In []) (top_or p owner props (Some ds) s) (top_form owner props (Declaring ds') l)
  counted_same s l ds ds' e h =
      subst (λ z. Alike (In []) (top_or p owner props (Some ds) s) (counted z (in_order (map (declared_top owner props) ds')))) e (counted_alike s.span (decls_same ds ds' h))

  top_same : (k : CodeStmtKind-F CodeStmtKind CodeArm CodeStmt) (f : Form) (s : CodeStmt) (l : Line) → SaysAlike [] [] (world_ground p) (calls p) owner k f → s.span ≡ l.span → Alike (In []) (run (world_ground p) (calls p) owner s) (runs l)
      → Alike (In []) (top_or p owner props (declarations k) s) (top_form owner props f l)
  top_same (CodeStmtKind-F.Let ds) (Declaring ds') s l h e k = counted_same s l ds ds' e h
  top_same (CodeStmtKind-F.Const ds exported) (Declaring ds') s l h e k = counted_same s l ds ds' e h
  top_same (CodeStmtKind-F.Export ds) (Declaring ds') s l h e k = counted_same s l ds ds' e h
  top_same (CodeStmtKind-F.Function x exported target n) (Naming target' n') s l h e k = k
  top_same (CodeStmtKind-F.React r) (Reacting m) s l h e k = k
  top_same (CodeStmtKind-F.Let ds) (Acting d) s l h e k = absurd h
  top_same (CodeStmtKind-F.Const ds exported) (Acting d) s l h e k = absurd h
  top_same (CodeStmtKind-F.Export ds) (Acting d) s l h e k = absurd h
  top_same (CodeStmtKind-F.Function x exported target n) (Acting d) s l h e k = absurd h
  top_same (CodeStmtKind-F.React r) (Acting d) s l h e k = absurd h
  top_same _ (Acting d) s l h e k = k
  top_same _ _ s l h e k = absurd h

module _ (all : List Function) (p : Program) (owner : ℕ) (is : p.functions ≡ all) where
  -- what is told of statements, where scripts run
  abbrev pub told_lines : Caller → List (Acts Line) → List Line
  told_lines call ls = map (λ l. l (world_ground p) call owner) ls

  line_same : (props : List (ℕ × Val)) (s : CodeStmt) (l : Acts Line) → LineAlike all [] [] s l → Alike (In []) (top p owner props s) (top_line owner props (l (world_ground p) (calls p) owner))
  line_same props s l h =
      top_same p owner props (out-CodeStmtKind s.kind) (l (world_ground p) (calls p) owner).form s (l (world_ground p) (calls p) owner) (h.says (world_ground p) (calls p) owner is) (h.span (world_ground p) (calls p) owner is) (h.runs (world_ground p) (calls p) owner is)

  lines_same : (props : List (ℕ × Val)) (stmts : List CodeStmt) (ls : List (Acts Line)) → Beside (LineAlike all [] []) stmts ls
      → Beside (Alike (In [])) (map (top p owner props) stmts) (map (top_line owner props) (told_lines (calls p) ls))
  lines_same props [] [] h = tt
  lines_same props (s ∷ stmts) (l ∷ ls) h = (line_same props s l h.0, lines_same props stmts ls h.1)
  lines_same props [] (l ∷ ls) h = absurd h
  lines_same props (s ∷ stmts) [] h = absurd h

  pub script_same : (props : List (ℕ × Val)) (stmts : List CodeStmt) (ls : List (Acts Line)) → Beside (LineAlike all [] []) stmts ls → (w : World) → code.script p owner props stmts w ≡ script.script owner props (told_lines (calls p) ls) w
  script_same props stmts ls h w =
      ap (λ o. then_do (left o) (λ f. Ends tt)) (same_at [] _ _ (in_order_alike [] (map (top p owner props) stmts) (map (top_line owner props) (told_lines (calls p) ls)) (lines_same props stmts ls h)) [] w refl)

  pub sets_same : (stmts : List CodeStmt) (ls : List (Acts Line)) → Beside (LineAlike all [] []) stmts ls → (w : World) → functions_set owner stmts w ≡ forms_set owner (told_lines (calls p) ls) w
  sets_same [] [] h w = refl
  sets_same (s ∷ stmts) (l ∷ ls) h w =
      let line : Line = l (world_ground p) (calls p) owner in
      ap (functions_set owner stmts) (set_same (world_ground p) (calls p) owner s.span (out-CodeStmtKind s.kind) line.form w (h.0.says (world_ground p) (calls p) owner is) ∙ ap (λ z. form_set owner z line.form w) (h.0.span (world_ground p) (calls p) owner is))
      ∙ sets_same stmts ls h.1 (form_set owner line.span line.form w)
  sets_same [] (l ∷ ls) h w = absurd h
  sets_same (s ∷ stmts) [] h w = absurd h

  -- each statement, behind the mark of a reactive one
  pub behind_all_same : (stmts : List CodeStmt) (ls : List (Acts Line)) → Beside (LineAlike all [] []) stmts ls → map (code_reacts p owner) stmts ≡ map reacts (told_lines (calls p) ls)
  behind_all_same [] [] h = refl
  behind_all_same (s ∷ stmts) (l ∷ ls) h =
      let line : Line = l (world_ground p) (calls p) owner in
      ap₂ (λ m ms. m ∷ ms) (fun_ext (λ w. same_at [] _ _ (behind_same (world_ground p) (calls p) owner (out-CodeStmtKind s.kind) line.form s (runs line) (h.0.says (world_ground p) (calls p) owner is) (h.0.runs (world_ground p) (calls p) owner is)) [] w refl)) (behind_all_same stmts ls h.1)
  behind_all_same [] (l ∷ ls) h = absurd h
  behind_all_same (s ∷ stmts) [] h = absurd h
