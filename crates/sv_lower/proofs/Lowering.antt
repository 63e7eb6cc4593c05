-- The code of a tree names what is there, where what names stand for at the top of its file does: an induction over trees, a line a form.
use Rattle.std.proofs.Common.{◌≡◌, ℕ, ◌+◌, ◌<◌, Bool, true, false, List, [], ◌∷◌, ◌++◌, Option, None, Some, length, map, option_map, refl, sym, subst, arith, append-nil, length-append, ◌∙◌}
use Rattle.std.specs.List.{All}
use Rattle.std.specs.Prelude.{if◌then◌else◌}
use Rattle.std.specs.Option.{option_to_list}
use Rattle.std.proofs.lemmas.List.Elements.{All-nil, All-cons, All-append, All-head, All-tail}
use Rattle.sv_ast.specs.declared.names.Named.{Named}
use Rattle.sv_ast.specs.declared.names.Ref.{Ref}
use Rattle.sv_ast.specs.declared.names.Ref.TheVariants.{Plain, Store}
use Rattle.sv_ast.specs.declared.script_tree.Body.{Body, Body-F, roll-Body, map-Body, fold-roll-Body}
use Rattle.sv_ast.specs.declared.script_tree.Entry.{Entry, Entry-F, roll-Entry, map-Entry, fold-roll-Entry}
use Rattle.sv_ast.specs.declared.script_tree.ExprKind.{ExprKind, ExprKind-F, roll-ExprKind, map-ExprKind, fold-roll-ExprKind}
use Rattle.sv_ast.specs.declared.script_tree.Field.{Field, Field-F, roll-Field, map-Field, fold-roll-Field}
use Rattle.sv_ast.specs.declared.script_tree.StmtKind.{StmtKind, StmtKind-F, roll-StmtKind, map-StmtKind, fold-roll-StmtKind}
use Rattle.sv_ast.specs.declared.script_tree.Arm.{Arm, Arm-F, roll-Arm, map-Arm, fold-roll-Arm}
use Rattle.sv_ast.specs.declared.script_tree.Decl.{Decl, Decl-F, roll-Decl, map-Decl, fold-roll-Decl}
use Rattle.sv_ast.specs.declared.script_tree.Expr.{Expr, Expr-F, roll-Expr, map-Expr, fold-roll-Expr, ind-Expr}
use Rattle.sv_ast.specs.declared.script_tree.Link.{Link, Link-F, roll-Link, map-Link, fold-roll-Link}
use Rattle.sv_ast.specs.declared.script_tree.Stmt.{Stmt, Stmt-F, roll-Stmt, map-Stmt, fold-roll-Stmt, ind-Stmt}
use Rattle.sv_base.specs.declared.span.Span.{Span}
use Rattle.sv_code.proofs.Compiled.{all_mono}
use Rattle.sv_code.specs.declared.code.Code.{Code as CodeT, fold-roll-Code}
use Rattle.sv_code.specs.declared.code.CodeField
use Rattle.sv_code.specs.declared.code.CodeField.{CodeField as CodeFieldT, CodeField-F, fold-roll-CodeField}
use Rattle.sv_code.specs.declared.code.CodeField.TheVariants as field_code
use Rattle.sv_code.specs.declared.code.CodeItem
use Rattle.sv_code.specs.declared.code.CodeItem.{CodeItem as CodeItemT, CodeItem-F, fold-roll-CodeItem}
use Rattle.sv_code.specs.declared.code.CodeItem.TheVariants as item_code
use Rattle.sv_code.specs.declared.code.CodeKind
use Rattle.sv_code.specs.declared.code.CodeKind.{CodeKind as CodeKindT, CodeKind-F, fold-roll-CodeKind, out-CodeKind}
use Rattle.sv_code.specs.declared.code.CodeKind.TheVariants as code
use Rattle.sv_code.specs.declared.code.CodeLink.{fold-roll-CodeLink}
use Rattle.sv_code.specs.declared.functions.CodeArm.{CodeArm as CodeArmT, fold-roll-CodeArm}
use Rattle.sv_code.specs.declared.functions.CodeStmt.{CodeStmt as CodeStmtT, fold-roll-CodeStmt}
use Rattle.sv_code.specs.declared.functions.CodeStmtKind
use Rattle.sv_code.specs.declared.functions.CodeStmtKind.{CodeStmtKind as CodeStmtKindT, CodeStmtKind-F, fold-roll-CodeStmtKind}
use Rattle.sv_code.specs.declared.functions.CodeStmtKind.TheVariants as stmt_code
use Rattle.sv_code.specs.declared.functions.Function.{Function}
use Rattle.sv_code.specs.declared.functions.FunctionBody.{FunctionBody}
use Rattle.sv_code.specs.declared.functions.FunctionBody.TheVariants as body_code
use Rattle.sv_code.specs.declared.functions.TheConstants.{WRITABLE}
use Rattle.sv_code.specs.declared.known.Known.{Known}
use Rattle.sv_code.specs.declared.known.Known.TheVariants as known_form
use Rattle.sv_code.specs.Numbers as numbers
use Rattle.sv_code.specs.Numbers.{Number, OfFunction, OfCell, Size, Counts, size_at, functions_alone, IsThere, joined}
use Rattle.sv_lower.specs.Does.{just, of_one, of_two, each, given, within}
use Rattle.sv_lower.specs.Lower.{Made, Lowers, all, perhaps, trees, known, placed, store_of, put, function, numbered, dispatcher, called, call, reads_dispatcher, for_code, of_expr, of_stmt, of_stmts, BodyMade, EntryMade, KindMade, FieldMade, StmtKindMade, ArmMade, DeclMade, ExprMade, LinkMade, StmtMade, body, entry, expr_kind, field, stmt_kind, arm, decl, expr, link, stmt, body_made, entry_made, kind_made, field_made, stmt_kind_made, arm_made, decl_made, expr_made, link_made, stmt_made, kind_code, entry_code, field_code_of, link_code, expr_code, function_body, decl_code, arm_code, stmt_kind_code, stmt_code_of}
use Rattle.sv_lower.specs.Places.{place, width}
use Rattle.sv_lower.specs.Tops.{Tops, known_in, known_or, known_at, property}
use Rattle.sv_lower.proofs.Keeping.{AtLeast, AreSomewhere, AreClosed, Kept, Keeps, counted_alone, still_there, somewhere_still, just_keeps, one_by, one_keeps, two_keeps, followed_keeps, each_keeps, three_keeps, four_keeps}
use Rattle.sv_names.specs.Distinct.{has, same_ref}
use Rattle.sv_names.specs.Locals.{name_of}
use Rattle.sv_names.specs.Uses.{Parts, named, together, scope_of, head_of, body_parts, stmt_parts}

abbrev Ns : Type 0
Ns = List Number

-- what a name stands for is there in a file, in which functions stand from `writable` on
abbrev pub KnownThere : List Size → ℕ → Known → Type 0
KnownThere sizes file k = (n : ℕ) → WRITABLE < n → All (IsThere (functions_alone sizes (size_at sizes file) n)) (numbers.of_known k)

-- so is all that stands at the top of the file
abbrev pub TopsThere : List Size → ℕ → Tops → Type 0
TopsThere sizes file tops = All (λ k. KnownThere sizes file k.1) tops.known

-- ---- the forms of code whose parts may be absent

if_numbers : (a : List CodeArmT) (b : Option CodeStmtT) → numbers.of_stmt_kind (stmt_code.If a b) ≡ joined (map numbers.of_arm a) ++ numbers.given (option_map numbers.of_stmt b)
unfolding CodeStmtKind.roll-CodeStmtKind denote.Hole.Carrier.roll
if_numbers a None = fold-roll-CodeStmtKind Ns Ns Ns numbers.stmt_kind numbers.arm numbers.stmt (CodeStmtKind-F.If a None)
if_numbers a (Some b) = fold-roll-CodeStmtKind Ns Ns Ns numbers.stmt_kind numbers.arm numbers.stmt (CodeStmtKind-F.If a (Some b))

for_numbers : (names : _) (a : Option CodeStmtT) (b c : Option CodeT) (d : CodeStmtT) → numbers.of_stmt_kind (stmt_code.For names a b c d)
    ≡ numbers.given (option_map numbers.of_stmt a) ++ (numbers.given (option_map numbers.of_code b) ++ (numbers.given (option_map numbers.of_code c) ++ numbers.of_stmt d))
unfolding CodeStmtKind.roll-CodeStmtKind denote.Hole.Carrier.roll
for_numbers names None b c d = fold-roll-CodeStmtKind Ns Ns Ns numbers.stmt_kind numbers.arm numbers.stmt (CodeStmtKind-F.For names None b c d)
for_numbers names (Some a) b c d = fold-roll-CodeStmtKind Ns Ns Ns numbers.stmt_kind numbers.arm numbers.stmt (CodeStmtKind-F.For names (Some a) b c d)

module _ (sizes : List Size) (file : ℕ) (tops : Tops) (tops_there : TopsThere sizes file tops) where
  abbrev Counted : List Function → Counts
  Counted = counted_alone sizes file

  abbrev Closed : List Function → Type 0
  Closed = AreClosed sizes

  -- what is made of a part names what is there, inside whatever scopes
  abbrev KeepsIn : {A : Type 0} → (A → Ns) → List Ref → Lowers A → Type 0
  KeepsIn of locals make = Keeps Counted Closed tops locals of make

  -- ---- names

  found_there : (ks : List (Ref × Known)) (name : Ref) → All (λ k. KnownThere sizes file k.1) ks → KnownThere sizes file (known_or (known_in ks name) name)
  found_there [] name h = λ n writable. All-nil (IsThere (functions_alone sizes (size_at sizes file) n))
  found_there (k ∷ ks) name h = by (same_ref name k.0) (All-head (λ k. KnownThere sizes file k.1) k ks h) (found_there ks name (All-tail (λ k. KnownThere sizes file k.1) k ks h))
    where
      by : (b : Bool) → KnownThere sizes file k.1 → KnownThere sizes file (known_or (known_in ks name) name) → KnownThere sizes file (known_or (if b then Some k.1 else known_in ks name) name)
      by true own rest = own
      by false own rest = rest

  name_there : (locals : List Ref) (name : Ref) → KnownThere sizes file (known_at tops locals name)
  name_there locals name = by (has name locals)
    where
      by : (b : Bool) → KnownThere sizes file (if b then known_form.Local (name_of name) else known_or (known_in tops.known name) name)
      by true = λ n writable. All-nil (IsThere (functions_alone sizes (size_at sizes file) n))
      by false = found_there tops.known name tops_there

  known_keeps : (locals : List Ref) (name : Ref) → KeepsIn numbers.of_known locals (known name)
  known_keeps locals name before sound =
      record { more = record { functions = omega arith; tags = omega arith; handlers = omega arith; sizes = refl; home = refl }; there = name_there locals name (length before) sound.writable; sound = sound }

  abbrev no_numbers : Span → Ns
  no_numbers at = []

  placed_keeps : (locals : List Ref) (at_end : Bool) (name : Ref) (span : Span) → KeepsIn no_numbers locals (placed at_end name span)
  placed_keeps locals at_end name span = just_keeps Counted Closed tops locals no_numbers (place at_end (width tops.names name) span) refl

  -- ---- functions

  longer : (xs : List Function) (x : Function) → length (xs ++ x ∷ []) ≡ length xs + 1
  longer xs x = length-append xs (x ∷ [])

  one_more : (xs : List Function) (x : Function) → AtLeast (Counted xs) (Counted (xs ++ x ∷ []))
  one_more xs x = let e = longer xs x in record { functions = omega (arith, e); tags = omega arith; handlers = omega arith; sizes = refl; home = refl }

  put_closed : (f : Function) (before : List Function) → Closed before → All (IsThere (Counted before)) (numbers.of_function f) → Closed (before ++ f ∷ [])
  put_closed f before sound there =
      let after = before ++ f ∷ [] in
      let e = longer before f in
      let w = sound.writable in
      let P = λ (g : Function). AreSomewhere (counted_alone sizes 0 after) (numbers.of_function g) in
      let more : AtLeast (counted_alone sizes 0 before) (counted_alone sizes 0 after) = record { functions = omega (arith, e); tags = omega arith; handlers = omega arith; sizes = refl; home = refl } in
      let own : P f = record { file = file; there = still_there (Counted before) (Counted after) (one_more before f) (numbers.of_function f) there } in
      record {
        writable = omega (arith, e, w);
        closed = All-append P before (f ∷ [])
            (all_mono (λ g. AreSomewhere (counted_alone sizes 0 before) (numbers.of_function g)) P (λ g h. somewhere_still (counted_alone sizes 0 before) (counted_alone sizes 0 after) more (numbers.of_function g) h) before sound.closed)
            (All-cons P f [] own (All-nil P));
      }

  number_there : (f : Function) (before : List Function) → All (IsThere (Counted (before ++ f ∷ []))) (OfFunction (length before) ∷ [])
  number_there f before =
      let e = longer before f in
      let lt : length before < length (before ++ f ∷ []) = omega (arith, e) in
      All-cons (IsThere (Counted (before ++ f ∷ []))) (OfFunction (length before)) [] lt (All-nil (IsThere (Counted (before ++ f ∷ []))))

  put_keeps : (f : Function) (before : List Function) → Closed before → All (IsThere (Counted before)) (numbers.of_function f) → Kept Counted Closed (λ n. OfFunction n ∷ []) before (put f before)
  put_keeps f before sound there = record { more = one_more before f; there = number_there f before; sound = put_closed f before sound there }

  numbered_keeps : (locals : List Ref) (span : Span) (params : List Named) (parts : Parts) (body : Lowers FunctionBody) → ((l : List Ref) → KeepsIn numbers.of_body l body) → KeepsIn (λ n. OfFunction n ∷ []) locals (numbered span params parts body)
  numbered_keeps locals span params parts body k =
      followed_keeps Counted Closed tops locals numbers.of_body (λ n. OfFunction n ∷ []) (within (scope_of params parts) body) (λ made. put (function span params parts locals made))
      (λ s sound a there. put_keeps (function span params parts locals a) s sound there) (k (scope_of params parts ++ locals))

  -- ---- calls

  abbrev of_pair : CodeT × List CodeT → Ns
  of_pair c = numbers.of_code c.0 ++ joined (map numbers.of_code c.1)

  tail_all : (P : Number → Type 0) (xs ys : Ns) → All P (xs ++ ys) → All P ys
  tail_all P [] ys h = h
  tail_all P (x ∷ xs) ys h = tail_all P xs ys (All-tail P x (xs ++ ys) h)

  called_by : (b : Bool) (span : Span) (c : CodeT × List CodeT) (s : List Function) → Closed s → All (IsThere (Counted s)) (of_pair c)
      → Kept Counted Closed numbers.of_kind s (if b then (code.Dispatcher (length s) c.0.span c.1, s ++ dispatcher span ∷ []) else (code.Call c.0 c.1, s))
  unfolding CodeKind.roll-CodeKind denote.Hole.Carrier.roll
  called_by true span c s sound there =
      let d = dispatcher span in
      let after = s ++ d ∷ [] in
      let args = joined (map numbers.of_code c.1) in
      record {
        more = one_more s d;
        there = subst (All (IsThere (Counted after))) (sym (fold-roll-CodeKind Ns Ns Ns Ns Ns numbers.field numbers.item numbers.kind numbers.code numbers.link (CodeKind-F.Dispatcher (length s) c.0.span c.1)))
            (All-append (IsThere (Counted after)) args (OfFunction (length s) ∷ [])
            (still_there (Counted s) (Counted after) (one_more s d) args (tail_all (IsThere (Counted s)) (numbers.of_code c.0) args there)) (number_there d s));
        sound = put_closed d s sound (All-nil (IsThere (Counted s)));
      }
  called_by false span c s sound there =
      record {
        more = record { functions = omega arith; tags = omega arith; handlers = omega arith; sizes = refl; home = refl };
        there = subst (All (IsThere (Counted s))) (sym (fold-roll-CodeKind Ns Ns Ns Ns Ns numbers.field numbers.item numbers.kind numbers.code numbers.link (CodeKind-F.Call c.0 c.1))) there;
        sound = sound;
      }

  call_keeps : (locals : List Ref) (span : Span) (of : Lowers CodeT) (args : Lowers (List CodeT)) → KeepsIn numbers.of_code locals of → KeepsIn (λ ys. joined (map numbers.of_code ys)) locals args → KeepsIn numbers.of_kind locals (call span of args)
  call_keeps locals span of args k l =
      followed_keeps Counted Closed tops locals of_pair numbers.of_kind (of_two (λ c list. (c, list)) of args) (called span)
      (λ s sound c there. called_by (reads_dispatcher (out-CodeKind c.0.kind)) span c s sound there)
      (two_keeps Counted Closed tops locals numbers.of_code (λ ys. joined (map numbers.of_code ys)) of_pair (λ c list. (c, list)) of args (λ a b. refl) k l)

  -- ---- declared names

  store_there : (P : Number → Type 0) (t v : Known) → All P (numbers.of_known v) → All P (map OfCell (option_to_list (store_of t v)))
  store_there P (known_form.Local name0) v h = All-nil P
  store_there P (known_form.Cell n0) (known_form.Local name1) h = All-nil P
  store_there P (known_form.Cell n0) (known_form.Cell n1) h = h
  store_there P (known_form.Cell n0) (known_form.Constant n1) h = All-nil P
  store_there P (known_form.Cell n0) (known_form.Export f1 n1) h = All-nil P
  store_there P (known_form.Cell n0) (known_form.Life l1) h = All-nil P
  store_there P (known_form.Cell n0) known_form.Writable h = All-nil P
  store_there P (known_form.Cell n0) known_form.Derived h = All-nil P
  store_there P (known_form.Cell n0) (known_form.BuiltIn g1) h = All-nil P
  store_there P (known_form.Constant n0) (known_form.Local name1) h = All-nil P
  store_there P (known_form.Constant n0) (known_form.Cell n1) h = h
  store_there P (known_form.Constant n0) (known_form.Constant n1) h = All-nil P
  store_there P (known_form.Constant n0) (known_form.Export f1 n1) h = All-nil P
  store_there P (known_form.Constant n0) (known_form.Life l1) h = All-nil P
  store_there P (known_form.Constant n0) known_form.Writable h = All-nil P
  store_there P (known_form.Constant n0) known_form.Derived h = All-nil P
  store_there P (known_form.Constant n0) (known_form.BuiltIn g1) h = All-nil P
  store_there P (known_form.Export f0 n0) v h = All-nil P
  store_there P (known_form.Life l0) v h = All-nil P
  store_there P known_form.Writable v h = All-nil P
  store_there P known_form.Derived v h = All-nil P
  store_there P (known_form.BuiltIn g0) v h = All-nil P

  -- ---- trees, with what is known of the code of each

  abbrev BodyKeeps : Body → Type 0
  BodyKeeps x = (locals : List Ref) → KeepsIn numbers.of_body locals (body_made x).makes

  abbrev KnownBody : Type 0
  KnownBody = (x : Body) × BodyKeeps x

  abbrev EntryKeeps : Entry → Type 0
  EntryKeeps x = (locals : List Ref) → KeepsIn numbers.of_item locals (entry_made x).makes

  abbrev KnownEntry : Type 0
  KnownEntry = (x : Entry) × EntryKeeps x

  abbrev ExprKindKeeps : ExprKind → Type 0
  ExprKindKeeps x = (span : Span) (locals : List Ref) → KeepsIn numbers.of_kind locals ((kind_made x).makes span)

  abbrev KnownExprKind : Type 0
  KnownExprKind = (x : ExprKind) × ExprKindKeeps x

  abbrev FieldKeeps : Field → Type 0
  FieldKeeps x = (locals : List Ref) → KeepsIn numbers.of_field locals (field_made x).makes

  abbrev KnownField : Type 0
  KnownField = (x : Field) × FieldKeeps x

  abbrev StmtKindKeeps : StmtKind → Type 0
  StmtKindKeeps x = (span : Span) (locals : List Ref) → KeepsIn numbers.of_stmt_kind locals ((stmt_kind_made x).makes span)

  abbrev KnownStmtKind : Type 0
  KnownStmtKind = (x : StmtKind) × StmtKindKeeps x

  abbrev ArmKeeps : Arm → Type 0
  ArmKeeps x = (locals : List Ref) → KeepsIn numbers.of_arm locals (arm_made x).makes

  abbrev KnownArm : Type 0
  KnownArm = (x : Arm) × ArmKeeps x

  abbrev DeclKeeps : Decl → Type 0
  DeclKeeps x = (locals : List Ref) → KeepsIn numbers.of_decl locals (decl_made x).makes

  abbrev KnownDecl : Type 0
  KnownDecl = (x : Decl) × DeclKeeps x

  abbrev ExprKeeps : Expr → Type 0
  ExprKeeps x = (locals : List Ref) → KeepsIn numbers.of_code locals (expr_made x).makes

  abbrev KnownExpr : Type 0
  KnownExpr = (x : Expr) × ExprKeeps x

  abbrev LinkKeeps : Link → Type 0
  LinkKeeps x = (locals : List Ref) → KeepsIn numbers.of_link locals (link_made x).makes

  abbrev KnownLink : Type 0
  KnownLink = (x : Link) × LinkKeeps x

  abbrev StmtKeeps : Stmt → Type 0
  StmtKeeps x = (locals : List Ref) → KeepsIn numbers.of_stmt locals (stmt_made x).makes

  abbrev KnownStmt : Type 0
  KnownStmt = (x : Stmt) × StmtKeeps x

  abbrev bare_body : Body-F KnownBody KnownEntry KnownExprKind KnownField KnownStmtKind KnownArm KnownDecl KnownExpr KnownLink KnownStmt → Body-F Body Entry ExprKind Field StmtKind Arm Decl Expr Link Stmt
  bare_body = map-Body KnownBody KnownEntry KnownExprKind KnownField KnownStmtKind KnownArm KnownDecl KnownExpr KnownLink KnownStmt Body Entry ExprKind Field StmtKind Arm Decl Expr Link Stmt (λ p. p.0) (λ p. p.0) (λ p. p.0) (λ p. p.0) (λ p. p.0) (λ p. p.0) (λ p. p.0) (λ p. p.0) (λ p. p.0) (λ p. p.0)

  abbrev done_body : Body-F KnownBody KnownEntry KnownExprKind KnownField KnownStmtKind KnownArm KnownDecl KnownExpr KnownLink KnownStmt → Body-F BodyMade EntryMade KindMade FieldMade StmtKindMade ArmMade DeclMade ExprMade LinkMade StmtMade
  done_body y = map-Body Body Entry ExprKind Field StmtKind Arm Decl Expr Link Stmt BodyMade EntryMade KindMade FieldMade StmtKindMade ArmMade DeclMade ExprMade LinkMade StmtMade body_made entry_made kind_made field_made stmt_kind_made arm_made decl_made expr_made link_made stmt_made (bare_body y)

  abbrev bare_entry : Entry-F KnownBody KnownEntry KnownExprKind KnownField KnownStmtKind KnownArm KnownDecl KnownExpr KnownLink KnownStmt → Entry-F Body Entry ExprKind Field StmtKind Arm Decl Expr Link Stmt
  bare_entry = map-Entry KnownBody KnownEntry KnownExprKind KnownField KnownStmtKind KnownArm KnownDecl KnownExpr KnownLink KnownStmt Body Entry ExprKind Field StmtKind Arm Decl Expr Link Stmt (λ p. p.0) (λ p. p.0) (λ p. p.0) (λ p. p.0) (λ p. p.0) (λ p. p.0) (λ p. p.0) (λ p. p.0) (λ p. p.0) (λ p. p.0)

  abbrev done_entry : Entry-F KnownBody KnownEntry KnownExprKind KnownField KnownStmtKind KnownArm KnownDecl KnownExpr KnownLink KnownStmt → Entry-F BodyMade EntryMade KindMade FieldMade StmtKindMade ArmMade DeclMade ExprMade LinkMade StmtMade
  done_entry y = map-Entry Body Entry ExprKind Field StmtKind Arm Decl Expr Link Stmt BodyMade EntryMade KindMade FieldMade StmtKindMade ArmMade DeclMade ExprMade LinkMade StmtMade body_made entry_made kind_made field_made stmt_kind_made arm_made decl_made expr_made link_made stmt_made (bare_entry y)

  abbrev bare_expr_kind : ExprKind-F KnownBody KnownEntry KnownExprKind KnownField KnownStmtKind KnownArm KnownDecl KnownExpr KnownLink KnownStmt → ExprKind-F Body Entry ExprKind Field StmtKind Arm Decl Expr Link Stmt
  bare_expr_kind = map-ExprKind KnownBody KnownEntry KnownExprKind KnownField KnownStmtKind KnownArm KnownDecl KnownExpr KnownLink KnownStmt Body Entry ExprKind Field StmtKind Arm Decl Expr Link Stmt (λ p. p.0) (λ p. p.0) (λ p. p.0) (λ p. p.0) (λ p. p.0) (λ p. p.0) (λ p. p.0) (λ p. p.0) (λ p. p.0) (λ p. p.0)

  abbrev done_expr_kind : ExprKind-F KnownBody KnownEntry KnownExprKind KnownField KnownStmtKind KnownArm KnownDecl KnownExpr KnownLink KnownStmt → ExprKind-F BodyMade EntryMade KindMade FieldMade StmtKindMade ArmMade DeclMade ExprMade LinkMade StmtMade
  done_expr_kind y = map-ExprKind Body Entry ExprKind Field StmtKind Arm Decl Expr Link Stmt BodyMade EntryMade KindMade FieldMade StmtKindMade ArmMade DeclMade ExprMade LinkMade StmtMade body_made entry_made kind_made field_made stmt_kind_made arm_made decl_made expr_made link_made stmt_made (bare_expr_kind y)

  abbrev bare_field : Field-F KnownBody KnownEntry KnownExprKind KnownField KnownStmtKind KnownArm KnownDecl KnownExpr KnownLink KnownStmt → Field-F Body Entry ExprKind Field StmtKind Arm Decl Expr Link Stmt
  bare_field = map-Field KnownBody KnownEntry KnownExprKind KnownField KnownStmtKind KnownArm KnownDecl KnownExpr KnownLink KnownStmt Body Entry ExprKind Field StmtKind Arm Decl Expr Link Stmt (λ p. p.0) (λ p. p.0) (λ p. p.0) (λ p. p.0) (λ p. p.0) (λ p. p.0) (λ p. p.0) (λ p. p.0) (λ p. p.0) (λ p. p.0)

  abbrev done_field : Field-F KnownBody KnownEntry KnownExprKind KnownField KnownStmtKind KnownArm KnownDecl KnownExpr KnownLink KnownStmt → Field-F BodyMade EntryMade KindMade FieldMade StmtKindMade ArmMade DeclMade ExprMade LinkMade StmtMade
  done_field y = map-Field Body Entry ExprKind Field StmtKind Arm Decl Expr Link Stmt BodyMade EntryMade KindMade FieldMade StmtKindMade ArmMade DeclMade ExprMade LinkMade StmtMade body_made entry_made kind_made field_made stmt_kind_made arm_made decl_made expr_made link_made stmt_made (bare_field y)

  abbrev bare_stmt_kind : StmtKind-F KnownBody KnownEntry KnownExprKind KnownField KnownStmtKind KnownArm KnownDecl KnownExpr KnownLink KnownStmt → StmtKind-F Body Entry ExprKind Field StmtKind Arm Decl Expr Link Stmt
  bare_stmt_kind = map-StmtKind KnownBody KnownEntry KnownExprKind KnownField KnownStmtKind KnownArm KnownDecl KnownExpr KnownLink KnownStmt Body Entry ExprKind Field StmtKind Arm Decl Expr Link Stmt (λ p. p.0) (λ p. p.0) (λ p. p.0) (λ p. p.0) (λ p. p.0) (λ p. p.0) (λ p. p.0) (λ p. p.0) (λ p. p.0) (λ p. p.0)

  abbrev done_stmt_kind : StmtKind-F KnownBody KnownEntry KnownExprKind KnownField KnownStmtKind KnownArm KnownDecl KnownExpr KnownLink KnownStmt → StmtKind-F BodyMade EntryMade KindMade FieldMade StmtKindMade ArmMade DeclMade ExprMade LinkMade StmtMade
  done_stmt_kind y = map-StmtKind Body Entry ExprKind Field StmtKind Arm Decl Expr Link Stmt BodyMade EntryMade KindMade FieldMade StmtKindMade ArmMade DeclMade ExprMade LinkMade StmtMade body_made entry_made kind_made field_made stmt_kind_made arm_made decl_made expr_made link_made stmt_made (bare_stmt_kind y)

  abbrev bare_arm : Arm-F KnownBody KnownEntry KnownExprKind KnownField KnownStmtKind KnownArm KnownDecl KnownExpr KnownLink KnownStmt → Arm-F Body Entry ExprKind Field StmtKind Arm Decl Expr Link Stmt
  bare_arm = map-Arm KnownBody KnownEntry KnownExprKind KnownField KnownStmtKind KnownArm KnownDecl KnownExpr KnownLink KnownStmt Body Entry ExprKind Field StmtKind Arm Decl Expr Link Stmt (λ p. p.0) (λ p. p.0) (λ p. p.0) (λ p. p.0) (λ p. p.0) (λ p. p.0) (λ p. p.0) (λ p. p.0) (λ p. p.0) (λ p. p.0)

  abbrev done_arm : Arm-F KnownBody KnownEntry KnownExprKind KnownField KnownStmtKind KnownArm KnownDecl KnownExpr KnownLink KnownStmt → Arm-F BodyMade EntryMade KindMade FieldMade StmtKindMade ArmMade DeclMade ExprMade LinkMade StmtMade
  done_arm y = map-Arm Body Entry ExprKind Field StmtKind Arm Decl Expr Link Stmt BodyMade EntryMade KindMade FieldMade StmtKindMade ArmMade DeclMade ExprMade LinkMade StmtMade body_made entry_made kind_made field_made stmt_kind_made arm_made decl_made expr_made link_made stmt_made (bare_arm y)

  abbrev bare_decl : Decl-F KnownBody KnownEntry KnownExprKind KnownField KnownStmtKind KnownArm KnownDecl KnownExpr KnownLink KnownStmt → Decl-F Body Entry ExprKind Field StmtKind Arm Decl Expr Link Stmt
  bare_decl = map-Decl KnownBody KnownEntry KnownExprKind KnownField KnownStmtKind KnownArm KnownDecl KnownExpr KnownLink KnownStmt Body Entry ExprKind Field StmtKind Arm Decl Expr Link Stmt (λ p. p.0) (λ p. p.0) (λ p. p.0) (λ p. p.0) (λ p. p.0) (λ p. p.0) (λ p. p.0) (λ p. p.0) (λ p. p.0) (λ p. p.0)

  abbrev done_decl : Decl-F KnownBody KnownEntry KnownExprKind KnownField KnownStmtKind KnownArm KnownDecl KnownExpr KnownLink KnownStmt → Decl-F BodyMade EntryMade KindMade FieldMade StmtKindMade ArmMade DeclMade ExprMade LinkMade StmtMade
  done_decl y = map-Decl Body Entry ExprKind Field StmtKind Arm Decl Expr Link Stmt BodyMade EntryMade KindMade FieldMade StmtKindMade ArmMade DeclMade ExprMade LinkMade StmtMade body_made entry_made kind_made field_made stmt_kind_made arm_made decl_made expr_made link_made stmt_made (bare_decl y)

  abbrev bare_expr : Expr-F KnownBody KnownEntry KnownExprKind KnownField KnownStmtKind KnownArm KnownDecl KnownExpr KnownLink KnownStmt → Expr-F Body Entry ExprKind Field StmtKind Arm Decl Expr Link Stmt
  bare_expr = map-Expr KnownBody KnownEntry KnownExprKind KnownField KnownStmtKind KnownArm KnownDecl KnownExpr KnownLink KnownStmt Body Entry ExprKind Field StmtKind Arm Decl Expr Link Stmt (λ p. p.0) (λ p. p.0) (λ p. p.0) (λ p. p.0) (λ p. p.0) (λ p. p.0) (λ p. p.0) (λ p. p.0) (λ p. p.0) (λ p. p.0)

  abbrev done_expr : Expr-F KnownBody KnownEntry KnownExprKind KnownField KnownStmtKind KnownArm KnownDecl KnownExpr KnownLink KnownStmt → Expr-F BodyMade EntryMade KindMade FieldMade StmtKindMade ArmMade DeclMade ExprMade LinkMade StmtMade
  done_expr y = map-Expr Body Entry ExprKind Field StmtKind Arm Decl Expr Link Stmt BodyMade EntryMade KindMade FieldMade StmtKindMade ArmMade DeclMade ExprMade LinkMade StmtMade body_made entry_made kind_made field_made stmt_kind_made arm_made decl_made expr_made link_made stmt_made (bare_expr y)

  abbrev bare_link : Link-F KnownBody KnownEntry KnownExprKind KnownField KnownStmtKind KnownArm KnownDecl KnownExpr KnownLink KnownStmt → Link-F Body Entry ExprKind Field StmtKind Arm Decl Expr Link Stmt
  bare_link = map-Link KnownBody KnownEntry KnownExprKind KnownField KnownStmtKind KnownArm KnownDecl KnownExpr KnownLink KnownStmt Body Entry ExprKind Field StmtKind Arm Decl Expr Link Stmt (λ p. p.0) (λ p. p.0) (λ p. p.0) (λ p. p.0) (λ p. p.0) (λ p. p.0) (λ p. p.0) (λ p. p.0) (λ p. p.0) (λ p. p.0)

  abbrev done_link : Link-F KnownBody KnownEntry KnownExprKind KnownField KnownStmtKind KnownArm KnownDecl KnownExpr KnownLink KnownStmt → Link-F BodyMade EntryMade KindMade FieldMade StmtKindMade ArmMade DeclMade ExprMade LinkMade StmtMade
  done_link y = map-Link Body Entry ExprKind Field StmtKind Arm Decl Expr Link Stmt BodyMade EntryMade KindMade FieldMade StmtKindMade ArmMade DeclMade ExprMade LinkMade StmtMade body_made entry_made kind_made field_made stmt_kind_made arm_made decl_made expr_made link_made stmt_made (bare_link y)

  abbrev bare_stmt : Stmt-F KnownBody KnownEntry KnownExprKind KnownField KnownStmtKind KnownArm KnownDecl KnownExpr KnownLink KnownStmt → Stmt-F Body Entry ExprKind Field StmtKind Arm Decl Expr Link Stmt
  bare_stmt = map-Stmt KnownBody KnownEntry KnownExprKind KnownField KnownStmtKind KnownArm KnownDecl KnownExpr KnownLink KnownStmt Body Entry ExprKind Field StmtKind Arm Decl Expr Link Stmt (λ p. p.0) (λ p. p.0) (λ p. p.0) (λ p. p.0) (λ p. p.0) (λ p. p.0) (λ p. p.0) (λ p. p.0) (λ p. p.0) (λ p. p.0)

  abbrev done_stmt : Stmt-F KnownBody KnownEntry KnownExprKind KnownField KnownStmtKind KnownArm KnownDecl KnownExpr KnownLink KnownStmt → Stmt-F BodyMade EntryMade KindMade FieldMade StmtKindMade ArmMade DeclMade ExprMade LinkMade StmtMade
  done_stmt y = map-Stmt Body Entry ExprKind Field StmtKind Arm Decl Expr Link Stmt BodyMade EntryMade KindMade FieldMade StmtKindMade ArmMade DeclMade ExprMade LinkMade StmtMade body_made entry_made kind_made field_made stmt_kind_made arm_made decl_made expr_made link_made stmt_made (bare_stmt y)

  parts_keep : {T A : Type 0} (of : A → Ns) (made : T → Made T (Lowers A)) (locals : List Ref) (xs : List ((x : T) × ((l : List Ref) → KeepsIn of l (made x).makes)))
      → All (KeepsIn of locals) (all (map made (map (λ p. p.0) xs)))
  parts_keep of made locals [] = All-nil (KeepsIn of locals)
  parts_keep of made locals (x ∷ xs) = All-cons (KeepsIn of locals) (made x.0).makes (all (map made (map (λ p. p.0) xs))) (x.1 locals) (parts_keep of made locals xs)

  each_of : {T A : Type 0} (of : A → Ns) (made : T → Made T (Lowers A)) (locals : List Ref) (xs : List ((x : T) × ((l : List Ref) → KeepsIn of l (made x).makes)))
      → KeepsIn (λ ys. joined (map of ys)) locals (each (all (map made (map (λ p. p.0) xs))))
  each_of of made locals xs = each_keeps Counted Closed tops locals of (all (map made (map (λ p. p.0) xs))) (parts_keep of made locals xs)

  given_of : {T A : Type 0} (of : A → Ns) (made : T → Made T (Lowers A)) (locals : List Ref) (x : Option ((x : T) × ((l : List Ref) → KeepsIn of l (made x).makes)))
      → KeepsIn (λ y. numbers.given (option_map of y)) locals (given (perhaps (option_map made (option_map (λ p. p.0) x))))
  given_of of made locals None = just_keeps Counted Closed tops locals (λ y. numbers.given (option_map of y)) None refl
  given_of of made locals (Some x) = one_keeps Counted Closed tops locals of (λ y. numbers.given (option_map of y)) Some (made x.0).makes (λ y. refl) (x.1 locals)

  kind_keeps : (y : ExprKind-F KnownBody KnownEntry KnownExprKind KnownField KnownStmtKind KnownArm KnownDecl KnownExpr KnownLink KnownStmt) (span : Span) (locals : List Ref) → KeepsIn numbers.of_kind locals (kind_code (done_expr_kind y) span)
  unfolding CodeKind.roll-CodeKind denote.Hole.Carrier.roll
  kind_keeps ExprKind-F.Undefined span locals = just_keeps Counted Closed tops locals numbers.of_kind (code.Undefined) (fold-roll-CodeKind Ns Ns Ns Ns Ns numbers.field numbers.item numbers.kind numbers.code numbers.link (CodeKind-F.Undefined))
  kind_keeps ExprKind-F.Null span locals = just_keeps Counted Closed tops locals numbers.of_kind (code.Null) (fold-roll-CodeKind Ns Ns Ns Ns Ns numbers.field numbers.item numbers.kind numbers.code numbers.link (CodeKind-F.Null))
  kind_keeps (ExprKind-F.Bool value) span locals = just_keeps Counted Closed tops locals numbers.of_kind (code.Bool value) (fold-roll-CodeKind Ns Ns Ns Ns Ns numbers.field numbers.item numbers.kind numbers.code numbers.link (CodeKind-F.Bool value))
  kind_keeps (ExprKind-F.Num value) span locals = just_keeps Counted Closed tops locals numbers.of_kind (code.Num value) (fold-roll-CodeKind Ns Ns Ns Ns Ns numbers.field numbers.item numbers.kind numbers.code numbers.link (CodeKind-F.Num value))
  kind_keeps (ExprKind-F.Text value) span locals = just_keeps Counted Closed tops locals numbers.of_kind (code.Text value) (fold-roll-CodeKind Ns Ns Ns Ns Ns numbers.field numbers.item numbers.kind numbers.code numbers.link (CodeKind-F.Text value))
  kind_keeps (ExprKind-F.Read name) span locals = one_keeps Counted Closed tops locals numbers.of_known numbers.of_kind code.Read (known name) (λ a. fold-roll-CodeKind Ns Ns Ns Ns Ns numbers.field numbers.item numbers.kind numbers.code numbers.link (CodeKind-F.Read a)) (known_keeps locals name)
  kind_keeps (ExprKind-F.List items) span locals = one_keeps Counted Closed tops locals (λ ys. joined (map numbers.of_item ys)) numbers.of_kind code.List (each (all (map entry_made (map (λ p. p.0) items)))) (λ a. fold-roll-CodeKind Ns Ns Ns Ns Ns numbers.field numbers.item numbers.kind numbers.code numbers.link (CodeKind-F.List a)) (each_of numbers.of_item entry_made locals items)
  kind_keeps (ExprKind-F.Obj fields) span locals = one_keeps Counted Closed tops locals (λ ys. joined (map numbers.of_field ys)) numbers.of_kind code.Object (each (all (map field_made (map (λ p. p.0) fields)))) (λ a. fold-roll-CodeKind Ns Ns Ns Ns Ns numbers.field numbers.item numbers.kind numbers.code numbers.link (CodeKind-F.Object a)) (each_of numbers.of_field field_made locals fields)
  kind_keeps (ExprKind-F.Template parts) span locals = one_keeps Counted Closed tops locals (λ ys. joined (map numbers.of_code ys)) numbers.of_kind code.Template (each (all (map expr_made (map (λ p. p.0) parts)))) (λ a. fold-roll-CodeKind Ns Ns Ns Ns Ns numbers.field numbers.item numbers.kind numbers.code numbers.link (CodeKind-F.Template a)) (each_of numbers.of_code expr_made locals parts)
  kind_keeps (ExprKind-F.Arrow params body) span locals = one_keeps Counted Closed tops locals (λ n. OfFunction n ∷ []) numbers.of_kind code.Arrow (numbered span params (body_parts (body_made body.0).tree) (body_made body.0).makes) (λ a. fold-roll-CodeKind Ns Ns Ns Ns Ns numbers.field numbers.item numbers.kind numbers.code numbers.link (CodeKind-F.Arrow a)) (numbered_keeps locals span params (body_parts (body_made body.0).tree) (body_made body.0).makes body.1)
  kind_keeps (ExprKind-F.Assign target op value) span locals = three_keeps Counted Closed tops locals numbers.of_known no_numbers numbers.of_code numbers.of_kind (λ t at x. code.Assign t at op x) (known target) (placed false target span) (of_expr value.0) (λ a at b. fold-roll-CodeKind Ns Ns Ns Ns Ns numbers.field numbers.item numbers.kind numbers.code numbers.link (CodeKind-F.Assign a at op b)) (known_keeps locals target) (placed_keeps locals false target span) (value.1 locals)
  kind_keeps (ExprKind-F.Bump target up prefix) span locals = two_keeps Counted Closed tops locals numbers.of_known no_numbers numbers.of_kind (λ t at. code.Bump t at up prefix) (known target) (placed prefix target span) (λ a at. fold-roll-CodeKind Ns Ns Ns Ns Ns numbers.field numbers.item numbers.kind numbers.code numbers.link (CodeKind-F.Bump a at up prefix) ∙ sym (append-nil (numbers.of_known a))) (known_keeps locals target) (placed_keeps locals prefix target span)
  kind_keeps (ExprKind-F.Chain first rest) span locals = two_keeps Counted Closed tops locals numbers.of_code (λ ys. joined (map numbers.of_link ys)) numbers.of_kind code.Chain (of_expr first.0) (each (all (map link_made (map (λ p. p.0) rest)))) (λ a b. fold-roll-CodeKind Ns Ns Ns Ns Ns numbers.field numbers.item numbers.kind numbers.code numbers.link (CodeKind-F.Chain a b)) (first.1 locals) (each_of numbers.of_link link_made locals rest)
  kind_keeps (ExprKind-F.Not of) span locals = one_keeps Counted Closed tops locals numbers.of_code numbers.of_kind code.Not (of_expr of.0) (λ a. fold-roll-CodeKind Ns Ns Ns Ns Ns numbers.field numbers.item numbers.kind numbers.code numbers.link (CodeKind-F.Not a)) (of.1 locals)
  kind_keeps (ExprKind-F.Minus of) span locals = one_keeps Counted Closed tops locals numbers.of_code numbers.of_kind code.Minus (of_expr of.0) (λ a. fold-roll-CodeKind Ns Ns Ns Ns Ns numbers.field numbers.item numbers.kind numbers.code numbers.link (CodeKind-F.Minus a)) (of.1 locals)
  kind_keeps (ExprKind-F.Choose test first second) span locals = three_keeps Counted Closed tops locals numbers.of_code numbers.of_code numbers.of_code numbers.of_kind code.Choose (of_expr test.0) (of_expr first.0) (of_expr second.0) (λ a b c. fold-roll-CodeKind Ns Ns Ns Ns Ns numbers.field numbers.item numbers.kind numbers.code numbers.link (CodeKind-F.Choose a b c)) (test.1 locals) (first.1 locals) (second.1 locals)
  kind_keeps (ExprKind-F.Member of word) span locals = one_keeps Counted Closed tops locals numbers.of_code numbers.of_kind (λ x. code.Member x (property tops word)) (of_expr of.0) (λ a. fold-roll-CodeKind Ns Ns Ns Ns Ns numbers.field numbers.item numbers.kind numbers.code numbers.link (CodeKind-F.Member a (property tops word))) (of.1 locals)
  kind_keeps (ExprKind-F.Index of index) span locals = two_keeps Counted Closed tops locals numbers.of_code numbers.of_code numbers.of_kind code.Index (of_expr of.0) (of_expr index.0) (λ a b. fold-roll-CodeKind Ns Ns Ns Ns Ns numbers.field numbers.item numbers.kind numbers.code numbers.link (CodeKind-F.Index a b)) (of.1 locals) (index.1 locals)
  kind_keeps (ExprKind-F.Call of args) span locals = call_keeps locals span (of_expr of.0) (each (all (map expr_made (map (λ p. p.0) args)))) (of.1 locals) (each_of numbers.of_code expr_made locals args)

  entry_keeps : (y : Entry-F KnownBody KnownEntry KnownExprKind KnownField KnownStmtKind KnownArm KnownDecl KnownExpr KnownLink KnownStmt) (locals : List Ref) → KeepsIn numbers.of_item locals (entry_code (done_entry y))
  unfolding CodeItem.roll-CodeItem denote.Hole.Carrier.roll
  entry_keeps (Entry-F.One value) locals = one_keeps Counted Closed tops locals numbers.of_code numbers.of_item item_code.One (of_expr value.0) (λ a. fold-roll-CodeItem Ns Ns Ns Ns Ns numbers.field numbers.item numbers.kind numbers.code numbers.link (CodeItem-F.One a)) (value.1 locals)
  entry_keeps (Entry-F.«Entry::Spread» value) locals = one_keeps Counted Closed tops locals numbers.of_code numbers.of_item item_code.Spread (of_expr value.0) (λ a. fold-roll-CodeItem Ns Ns Ns Ns Ns numbers.field numbers.item numbers.kind numbers.code numbers.link (CodeItem-F.«CodeItem::Spread» a)) (value.1 locals)

  field_keeps : (y : Field-F KnownBody KnownEntry KnownExprKind KnownField KnownStmtKind KnownArm KnownDecl KnownExpr KnownLink KnownStmt) (locals : List Ref) → KeepsIn numbers.of_field locals (field_code_of (done_field y))
  unfolding CodeField.roll-CodeField denote.Hole.Carrier.roll
  field_keeps (Field-F.Pair key value) locals = one_keeps Counted Closed tops locals numbers.of_code numbers.of_field (field_code.Pair key) (of_expr value.0) (λ a. fold-roll-CodeField Ns Ns Ns Ns Ns numbers.field numbers.item numbers.kind numbers.code numbers.link (CodeField-F.Pair key a)) (value.1 locals)
  field_keeps (Field-F.«Field::Spread» value) locals = one_keeps Counted Closed tops locals numbers.of_code numbers.of_field field_code.Spread (of_expr value.0) (λ a. fold-roll-CodeField Ns Ns Ns Ns Ns numbers.field numbers.item numbers.kind numbers.code numbers.link (CodeField-F.«CodeField::Spread» a)) (value.1 locals)

  body_keeps : (y : Body-F KnownBody KnownEntry KnownExprKind KnownField KnownStmtKind KnownArm KnownDecl KnownExpr KnownLink KnownStmt) (locals : List Ref) → KeepsIn numbers.of_body locals (function_body (done_body y))
  body_keeps (Body-F.Value value) locals = one_keeps Counted Closed tops locals numbers.of_code numbers.of_body body_code.Value (of_expr value.0) (λ a. refl) (value.1 locals)
  body_keeps (Body-F.«Body::Block» stmts) locals = one_keeps Counted Closed tops locals (λ ys. joined (map numbers.of_stmt ys)) numbers.of_body body_code.Block (each (all (map stmt_made (map (λ p. p.0) stmts)))) (λ a. refl) (each_of numbers.of_stmt stmt_made locals stmts)

  -- the same numbers in a record of their own
  link_numbers : (op : _) (right : CodeT) → numbers.of_link (record { op = op; right = right }) ≡ numbers.of_code right
  link_numbers op right = fold-roll-CodeLink Ns Ns Ns Ns Ns numbers.field numbers.item numbers.kind numbers.code numbers.link (record { op = op; right = right })

  code_numbers : (span : Span) (kind : CodeKindT) → numbers.of_code (record { span = span; kind = kind }) ≡ numbers.of_kind kind
  code_numbers span kind = fold-roll-Code Ns Ns Ns Ns Ns numbers.field numbers.item numbers.kind numbers.code numbers.link (record { span = span; kind = kind })

  stmt_numbers : (span : Span) (kind : CodeStmtKindT) → numbers.of_stmt (record { span = span; kind = kind }) ≡ numbers.of_stmt_kind kind
  stmt_numbers span kind = fold-roll-CodeStmt Ns Ns Ns numbers.stmt_kind numbers.arm numbers.stmt (record { span = span; kind = kind })

  arm_numbers : (test : CodeT) (turn : CodeStmtT) → numbers.of_arm (record { test = test; body = turn }) ≡ numbers.of_code test ++ numbers.of_stmt turn
  arm_numbers test turn = fold-roll-CodeArm Ns Ns Ns numbers.stmt_kind numbers.arm numbers.stmt (record { test = test; body = turn })

  link_keeps : (y : Link-F KnownBody KnownEntry KnownExprKind KnownField KnownStmtKind KnownArm KnownDecl KnownExpr KnownLink KnownStmt) (locals : List Ref) → KeepsIn numbers.of_link locals (link_code (done_link y))
  link_keeps y locals = one_keeps Counted Closed tops locals numbers.of_code numbers.of_link (λ right. record { op = y.op; right = right }) (of_expr y.right.0) (λ a. link_numbers y.op a) (y.right.1 locals)

  expr_keeps : (y : Expr-F KnownBody KnownEntry KnownExprKind KnownField KnownStmtKind KnownArm KnownDecl KnownExpr KnownLink KnownStmt) (locals : List Ref) → KeepsIn numbers.of_code locals (expr_code (done_expr y))
  expr_keeps y locals = one_keeps Counted Closed tops locals numbers.of_kind numbers.of_code (λ kind. record { span = y.span; kind = kind }) ((kind_made y.kind.0).makes y.span) (λ a. code_numbers y.span a) (y.kind.1 y.span locals)

  stmt_keeps : (y : Stmt-F KnownBody KnownEntry KnownExprKind KnownField KnownStmtKind KnownArm KnownDecl KnownExpr KnownLink KnownStmt) (locals : List Ref) → KeepsIn numbers.of_stmt locals (stmt_code_of (done_stmt y))
  stmt_keeps y locals = one_keeps Counted Closed tops locals numbers.of_stmt_kind numbers.of_stmt (λ kind. record { span = y.span; kind = kind }) ((stmt_kind_made y.kind.0).makes y.span) (λ a. stmt_numbers y.span a) (y.kind.1 y.span locals)

  arm_keeps : (y : Arm-F KnownBody KnownEntry KnownExprKind KnownField KnownStmtKind KnownArm KnownDecl KnownExpr KnownLink KnownStmt) (locals : List Ref) → KeepsIn numbers.of_arm locals (arm_code (done_arm y))
  arm_keeps y locals = two_keeps Counted Closed tops locals numbers.of_code numbers.of_stmt numbers.of_arm (λ test turn. record { test = test; body = turn }) (of_expr y.test.0) (of_stmt y.body.0) (λ a b. arm_numbers a b) (y.test.1 locals) (y.body.1 locals)

  decl_with : (name : Named) (target value : Known) (locals : List Ref) (first : Lowers (Option CodeT)) → KnownThere sizes file target → KnownThere sizes file value → KeepsIn (λ y. numbers.given (option_map numbers.of_code y)) locals first
      → KeepsIn numbers.of_decl locals (of_one (λ x. record { name = name; target = target; store = store_of target value; first = x }) first)
  decl_with name target value locals first t v k =
      one_by Counted Closed tops locals (λ y. numbers.given (option_map numbers.of_code y)) numbers.of_decl (λ x. record { name = name; target = target; store = store_of target value; first = x }) first
      (λ s sound a h. All-append (IsThere (Counted s)) (numbers.of_known target) (map OfCell (option_to_list (store_of target value)) ++ numbers.given (option_map numbers.of_code a)) (t (length s) sound.writable)
      (All-append (IsThere (Counted s)) (map OfCell (option_to_list (store_of target value))) (numbers.given (option_map numbers.of_code a)) (store_there (IsThere (Counted s)) target value (v (length s) sound.writable)) h)) k

  abbrev known_decl : Named → Option KnownExpr → Decl-F KnownBody KnownEntry KnownExprKind KnownField KnownStmtKind KnownArm KnownDecl KnownExpr KnownLink KnownStmt
  known_decl name first = record { name = name; first = first }

  first_keeps : (name : Named) (first : Option KnownExpr) (locals : List Ref) → KeepsIn numbers.of_decl locals (decl_code (done_decl (known_decl name first)))
  first_keeps name None locals = decl_with name _ _ locals (just None) (name_there locals (Plain name.name)) (name_there locals (Store name.name)) (given_of numbers.of_code expr_made locals None)
  first_keeps name (Some x) locals = decl_with name _ _ locals (of_one Some (of_expr x.0)) (name_there locals (Plain name.name)) (name_there locals (Store name.name)) (given_of numbers.of_code expr_made locals (Some x))

  decl_keeps : (y : Decl-F KnownBody KnownEntry KnownExprKind KnownField KnownStmtKind KnownArm KnownDecl KnownExpr KnownLink KnownStmt) (locals : List Ref) → KeepsIn numbers.of_decl locals (decl_code (done_decl y))
  decl_keeps y locals = first_keeps y.name y.first locals

  func_keeps : (locals : List Ref) (name : Named) (exported : Bool) (number : Lowers ℕ) → KeepsIn (λ n. OfFunction n ∷ []) locals number → KeepsIn numbers.of_stmt_kind locals (of_two (stmt_code.Function name exported) (known (named name)) number)
  unfolding CodeStmtKind.roll-CodeStmtKind denote.Hole.Carrier.roll
  func_keeps locals name exported number k =
      two_keeps Counted Closed tops locals numbers.of_known (λ n. OfFunction n ∷ []) numbers.of_stmt_kind (stmt_code.Function name exported) (known (named name)) number (λ a b. fold-roll-CodeStmtKind Ns Ns Ns numbers.stmt_kind numbers.arm numbers.stmt (CodeStmtKind-F.Function name exported a b)) (known_keeps locals (named name)) k

  for_keeps : (locals names : List Ref) (first : Lowers (Option CodeStmtT)) (test next : Lowers (Option CodeT)) (turn : Lowers CodeStmtT)
      → KeepsIn (λ y. numbers.given (option_map numbers.of_stmt y)) (names ++ locals) first → KeepsIn (λ y. numbers.given (option_map numbers.of_code y)) (names ++ locals) test → KeepsIn (λ y. numbers.given (option_map numbers.of_code y)) (names ++ locals) next → KeepsIn numbers.of_stmt (names ++ locals) turn
      → KeepsIn numbers.of_stmt_kind locals (for_code names first test next turn)
  for_keeps locals names first test next turn a b c d =
      four_keeps Counted Closed tops (names ++ locals) (λ y. numbers.given (option_map numbers.of_stmt y)) (λ y. numbers.given (option_map numbers.of_code y)) (λ y. numbers.given (option_map numbers.of_code y)) numbers.of_stmt numbers.of_stmt_kind (stmt_code.For (map name_of names)) first test next turn (λ x y z w. for_numbers (map name_of names) x y z w) a b c d

  return_numbers : (value : Option CodeT) → numbers.of_stmt_kind (stmt_code.Return value) ≡ numbers.given (option_map numbers.of_code value)
  unfolding CodeStmtKind.roll-CodeStmtKind denote.Hole.Carrier.roll
  return_numbers value = fold-roll-CodeStmtKind Ns Ns Ns numbers.stmt_kind numbers.arm numbers.stmt (CodeStmtKind-F.Return value)

  stmt_kind_keeps : (y : StmtKind-F KnownBody KnownEntry KnownExprKind KnownField KnownStmtKind KnownArm KnownDecl KnownExpr KnownLink KnownStmt) (span : Span) (locals : List Ref) → KeepsIn numbers.of_stmt_kind locals (stmt_kind_code (done_stmt_kind y) span)
  unfolding CodeStmtKind.roll-CodeStmtKind denote.Hole.Carrier.roll
  stmt_kind_keeps StmtKind-F.Empty span locals = just_keeps Counted Closed tops locals numbers.of_stmt_kind (stmt_code.Empty) (fold-roll-CodeStmtKind Ns Ns Ns numbers.stmt_kind numbers.arm numbers.stmt (CodeStmtKind-F.Empty))
  stmt_kind_keeps (StmtKind-F.«StmtKind::Block» stmts) span locals = one_keeps Counted Closed tops locals (λ ys. joined (map numbers.of_stmt ys)) numbers.of_stmt_kind (stmt_code.Block (map name_of (scope_of [] (together (map stmt_parts (trees (map stmt_made (map (λ p. p.0) stmts)))))))) (within (scope_of [] (together (map stmt_parts (trees (map stmt_made (map (λ p. p.0) stmts)))))) (each (all (map stmt_made (map (λ p. p.0) stmts))))) (λ a. fold-roll-CodeStmtKind Ns Ns Ns numbers.stmt_kind numbers.arm numbers.stmt (CodeStmtKind-F.Block (map name_of (scope_of [] (together (map stmt_parts (trees (map stmt_made (map (λ p. p.0) stmts))))))) a)) (each_of numbers.of_stmt stmt_made ((scope_of [] (together (map stmt_parts (trees (map stmt_made (map (λ p. p.0) stmts)))))) ++ locals) stmts)
  stmt_kind_keeps (StmtKind-F.Let decls) span locals = one_keeps Counted Closed tops locals (λ ys. joined (map numbers.of_decl ys)) numbers.of_stmt_kind stmt_code.Let (each (all (map decl_made (map (λ p. p.0) decls)))) (λ a. fold-roll-CodeStmtKind Ns Ns Ns numbers.stmt_kind numbers.arm numbers.stmt (CodeStmtKind-F.Let a)) (each_of numbers.of_decl decl_made locals decls)
  stmt_kind_keeps (StmtKind-F.Const decls exported) span locals = one_keeps Counted Closed tops locals (λ ys. joined (map numbers.of_decl ys)) numbers.of_stmt_kind (λ list. stmt_code.Const list exported) (each (all (map decl_made (map (λ p. p.0) decls)))) (λ a. fold-roll-CodeStmtKind Ns Ns Ns numbers.stmt_kind numbers.arm numbers.stmt (CodeStmtKind-F.Const a exported)) (each_of numbers.of_decl decl_made locals decls)
  stmt_kind_keeps (StmtKind-F.If arms None) span locals = two_keeps Counted Closed tops locals (λ ys. joined (map numbers.of_arm ys)) (λ y. numbers.given (option_map numbers.of_stmt y)) numbers.of_stmt_kind stmt_code.If (each (all (map arm_made (map (λ p. p.0) arms)))) (just None) (λ a b. if_numbers a b) (each_of numbers.of_arm arm_made locals arms) (given_of numbers.of_stmt stmt_made locals None)
  stmt_kind_keeps (StmtKind-F.If arms (Some last)) span locals = two_keeps Counted Closed tops locals (λ ys. joined (map numbers.of_arm ys)) (λ y. numbers.given (option_map numbers.of_stmt y)) numbers.of_stmt_kind stmt_code.If (each (all (map arm_made (map (λ p. p.0) arms)))) (of_one Some (of_stmt last.0)) (λ a b. if_numbers a b) (each_of numbers.of_arm arm_made locals arms) (given_of numbers.of_stmt stmt_made locals (Some last))
  stmt_kind_keeps (StmtKind-F.While test turn) span locals = two_keeps Counted Closed tops locals numbers.of_code numbers.of_stmt numbers.of_stmt_kind stmt_code.While (of_expr test.0) (of_stmt turn.0) (λ a b. fold-roll-CodeStmtKind Ns Ns Ns numbers.stmt_kind numbers.arm numbers.stmt (CodeStmtKind-F.While a b)) (test.1 locals) (turn.1 locals)
  stmt_kind_keeps (StmtKind-F.For None None None turn) span locals = for_keeps locals (head_of None) (just None) (just None) (just None) (of_stmt turn.0) (given_of numbers.of_stmt stmt_made ((head_of None) ++ locals) None) (given_of numbers.of_code expr_made ((head_of None) ++ locals) None) (given_of numbers.of_code expr_made ((head_of None) ++ locals) None) (turn.1 ((head_of None) ++ locals))
  stmt_kind_keeps (StmtKind-F.For None None (Some next) turn) span locals = for_keeps locals (head_of None) (just None) (just None) (of_one Some (of_expr next.0)) (of_stmt turn.0) (given_of numbers.of_stmt stmt_made ((head_of None) ++ locals) None) (given_of numbers.of_code expr_made ((head_of None) ++ locals) None) (given_of numbers.of_code expr_made ((head_of None) ++ locals) (Some next)) (turn.1 ((head_of None) ++ locals))
  stmt_kind_keeps (StmtKind-F.For None (Some test) None turn) span locals = for_keeps locals (head_of None) (just None) (of_one Some (of_expr test.0)) (just None) (of_stmt turn.0) (given_of numbers.of_stmt stmt_made ((head_of None) ++ locals) None) (given_of numbers.of_code expr_made ((head_of None) ++ locals) (Some test)) (given_of numbers.of_code expr_made ((head_of None) ++ locals) None) (turn.1 ((head_of None) ++ locals))
  stmt_kind_keeps (StmtKind-F.For None (Some test) (Some next) turn) span locals = for_keeps locals (head_of None) (just None) (of_one Some (of_expr test.0)) (of_one Some (of_expr next.0)) (of_stmt turn.0) (given_of numbers.of_stmt stmt_made ((head_of None) ++ locals) None) (given_of numbers.of_code expr_made ((head_of None) ++ locals) (Some test)) (given_of numbers.of_code expr_made ((head_of None) ++ locals) (Some next)) (turn.1 ((head_of None) ++ locals))
  stmt_kind_keeps (StmtKind-F.For (Some first) None None turn) span locals = for_keeps locals (head_of (Some (stmt_made first.0).tree)) (of_one Some (of_stmt first.0)) (just None) (just None) (of_stmt turn.0) (given_of numbers.of_stmt stmt_made ((head_of (Some (stmt_made first.0).tree)) ++ locals) (Some first)) (given_of numbers.of_code expr_made ((head_of (Some (stmt_made first.0).tree)) ++ locals) None) (given_of numbers.of_code expr_made ((head_of (Some (stmt_made first.0).tree)) ++ locals) None) (turn.1 ((head_of (Some (stmt_made first.0).tree)) ++ locals))
  stmt_kind_keeps (StmtKind-F.For (Some first) None (Some next) turn) span locals = for_keeps locals (head_of (Some (stmt_made first.0).tree)) (of_one Some (of_stmt first.0)) (just None) (of_one Some (of_expr next.0)) (of_stmt turn.0) (given_of numbers.of_stmt stmt_made ((head_of (Some (stmt_made first.0).tree)) ++ locals) (Some first)) (given_of numbers.of_code expr_made ((head_of (Some (stmt_made first.0).tree)) ++ locals) None) (given_of numbers.of_code expr_made ((head_of (Some (stmt_made first.0).tree)) ++ locals) (Some next)) (turn.1 ((head_of (Some (stmt_made first.0).tree)) ++ locals))
  stmt_kind_keeps (StmtKind-F.For (Some first) (Some test) None turn) span locals = for_keeps locals (head_of (Some (stmt_made first.0).tree)) (of_one Some (of_stmt first.0)) (of_one Some (of_expr test.0)) (just None) (of_stmt turn.0) (given_of numbers.of_stmt stmt_made ((head_of (Some (stmt_made first.0).tree)) ++ locals) (Some first)) (given_of numbers.of_code expr_made ((head_of (Some (stmt_made first.0).tree)) ++ locals) (Some test)) (given_of numbers.of_code expr_made ((head_of (Some (stmt_made first.0).tree)) ++ locals) None) (turn.1 ((head_of (Some (stmt_made first.0).tree)) ++ locals))
  stmt_kind_keeps (StmtKind-F.For (Some first) (Some test) (Some next) turn) span locals = for_keeps locals (head_of (Some (stmt_made first.0).tree)) (of_one Some (of_stmt first.0)) (of_one Some (of_expr test.0)) (of_one Some (of_expr next.0)) (of_stmt turn.0) (given_of numbers.of_stmt stmt_made ((head_of (Some (stmt_made first.0).tree)) ++ locals) (Some first)) (given_of numbers.of_code expr_made ((head_of (Some (stmt_made first.0).tree)) ++ locals) (Some test)) (given_of numbers.of_code expr_made ((head_of (Some (stmt_made first.0).tree)) ++ locals) (Some next)) (turn.1 ((head_of (Some (stmt_made first.0).tree)) ++ locals))
  stmt_kind_keeps (StmtKind-F.Each name fixed list turn) span locals = two_keeps Counted Closed tops ((named name ∷ []) ++ locals) numbers.of_code numbers.of_stmt numbers.of_stmt_kind (stmt_code.Each name fixed) (of_expr list.0) (of_stmt turn.0) (λ a b. fold-roll-CodeStmtKind Ns Ns Ns numbers.stmt_kind numbers.arm numbers.stmt (CodeStmtKind-F.Each name fixed a b)) (list.1 ((named name ∷ []) ++ locals)) (turn.1 ((named name ∷ []) ++ locals))
  stmt_kind_keeps StmtKind-F.Break span locals = just_keeps Counted Closed tops locals numbers.of_stmt_kind (stmt_code.Break) (fold-roll-CodeStmtKind Ns Ns Ns numbers.stmt_kind numbers.arm numbers.stmt (CodeStmtKind-F.Break))
  stmt_kind_keeps StmtKind-F.Continue span locals = just_keeps Counted Closed tops locals numbers.of_stmt_kind (stmt_code.Continue) (fold-roll-CodeStmtKind Ns Ns Ns numbers.stmt_kind numbers.arm numbers.stmt (CodeStmtKind-F.Continue))
  stmt_kind_keeps (StmtKind-F.Return None) span locals = one_keeps Counted Closed tops locals (λ y. numbers.given (option_map numbers.of_code y)) numbers.of_stmt_kind stmt_code.Return (just None) (λ a. return_numbers a) (given_of numbers.of_code expr_made locals None)
  stmt_kind_keeps (StmtKind-F.Return (Some value)) span locals = one_keeps Counted Closed tops locals (λ y. numbers.given (option_map numbers.of_code y)) numbers.of_stmt_kind stmt_code.Return (of_one Some (of_expr value.0)) (λ a. return_numbers a) (given_of numbers.of_code expr_made locals (Some value))
  stmt_kind_keeps (StmtKind-F.Eval value) span locals = one_keeps Counted Closed tops locals numbers.of_code numbers.of_stmt_kind stmt_code.Eval (of_expr value.0) (λ a. fold-roll-CodeStmtKind Ns Ns Ns numbers.stmt_kind numbers.arm numbers.stmt (CodeStmtKind-F.Eval a)) (value.1 locals)
  stmt_kind_keeps (StmtKind-F.Import i) span locals = just_keeps Counted Closed tops locals numbers.of_stmt_kind (stmt_code.Import i) (fold-roll-CodeStmtKind Ns Ns Ns numbers.stmt_kind numbers.arm numbers.stmt (CodeStmtKind-F.Import i))
  stmt_kind_keeps (StmtKind-F.Export decls) span locals = one_keeps Counted Closed tops locals (λ ys. joined (map numbers.of_decl ys)) numbers.of_stmt_kind stmt_code.Export (each (all (map decl_made (map (λ p. p.0) decls)))) (λ a. fold-roll-CodeStmtKind Ns Ns Ns numbers.stmt_kind numbers.arm numbers.stmt (CodeStmtKind-F.Export a)) (each_of numbers.of_decl decl_made locals decls)
  stmt_kind_keeps (StmtKind-F.React of) span locals = one_keeps Counted Closed tops locals numbers.of_stmt numbers.of_stmt_kind stmt_code.React (of_stmt of.0) (λ a. fold-roll-CodeStmtKind Ns Ns Ns numbers.stmt_kind numbers.arm numbers.stmt (CodeStmtKind-F.React a)) (of.1 locals)
  stmt_kind_keeps (StmtKind-F.Func name exported params stmts) span locals = func_keeps locals name exported (numbered span params (together (map stmt_parts (trees (map stmt_made (map (λ p. p.0) stmts))))) (of_one body_code.Block (each (all (map stmt_made (map (λ p. p.0) stmts)))))) (numbered_keeps locals span params (together (map stmt_parts (trees (map stmt_made (map (λ p. p.0) stmts))))) (of_one body_code.Block (each (all (map stmt_made (map (λ p. p.0) stmts))))) (λ l. one_keeps Counted Closed tops l (λ ys. joined (map numbers.of_stmt ys)) numbers.of_body body_code.Block (each (all (map stmt_made (map (λ p. p.0) stmts)))) (λ a. refl) (each_of numbers.of_stmt stmt_made l stmts)))

  -- ---- whole trees

  body_step : (x : Body-F Body Entry ExprKind Field StmtKind Arm Decl Expr Link Stmt) (y : Body-F KnownBody KnownEntry KnownExprKind KnownField KnownStmtKind KnownArm KnownDecl KnownExpr KnownLink KnownStmt) → bare_body y ≡ x → BodyKeeps (roll-Body x)
  body_step x y e locals = subst (λ m. KeepsIn numbers.of_body locals (m.makes)) (sym (fold-roll-Body BodyMade EntryMade KindMade FieldMade StmtKindMade ArmMade DeclMade ExprMade LinkMade StmtMade body entry expr_kind field stmt_kind arm decl expr link stmt x)) (subst (λ z. KeepsIn numbers.of_body locals (function_body (map-Body Body Entry ExprKind Field StmtKind Arm Decl Expr Link Stmt BodyMade EntryMade KindMade FieldMade StmtKindMade ArmMade DeclMade ExprMade LinkMade StmtMade body_made entry_made kind_made field_made stmt_kind_made arm_made decl_made expr_made link_made stmt_made z))) e (body_keeps y locals))

  entry_step : (x : Entry-F Body Entry ExprKind Field StmtKind Arm Decl Expr Link Stmt) (y : Entry-F KnownBody KnownEntry KnownExprKind KnownField KnownStmtKind KnownArm KnownDecl KnownExpr KnownLink KnownStmt) → bare_entry y ≡ x → EntryKeeps (roll-Entry x)
  entry_step x y e locals = subst (λ m. KeepsIn numbers.of_item locals (m.makes)) (sym (fold-roll-Entry BodyMade EntryMade KindMade FieldMade StmtKindMade ArmMade DeclMade ExprMade LinkMade StmtMade body entry expr_kind field stmt_kind arm decl expr link stmt x)) (subst (λ z. KeepsIn numbers.of_item locals (entry_code (map-Entry Body Entry ExprKind Field StmtKind Arm Decl Expr Link Stmt BodyMade EntryMade KindMade FieldMade StmtKindMade ArmMade DeclMade ExprMade LinkMade StmtMade body_made entry_made kind_made field_made stmt_kind_made arm_made decl_made expr_made link_made stmt_made z))) e (entry_keeps y locals))

  expr_kind_step : (x : ExprKind-F Body Entry ExprKind Field StmtKind Arm Decl Expr Link Stmt) (y : ExprKind-F KnownBody KnownEntry KnownExprKind KnownField KnownStmtKind KnownArm KnownDecl KnownExpr KnownLink KnownStmt) → bare_expr_kind y ≡ x → ExprKindKeeps (roll-ExprKind x)
  expr_kind_step x y e span locals = subst (λ m. KeepsIn numbers.of_kind locals (m.makes span)) (sym (fold-roll-ExprKind BodyMade EntryMade KindMade FieldMade StmtKindMade ArmMade DeclMade ExprMade LinkMade StmtMade body entry expr_kind field stmt_kind arm decl expr link stmt x)) (subst (λ z. KeepsIn numbers.of_kind locals (kind_code (map-ExprKind Body Entry ExprKind Field StmtKind Arm Decl Expr Link Stmt BodyMade EntryMade KindMade FieldMade StmtKindMade ArmMade DeclMade ExprMade LinkMade StmtMade body_made entry_made kind_made field_made stmt_kind_made arm_made decl_made expr_made link_made stmt_made z) span)) e (kind_keeps y span locals))

  field_step : (x : Field-F Body Entry ExprKind Field StmtKind Arm Decl Expr Link Stmt) (y : Field-F KnownBody KnownEntry KnownExprKind KnownField KnownStmtKind KnownArm KnownDecl KnownExpr KnownLink KnownStmt) → bare_field y ≡ x → FieldKeeps (roll-Field x)
  field_step x y e locals = subst (λ m. KeepsIn numbers.of_field locals (m.makes)) (sym (fold-roll-Field BodyMade EntryMade KindMade FieldMade StmtKindMade ArmMade DeclMade ExprMade LinkMade StmtMade body entry expr_kind field stmt_kind arm decl expr link stmt x)) (subst (λ z. KeepsIn numbers.of_field locals (field_code_of (map-Field Body Entry ExprKind Field StmtKind Arm Decl Expr Link Stmt BodyMade EntryMade KindMade FieldMade StmtKindMade ArmMade DeclMade ExprMade LinkMade StmtMade body_made entry_made kind_made field_made stmt_kind_made arm_made decl_made expr_made link_made stmt_made z))) e (field_keeps y locals))

  stmt_kind_step : (x : StmtKind-F Body Entry ExprKind Field StmtKind Arm Decl Expr Link Stmt) (y : StmtKind-F KnownBody KnownEntry KnownExprKind KnownField KnownStmtKind KnownArm KnownDecl KnownExpr KnownLink KnownStmt) → bare_stmt_kind y ≡ x → StmtKindKeeps (roll-StmtKind x)
  stmt_kind_step x y e span locals = subst (λ m. KeepsIn numbers.of_stmt_kind locals (m.makes span)) (sym (fold-roll-StmtKind BodyMade EntryMade KindMade FieldMade StmtKindMade ArmMade DeclMade ExprMade LinkMade StmtMade body entry expr_kind field stmt_kind arm decl expr link stmt x)) (subst (λ z. KeepsIn numbers.of_stmt_kind locals (stmt_kind_code (map-StmtKind Body Entry ExprKind Field StmtKind Arm Decl Expr Link Stmt BodyMade EntryMade KindMade FieldMade StmtKindMade ArmMade DeclMade ExprMade LinkMade StmtMade body_made entry_made kind_made field_made stmt_kind_made arm_made decl_made expr_made link_made stmt_made z) span)) e (stmt_kind_keeps y span locals))

  arm_step : (x : Arm-F Body Entry ExprKind Field StmtKind Arm Decl Expr Link Stmt) (y : Arm-F KnownBody KnownEntry KnownExprKind KnownField KnownStmtKind KnownArm KnownDecl KnownExpr KnownLink KnownStmt) → bare_arm y ≡ x → ArmKeeps (roll-Arm x)
  arm_step x y e locals = subst (λ m. KeepsIn numbers.of_arm locals (m.makes)) (sym (fold-roll-Arm BodyMade EntryMade KindMade FieldMade StmtKindMade ArmMade DeclMade ExprMade LinkMade StmtMade body entry expr_kind field stmt_kind arm decl expr link stmt x)) (subst (λ z. KeepsIn numbers.of_arm locals (arm_code (map-Arm Body Entry ExprKind Field StmtKind Arm Decl Expr Link Stmt BodyMade EntryMade KindMade FieldMade StmtKindMade ArmMade DeclMade ExprMade LinkMade StmtMade body_made entry_made kind_made field_made stmt_kind_made arm_made decl_made expr_made link_made stmt_made z))) e (arm_keeps y locals))

  decl_step : (x : Decl-F Body Entry ExprKind Field StmtKind Arm Decl Expr Link Stmt) (y : Decl-F KnownBody KnownEntry KnownExprKind KnownField KnownStmtKind KnownArm KnownDecl KnownExpr KnownLink KnownStmt) → bare_decl y ≡ x → DeclKeeps (roll-Decl x)
  decl_step x y e locals = subst (λ m. KeepsIn numbers.of_decl locals (m.makes)) (sym (fold-roll-Decl BodyMade EntryMade KindMade FieldMade StmtKindMade ArmMade DeclMade ExprMade LinkMade StmtMade body entry expr_kind field stmt_kind arm decl expr link stmt x)) (subst (λ z. KeepsIn numbers.of_decl locals (decl_code (map-Decl Body Entry ExprKind Field StmtKind Arm Decl Expr Link Stmt BodyMade EntryMade KindMade FieldMade StmtKindMade ArmMade DeclMade ExprMade LinkMade StmtMade body_made entry_made kind_made field_made stmt_kind_made arm_made decl_made expr_made link_made stmt_made z))) e (decl_keeps y locals))

  expr_step : (x : Expr-F Body Entry ExprKind Field StmtKind Arm Decl Expr Link Stmt) (y : Expr-F KnownBody KnownEntry KnownExprKind KnownField KnownStmtKind KnownArm KnownDecl KnownExpr KnownLink KnownStmt) → bare_expr y ≡ x → ExprKeeps (roll-Expr x)
  expr_step x y e locals = subst (λ m. KeepsIn numbers.of_code locals (m.makes)) (sym (fold-roll-Expr BodyMade EntryMade KindMade FieldMade StmtKindMade ArmMade DeclMade ExprMade LinkMade StmtMade body entry expr_kind field stmt_kind arm decl expr link stmt x)) (subst (λ z. KeepsIn numbers.of_code locals (expr_code (map-Expr Body Entry ExprKind Field StmtKind Arm Decl Expr Link Stmt BodyMade EntryMade KindMade FieldMade StmtKindMade ArmMade DeclMade ExprMade LinkMade StmtMade body_made entry_made kind_made field_made stmt_kind_made arm_made decl_made expr_made link_made stmt_made z))) e (expr_keeps y locals))

  link_step : (x : Link-F Body Entry ExprKind Field StmtKind Arm Decl Expr Link Stmt) (y : Link-F KnownBody KnownEntry KnownExprKind KnownField KnownStmtKind KnownArm KnownDecl KnownExpr KnownLink KnownStmt) → bare_link y ≡ x → LinkKeeps (roll-Link x)
  link_step x y e locals = subst (λ m. KeepsIn numbers.of_link locals (m.makes)) (sym (fold-roll-Link BodyMade EntryMade KindMade FieldMade StmtKindMade ArmMade DeclMade ExprMade LinkMade StmtMade body entry expr_kind field stmt_kind arm decl expr link stmt x)) (subst (λ z. KeepsIn numbers.of_link locals (link_code (map-Link Body Entry ExprKind Field StmtKind Arm Decl Expr Link Stmt BodyMade EntryMade KindMade FieldMade StmtKindMade ArmMade DeclMade ExprMade LinkMade StmtMade body_made entry_made kind_made field_made stmt_kind_made arm_made decl_made expr_made link_made stmt_made z))) e (link_keeps y locals))

  stmt_step : (x : Stmt-F Body Entry ExprKind Field StmtKind Arm Decl Expr Link Stmt) (y : Stmt-F KnownBody KnownEntry KnownExprKind KnownField KnownStmtKind KnownArm KnownDecl KnownExpr KnownLink KnownStmt) → bare_stmt y ≡ x → StmtKeeps (roll-Stmt x)
  stmt_step x y e locals = subst (λ m. KeepsIn numbers.of_stmt locals (m.makes)) (sym (fold-roll-Stmt BodyMade EntryMade KindMade FieldMade StmtKindMade ArmMade DeclMade ExprMade LinkMade StmtMade body entry expr_kind field stmt_kind arm decl expr link stmt x)) (subst (λ z. KeepsIn numbers.of_stmt locals (stmt_code_of (map-Stmt Body Entry ExprKind Field StmtKind Arm Decl Expr Link Stmt BodyMade EntryMade KindMade FieldMade StmtKindMade ArmMade DeclMade ExprMade LinkMade StmtMade body_made entry_made kind_made field_made stmt_kind_made arm_made decl_made expr_made link_made stmt_made z))) e (stmt_keeps y locals))

  pub of_expr_keeps : (x : Expr) (locals : List Ref) → KeepsIn numbers.of_code locals (of_expr x)
  of_expr_keeps = ind-Expr BodyKeeps EntryKeeps ExprKindKeeps FieldKeeps StmtKindKeeps ArmKeeps DeclKeeps ExprKeeps LinkKeeps StmtKeeps body_step entry_step expr_kind_step field_step stmt_kind_step arm_step decl_step expr_step link_step stmt_step

  pub of_stmt_keeps : (x : Stmt) (locals : List Ref) → KeepsIn numbers.of_stmt locals (of_stmt x)
  of_stmt_keeps = ind-Stmt BodyKeeps EntryKeeps ExprKindKeeps FieldKeeps StmtKindKeeps ArmKeeps DeclKeeps ExprKeeps LinkKeeps StmtKeeps body_step entry_step expr_kind_step field_step stmt_kind_step arm_step decl_step expr_step link_step stmt_step

  pub of_stmts_keeps : (stmts : List Stmt) (locals : List Ref) → KeepsIn numbers.of_stmts locals (of_stmts stmts)
  of_stmts_keeps [] locals = just_keeps Counted Closed tops locals numbers.of_stmts [] refl
  of_stmts_keeps (s ∷ stmts) locals = two_keeps Counted Closed tops locals numbers.of_stmt numbers.of_stmts numbers.of_stmts (λ x xs. x ∷ xs) (of_stmt s) (of_stmts stmts) (λ x xs. refl) (of_stmt_keeps s locals) (of_stmts_keeps stmts locals)
