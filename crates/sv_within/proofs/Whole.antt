-- The code of an expression outside the arrows in it, with what those take along, reads nothing but what the names that stand free in it stand for.
use Rattle.std.proofs.Common.{◌≡◌, ℕ, Bool, true, false, List, [], ◌∷◌, ◌++◌, Some, length, map, filter, append_assoc, refl, sym, ap, subst, ◌∙◌, append-nil, slice_get}
use Rattle.std.specs.Prelude.{if◌then◌else◌}
use Rattle.sv_ast.specs.declared.names.Named.{Named}
use Rattle.sv_ast.specs.declared.names.Ref.{Ref}
use Rattle.sv_ast.specs.declared.script_tree.Body.{Body}
use Rattle.sv_ast.specs.declared.script_tree.Entry.{Entry, Entry-F, roll-Entry, map-Entry, fold-roll-Entry}
use Rattle.sv_ast.specs.declared.script_tree.ExprKind.{ExprKind, ExprKind-F, roll-ExprKind, map-ExprKind, fold-roll-ExprKind}
use Rattle.sv_ast.specs.declared.script_tree.Field.{Field, Field-F, roll-Field, map-Field, fold-roll-Field}
use Rattle.sv_ast.specs.declared.script_tree.StmtKind.{StmtKind}
use Rattle.sv_ast.specs.declared.script_tree.Arm.{Arm}
use Rattle.sv_ast.specs.declared.script_tree.Decl.{Decl}
use Rattle.sv_ast.specs.declared.script_tree.Expr.{Expr, Expr-F, roll-Expr, map-Expr, fold-roll-Expr, ind-Expr}
use Rattle.sv_ast.specs.declared.script_tree.Link.{Link, Link-F, roll-Link, map-Link, fold-roll-Link}
use Rattle.sv_ast.specs.declared.script_tree.Stmt.{Stmt}
use Rattle.sv_base.specs.declared.span.Span.{Span}
use Rattle.sv_code.specs.declared.code.Code.{Code as CodeT}
use Rattle.sv_code.specs.declared.code.CodeField
use Rattle.sv_code.specs.declared.code.CodeField.{CodeField as CodeFieldT, CodeField-F, fold-roll-CodeField}
use Rattle.sv_code.specs.declared.code.CodeField.TheVariants as field_code
use Rattle.sv_code.specs.declared.code.CodeItem
use Rattle.sv_code.specs.declared.code.CodeItem.{CodeItem as CodeItemT, CodeItem-F, fold-roll-CodeItem}
use Rattle.sv_code.specs.declared.code.CodeItem.TheVariants as item_code
use Rattle.sv_code.specs.declared.code.CodeKind
use Rattle.sv_code.specs.declared.code.CodeKind.{CodeKind as CodeKindT, CodeKind-F, fold-roll-CodeKind, out-CodeKind}
use Rattle.sv_code.specs.declared.code.CodeKind.TheVariants as code
use Rattle.sv_code.specs.declared.functions.Function.{Function}
use Rattle.sv_code.specs.declared.known.Known.{Known}
use Rattle.sv_code.specs.declared.known.Known.TheVariants as known_form
use Rattle.sv_code.specs.Names as names
use Rattle.sv_code.specs.Names.{Each, joined, taken_in}
use Rattle.sv_code.proofs.Each.{each_front, each_back, each_append, each_of as each_fact}
use Rattle.sv_lower.specs.Does.{just, of_one, of_two, of_three, each}
use Rattle.sv_lower.specs.Lower.{Made, Lowers, all, known, placed, function, numbered, dispatcher, call, reads_dispatcher, of_expr, BodyMade, EntryMade, KindMade, FieldMade, StmtKindMade, ArmMade, DeclMade, ExprMade, LinkMade, StmtMade, body, entry, expr_kind, field, stmt_kind, arm, decl, expr, link, stmt, body_made, entry_made, kind_made, field_made, expr_made, link_made, kind_code, entry_code, field_code_of, link_code, expr_code}
use Rattle.sv_lower.specs.Tops.{Tops, known_at, property}
use Rattle.sv_lower.proofs.Trees.{body_is}
use Rattle.sv_names.specs.Distinct.{has, with_name, with_names, firsts}
use Rattle.sv_names.specs.Locals.{name_of}
use Rattle.sv_names.specs.Uses as uses
use Rattle.sv_names.specs.Uses.{Found, Parts, used, inside, in_turn, together, optional, named, scope_of, head_of, free_in}
use Rattle.sv_names.specs.declared.uses.Use.{Use}
use Rattle.sv_within.proofs.Forms.{kind_is, item_is, field_is, link_names, code_names}
use Rattle.sv_within.proofs.Layers.{done_entry, uses_entry, done_expr_kind, uses_expr_kind, done_field, uses_field, done_expr, uses_expr, done_link, uses_link}
use Rattle.sv_within.proofs.Making.{Names, Kept}
use Rattle.sv_within.proofs.Reading.{body_claim}
use Rattle.sv_within.proofs.Scopes.{covers_nothing}

-- ---- what is made where the expression stands

pub record Stands (L : Known → Type 0) {A : Type 0} (ns : Names A) (before : List Function) (made : A × List Function) : Type 0 where
  pub added : List Function
  pub is : made.1 ≡ before ++ added
  pub code : (more : List Function) → Each L (ns (made.1 ++ more) made.0)

abbrev pub StandsIn : (L : Known → Type 0) → Tops → List Ref → {A : Type 0} → Names A → Lowers A → Type 0
StandsIn L tops locals ns make = (before : List Function) → Stands L ns before (make tops locals before)

module _ {L : Known → Type 0} (tops : Tops) (locals : List Ref) where
  just_stands : {A : Type 0} (ns : Names A) (x : A) → ((fs : List Function) → Each L (ns fs x)) → StandsIn L tops locals ns (just x)
  just_stands ns x h before = record { added = []; is = sym (append-nil before); code = λ more. h (before ++ more) }

  one_stands : {A B : Type 0} (na : Names A) (nb : Names B) (make : A → B) (one : Lowers A) → ((fs : List Function) (a : A) → nb fs (make a) ≡ na fs a) → StandsIn L tops locals na one → StandsIn L tops locals nb (of_one make one)
  one_stands na nb make one e k before =
      let first = k before in
      record { added = first.added; is = first.is; code = λ more. subst (Each L) (sym (e ((one tops locals before).1 ++ more) (one tops locals before).0)) (first.code more) }

  two_stands : {A B C : Type 0} (na : Names A) (nb : Names B) (nc : Names C) (make : A → B → C) (one : Lowers A) (two : Lowers B) → ((fs : List Function) (a : A) (b : B) → nc fs (make a b) ≡ na fs a ++ nb fs b)
      → StandsIn L tops locals na one → StandsIn L tops locals nb two → StandsIn L tops locals nc (of_two make one two)
  two_stands na nb nc make one two e k l before =
      let first = k before in
      let a = (one tops locals before).0 in
      let between = (one tops locals before).1 in
      let second = l between in
      let b = (two tops locals between).0 in
      let after = (two tops locals between).1 in
      record {
        added = first.added ++ second.added;
        is = second.is ∙ (ap (λ z. z ++ second.added) first.is ∙ append_assoc before first.added second.added);
        code = λ more. subst (Each L) (sym (e (after ++ more) a b)) (each_append L (na (after ++ more) a) (nb (after ++ more) b)
            (subst (λ z. Each L (na z a)) (sym (ap (λ z. z ++ more) second.is ∙ append_assoc between second.added more)) (first.code (second.added ++ more))) (second.code more));
      }

  three_stands : {A B C D : Type 0} (na : Names A) (nb : Names B) (nc : Names C) (nd : Names D) (make : A → B → C → D) (one : Lowers A) (two : Lowers B) (three : Lowers C)
      → ((fs : List Function) (a : A) (b : B) (c : C) → nd fs (make a b c) ≡ na fs a ++ (nb fs b ++ nc fs c))
      → StandsIn L tops locals na one → StandsIn L tops locals nb two → StandsIn L tops locals nc three → StandsIn L tops locals nd (of_three make one two three)
  three_stands {B = B} {C = C} na nb nc nd make one two three e k l m before =
      let first = k before in
      let a = (one tops locals before).0 in
      let between = (one tops locals before).1 in
      let pair : Names (B × C) = λ fs p. nb fs p.0 ++ nc fs p.1 in
      let rest = two_stands nb nc pair (λ b c. (b, c)) two three (λ fs b c. refl) l m between in
      let later = (two tops locals between).1 in
      let after = (three tops locals later).1 in
      record {
        added = first.added ++ rest.added;
        is = rest.is ∙ (ap (λ z. z ++ rest.added) first.is ∙ append_assoc before first.added rest.added);
        code = λ more. subst (Each L) (sym (e (after ++ more) a (two tops locals between).0 (three tops locals later).0)) (each_append L (na (after ++ more) a) _
            (subst (λ z. Each L (na z a)) (sym (ap (λ z. z ++ more) rest.is ∙ append_assoc between rest.added more)) (first.code (rest.added ++ more))) (rest.code more));
      }

-- the function behind some, where more stand behind it
function_behind : (xs zs : List Function) (f : Function) → slice_get ((xs ++ f ∷ []) ++ zs) (length xs) ≡ Some f
function_behind [] zs f = refl
function_behind (x ∷ xs) zs f = function_behind xs zs f

-- a fact of names that is one of the names of uses, and of those each once
each_names : (R : Ref → Type 0) (us : List Use) → Each (λ u. R u.name) us → Each R (map (λ u. u.name) us)
each_names R [] h = tt
each_names R (u ∷ us) h = (h.0, each_names R us h.1)

each_with_name : (R : Ref → Type 0) (ns : List Ref) (n : Ref) → Each R ns → R n → Each R (with_name ns n)
each_with_name R ns n h k = by (has n ns)
  where
    by : (b : Bool) → Each R (if b then ns else ns ++ n ∷ [])
    by true = h
    by false = each_append R ns (n ∷ []) h (k, tt)

each_with_names : (R : Ref → Type 0) (ns more : List Ref) → Each R ns → Each R more → Each R (with_names ns more)
each_with_names R ns [] h k = h
each_with_names R ns (n ∷ more) h k = each_with_names R (with_name ns n) more (each_with_name R ns n h k.0) k.1

each_firsts : (R : Ref → Type 0) (ns : List Ref) → Each R ns → Each R (firsts ns)
each_firsts R ns h = each_with_names R [] ns tt h

module _ (L : Known → Type 0) (tops : Tops) (R : Ref → Type 0) (outer : List Ref) (whole_fine : (n : Ref) → R n → L (known_at tops outer n)) (captured_fine : (n : Ref) → R n → has n outer ≡ true → L (known_form.Local (name_of n))) where
  abbrev RU : Use → Type 0
  RU u = R u.name

  abbrev StandsHere : {A : Type 0} → Names A → Lowers A → Type 0
  StandsHere ns make = StandsIn L tops outer ns make

  abbrev one_name : Names Known
  one_name fs k = k ∷ []

  abbrev no_place : Names Span
  no_place fs at = []

  placed_stands : (at_end : Bool) (name : Ref) (span : Span) → StandsHere no_place (placed at_end name span)
  placed_stands at_end name span before = record { added = []; is = sym (append-nil before); code = λ more. tt }

  abbrev number_names : Names ℕ
  number_names fs n = taken_in (slice_get fs n)

  -- where no scope is open, a use is free
  free_use : (u : Use) → Each RU (used u []) → R u.name
  free_use u h = h.0

  known_stands : (u : Use) → Each RU (used u []) → StandsHere one_name (known u.name)
  known_stands u h before = record { added = []; is = sym (append-nil before); code = λ more. (whole_fine u.name (free_use u h), tt) }

  -- ---- functions

  each_captured : (ns : List Ref) → Each R ns → Each L (map known_form.Local (map name_of (filter (λ n. has n outer) ns)))
  each_captured [] h = tt
  each_captured (n ∷ ns) h = by (has n outer) refl (each_captured ns h.1)
    where
      by : (b : Bool) → has n outer ≡ b → Each L (map known_form.Local (map name_of (filter (λ n. has n outer) ns))) → Each L (map known_form.Local (map name_of (if b then n ∷ filter (λ n. has n outer) ns else filter (λ n. has n outer) ns)))
      by true e rest = (captured_fine n h.0 e, rest)
      by false e rest = rest

  numbered_stands : (span : Span) (params : List Named) (b : Body) → Each RU (inside (map named params) (uses.body_parts b) []) → StandsHere number_names (numbered span params (uses.body_parts b) (body_made b).makes)
  numbered_stands span params b h before =
      let inner : List Ref = scope_of params (uses.body_parts b) ++ outer in
      let k : Kept (λ k. Unit {0}) names.of_body before ((body_made b).makes tops inner before) =
      body_claim (λ k. Unit {0}) tops (λ n. Unit {0}) [] (λ x. tt) (λ n r e. tt) b inner [] (covers_nothing inner) (each_fact (λ u. Unit {0}) (λ u. tt) ((uses.body_parts b).uses [])) before in
      let mid : List Function = ((body_made b).makes tops inner before).1 in
      let f : Function = function span params (uses.body_parts b) outer ((body_made b).makes tops inner before).0 in
      record {
        added = k.added ++ f ∷ [];
        is = ap (λ z. z ++ f ∷ []) k.is ∙ append_assoc before k.added (f ∷ []);
        code = λ more. subst (λ o. Each L (taken_in o)) (sym (function_behind mid more f))
            (each_captured (free_in params (uses.body_parts b)) (each_firsts R (map (λ u. u.name) (inside (map named params) (uses.body_parts b) [])) (each_names R (inside (map named params) (uses.body_parts b) []) h)));
      }

  arrow_stands : (span : Span) (params : List Named) (b : Body) → Each RU (inside (map named params) (uses.body_parts b) []) → StandsHere number_names (numbered span params (uses.body_parts (body_made b).tree) (body_made b).makes)
  arrow_stands span params b h = subst (λ t. StandsHere number_names (numbered span params (uses.body_parts t) (body_made b).makes)) (sym (body_is b)) (numbered_stands span params b h)

  -- ---- calls

  abbrev pair_names : Names (CodeT × List CodeT)
  pair_names fs c = names.of_code fs c.0 ++ joined (map (names.of_code fs) c.1)

  called_by : (b : Bool) (span : Span) (c : CodeT × List CodeT) (before s : List Function) (added : List Function) → s ≡ before ++ added → ((more : List Function) → Each L (pair_names (s ++ more) c))
      → Stands L names.of_kind before (if b then (code.Dispatcher (length s) c.0.span c.1, s ++ dispatcher span ∷ []) else (code.Call c.0 c.1, s))
  unfolding CodeKind.roll-CodeKind denote.Hole.Carrier.roll
  called_by true span c before s added is h = record {
    added = added ++ dispatcher span ∷ [];
    is = ap (λ z. z ++ dispatcher span ∷ []) is ∙ append_assoc before added (dispatcher span ∷ []);
    code = λ more. let fs : List Function = (s ++ dispatcher span ∷ []) ++ more in
        subst (Each L) (sym (kind_is fs (CodeKind-F.Dispatcher (length s) c.0.span c.1)))
        (subst (λ z. Each L (joined (map (names.of_code z) c.1))) (sym (append_assoc s (dispatcher span ∷ []) more)) (each_back L (names.of_code (s ++ (dispatcher span ∷ more)) c.0) (joined (map (names.of_code (s ++ (dispatcher span ∷ more))) c.1)) (h (dispatcher span ∷ more))));
  }
  called_by false span c before s added is h = record {
    added = added;
    is = is;
    code = λ more. let fs : List Function = s ++ more in subst (Each L) (sym (kind_is fs (CodeKind-F.Call c.0 c.1))) (h more);
  }

  call_stands : (span : Span) (of : Lowers CodeT) (args : Lowers (List CodeT)) → StandsHere names.of_code of → StandsHere (λ fs ys. joined (map (names.of_code fs) ys)) args → StandsHere names.of_kind (call span of args)
  call_stands span of args k l before =
      let pair : Stands L pair_names before (of_two {C = CodeT × List CodeT} (λ c list. (c, list)) of args tops outer before) = two_stands tops outer names.of_code (λ fs ys. joined (map (names.of_code fs) ys)) pair_names (λ c list. (c, list)) of args (λ fs a b. refl) k l before in
      let c : CodeT × List CodeT = (of_two {C = CodeT × List CodeT} (λ c list. (c, list)) of args tops outer before).0 in
      called_by (reads_dispatcher (out-CodeKind c.0.kind)) span c before (of_two {C = CodeT × List CodeT} (λ c list. (c, list)) of args tops outer before).1 pair.added pair.is pair.code

  -- ---- trees, with what is claimed of the code of each

  abbrev ClaimBody : Body → Type 0
  ClaimBody x = Unit {0}

  abbrev KnownBody : Type 0
  KnownBody = (x : Body) × ClaimBody x

  abbrev ClaimEntry : Entry → Type 0
  ClaimEntry x = Each RU (uses.entry_uses x []) → StandsHere names.of_item (entry_made x).makes

  abbrev KnownEntry : Type 0
  KnownEntry = (x : Entry) × ClaimEntry x

  abbrev ClaimExprKind : ExprKind → Type 0
  ClaimExprKind x = (span : Span) → Each RU (uses.kind_uses x []) → StandsHere names.of_kind ((kind_made x).makes span)

  abbrev KnownExprKind : Type 0
  KnownExprKind = (x : ExprKind) × ClaimExprKind x

  abbrev ClaimField : Field → Type 0
  ClaimField x = Each RU (uses.field_uses x []) → StandsHere names.of_field (field_made x).makes

  abbrev KnownField : Type 0
  KnownField = (x : Field) × ClaimField x

  abbrev ClaimStmtKind : StmtKind → Type 0
  ClaimStmtKind x = Unit {0}

  abbrev KnownStmtKind : Type 0
  KnownStmtKind = (x : StmtKind) × ClaimStmtKind x

  abbrev ClaimArm : Arm → Type 0
  ClaimArm x = Unit {0}

  abbrev KnownArm : Type 0
  KnownArm = (x : Arm) × ClaimArm x

  abbrev ClaimDecl : Decl → Type 0
  ClaimDecl x = Unit {0}

  abbrev KnownDecl : Type 0
  KnownDecl = (x : Decl) × ClaimDecl x

  abbrev ClaimExpr : Expr → Type 0
  ClaimExpr x = Each RU (uses.expr_uses x []) → StandsHere names.of_code (expr_made x).makes

  abbrev KnownExpr : Type 0
  KnownExpr = (x : Expr) × ClaimExpr x

  abbrev ClaimLink : Link → Type 0
  ClaimLink x = Each RU (uses.link_uses x []) → StandsHere names.of_link (link_made x).makes

  abbrev KnownLink : Type 0
  KnownLink = (x : Link) × ClaimLink x

  abbrev ClaimStmt : Stmt → Type 0
  ClaimStmt x = Unit {0}

  abbrev KnownStmt : Type 0
  KnownStmt = (x : Stmt) × ClaimStmt x

  abbrev bare_entry : Entry-F KnownBody KnownEntry KnownExprKind KnownField KnownStmtKind KnownArm KnownDecl KnownExpr KnownLink KnownStmt → Entry-F Body Entry ExprKind Field StmtKind Arm Decl Expr Link Stmt
  bare_entry = map-Entry KnownBody KnownEntry KnownExprKind KnownField KnownStmtKind KnownArm KnownDecl KnownExpr KnownLink KnownStmt Body Entry ExprKind Field StmtKind Arm Decl Expr Link Stmt (λ p. p.0) (λ p. p.0) (λ p. p.0) (λ p. p.0) (λ p. p.0) (λ p. p.0) (λ p. p.0) (λ p. p.0) (λ p. p.0) (λ p. p.0)

  abbrev bare_expr_kind : ExprKind-F KnownBody KnownEntry KnownExprKind KnownField KnownStmtKind KnownArm KnownDecl KnownExpr KnownLink KnownStmt → ExprKind-F Body Entry ExprKind Field StmtKind Arm Decl Expr Link Stmt
  bare_expr_kind = map-ExprKind KnownBody KnownEntry KnownExprKind KnownField KnownStmtKind KnownArm KnownDecl KnownExpr KnownLink KnownStmt Body Entry ExprKind Field StmtKind Arm Decl Expr Link Stmt (λ p. p.0) (λ p. p.0) (λ p. p.0) (λ p. p.0) (λ p. p.0) (λ p. p.0) (λ p. p.0) (λ p. p.0) (λ p. p.0) (λ p. p.0)

  abbrev bare_field : Field-F KnownBody KnownEntry KnownExprKind KnownField KnownStmtKind KnownArm KnownDecl KnownExpr KnownLink KnownStmt → Field-F Body Entry ExprKind Field StmtKind Arm Decl Expr Link Stmt
  bare_field = map-Field KnownBody KnownEntry KnownExprKind KnownField KnownStmtKind KnownArm KnownDecl KnownExpr KnownLink KnownStmt Body Entry ExprKind Field StmtKind Arm Decl Expr Link Stmt (λ p. p.0) (λ p. p.0) (λ p. p.0) (λ p. p.0) (λ p. p.0) (λ p. p.0) (λ p. p.0) (λ p. p.0) (λ p. p.0) (λ p. p.0)

  abbrev bare_expr : Expr-F KnownBody KnownEntry KnownExprKind KnownField KnownStmtKind KnownArm KnownDecl KnownExpr KnownLink KnownStmt → Expr-F Body Entry ExprKind Field StmtKind Arm Decl Expr Link Stmt
  bare_expr = map-Expr KnownBody KnownEntry KnownExprKind KnownField KnownStmtKind KnownArm KnownDecl KnownExpr KnownLink KnownStmt Body Entry ExprKind Field StmtKind Arm Decl Expr Link Stmt (λ p. p.0) (λ p. p.0) (λ p. p.0) (λ p. p.0) (λ p. p.0) (λ p. p.0) (λ p. p.0) (λ p. p.0) (λ p. p.0) (λ p. p.0)

  abbrev bare_link : Link-F KnownBody KnownEntry KnownExprKind KnownField KnownStmtKind KnownArm KnownDecl KnownExpr KnownLink KnownStmt → Link-F Body Entry ExprKind Field StmtKind Arm Decl Expr Link Stmt
  bare_link = map-Link KnownBody KnownEntry KnownExprKind KnownField KnownStmtKind KnownArm KnownDecl KnownExpr KnownLink KnownStmt Body Entry ExprKind Field StmtKind Arm Decl Expr Link Stmt (λ p. p.0) (λ p. p.0) (λ p. p.0) (λ p. p.0) (λ p. p.0) (λ p. p.0) (λ p. p.0) (λ p. p.0) (λ p. p.0) (λ p. p.0)

  abbrev ListClaim : {T A : Type 0} → Names A → (T → Made T (Lowers A)) → (T → Found) → T → Type 0
  ListClaim ns made found x = Each RU (found x []) → StandsHere ns (made x).makes

  each_of : {T A : Type 0} (ns : Names A) (made : T → Made T (Lowers A)) (found : T → Found) (xs : List ((x : T) × ListClaim ns made found x)) → Each RU (in_turn (map found (map (λ p. p.0) xs)) [])
      → StandsHere (λ fs ys. joined (map (ns fs) ys)) (each (all (map made (map (λ p. p.0) xs))))
  each_of ns made found [] h = just_stands tops outer (λ fs ys. joined (map (ns fs) ys)) [] (λ fs. tt)
  each_of ns made found (x ∷ xs) h =
      two_stands tops outer ns (λ fs ys. joined (map (ns fs) ys)) (λ fs ys. joined (map (ns fs) ys)) (λ y ys. y ∷ ys) (made x.0).makes (each (all (map made (map (λ p. p.0) xs)))) (λ fs a b. refl)
      (x.1 (each_front RU (found x.0 []) (in_turn (map found (map (λ p. p.0) xs)) []) h)) (each_of ns made found xs (each_back RU (found x.0 []) (in_turn (map found (map (λ p. p.0) xs)) []) h))

  -- ---- each form

  kind_stands : (y : ExprKind-F KnownBody KnownEntry KnownExprKind KnownField KnownStmtKind KnownArm KnownDecl KnownExpr KnownLink KnownStmt) (span : Span) → Each RU (uses.expr_kind (uses_expr_kind (bare_expr_kind y)) []) → StandsHere names.of_kind (kind_code (done_expr_kind (bare_expr_kind y)) span)
  unfolding CodeKind.roll-CodeKind denote.Hole.Carrier.roll
  kind_stands ExprKind-F.Undefined span h = just_stands tops outer names.of_kind code.Undefined (λ fs. subst (Each L) (sym (kind_is fs CodeKind-F.Undefined)) tt)
  kind_stands ExprKind-F.Null span h = just_stands tops outer names.of_kind code.Null (λ fs. subst (Each L) (sym (kind_is fs CodeKind-F.Null)) tt)
  kind_stands (ExprKind-F.Bool value) span h = just_stands tops outer names.of_kind (code.Bool value) (λ fs. subst (Each L) (sym (kind_is fs (CodeKind-F.Bool value))) tt)
  kind_stands (ExprKind-F.Num value) span h = just_stands tops outer names.of_kind (code.Num value) (λ fs. subst (Each L) (sym (kind_is fs (CodeKind-F.Num value))) tt)
  kind_stands (ExprKind-F.Text value) span h = just_stands tops outer names.of_kind (code.Text value) (λ fs. subst (Each L) (sym (kind_is fs (CodeKind-F.Text value))) tt)
  kind_stands (ExprKind-F.Read name) span h = one_stands tops outer one_name names.of_kind code.Read (known name) (λ fs a. kind_is fs (CodeKind-F.Read a)) (known_stands (uses.read name) h)
  kind_stands (ExprKind-F.List items) span h = one_stands tops outer (λ fs ys. joined (map (names.of_item fs) ys)) names.of_kind code.List (each (all (map entry_made (map (λ p. p.0) items)))) (λ fs a. kind_is fs (CodeKind-F.List a)) (each_of names.of_item entry_made uses.entry_uses items h)
  kind_stands (ExprKind-F.Obj fields) span h = one_stands tops outer (λ fs ys. joined (map (names.of_field fs) ys)) names.of_kind code.Object (each (all (map field_made (map (λ p. p.0) fields)))) (λ fs a. kind_is fs (CodeKind-F.Object a)) (each_of names.of_field field_made uses.field_uses fields h)
  kind_stands (ExprKind-F.Template parts) span h = one_stands tops outer (λ fs ys. joined (map (names.of_code fs) ys)) names.of_kind code.Template (each (all (map expr_made (map (λ p. p.0) parts)))) (λ fs a. kind_is fs (CodeKind-F.Template a)) (each_of names.of_code expr_made uses.expr_uses parts h)
  kind_stands (ExprKind-F.Arrow params body) span h = one_stands tops outer number_names names.of_kind code.Arrow (numbered span params (uses.body_parts (body_made body.0).tree) (body_made body.0).makes) (λ fs a. kind_is fs (CodeKind-F.Arrow a)) (arrow_stands span params body.0 h)
  kind_stands (ExprKind-F.Assign target op value) span h = three_stands tops outer one_name no_place names.of_code names.of_kind (λ t at x. code.Assign t at op x) (known target) (placed false target span) (of_expr value.0) (λ fs a at b. kind_is fs (CodeKind-F.Assign a at op b)) (known_stands (uses.assigned target op) (each_front RU (used (uses.assigned target op) []) (uses.expr_uses value.0 []) h)) (placed_stands false target span) (value.1 (each_back RU (used (uses.assigned target op) []) (uses.expr_uses value.0 []) h))
  kind_stands (ExprKind-F.Bump target up prefix) span h = two_stands tops outer one_name no_place names.of_kind (λ t at. code.Bump t at up prefix) (known target) (placed prefix target span) (λ fs a at. kind_is fs (CodeKind-F.Bump a at up prefix)) (known_stands (uses.bumped target) h) (placed_stands prefix target span)
  kind_stands (ExprKind-F.Chain first rest) span h = two_stands tops outer names.of_code (λ fs ys. joined (map (names.of_link fs) ys)) names.of_kind code.Chain (of_expr first.0) (each (all (map link_made (map (λ p. p.0) rest)))) (λ fs a b. kind_is fs (CodeKind-F.Chain a b)) (first.1 (each_front RU (uses.expr_uses first.0 []) (in_turn (map uses.link_uses (map (λ p. p.0) rest)) []) h)) (each_of names.of_link link_made uses.link_uses rest (each_back RU (uses.expr_uses first.0 []) (in_turn (map uses.link_uses (map (λ p. p.0) rest)) []) h))
  kind_stands (ExprKind-F.Not of) span h = one_stands tops outer names.of_code names.of_kind code.Not (of_expr of.0) (λ fs a. kind_is fs (CodeKind-F.Not a)) (of.1 h)
  kind_stands (ExprKind-F.Minus of) span h = one_stands tops outer names.of_code names.of_kind code.Minus (of_expr of.0) (λ fs a. kind_is fs (CodeKind-F.Minus a)) (of.1 h)
  kind_stands (ExprKind-F.Choose test first second) span h =
      let k : Each RU ((uses.expr_uses test.0 []) ++ (uses.expr_uses first.0 [])) = each_front RU ((uses.expr_uses test.0 []) ++ (uses.expr_uses first.0 [])) (uses.expr_uses second.0 []) h in
      three_stands tops outer names.of_code names.of_code names.of_code names.of_kind code.Choose (of_expr test.0) (of_expr first.0) (of_expr second.0) (λ fs a b c. kind_is fs (CodeKind-F.Choose a b c))
      (test.1 (each_front RU (uses.expr_uses test.0 []) (uses.expr_uses first.0 []) k)) (first.1 (each_back RU (uses.expr_uses test.0 []) (uses.expr_uses first.0 []) k)) (second.1 (each_back RU ((uses.expr_uses test.0 []) ++ (uses.expr_uses first.0 [])) (uses.expr_uses second.0 []) h))
  kind_stands (ExprKind-F.Member of word) span h = one_stands tops outer names.of_code names.of_kind (λ x. code.Member x (property tops word)) (of_expr of.0) (λ fs a. kind_is fs (CodeKind-F.Member a (property tops word))) (of.1 h)
  kind_stands (ExprKind-F.Index of index) span h = two_stands tops outer names.of_code names.of_code names.of_kind code.Index (of_expr of.0) (of_expr index.0) (λ fs a b. kind_is fs (CodeKind-F.Index a b)) (of.1 (each_front RU (uses.expr_uses of.0 []) (uses.expr_uses index.0 []) h)) (index.1 (each_back RU (uses.expr_uses of.0 []) (uses.expr_uses index.0 []) h))
  kind_stands (ExprKind-F.Call of args) span h = call_stands span (of_expr of.0) (each (all (map expr_made (map (λ p. p.0) args)))) (of.1 (each_front RU (uses.expr_uses of.0 []) (in_turn (map uses.expr_uses (map (λ p. p.0) args)) []) h)) (each_of names.of_code expr_made uses.expr_uses args (each_back RU (uses.expr_uses of.0 []) (in_turn (map uses.expr_uses (map (λ p. p.0) args)) []) h))

  entry_stands : (y : Entry-F KnownBody KnownEntry KnownExprKind KnownField KnownStmtKind KnownArm KnownDecl KnownExpr KnownLink KnownStmt) → Each RU (uses.entry (uses_entry (bare_entry y)) []) → StandsHere names.of_item (entry_code (done_entry (bare_entry y)))
  unfolding CodeItem.roll-CodeItem denote.Hole.Carrier.roll
  entry_stands (Entry-F.One value) h = one_stands tops outer names.of_code names.of_item item_code.One (of_expr value.0) (λ fs a. item_is fs (CodeItem-F.One a)) (value.1 h)
  entry_stands (Entry-F.«Entry::Spread» value) h = one_stands tops outer names.of_code names.of_item item_code.Spread (of_expr value.0) (λ fs a. item_is fs (CodeItem-F.«CodeItem::Spread» a)) (value.1 h)

  field_stands : (y : Field-F KnownBody KnownEntry KnownExprKind KnownField KnownStmtKind KnownArm KnownDecl KnownExpr KnownLink KnownStmt) → Each RU (uses.field (uses_field (bare_field y)) []) → StandsHere names.of_field (field_code_of (done_field (bare_field y)))
  unfolding CodeField.roll-CodeField denote.Hole.Carrier.roll
  field_stands (Field-F.Pair key value) h = one_stands tops outer names.of_code names.of_field (field_code.Pair key) (of_expr value.0) (λ fs a. field_is fs (CodeField-F.Pair key a)) (value.1 h)
  field_stands (Field-F.«Field::Spread» value) h = one_stands tops outer names.of_code names.of_field field_code.Spread (of_expr value.0) (λ fs a. field_is fs (CodeField-F.«CodeField::Spread» a)) (value.1 h)

  link_stands : (y : Link-F KnownBody KnownEntry KnownExprKind KnownField KnownStmtKind KnownArm KnownDecl KnownExpr KnownLink KnownStmt) → Each RU (uses.link (uses_link (bare_link y)) []) → StandsHere names.of_link (link_code (done_link (bare_link y)))
  link_stands y h = one_stands tops outer names.of_code names.of_link (λ right. record { op = y.op; right = right }) (of_expr y.right.0) (λ fs a. link_names fs y.op a) (y.right.1 h)

  expr_stands : (y : Expr-F KnownBody KnownEntry KnownExprKind KnownField KnownStmtKind KnownArm KnownDecl KnownExpr KnownLink KnownStmt) → Each RU (uses.expr (uses_expr (bare_expr y)) []) → StandsHere names.of_code (expr_code (done_expr (bare_expr y)))
  expr_stands y h = one_stands tops outer names.of_kind names.of_code (λ kind. record { span = y.span; kind = kind }) ((kind_made y.kind.0).makes y.span) (λ fs a. code_names fs y.span a) (y.kind.1 y.span h)

  -- ---- whole trees

  entry_whole : (x : Entry-F Body Entry ExprKind Field StmtKind Arm Decl Expr Link Stmt) (y : Entry-F KnownBody KnownEntry KnownExprKind KnownField KnownStmtKind KnownArm KnownDecl KnownExpr KnownLink KnownStmt) → bare_entry y ≡ x → ClaimEntry (roll-Entry x)
  entry_whole x y e h =
      subst (λ m. StandsHere names.of_item m.makes) (sym (fold-roll-Entry BodyMade EntryMade KindMade FieldMade StmtKindMade ArmMade DeclMade ExprMade LinkMade StmtMade body entry expr_kind field stmt_kind arm decl expr link stmt x))
      (subst (λ z. Each RU (uses.entry (uses_entry z) []) → StandsHere names.of_item (entry_code (done_entry z))) e (entry_stands y)
      (subst (Each RU) (ap (λ f. f []) (fold-roll-Entry Parts Found Found Found Parts Found Parts Found Found Parts uses.body uses.entry uses.expr_kind uses.field uses.stmt_kind uses.arm uses.decl uses.expr uses.link uses.stmt x)) h))

  expr_kind_whole : (x : ExprKind-F Body Entry ExprKind Field StmtKind Arm Decl Expr Link Stmt) (y : ExprKind-F KnownBody KnownEntry KnownExprKind KnownField KnownStmtKind KnownArm KnownDecl KnownExpr KnownLink KnownStmt) → bare_expr_kind y ≡ x → ClaimExprKind (roll-ExprKind x)
  expr_kind_whole x y e span h =
      subst (λ m. StandsHere names.of_kind (m.makes span)) (sym (fold-roll-ExprKind BodyMade EntryMade KindMade FieldMade StmtKindMade ArmMade DeclMade ExprMade LinkMade StmtMade body entry expr_kind field stmt_kind arm decl expr link stmt x))
      (subst (λ z. Each RU (uses.expr_kind (uses_expr_kind z) []) → StandsHere names.of_kind (kind_code (done_expr_kind z) span)) e (kind_stands y span)
      (subst (Each RU) (ap (λ f. f []) (fold-roll-ExprKind Parts Found Found Found Parts Found Parts Found Found Parts uses.body uses.entry uses.expr_kind uses.field uses.stmt_kind uses.arm uses.decl uses.expr uses.link uses.stmt x)) h))

  field_whole : (x : Field-F Body Entry ExprKind Field StmtKind Arm Decl Expr Link Stmt) (y : Field-F KnownBody KnownEntry KnownExprKind KnownField KnownStmtKind KnownArm KnownDecl KnownExpr KnownLink KnownStmt) → bare_field y ≡ x → ClaimField (roll-Field x)
  field_whole x y e h =
      subst (λ m. StandsHere names.of_field m.makes) (sym (fold-roll-Field BodyMade EntryMade KindMade FieldMade StmtKindMade ArmMade DeclMade ExprMade LinkMade StmtMade body entry expr_kind field stmt_kind arm decl expr link stmt x))
      (subst (λ z. Each RU (uses.field (uses_field z) []) → StandsHere names.of_field (field_code_of (done_field z))) e (field_stands y)
      (subst (Each RU) (ap (λ f. f []) (fold-roll-Field Parts Found Found Found Parts Found Parts Found Found Parts uses.body uses.entry uses.expr_kind uses.field uses.stmt_kind uses.arm uses.decl uses.expr uses.link uses.stmt x)) h))

  expr_whole : (x : Expr-F Body Entry ExprKind Field StmtKind Arm Decl Expr Link Stmt) (y : Expr-F KnownBody KnownEntry KnownExprKind KnownField KnownStmtKind KnownArm KnownDecl KnownExpr KnownLink KnownStmt) → bare_expr y ≡ x → ClaimExpr (roll-Expr x)
  expr_whole x y e h =
      subst (λ m. StandsHere names.of_code m.makes) (sym (fold-roll-Expr BodyMade EntryMade KindMade FieldMade StmtKindMade ArmMade DeclMade ExprMade LinkMade StmtMade body entry expr_kind field stmt_kind arm decl expr link stmt x))
      (subst (λ z. Each RU (uses.expr (uses_expr z) []) → StandsHere names.of_code (expr_code (done_expr z))) e (expr_stands y)
      (subst (Each RU) (ap (λ f. f []) (fold-roll-Expr Parts Found Found Found Parts Found Parts Found Found Parts uses.body uses.entry uses.expr_kind uses.field uses.stmt_kind uses.arm uses.decl uses.expr uses.link uses.stmt x)) h))

  link_whole : (x : Link-F Body Entry ExprKind Field StmtKind Arm Decl Expr Link Stmt) (y : Link-F KnownBody KnownEntry KnownExprKind KnownField KnownStmtKind KnownArm KnownDecl KnownExpr KnownLink KnownStmt) → bare_link y ≡ x → ClaimLink (roll-Link x)
  link_whole x y e h =
      subst (λ m. StandsHere names.of_link m.makes) (sym (fold-roll-Link BodyMade EntryMade KindMade FieldMade StmtKindMade ArmMade DeclMade ExprMade LinkMade StmtMade body entry expr_kind field stmt_kind arm decl expr link stmt x))
      (subst (λ z. Each RU (uses.link (uses_link z) []) → StandsHere names.of_link (link_code (done_link z))) e (link_stands y)
      (subst (Each RU) (ap (λ f. f []) (fold-roll-Link Parts Found Found Found Parts Found Parts Found Found Parts uses.body uses.entry uses.expr_kind uses.field uses.stmt_kind uses.arm uses.decl uses.expr uses.link uses.stmt x)) h))

  pub expr_whole_claim : (x : Expr) → ClaimExpr x
  expr_whole_claim = ind-Expr ClaimBody ClaimEntry ClaimExprKind ClaimField ClaimStmtKind ClaimArm ClaimDecl ClaimExpr ClaimLink ClaimStmt (λ x y e. tt) entry_whole expr_kind_whole field_whole (λ x y e. tt) (λ x y e. tt) (λ x y e. tt) expr_whole link_whole (λ x y e. tt)
