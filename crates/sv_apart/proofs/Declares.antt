-- What a component declares at its top: what its script does, no name twice where there is no mistake.
use Rattle.std.proofs.Common.{◌≡◌, ◌≢◌, ℕ, Bool, true, false, cond, List, [], ◌∷◌, ◌++◌, Option, None, Some, map, filter, option_map, refl, sym, ap, subst, ◌∙◌, inl, inr, ◌⊎◌, ⊎_elim}
use Rattle.std.specs.List.{filter_map, flat_map, cons_option}
use Rattle.std.specs.Prelude.{◌||◌, ◌&&◌, not, if◌then◌else◌}
use Rattle.std.proofs.lemmas.Bool.{true≢false, false≢true, or_parts, or_right}
use Rattle.std.proofs.lemmas.Option.{none-some, same_Some}
use Rattle.sv_ast.specs.declared.files.Component.{Component}
use Rattle.sv_ast.specs.declared.files.SourceFile.{SourceFile}
use Rattle.sv_ast.specs.declared.names.Named.{Named}
use Rattle.sv_ast.specs.declared.names.Ref.{Ref}
use Rattle.sv_ast.specs.declared.names.Ref.TheVariants.{Plain, Store}
use Rattle.sv_ast.specs.declared.script_tree.Arm.{Arm}
use Rattle.sv_ast.specs.declared.script_tree.Body.{Body}
use Rattle.sv_ast.specs.declared.script_tree.Decl.{Decl, Decl-F, out-Decl, map-Decl, fold_out-Decl}
use Rattle.sv_ast.specs.declared.script_tree.Entry.{Entry}
use Rattle.sv_ast.specs.declared.script_tree.Expr.{Expr}
use Rattle.sv_ast.specs.declared.script_tree.ExprKind.{ExprKind}
use Rattle.sv_ast.specs.declared.script_tree.Field.{Field}
use Rattle.sv_ast.specs.declared.script_tree.ImportName.{ImportName}
use Rattle.sv_ast.specs.declared.script_tree.Link.{Link}
use Rattle.sv_ast.specs.declared.script_tree.Stmt.{Stmt, fold_out-Stmt}
use Rattle.sv_ast.specs.declared.script_tree.StmtKind.{StmtKind, StmtKind-F, out-StmtKind, map-StmtKind, fold_out-StmtKind}
use Rattle.sv_base.specs.Names.{Table, is_text}
use Rattle.sv_base.specs.declared.built_in.TheConstants.{MATH}
use Rattle.sv_base.specs.declared.names.Name.{Name}
use Rattle.sv_base.specs.declared.span.Span.{Span}
use Rattle.sv_code.proofs.Each.{each_append, each_front, each_back, each_mono}
use Rattle.sv_code.specs.Names.{Each}
use Rattle.sv_code.specs.declared.known.Known.{Known}
use Rattle.sv_compile.specs.Constants.{decl_name, constants_of, constant_layer, all_constants, numbered_from, spec_given, imported_layer, imported, import_of, givens}
use Rattle.sv_imports.specs.Unknown.{origin_of}
use Rattle.sv_imports.specs.declared.origin.Origin.{Origin}
use Rattle.sv_names.proofs.Same.{same_ref-self, same_ref-true, has-with_name, has-head}
use Rattle.sv_names.specs.Distinct.{same_ref, has, with_name}
use Rattle.sv_names.specs.Locals.{name_of}
use Rattle.sv_resolve.specs.Cells.{is_variable, variables}
use Rattle.sv_resolve.specs.Mistakes.{again}
use Rattle.sv_scopes.specs.Files.{before, markup, script, top_stmt, reactive, component, component_scopes, is_reactive, known, declaring_on, settled}
use Rattle.sv_scopes.specs.Parts.{Parts, in_turn, followed, names_of}
use Rattle.sv_scopes.specs.Script.{InRole, AtPlace, ByBinding, StmtLayer, body, entry, expr_kind, field, stmt_kind, arm, decl, expr, link, stmt, body_parts, entry_parts, kind_parts, field_parts, stmt_kind_parts, arm_parts, decl_parts, expr_parts, link_parts, stmt_parts, decls, declared, given}
use Rattle.sv_scopes.specs.declared.scope.Binding.{Binding}
use Rattle.sv_scopes.specs.declared.scope.Binding.TheVariants as by
use Rattle.sv_scopes.specs.declared.scope.Declared.{Declared}
use Rattle.sv_subscribed.specs.Holders.{IsAmong}
use Rattle.sv_apart.proofs.Thinning.{IsThinned, thinned-self, thinned-behind, thinned-append, thinned-front, AreToldApart, each-thinned, each-all, one-apart}
use Rattle.sv_apart.proofs.Names.{Given}

-- ---- what a statement declares at the top by a form of its own

abbrev pub declares : Binding → Decl → Declared
declares how d = declared how (decl_name d)

-- what it declares and gives a first value
abbrev pub told_layer : StmtLayer → List Declared
told_layer (StmtKind-F.Let ds) = map (declares by.Let) ds
told_layer (StmtKind-F.Const ds exported) = map (declares by.Const) ds
told_layer (StmtKind-F.Export ds) = map (declares by.Export) ds
told_layer _ = []

abbrev pub told_of : Stmt → List Declared
told_of s = told_layer (out-StmtKind s.kind)

abbrev pub all_told : List Stmt → List Declared
all_told stmts = flat_map told_of stmts

-- and that, what it imports between braces, and its function
abbrev pub formed_layer : StmtLayer → List Declared
formed_layer (StmtKind-F.Let ds) = map (declares by.Let) ds
formed_layer (StmtKind-F.Const ds exported) = map (declares by.Const) ds
formed_layer (StmtKind-F.Export ds) = map (declares by.Export) ds
formed_layer (StmtKind-F.Import i) = map (λ spec. declared by.Import spec.local) i.names
formed_layer (StmtKind-F.Func name exported params body) = declared by.Function name ∷ []
formed_layer _ = []

abbrev pub formed_of : Stmt → List Declared
formed_of s = formed_layer (out-StmtKind s.kind)

abbrev pub all_formed : List Stmt → List Declared
all_formed stmts = flat_map formed_of stmts

told-formed : (layer : StmtLayer) → IsThinned (told_layer layer) (formed_layer layer)
told-formed (StmtKind-F.Let ds) = thinned-self (map (declares by.Let) ds)
told-formed (StmtKind-F.Const ds exported) = thinned-self (map (declares by.Const) ds)
told-formed (StmtKind-F.Export ds) = thinned-self (map (declares by.Export) ds)
told-formed _ = tt

pub told-thinned : (stmts : List Stmt) → IsThinned (all_told stmts) (all_formed stmts)
told-thinned [] = tt
told-thinned (s ∷ stmts) = thinned-append (told_of s) (formed_of s) (all_told stmts) (all_formed stmts) (told-formed (out-StmtKind s.kind)) (told-thinned stmts)

-- ---- it is found there

abbrev layer_parts : StmtLayer → Parts
layer_parts layer = stmt_kind (map-StmtKind Body Entry ExprKind Field StmtKind Arm Decl Expr Link Stmt Parts Parts AtPlace Parts Parts Parts ByBinding InRole Parts Parts body_parts entry_parts kind_parts field_parts stmt_kind_parts arm_parts decl_parts expr_parts link_parts stmt_parts layer)

layer_decl : Decl-F Body Entry ExprKind Field StmtKind Arm Decl Expr Link Stmt → ByBinding
layer_decl d = decl (map-Decl Body Entry ExprKind Field StmtKind Arm Decl Expr Link Stmt Parts Parts AtPlace Parts Parts Parts ByBinding InRole Parts Parts body_parts entry_parts kind_parts field_parts stmt_kind_parts arm_parts decl_parts expr_parts link_parts stmt_parts d)

decl-parts : (how : Binding) (d : Decl) → IsThinned (declares how d ∷ []) (decl_parts d how).declares
unfolding layer_decl
decl-parts how d =
    subst (λ (p : ByBinding). IsThinned (declares how d ∷ []) (p how).declares)
    (sym (fold_out-Decl Parts Parts AtPlace Parts Parts Parts ByBinding InRole Parts Parts body entry expr_kind field stmt_kind arm decl expr link stmt d)) (inl (refl, tt))

decls-parts : (how : Binding) (ds : List Decl) → IsThinned (map (declares how) ds) (decls how (map decl_parts ds)).declares
decls-parts how [] = tt
decls-parts how (d ∷ ds) = thinned-append (declares how d ∷ []) (decl_parts d how).declares (map (declares how) ds) (decls how (map decl_parts ds)).declares (decl-parts how d) (decls-parts how ds)

layer-formed : (layer : StmtLayer) → IsThinned (formed_layer layer) (layer_parts layer).declares
layer-formed (StmtKind-F.Let ds) = decls-parts by.Let ds
layer-formed (StmtKind-F.Const ds exported) = decls-parts by.Const ds
layer-formed (StmtKind-F.Export ds) = decls-parts by.Export ds
layer-formed (StmtKind-F.Import i) = thinned-behind _ (map (λ spec. declared by.Import spec.local) i.names) _ (thinned-self (map (λ spec. declared by.Import spec.local) i.names))
layer-formed (StmtKind-F.Func name exported params stmts) = inl (refl, tt)
layer-formed _ = tt

stmt-formed : (s : Stmt) → IsThinned (formed_of s) (stmt_parts s).declares
stmt-formed s =
    subst (λ (p : Parts). IsThinned (formed_of s) p.declares)
    (sym (fold_out-Stmt Parts Parts AtPlace Parts Parts Parts ByBinding InRole Parts Parts body entry expr_kind field stmt_kind arm decl expr link stmt s))
    (subst (λ (p : Parts). IsThinned (formed_of s) p.declares)
    (sym (fold_out-StmtKind Parts Parts AtPlace Parts Parts Parts ByBinding InRole Parts Parts body entry expr_kind field stmt_kind arm decl expr link stmt s.kind))
    (layer-formed (out-StmtKind s.kind)))

script-formed : (stmts : List Stmt) → IsThinned (all_formed stmts) (in_turn (map top_stmt stmts)).declares
script-formed [] = tt
script-formed (s ∷ stmts) =
    thinned-append (formed_of s) (reactive s ++ (stmt_parts s).declares) (all_formed stmts) (in_turn (map top_stmt stmts)).declares
    (thinned-behind (reactive s) (formed_of s) (stmt_parts s).declares (stmt-formed s)) (script-formed stmts)

-- ---- the top of a component settles what reactive statements declare

abbrev IsFormed : Declared → Type 0
IsFormed d = is_reactive d.by ≡ false

formed-stays : (names : List Ref) (ds xs : List Declared) → Each IsFormed xs → IsThinned xs ds → IsThinned xs (declaring_on names ds)
formed-stays names ds [] own h = tt
formed-stays names [] (x ∷ xs) own h = absurd h
formed-stays names (d ∷ ds) (x ∷ xs) own h =
    ⊎_elim
    (λ same. by_form (is_reactive d.by) (sym (subst (λ (z : Declared). is_reactive z.by ≡ false) same.0 own.0)) same.0 (formed-stays (with_name names (Plain d.name)) ds xs own.1 same.1))
    (λ later. thinned-behind (if is_reactive d.by && has (Plain d.name) names then [] else d ∷ []) (x ∷ xs) (declaring_on (with_name names (Plain d.name)) ds) (formed-stays (with_name names (Plain d.name)) ds (x ∷ xs) own later))
    h
  where
    by_form : (b : Bool) → false ≡ b → x ≡ d → IsThinned xs (declaring_on (with_name names (Plain d.name)) ds) → IsThinned (x ∷ xs) ((if b && has (Plain d.name) names then [] else d ∷ []) ++ declaring_on (with_name names (Plain d.name)) ds)
    by_form false e same more = inl (same, more)
    by_form true e same more = absurd (false≢true e)

mapped-formed : {A : Type 0} (f : A → Declared) → ((x : A) → IsFormed (f x)) → (xs : List A) → Each IsFormed (map f xs)
mapped-formed f h [] = tt
mapped-formed f h (x ∷ xs) = (h x, mapped-formed f h xs)

layer-own : (layer : StmtLayer) → Each IsFormed (formed_layer layer)
layer-own (StmtKind-F.Let ds) = mapped-formed (declares by.Let) (λ d. refl) ds
layer-own (StmtKind-F.Const ds exported) = mapped-formed (declares by.Const) (λ d. refl) ds
layer-own (StmtKind-F.Export ds) = mapped-formed (declares by.Export) (λ d. refl) ds
layer-own (StmtKind-F.Import i) = mapped-formed (λ spec. declared by.Import spec.local) (λ spec. refl) i.names
layer-own (StmtKind-F.Func name exported params stmts) = (refl, tt)
layer-own _ = tt

all-own : (stmts : List Stmt) → Each IsFormed (all_formed stmts)
all-own [] = tt
all-own (s ∷ stmts) = each_append IsFormed (formed_of s) (all_formed stmts) (layer-own (out-StmtKind s.kind)) (all-own stmts)

-- what a component declares at its top
abbrev pub declared_in : Component → List Declared
declared_in c = (component_scopes c).top.declares

-- what its script declares is among it
pub formed-thinned : (c : Component) → IsThinned (all_formed c.script.stmts) (declared_in c)
formed-thinned c =
    let stmts = c.script.stmts in
    let n = before stmts c.nodes in
    let all = (component c).declares in
    formed-stays (known all) all (all_formed stmts) (all-own stmts)
    (thinned-front (all_formed stmts) (_ ++ (script c.script).declares) _ (thinned-behind _ (all_formed stmts) (script c.script).declares (script-formed stmts)))

-- ---- no name twice

abbrev pub name_in : Declared → Name
name_in d = d.name

record AreNew (names : List Ref) (ds : List Declared) : Type 0 where
  apart : AreToldApart name_in ds
  new : Each (λ (d : Declared). has (Plain d.name) names ≡ false) ds

pub append-nil-front : {A : Type 0} (xs ys : List A) → xs ++ ys ≡ [] → xs ≡ []
append-nil-front [] ys e = refl
append-nil-front (x ∷ xs) ys e = absurd (cc)

pub append-nil-back : {A : Type 0} (xs ys : List A) → xs ++ ys ≡ [] → ys ≡ []
append-nil-back [] ys e = e
append-nil-back (x ∷ xs) ys e = absurd (cc)

none-told : (b : Bool) (place : Span) → (if b then place ∷ [] else []) ≡ [] → b ≡ false
none-told true place e = absurd (cc)
none-told false place e = refl

none-again : (table : Table) (names : List Ref) (ds : List Declared) → again table names ds ≡ [] → AreNew names ds
none-again table names [] e = record { apart = tt; new = tt }
none-again table names (d ∷ ds) e =
    let twice = has (Plain d.name) names || is_text table MATH.now d.name in
    let own = none-told twice d.span (append-nil-front (if twice then d.span ∷ [] else []) (again table (with_name names (Plain d.name)) ds) e) in
    let rest = none-again table (with_name names (Plain d.name)) ds (append-nil-back (if twice then d.span ∷ [] else []) (again table (with_name names (Plain d.name)) ds) e) in
    record {
      apart = (each_mono (λ (x : Declared). has (Plain x.name) (with_name names (Plain d.name)) ≡ false) (λ (x : Declared). d.name ≢ x.name) (λ x h. other x h) ds rest.new, rest.apart);
      new = ((or_parts (has (Plain d.name) names) (is_text table MATH.now d.name) own).0, each_mono (λ (x : Declared). has (Plain x.name) (with_name names (Plain d.name)) ≡ false) (λ (x : Declared). has (Plain x.name) names ≡ false) (λ x h. (parts x h).0) ds rest.new);
    }
  where
    parts : (x : Declared) → has (Plain x.name) (with_name names (Plain d.name)) ≡ false → (has (Plain x.name) names ≡ false) × (has (Plain x.name) (Plain d.name ∷ []) ≡ false)
    parts x h = or_parts (has (Plain x.name) names) (has (Plain x.name) (Plain d.name ∷ [])) (sym (has-with_name (Plain x.name) (Plain d.name) names) ∙ h)

    other : (x : Declared) → has (Plain x.name) (with_name names (Plain d.name)) ≡ false → d.name ≢ x.name
    other x h same = true≢false (sym (has-head (Plain x.name) (Plain d.name) [] (ap Plain (sym same))) ∙ (parts x h).1)

pub declared-apart : (table : Table) (ds : List Declared) → again table [] ds ≡ [] → AreToldApart name_in ds
declared-apart table ds e = (none-again table [] ds e).apart

-- ---- what is given is declared, and no variable

-- a name that is declared at the top, but as no variable
pub record IsFixed (ds : List Declared) (name : Name) : Type 0 where
  pub declaration : Declared
  pub among : IsAmong declaration ds
  pub is : declaration.name ≡ name
  pub fixed : is_variable declaration.by ≡ false

module _ (ds : List Declared) where
  abbrev Stands : Declared → Type 0
  Stands d = IsAmong d ds

  decls-fixed : (list : List Decl) → Each Stands (map (declares by.Const) list) → Each (λ (n : Named). IsFixed ds n.name) (map decl_name list)
  decls-fixed [] h = tt
  decls-fixed (d ∷ list) h = (record { declaration = declares by.Const d; among = h.0; is = refl; fixed = refl }, decls-fixed list h.1)

  layer-fixed : (layer : StmtLayer) → Each Stands (formed_layer layer) → Each (λ (n : Named). IsFixed ds n.name) (constant_layer layer)
  layer-fixed (StmtKind-F.Const list exported) h = decls-fixed list h
  layer-fixed (StmtKind-F.Func name exported params stmts) h = (record { declaration = declared by.Function name; among = h.0; is = refl; fixed = refl }, tt)
  layer-fixed _ h = tt

  constants-fixed : (stmts : List Stmt) → Each Stands (all_formed stmts) → Each (λ (n : Named). IsFixed ds n.name) (all_constants stmts)
  constants-fixed [] h = tt
  constants-fixed (s ∷ stmts) h =
      each_append (λ (n : Named). IsFixed ds n.name) (constants_of s) (all_constants stmts)
      (layer-fixed (out-StmtKind s.kind) (each_front Stands (formed_of s) (all_formed stmts) h)) (constants-fixed stmts (each_back Stands (formed_of s) (all_formed stmts) h))

  abbrev pub GivenIsFixed : Given → Type 0
  GivenIsFixed g = IsFixed ds g.named.name

  numbered-fixed : (n : ℕ) (names : List Named) → Each (λ (x : Named). IsFixed ds x.name) names → Each GivenIsFixed (numbered_from n names)
  numbered-fixed n [] h = tt
  numbered-fixed n (x ∷ names) h = (h.0, numbered-fixed _ names h.1)

  specs-fixed : (table : Table) (files : List SourceFile) (from : Origin) (names : List ImportName) → Each Stands (map (λ (spec : ImportName). declared by.Import spec.local) names)
      → Each GivenIsFixed (filter_map (spec_given table files from) names)
  specs-fixed table files from [] h = tt
  specs-fixed table files from (spec ∷ names) h = by_known (import_of table files from spec.given.name) (specs-fixed table files from names h.1)
    where
      by_known : (o : Option Known) → Each GivenIsFixed (filter_map (spec_given table files from) names) → Each GivenIsFixed (cons_option (option_map (λ (k : Known). record { named = spec.local; known = k }) o) (filter_map (spec_given table files from) names))
      by_known None later = later
      by_known (Some k) later = (record { declaration = declared by.Import spec.local; among = h.0; is = refl; fixed = refl }, later)

  imported-fixed : (table : Table) (files : List SourceFile) (layer : StmtLayer) → Each Stands (formed_layer layer) → Each GivenIsFixed (imported_layer table files layer)
  imported-fixed table files (StmtKind-F.Import i) h = specs-fixed table files (origin_of files i.from) i.names h
  imported-fixed table files _ h = tt

  all-fixed : (table : Table) (files : List SourceFile) (stmts : List Stmt) → Each Stands (all_formed stmts) → Each GivenIsFixed (flat_map (imported table files) stmts)
  all-fixed table files [] h = tt
  all-fixed table files (s ∷ stmts) h =
      each_append GivenIsFixed (imported table files s) (flat_map (imported table files) stmts)
      (imported-fixed table files (out-StmtKind s.kind) (each_front Stands (formed_of s) (all_formed stmts) h)) (all-fixed table files stmts (each_back Stands (formed_of s) (all_formed stmts) h))

-- what a component's script declares as a constant or imports is declared at its top, but as no variable
pub givens-fixed : (table : Table) (files : List SourceFile) (c : Component) → Each (GivenIsFixed (declared_in c)) (givens table files c.script.stmts)
givens-fixed table files c =
    let ds = declared_in c in
    let stmts = c.script.stmts in
    let stand = each-thinned (λ d. IsAmong d ds) (all_formed stmts) ds (formed-thinned c) (each-all ds) in
    each_append (GivenIsFixed ds) (numbered_from 0 (all_constants stmts)) (flat_map (imported table files) stmts) (numbered-fixed ds 0 (all_constants stmts) (constants-fixed ds stmts stand)) (all-fixed ds table files stmts stand)

-- ---- variables

-- a variable is declared
pub record IsVariable (ds : List Declared) (name : Name) : Type 0 where
  pub declaration : Declared
  pub among : IsAmong declaration ds
  pub is : declaration.name ≡ name
  pub variable : is_variable declaration.by ≡ true

pub variable-of : (ds : List Declared) (name : Name) → has (Plain name) (variables ds) ≡ true → IsVariable ds name
variable-of [] name h = absurd (true≢false (sym h))
variable-of (d ∷ ds) name h = by_kind (is_variable d.by) refl (λ k. later (variable-of ds name k)) h
  where
    later : IsVariable ds name → IsVariable (d ∷ ds) name
    later found = record { declaration = found.declaration; among = inr found.among; is = found.is; variable = found.variable }

    by_name : (b : Bool) → same_ref (Plain name) (Plain d.name) ≡ b → is_variable d.by ≡ true → (has (Plain name) (variables ds) ≡ true → IsVariable (d ∷ ds) name) → (b || has (Plain name) (variables ds)) ≡ true → IsVariable (d ∷ ds) name
    by_name true same own more k = record { declaration = d; among = inl refl; is = ap name_of (sym (same_ref-true (Plain name) (Plain d.name) same)); variable = own }
    by_name false same own more k = more k

    by_kind : (b : Bool) → is_variable d.by ≡ b → (has (Plain name) (variables ds) ≡ true → IsVariable (d ∷ ds) name)
        → has (Plain name) (names_of (cond b (d ∷ filter (λ (x : Declared). is_variable x.by) ds) (filter (λ (x : Declared). is_variable x.by) ds))) ≡ true → IsVariable (d ∷ ds) name
    by_kind true own more k = by_name (same_ref (Plain name) (Plain d.name)) refl own more k
    by_kind false own more k = more k

-- it is none that is given
pub variable-not-given : (table : Table) (ds : List Declared) (name : Name) → AreToldApart name_in ds → IsVariable ds name → IsFixed ds name → ⊥
variable-not-given table ds name apart variable fixed =
    let same = one-apart name_in ds variable.declaration fixed.declaration apart variable.among fixed.among (variable.is ∙ sym fixed.is) in
    true≢false (sym variable.variable ∙ (ap (λ (d : Declared). is_variable d.by) same ∙ fixed.fixed))

-- what declares a variable makes it one
pub variable-has : (ds : List Declared) (d : Declared) → IsAmong d ds → is_variable d.by ≡ true → has (Plain d.name) (variables ds) ≡ true
variable-has [] d among own = absurd among
variable-has (x ∷ ds) d among own = ⊎_elim (λ is. here is) (λ later. there (is_variable x.by) (variable-has ds d later own)) among
  where
    there : (b : Bool) → has (Plain d.name) (variables ds) ≡ true → has (Plain d.name) (names_of (cond b (x ∷ filter (λ (y : Declared). is_variable y.by) ds) (filter (λ (y : Declared). is_variable y.by) ds))) ≡ true
    there false h = h
    there true h = or_right (same_ref (Plain d.name) (Plain x.name)) (has (Plain d.name) (variables ds)) h

    here : x ≡ d → has (Plain d.name) (variables (x ∷ ds)) ≡ true
    here is =
        let kind : is_variable x.by ≡ true = ap (λ (z : Declared). is_variable z.by) is ∙ own in
        ap (λ b. has (Plain d.name) (names_of (cond b (x ∷ filter (λ (y : Declared). is_variable y.by) ds) (filter (λ (y : Declared). is_variable y.by) ds)))) kind
        ∙ has-head (Plain d.name) (Plain x.name) (variables ds) (ap (λ (z : Declared). Plain z.name) (sym is))
