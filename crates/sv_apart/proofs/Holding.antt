-- The `$` names of a compiled component are apart.
use Rattle.std.proofs.Common.{◌≡◌, ◌≢◌, ℕ, zero, suc, ◌+◌, ◌<◌, ◌≤◌, Bool, true, false, cond, List, [], ◌∷◌, ◌++◌, Option, None, Some, length, map, filter, option_map, refl, sym, ap, subst, ◌∙◌, arith, inl, inr, ◌⊎◌, ⊎_elim}
use Rattle.std.specs.List.{filter_map, cons_option}
use Rattle.std.specs.Prelude.{◌||◌, nat_le, slice_get, if◌then◌else◌}
use Rattle.std.proofs.lemmas.Bool.{true≢false, false≢true, or_left, or_right}
use Rattle.std.proofs.lemmas.Option.{none-some, same_Some}
use Rattle.sv_ast.specs.declared.files.Component.{Component}
use Rattle.sv_ast.specs.declared.files.SourceFile.{SourceFile}
use Rattle.sv_ast.specs.declared.names.Named.{Named}
use Rattle.sv_ast.specs.declared.names.Ref.{Ref}
use Rattle.sv_ast.specs.declared.names.Ref.TheVariants.{Plain, Store}
use Rattle.sv_ast.specs.declared.script_tree.Stmt.{Stmt}
use Rattle.sv_ast.specs.declared.script_tree.StmtKind.{StmtKind-F, out-StmtKind}
use Rattle.sv_ast.specs.declared.script_tree.Decl.{Decl}
use Rattle.sv_base.specs.Names.{Table}
use Rattle.sv_base.specs.declared.limits.TheConstants.{CELL_LIMIT}
use Rattle.sv_base.specs.declared.names.Name.{Name}
use Rattle.sv_code.proofs.Each.{each_append, each_front, each_back, each_mono}
use Rattle.sv_code.specs.Names.{Each}
use Rattle.sv_code.specs.declared.functions.CodeDecl.{CodeDecl}
use Rattle.sv_code.specs.declared.functions.Function.{Function}
use Rattle.sv_code.specs.declared.known.Known.{Known}
use Rattle.sv_code.specs.declared.known.Known.TheVariants as known
use Rattle.sv_code.specs.declared.program.StoreCell.{StoreCell}
use Rattle.sv_compile.specs.Constants.{same_name, decl_name, constant_layer, constants_of, all_constants, givens}
use Rattle.sv_compile.specs.Holders.{placed_name, variable, variables as variable_givens, holders}
use Rattle.sv_compile.specs.TopLevel.{is_plain, all_built, cell_of, tops, holder, stores_from}
use Rattle.sv_lower.specs.Lower.{store_of, of_stmts}
use Rattle.sv_lower.specs.Tops.{Tops, known_in, known_or, known_at}
use Rattle.sv_names.proofs.Same.{same_ref-self, same_ref-true, has-head}
use Rattle.sv_names.specs.Distinct.{same_ref, has}
use Rattle.sv_names.specs.Locals.{name_of}
use Rattle.sv_names.specs.Uses.{named}
use Rattle.sv_resolve.specs.Cells.{is_variable, variables, scopes}
use Rattle.sv_scopes.specs.Files.{component_scopes}
use Rattle.sv_scopes.specs.Parts.{names_of}
use Rattle.sv_scopes.specs.Script.{StmtLayer}
use Rattle.sv_scopes.specs.declared.scope.Binding.TheVariants as by
use Rattle.sv_scopes.specs.declared.scope.Declared.{Declared}
use Rattle.sv_scopes.specs.declared.scope.Scope.{Scope}
use Rattle.sv_scopes.specs.declared.scope.TheConstants.{VIEW}
use Rattle.sv_subscribed.specs.Apart.{HoldApart, IsOwn, IsTold, AreOnce, declared_at_top}
use Rattle.sv_subscribed.specs.Holders.{IsAmong}
use Rattle.sv_apart.proofs.Declares.{declares, told_layer, told_of, all_told, all_formed, told-thinned, declared_in, formed-thinned, name_in, IsFixed, GivenIsFixed, givens-fixed, IsVariable, variable-of, variable-not-given, variable-has}
use Rattle.sv_apart.proofs.Lowered.{IsCodeOf, script-lowered}
use Rattle.sv_apart.proofs.Names.{Given, one_name, not_own, cell-known, other-known, same_sym, given-known, constant-known}
use Rattle.sv_compile.proofs.Topmost.{either, IsNameOf, IsForeign, GivenIsNamed, givens-named, built-foreign, Others, stands}
use Rattle.sv_apart.proofs.Places.{has-at, plain-store, store-place, plain-cell, variable-cell, IsStoreOf, stores-of, store-there, holder-name, holder-each, holder-front, holder-behind}
use Rattle.sv_apart.proofs.Thinning.{IsThinned, each-thinned, each-among, each-all, AreToldApart, apart-thinned, ArePaired, each-paired}

-- ---- what stands for a variable or a constant

store-own : (k : Known) → IsOwn k → (m : ℕ) → store_of k (known.Cell m) ≡ Some m
store-own (known.Cell n) own m = refl
store-own (known.Constant n) own m = refl
store-own (known.Local x) own m = absurd own
store-own (known.Export file n) own m = absurd own
store-own (known.Life l) own m = absurd own
store-own known.Writable own m = absurd own
store-own known.Derived own m = absurd own
store-own (known.BuiltIn x) own m = absurd own

store-cell : (k s : Known) (cell : ℕ) → store_of k s ≡ Some cell → s ≡ known.Cell cell
store-cell (known.Cell n) (known.Cell m) cell e = ap known.Cell (same_Some m cell e)
store-cell (known.Constant n) (known.Cell m) cell e = ap known.Cell (same_Some m cell e)
store-cell _ _ cell e = absurd (none-some cell e)

cell_of-some : (o : Option Known) (cell : ℕ) → cell_of o ≡ Some cell → o ≡ Some (known.Cell cell)
cell_of-some (Some (known.Cell m)) cell e = ap (λ k. Some (known.Cell k)) (same_Some m cell e)
cell_of-some _ cell e = absurd (none-some cell e)

known-cell : (o : Option Known) (name : Ref) (cell : ℕ) → known_or o name ≡ known.Cell cell → o ≡ Some (known.Cell cell)
known-cell None name cell e = absurd (none-some cell (ap (λ k. cell_of (Some k)) e))
known-cell (Some k) name cell e = ap Some e

-- ---- what is declared with a first value is a variable or a constant

abbrev IsKind : List Named → Declared → Type 0
IsKind constants d = (is_variable d.by ≡ true) ⊎ (has (Plain d.name) (map named constants) ≡ true)

among-has : (n : Named) (names : List Named) → IsAmong n names → has (named n) (map named names) ≡ true
among-has n [] h = absurd h
among-has n (x ∷ names) h =
    ⊎_elim (λ is. has-head (named n) (named x) (map named names) (ap named (sym is))) (λ later. or_right (same_ref (named n) (named x)) (has (named n) (map named names)) (among-has n names later)) h

module _ (constants : List Named) where
  abbrev IsConstant : Named → Type 0
  IsConstant n = has (named n) (map named constants) ≡ true

  consts-kind : (ds : List Decl) → Each IsConstant (map decl_name ds) → Each (IsKind constants) (map (declares by.Const) ds)
  consts-kind [] h = tt
  consts-kind (d ∷ ds) h = (inr h.0, consts-kind ds h.1)

  lets-kind : (ds : List Decl) → Each (IsKind constants) (map (declares by.Let) ds)
  lets-kind [] = tt
  lets-kind (d ∷ ds) = (inl refl, lets-kind ds)

  exports-kind : (ds : List Decl) → Each (IsKind constants) (map (declares by.Export) ds)
  exports-kind [] = tt
  exports-kind (d ∷ ds) = (inl refl, exports-kind ds)

  layer-kind : (layer : StmtLayer) → Each IsConstant (constant_layer layer) → Each (IsKind constants) (told_layer layer)
  layer-kind (StmtKind-F.Let ds) h = lets-kind ds
  layer-kind (StmtKind-F.Const ds exported) h = consts-kind ds h
  layer-kind (StmtKind-F.Export ds) h = exports-kind ds
  layer-kind _ h = tt

  stmts-kind : (stmts : List Stmt) → Each IsConstant (all_constants stmts) → Each (IsKind constants) (all_told stmts)
  stmts-kind [] h = tt
  stmts-kind (s ∷ stmts) h =
      each_append (IsKind constants) (told_of s) (all_told stmts) (layer-kind (out-StmtKind s.kind) (each_front IsConstant (constants_of s) (all_constants stmts) h))
      (stmts-kind stmts (each_back IsConstant (constants_of s) (all_constants stmts) h))

told-kind : (stmts : List Stmt) → Each (IsKind (all_constants stmts)) (all_told stmts)
told-kind stmts =
    let constants = all_constants stmts in
    stmts-kind constants stmts (each_mono (λ n. IsAmong n constants) (λ n. has (named n) (map named constants) ≡ true) (λ n h. among-has n constants h) constants (each-all constants))

-- ---- a component

module _ (table : Table) (files : List SourceFile) (c : Component) (cells : List Ref) (are : cells ≡ (scopes (component_scopes c).top).cells) (apart : AreToldApart name_in (declared_in c)) where
  abbrev top : Tops
  top = tops table cells (givens table files c.script.stmts)

  abbrev all : List Given
  all = holders table (tops table cells (givens table files c.script.stmts)) (givens table files c.script.stmts) c

  abbrev given : List Given
  given = givens table files c.script.stmts

  abbrev rest : List Given
  rest = variable_givens table (tops table cells (givens table files c.script.stmts)) (component_scopes c).top.declares

  abbrev list : List StoreCell
  list = stores_from (holders table (tops table cells (givens table files c.script.stmts)) (givens table files c.script.stmts) c) 0 cells

  abbrev IsNamed : Ref → Known → Type 0
  IsNamed name k = IsNameOf cells (all_constants c.script.stmts) name k

  place : (i j : ℕ) (name : Name) → slice_get cells i ≡ Some (Store name) → slice_get cells j ≡ Some (Store name) → i ≡ j
  place i j name p q =
      store-place (component_scopes c).top i j name (subst (λ l. slice_get l i ≡ Some (Store name)) are p) (subst (λ l. slice_get l j ≡ Some (Store name)) are q)

  stands-for : (name : Ref) (k : Known) → known_in top.known name ≡ Some k → IsNamed name k
  stands-for = stands table files cells c.script.stmts

  -- ---- what is declared

  abbrev IsToldOf : Declared → Type 0
  IsToldOf d = IsAmong d (declared_in c) × IsKind (all_constants c.script.stmts) d

  record OwnKnown (name : Name) : Type 0 where
    k : Known
    is : known_in top.known (Plain name) ≡ Some k
    own : IsOwn k

  own-known : (d : Declared) → IsToldOf d → OwnKnown d.name
  own-known d told = by_cell (has (Plain d.name) cells) refl
    where
      by_cell : (b : Bool) → has (Plain d.name) cells ≡ b → OwnKnown d.name
      by_cell true h = let found = cell-known table files cells c.script.stmts (Plain d.name) h in record { k = known.Cell found.cell; is = found.is; own = tt }
      by_cell false h = ⊎_elim
          (λ own. absurd (true≢false (sym (subst (λ l. has (Plain d.name) l ≡ true) (sym are) (variable-cell (component_scopes c).top d.name (variable-has (declared_in c) d told.0 own))) ∙ h)))
          (λ constant. let found = constant-known 0 (all_constants c.script.stmts) _ (all_built table) (Plain d.name) constant in
          record { k = known.Constant found.0; is = other-known table files cells c.script.stmts (Plain d.name) h ∙ found.1; own = tt })
          told.1

  told-each : Each IsToldOf (all_told c.script.stmts)
  told-each =
      let ds = declared_in c in
      let stmts = c.script.stmts in
      both (all_told stmts) (each-thinned (λ d. IsAmong d ds) (all_told stmts) (all_formed stmts) (told-thinned stmts) (each-thinned (λ d. IsAmong d ds) (all_formed stmts) ds (formed-thinned c) (each-all ds))) (told-kind stmts)
    where
      both : (ds : List Declared) → Each (λ d. IsAmong d (declared_in c)) ds → Each (IsKind (all_constants c.script.stmts)) ds → Each IsToldOf ds
      both [] h k = tt
      both (d ∷ ds) h k = ((h.0, k.0), both ds h.1 k.1)

  -- ---- what holds stores

  variables-named : (ds : List Declared) → Each (GivenIsNamed cells (all_constants c.script.stmts)) (filter_map (variable table top) ds)
  variables-named [] = tt
  variables-named (d ∷ ds) = by_known (known_in top.known (Plain d.name)) refl (variables-named ds)
    where
      by_known : (o : Option Known) → known_in top.known (Plain d.name) ≡ o → Each (GivenIsNamed cells (all_constants c.script.stmts)) (filter_map (variable table top) ds)
          → Each (GivenIsNamed cells (all_constants c.script.stmts)) (cons_option (option_map (λ (k : Known). record { named = placed_name table d; known = k }) o) (filter_map (variable table top) ds))
      by_known None e later = later
      by_known (Some k) e later = (stands-for (Plain d.name) k e, later)

  all-named : Each (GivenIsNamed cells (all_constants c.script.stmts)) all
  all-named =
      each_append (GivenIsNamed cells (all_constants c.script.stmts)) (givens table files c.script.stmts) (variable_givens table top (component_scopes c).top.declares) (givens-named cells table files c.script.stmts)
      (variables-named (filter (λ d. is_variable d.by) (component_scopes c).top.declares))

  record Held (given : List Given) (name : Name) (k : Known) : Type 0 where
    g : Given
    found : holder given name ≡ Some g
    is : g.known ≡ k

  variable-held : (ds : List Declared) (name : Name) (k : Known) → has (Plain name) (names_of ds) ≡ true → known_in top.known (Plain name) ≡ Some k → Held (filter_map (variable table top) ds) name k
  variable-held [] name k h is = absurd (true≢false (sym h))
  variable-held (d ∷ ds) name k h is = by_known (known_in top.known (Plain d.name)) (same_ref (Plain name) (Plain d.name)) refl refl (λ later. variable-held ds name k later is) h
    where
      same_known : same_ref (Plain name) (Plain d.name) ≡ true → known_in top.known (Plain d.name) ≡ Some k
      same_known s = ap (known_in top.known) (sym (same_ref-true (Plain name) (Plain d.name) s)) ∙ is

      tested : (k' : Known) (b : Bool) → same_ref (Plain name) (Plain d.name) ≡ b
          → holder (record { named = placed_name table d; known = k' } ∷ filter_map (variable table top) ds) name ≡ cond b (Some (record { named = placed_name table d; known = k' })) (holder (filter_map (variable table top) ds) name)
      tested k' b s = ap (λ b. cond b (Some (record { named = placed_name table d; known = k' })) (holder (filter_map (variable table top) ds) name)) (same_sym d.name name ∙ s)

      by_known : (o : Option Known) (b : Bool) → known_in top.known (Plain d.name) ≡ o → same_ref (Plain name) (Plain d.name) ≡ b
          → (has (Plain name) (names_of ds) ≡ true → Held (filter_map (variable table top) ds) name k) → (b || has (Plain name) (names_of ds)) ≡ true
          → Held (cons_option (option_map (λ (k' : Known). record { named = placed_name table d; known = k' }) o) (filter_map (variable table top) ds)) name k
      by_known None true e s more later = absurd (none-some k (sym e ∙ same_known s))
      by_known None false e s more later = more later
      by_known (Some k') true e s more later = record { g = record { named = placed_name table d; known = k' }; found = tested k' true s; is = same_Some k' k (sym e ∙ same_known s) }
      by_known (Some k') false e s more later = let held_later = more later in record { g = held_later.g; found = tested k' false s ∙ held_later.found; is = held_later.is }

  -- what is to hold the store of a `$` name stands for its variable or constant
  held : (name : Name) (k : Known) → known_in top.known (Plain name) ≡ Some k → IsOwn k → Held all name k
  held name k is own = by_cell (has (Plain name) cells) refl
    where
      by_cell : (b : Bool) → has (Plain name) cells ≡ b → Held all name k
      by_cell true h = by_given (holder given name) refl
        where
          is_variable_of : has (Plain name) (variables (declared_in c)) ≡ true
          is_variable_of = plain-cell (component_scopes c).top name (subst (λ l. has (Plain name) l ≡ true) are h)

          by_given : (o : Option Given) → holder given name ≡ o → Held all name k
          by_given None none =
              let found = variable-held (filter (λ d. is_variable d.by) (declared_in c)) name k is_variable_of is in
              record { g = found.g; found = holder-behind given rest name none ∙ found.found; is = found.is }
          by_given (Some g) some =
              absurd (variable-not-given table (declared_in c) name apart (variable-of (declared_in c) name is_variable_of)
              (subst (IsFixed (declared_in c)) (holder-name given name g some) (holder-each (GivenIsFixed (declared_in c)) given name g (givens-fixed table files c) some)))
      by_cell false h = by_given (holder given name) refl
        where
          found_in : known_in (Others table files cells c.script.stmts) (Plain name) ≡ Some k
          found_in = sym (other-known table files cells c.script.stmts (Plain name) h) ∙ is

          by_given : (o : Option Given) → holder given name ≡ o → Held all name k
          by_given None none =
              absurd (not_own k (built-foreign table (Plain name) k (sym (given-known given (all_built table) name ∙ ap (λ o. either (option_map (λ (g : Given). g.known) o) (known_in (all_built table) (Plain name))) none) ∙ found_in)) own)
          by_given (Some g) some = record {
            g = g;
            found = holder-front given rest name g some;
            is = same_Some g.known k (sym (given-known given (all_built table) name ∙ ap (λ o. either (option_map (λ (g : Given). g.known) o) (known_in (all_built table) (Plain name))) some) ∙ found_in);
          }

  -- ---- store cells

  store-is : (x : StoreCell) → IsAmong x list → IsStoreOf all cells x
  store-is x among = each-among (IsStoreOf all cells) list x (stores-of all cells) among

  store-named : (x : StoreCell) (s : IsStoreOf all cells x) → IsNamed (Plain s.name) x.holder
  store-named x s =
      subst (λ (k : Known). IsNamed (Plain s.name) k) (sym (ap (λ (y : StoreCell). y.holder) s.is))
      (subst (λ (n : Name). IsNamed (Plain n) s.given_for.known) (holder-name all s.name s.given_for s.found) (holder-each (GivenIsNamed cells (all_constants c.script.stmts)) all s.name s.given_for all-named s.found))

  same-stores : (x y : StoreCell) → IsStoreOf all cells x → IsStoreOf all cells y → x.cell ≡ y.cell → x ≡ y
  same-stores x y s r e =
      let named_same : s.name ≡ r.name = ap name_of (same_Some (Store s.name) (Store r.name) (sym s.cell ∙ (ap (slice_get cells) e ∙ r.cell))) in
      let given_same : s.given_for ≡ r.given_for = same_Some s.given_for r.given_for (sym s.found ∙ (ap (holder all) named_same ∙ r.found)) in
      s.is ∙ (ap (λ (k : ℕ). record { cell = k; holder = s.given_for.known; span = s.given_for.named.span }) e
      ∙ (ap (λ (g : Given). record { cell = y.cell; holder = g.known; span = g.named.span }) given_same ∙ sym r.is))

  pub hold-apart : HoldApart list
  hold-apart = record {
    cells = λ x y a b e. same-stores x y (store-is x a) (store-is y b) e;
    holders = λ x y a b own e.
        let s = store-is x a in
        let r = store-is y b in
        let same : s.name ≡ r.name = ap name_of (one_name cells (all_constants c.script.stmts) (Plain s.name) (Plain r.name) x.holder own (store-named x s) (subst (λ (k : Known). IsNamed (Plain r.name) k) (sym e) (store-named y r))) in
        same-stores x y s r (place x.cell y.cell s.name s.cell (subst (λ (n : Name). slice_get cells y.cell ≡ Some (Store n)) (sym same) r.cell));
    plain = λ x y a b e.
        let s = store-is x a in
        let r = store-is y b in
        plain-store s.name r.name (same_Some (Plain s.name) (Store r.name) (sym (subst (λ (k : Known). IsNamed (Plain s.name) k) e (store-named x s)) ∙ r.cell));
  }

  pub apart-view : (x : StoreCell) (cell : ℕ) → IsAmong x list → cell_of (known_in top.known VIEW) ≡ Some cell → x.holder ≢ known.Cell cell
  apart-view x cell a view e =
      let s = store-is x a in
      let there : slice_get cells cell ≡ Some VIEW = stands-for VIEW (known.Cell cell) (cell_of-some (known_in top.known VIEW) cell view) in
      true≢false (ap is_plain (same_Some (Plain s.name) VIEW (sym (subst (λ (k : Known). IsNamed (Plain s.name) k) e (store-named x s)) ∙ there)))

  pub apart-cells : (x : StoreCell) (n : ℕ) → length cells ≤ CELL_LIMIT → IsAmong x list → x.holder ≡ known.Cell n → n < (if nat_le (length cells) 255 then length cells else 255)
  apart-cells x n few a e = below (nat_le (length cells) 255) (at-below cells n _ (subst (λ (k : Known). IsNamed (Plain (store-is x a).name) k) e (store-named x (store-is x a))))
    where
      at-below : (xs : List Ref) (i : ℕ) (y : Ref) → slice_get xs i ≡ Some y → i < length xs
      at-below [] i y p = absurd (none-some y p)
      at-below (z ∷ xs) zero y p = omega arith
      at-below (z ∷ xs) (suc i) y p = let l = at-below xs i y p in omega (arith, l)

      below : (b : Bool) → n < length cells → n < (if b then length cells else 255)
      below true l = l
      below false l = omega (arith, l, few)

  pub apart-constants : (x : StoreCell) (n : ℕ) → IsAmong x list → x.holder ≡ known.Constant n → n < length (all_constants c.script.stmts)
  apart-constants x n a e = at-below (all_constants c.script.stmts) n _ (subst (λ (k : Known). IsNamed (Plain (store-is x a).name) k) e (store-named x (store-is x a)))
    where
      at-below : (xs : List Named) (i : ℕ) (y : Ref) → slice_get (map named xs) i ≡ Some y → i < length xs
      at-below [] i y p = absurd (none-some y p)
      at-below (z ∷ xs) zero y p = omega arith
      at-below (z ∷ xs) (suc i) y p = let l = at-below xs i y p in omega (arith, l)

  -- ---- what is declared tells

  is-told : (x : CodeDecl) (d : Declared) → IsCodeOf top x d → IsToldOf d → IsTold list x
  is-told x d code told = record {
    named = λ y a e.
        let s = store-is y a in
        let same : d.name ≡ s.name = ap name_of (one_name cells (all_constants c.script.stmts) (Plain d.name) (Plain s.name) it.k it.own (stands-for (Plain d.name) it.k it.is) (subst (λ (k : Known). IsNamed (Plain s.name) k) (sym e ∙ target) (store-named y s))) in
        let found = cell-known table files cells c.script.stmts (Store s.name) (has-at cells y.cell (Store s.name) s.cell) in
        let at : found.cell ≡ y.cell = place found.cell y.cell s.name (stands-for (Store s.name) (known.Cell found.cell) found.is) s.cell in
        code.store ∙ (ap (λ k. store_of k (known_at top [] (Store d.name))) it_known
        ∙ (ap (λ o. store_of it.k (known_or o (Store d.name))) (ap (λ (n : Name). known_in top.known (Store n)) same ∙ found.is) ∙ (store-own it.k it.own found.cell ∙ ap Some at)));
    names = λ cell e.
        let h = held d.name it.k it.is it.own in
        let is_cell : known_in top.known (Store d.name) ≡ Some (known.Cell cell) =
        known-cell (known_in top.known (Store d.name)) (Store d.name) cell (store-cell (known_at top [] (Plain d.name)) (known_at top [] (Store d.name)) cell (sym code.store ∙ e)) in (
          record { cell = cell; holder = h.g.known; span = h.g.named.span },
          (store-there all 0 cells cell cell d.name h.g (omega arith) (stands-for (Store d.name) (known.Cell cell) is_cell) h.found, (refl, target ∙ sym h.is)),
        );
    own = λ cell e. subst IsOwn (sym target) it.own;
  }
    where
      it : OwnKnown d.name
      it = own-known d told

      it_known : known_at top [] (Plain d.name) ≡ it.k
      it_known = ap (λ o. known_or o (Plain d.name)) it.is

      target : x.target ≡ it.k
      target = code.target ∙ it_known

  target-named : (x : CodeDecl) (d : Declared) → IsCodeOf top x d → IsToldOf d → IsOwn x.target × IsNamed (Plain d.name) x.target
  target-named x d code told =
      let it = own-known d told in
      let target : x.target ≡ it.k = code.target ∙ ap (λ o. known_or o (Plain d.name)) it.is in
      (subst IsOwn (sym target) it.own, subst (λ (k : Known). IsNamed (Plain d.name) k) (sym target) (stands-for (Plain d.name) it.k it.is))

  differs : (x : CodeDecl) (d : Declared) → IsCodeOf top x d → IsToldOf d → (xs : List CodeDecl) (ds : List Declared) → ArePaired (IsCodeOf top) xs ds → Each IsToldOf ds → Each (λ (e : Declared). name_in d ≢ name_in e) ds
      → Each (λ (y : CodeDecl). x.target ≢ y.target) xs
  differs x d code told [] [] pairs all_told_of other = tt
  differs x d code told [] (e ∷ ds) pairs all_told_of other = tt
  differs x d code told (y ∷ xs) [] pairs all_told_of other = absurd pairs
  differs x d code told (y ∷ xs) (e ∷ ds) pairs all_told_of other =
      let one = target-named x d code told in
      let two = target-named y e pairs.0 all_told_of.0 in (
        λ same. other.0 (ap name_of (one_name cells (all_constants c.script.stmts) (Plain d.name) (Plain e.name) x.target one.0 one.1 (subst (λ (k : Known). IsNamed (Plain e.name) k) (sym same) two.1))),
        differs x d code told xs ds pairs.1 all_told_of.1 other.1,
      )

  are-once : (xs : List CodeDecl) (ds : List Declared) → ArePaired (IsCodeOf top) xs ds → Each IsToldOf ds → AreToldApart name_in ds → AreOnce xs
  are-once [] [] pairs told apart_in = tt
  are-once [] (d ∷ ds) pairs told apart_in = tt
  are-once (x ∷ xs) [] pairs told apart_in = absurd pairs
  are-once (x ∷ xs) (d ∷ ds) pairs told apart_in = (differs x d pairs.0 told.0 xs ds pairs.1 told.1 apart_in.0, are-once xs ds pairs.1 told.1 apart_in.1)

  pub told-apart : (fs : List Function) → Each (IsTold list) (declared_at_top (of_stmts c.script.stmts top [] fs).0)
  told-apart fs = each-paired (IsCodeOf top) IsToldOf (IsTold list) is-told (declared_at_top (of_stmts c.script.stmts top [] fs).0) (all_told c.script.stmts) (script-lowered top c.script.stmts fs) told-each

  pub once-apart : (fs : List Function) → AreOnce (declared_at_top (of_stmts c.script.stmts top [] fs).0)
  once-apart fs =
      are-once (declared_at_top (of_stmts c.script.stmts top [] fs).0) (all_told c.script.stmts) (script-lowered top c.script.stmts fs) told-each
      (apart-thinned name_in (all_told c.script.stmts) (all_formed c.script.stmts) (told-thinned c.script.stmts) (apart-thinned name_in (all_formed c.script.stmts) (declared_in c) (formed-thinned c) apart))
