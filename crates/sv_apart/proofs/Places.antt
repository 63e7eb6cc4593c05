-- The store cells of a component: each is the cell of a `$` name, of which there is one, and has what is to hold the store of that name.
use Rattle.std.proofs.Common.{◌≡◌, ℕ, zero, suc, ◌+◌, Bool, true, false, cond, List, [], ◌∷◌, ◌++◌, Option, None, Some, map, filter, find, option_map, option_to_list, append-nil, append_assoc, refl, sym, ap, subst, ◌∙◌, arith, inl, inr, ◌⊎◌, ⊎_elim}
use Rattle.std.specs.Prelude.{◌||◌, not, slice_get, if◌then◌else◌}
use Rattle.std.proofs.lemmas.Bool.{true≢false, false≢true, or_parts, or_from, or_right, or_left}
use Rattle.std.proofs.lemmas.Option.{none-some, same_Some}
use Rattle.sv_ast.specs.declared.names.Ref.{Ref}
use Rattle.sv_ast.specs.declared.names.Ref.TheVariants.{Plain, Store}
use Rattle.sv_base.specs.declared.names.Name.{Name}
use Rattle.sv_code.proofs.Each.{each_append}
use Rattle.sv_code.specs.Names.{Each}
use Rattle.sv_code.specs.declared.known.Known.{Known}
use Rattle.sv_code.specs.declared.program.StoreCell.{StoreCell}
use Rattle.sv_compile.specs.Constants.{same_name}
use Rattle.sv_compile.specs.TopLevel.{is_plain, holder, store_at, stores_from}
use Rattle.sv_names.proofs.Same.{same_ref-true, same_ref-self, has-append, has-firsts}
use Rattle.sv_names.specs.Distinct.{same_ref, has, with_name, with_names, firsts}
use Rattle.sv_names.specs.Locals.{name_of}
use Rattle.sv_resolve.specs.Cells.{is_store, is_variable, stores, uses_view, variables, scopes}
use Rattle.sv_scopes.specs.Parts.{names_of}
use Rattle.sv_scopes.specs.declared.scope.Declared.{Declared}
use Rattle.sv_scopes.specs.declared.scope.Scope.{Scope}
use Rattle.sv_scopes.specs.declared.scope.TheConstants.{VIEW}
use Rattle.sv_scopes.specs.declared.scope.Use.{Use}
use Rattle.sv_subscribed.specs.Holders.{IsAmong}
use Rattle.sv_apart.proofs.Names.{Given}

-- ---- names, each once

abbrev AreOnce : List Ref → Type 0
AreOnce [] = Unit {0}
AreOnce (x ∷ xs) = (has x xs ≡ false) × AreOnce xs

pub has-at : (xs : List Ref) (i : ℕ) (x : Ref) → slice_get xs i ≡ Some x → has x xs ≡ true
has-at [] i x e = absurd (none-some x e)
has-at (y ∷ xs) zero x e = or_left (same_ref x y) (has x xs) (subst (λ z. same_ref x z ≡ true) (sym (same_Some y x e)) (same_ref-self x))
has-at (y ∷ xs) (suc i) x e = or_right (same_ref x y) (has x xs) (has-at xs i x e)

one-place : (xs : List Ref) (i j : ℕ) (x : Ref) → AreOnce xs → slice_get xs i ≡ Some x → slice_get xs j ≡ Some x → i ≡ j
one-place [] i j x once p q = absurd (none-some x p)
one-place (y ∷ xs) zero zero x once p q = refl
one-place (y ∷ xs) zero (suc j) x once p q = absurd (true≢false (sym (has-at xs j x q) ∙ subst (λ z. has z xs ≡ false) (same_Some y x p) once.0))
one-place (y ∷ xs) (suc i) zero x once p q = absurd (true≢false (sym (has-at xs i x p) ∙ subst (λ z. has z xs ≡ false) (same_Some y x q) once.0))
one-place (y ∷ xs) (suc i) (suc j) x once p q = ap suc (one-place xs i j x once.1 p q)

same_other : (x y : Ref) → same_ref y x ≡ false → same_ref x y ≡ false
same_other x y e = by_same (same_ref x y) refl
  where
    by_same : (b : Bool) → same_ref x y ≡ b → same_ref x y ≡ false
    by_same false p = p
    by_same true p = absurd (true≢false (sym (same_ref-self x) ∙ (ap (λ z. same_ref z x) (same_ref-true x y p) ∙ e)))

once-more : (xs : List Ref) (y : Ref) → AreOnce xs → has y xs ≡ false → AreOnce (xs ++ y ∷ [])
once-more [] y once new = (refl, tt)
once-more (x ∷ xs) y once new =
    let parts = or_parts (same_ref y x) (has y xs) new in
    (has-append x xs (y ∷ []) ∙ or_from (has x xs) (has x (y ∷ [])) once.0 (or_from (same_ref x y) false (same_other x y parts.0) refl), once-more xs y once.1 parts.1)

once-names : (xs more : List Ref) → AreOnce xs → AreOnce (with_names xs more)
once-names xs [] once = once
once-names xs (y ∷ more) once = once-names (with_name xs y) more (by_has (has y xs) refl)
  where
    by_has : (b : Bool) → has y xs ≡ b → AreOnce (if b then xs else xs ++ y ∷ [])
    by_has true e = once
    by_has false e = once-more xs y once e

-- ---- `$` names stand behind the variables, each once

not-not : (b : Bool) → not b ≡ true → b ≡ false
not-not true e = absurd (true≢false (sym e))
not-not false e = refl

not-view : (n : Ref) → is_store n ≡ true → same_ref VIEW n ≡ false
not-view (Plain name) e = absurd (true≢false (sym e))
not-view (Store name) e = same_other VIEW (Store name) (not-not (same_ref (Store name) VIEW) e)

no-view : (names : List Ref) → has VIEW (filter is_store names) ≡ false
no-view [] = refl
no-view (n ∷ names) = by_store (is_store n) refl (no-view names)
  where
    by_store : (b : Bool) → is_store n ≡ b → has VIEW (filter is_store names) ≡ false → has VIEW (cond b (n ∷ filter is_store names) (filter is_store names)) ≡ false
    by_store true e later = or_from (same_ref VIEW n) (has VIEW (filter is_store names)) (not-view n e) later
    by_store false e later = later

stores-once : (uses : List Use) (b : Bool) → AreOnce (stores uses ++ (if b then VIEW ∷ [] else []))
stores-once uses true = once-more (stores uses) VIEW (once-names [] (filter is_store (map (λ u. u.name) uses)) tt) (has-firsts VIEW (filter is_store (map (λ u. u.name) uses)) ∙ no-view (map (λ u. u.name) uses))
stores-once uses false = subst AreOnce (sym (append-nil (stores uses))) (once-names [] (filter is_store (map (λ u. u.name) uses)) tt)

pub plain-store : (m n : Name) → Plain m ≡ Store n → ⊥
plain-store m n e = true≢false (ap is_plain e)

behind-plain : (ds : List Declared) (more : List Ref) (i j : ℕ) (name : Name) → AreOnce more → slice_get (names_of ds ++ more) i ≡ Some (Store name) → slice_get (names_of ds ++ more) j ≡ Some (Store name) → i ≡ j
behind-plain [] more i j name once p q = one-place more i j (Store name) once p q
behind-plain (d ∷ ds) more zero j name once p q = absurd (plain-store d.name name (same_Some (Plain d.name) (Store name) p))
behind-plain (d ∷ ds) more (suc i) zero name once p q = absurd (plain-store d.name name (same_Some (Plain d.name) (Store name) q))
behind-plain (d ∷ ds) more (suc i) (suc j) name once p q = ap suc (behind-plain ds more i j name once p q)

-- variables come first
cells-are : (top : Scope) → (scopes top).cells ≡ variables top.declares ++ (stores top.uses ++ (if uses_view top.uses then VIEW ∷ [] else []))
cells-are top = append_assoc (variables top.declares) (stores top.uses) (if uses_view top.uses then VIEW ∷ [] else [])

-- each `$` name has one cell
pub store-place : (top : Scope) (i j : ℕ) (name : Name) → slice_get (scopes top).cells i ≡ Some (Store name) → slice_get (scopes top).cells j ≡ Some (Store name) → i ≡ j
store-place top i j name p q =
    behind-plain (filter (λ (d : Declared). is_variable d.by) top.declares) (stores top.uses ++ (if uses_view top.uses then VIEW ∷ [] else [])) i j name (stores-once top.uses (uses_view top.uses))
    (subst (λ l. slice_get l i ≡ Some (Store name)) (cells-are top) p) (subst (λ l. slice_get l j ≡ Some (Store name)) (cells-are top) q)

plain-store-other : (name n : Name) (more : List Ref) (b : Bool) → has (Plain name) more ≡ false → has (Plain name) (cond b (Store n ∷ more) more) ≡ false
plain-store-other name n more true later = later
plain-store-other name n more false later = later

no-plain : (name : Name) (names : List Ref) → has (Plain name) (filter is_store names) ≡ false
no-plain name [] = refl
no-plain name (Plain n ∷ names) = no-plain name names
no-plain name (Store n ∷ names) = plain-store-other name n (filter is_store names) (is_store (Store n)) (no-plain name names)

no-plain-view : (name : Name) (b : Bool) → has (Plain name) (if b then VIEW ∷ [] else []) ≡ false
no-plain-view name true = refl
no-plain-view name false = refl

no-plain-behind : (name : Name) (uses : List Use) (b : Bool) → has (Plain name) (stores uses ++ (if b then VIEW ∷ [] else [])) ≡ false
no-plain-behind name uses b =
    has-append (Plain name) (stores uses) (if b then VIEW ∷ [] else [])
    ∙ or_from (has (Plain name) (stores uses)) (has (Plain name) (if b then VIEW ∷ [] else [])) (has-firsts (Plain name) (filter is_store (map (λ u. u.name) uses)) ∙ no-plain name (map (λ u. u.name) uses)) (no-plain-view name b)

-- a plain name that has a cell is that of a variable
pub plain-cell : (top : Scope) (name : Name) → has (Plain name) (scopes top).cells ≡ true → has (Plain name) (variables top.declares) ≡ true
plain-cell top name h = by_parts (has (Plain name) (variables top.declares)) refl
  where
    by_parts : (b : Bool) → has (Plain name) (variables top.declares) ≡ b → has (Plain name) (variables top.declares) ≡ true
    by_parts true e = e
    by_parts false e =
        absurd (true≢false (sym h ∙ (ap (has (Plain name)) (cells-are top) ∙ has-append (Plain name) (variables top.declares) (stores top.uses ++ (if uses_view top.uses then VIEW ∷ [] else []))
        ∙ or_from (has (Plain name) (variables top.declares)) _ e (no-plain-behind name top.uses (uses_view top.uses)))))

-- and a variable has one
pub variable-cell : (top : Scope) (name : Name) → has (Plain name) (variables top.declares) ≡ true → has (Plain name) (scopes top).cells ≡ true
variable-cell top name h =
    ap (has (Plain name)) (cells-are top) ∙ has-append (Plain name) (variables top.declares) (stores top.uses ++ (if uses_view top.uses then VIEW ∷ [] else [])) ∙ or_left (has (Plain name) (variables top.declares)) _ h

-- ---- store cells

-- the cell of a `$` name, with what is to hold its store
pub record IsStoreOf (given : List Given) (cells : List Ref) (x : StoreCell) : Type 0 where
  pub name : Name
  pub cell : slice_get cells x.cell ≡ Some (Store name)
  pub given_for : Given
  pub found : holder given name ≡ Some given_for
  pub is : x ≡ record { cell = x.cell; holder = given_for.known; span = given_for.named.span }

store-of : (given : List Given) (cells : List Ref) (n : ℕ) (own : List Ref) → ((i m : ℕ) → m ≡ n + i → slice_get own i ≡ slice_get cells m) → Each (IsStoreOf given cells) (stores_from given n own)
store-of given cells n [] f = tt
store-of given cells n (c ∷ own) f =
    each_append (IsStoreOf given cells) (store_at given n c) (stores_from given (suc n) own) (of_name c (sym (f 0 n (omega arith)))) (store-of given cells (suc n) own (λ i m e. f (suc i) m (omega (arith, e))))
  where
    of_name : (r : Ref) → slice_get cells n ≡ Some r → Each (IsStoreOf given cells) (store_at given n r)
    of_name (Plain name) there = tt
    of_name (Store name) there = of_holder (holder given name) refl
      where
        of_holder : (o : Option Given) → holder given name ≡ o → Each (IsStoreOf given cells) (option_to_list (option_map (λ (g : Given). record { cell = n; holder = g.known; span = g.named.span }) o))
        of_holder None e = tt
        of_holder (Some g) e = (record { name = name; cell = there; given_for = g; found = e; is = refl }, tt)

pub stores-of : (given : List Given) (cells : List Ref) → Each (IsStoreOf given cells) (stores_from given 0 cells)
stores-of given cells = store-of given cells 0 cells (λ i m e. ap (slice_get cells) (omega (arith, e)))

among-append : {A : Type 0} (x : A) (xs ys : List A) → IsAmong x ys → IsAmong x (xs ++ ys)
among-append x [] ys h = h
among-append x (y ∷ xs) ys h = inr (among-append x xs ys h)

among-front : {A : Type 0} (x : A) (xs ys : List A) → IsAmong x xs → IsAmong x (xs ++ ys)
among-front x [] ys h = absurd h
among-front x (y ∷ xs) ys h = ⊎_elim (λ is. inl is) (λ later. inr (among-front x xs ys later)) h

-- each `$` name that has a cell, and for which something is to hold a store, is one of them
pub store-there : (given : List Given) (n : ℕ) (cells : List Ref) (i m : ℕ) (name : Name) (g : Given) → m ≡ n + i → slice_get cells i ≡ Some (Store name) → holder given name ≡ Some g
    → IsAmong (record { cell = m; holder = g.known; span = g.named.span }) (stores_from given n cells)
store-there given n [] i m name g e there found = absurd (none-some (Store name) there)
store-there given n (c ∷ cells) zero m name g e there found =
    among-front x (store_at given n c) (stores_from given (suc n) cells)
    (subst (λ (r : Ref). IsAmong x (store_at given n r)) (sym (same_Some c (Store name) there))
    (subst (λ (o : Option Given). IsAmong x (option_to_list (option_map (λ (h : Given). record { cell = n; holder = h.known; span = h.named.span }) o))) (sym found) (inl place)))
  where
    x : StoreCell
    x = record { cell = m; holder = g.known; span = g.named.span }

    place : record { cell = n; holder = g.known; span = g.named.span } ≡ x
    place = ap (λ (k : ℕ). record { cell = k; holder = g.known; span = g.named.span }) (omega (arith, e))
store-there given n (c ∷ cells) (suc i) m name g e there found =
    among-append (record { cell = m; holder = g.known; span = g.named.span }) (store_at given n c) (stores_from given (suc n) cells) (store-there given (suc n) cells i m name g (omega (arith, e)) there found)

-- what is found under a name has it
pub holder-name : (given : List Given) (name : Name) (g : Given) → holder given name ≡ Some g → g.named.name ≡ name
holder-name [] name g e = absurd (none-some g e)
holder-name (x ∷ given) name g e = by_test (same_name x.named.name name) refl (λ f. holder-name given name g f) e
  where
    by_test : (b : Bool) → same_name x.named.name name ≡ b → (holder given name ≡ Some g → g.named.name ≡ name) → cond b (Some x) (holder given name) ≡ Some g → g.named.name ≡ name
    by_test true same later f = ap (λ (y : Given). y.named.name) (sym (same_Some x g f)) ∙ ap name_of (same_ref-true (Plain x.named.name) (Plain name) same)
    by_test false same later f = later f

-- and what is so of each is so of it
pub holder-each : (P : Given → Type 0) (given : List Given) (name : Name) (g : Given) → Each P given → holder given name ≡ Some g → P g
holder-each P [] name g h e = absurd (none-some g e)
holder-each P (x ∷ given) name g h e = by_test (same_name x.named.name name) (λ f. holder-each P given name g h.1 f) e
  where
    by_test : (b : Bool) → (holder given name ≡ Some g → P g) → cond b (Some x) (holder given name) ≡ Some g → P g
    by_test true later f = subst P (same_Some x g f) h.0
    by_test false later f = later f

pub holder-front : (given more : List Given) (name : Name) (g : Given) → holder given name ≡ Some g → holder (given ++ more) name ≡ Some g
holder-front [] more name g e = absurd (none-some g e)
holder-front (x ∷ given) more name g e = by_test (same_name x.named.name name) (λ f. holder-front given more name g f) e
  where
    by_test : (b : Bool) → (holder given name ≡ Some g → holder (given ++ more) name ≡ Some g) → cond b (Some x) (holder given name) ≡ Some g → cond b (Some x) (holder (given ++ more) name) ≡ Some g
    by_test true later f = f
    by_test false later f = later f

pub holder-behind : (given more : List Given) (name : Name) → holder given name ≡ None → holder (given ++ more) name ≡ holder more name
holder-behind [] more name e = refl
holder-behind (x ∷ given) more name e = by_test (same_name x.named.name name) (λ f. holder-behind given more name f) e
  where
    by_test : (b : Bool) → (holder given name ≡ None → holder (given ++ more) name ≡ holder more name) → cond b (Some x) (holder given name) ≡ None → cond b (Some x) (holder (given ++ more) name) ≡ holder more name
    by_test true later f = absurd (none-some x (sym f))
    by_test false later f = later f
