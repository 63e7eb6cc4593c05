-- The list of an each block looks at what the key of its rows looks at, but for the names of the row.
use Rattle.std.proofs.Common.{◌≡◌, ℕ, suc, Bool, true, false, List, [], ◌∷◌, ◌++◌, Option, None, Some, map, option_map, filter, refl, sym, ap, subst, ◌∙◌, nat_eq, eqb-true, is_some, true≢false}
use Rattle.std.specs.Prelude.{if◌then◌else◌, not, ◌||◌}
use Rattle.std.specs.List.{list_any}
use Rattle.std.proofs.lemmas.Bool.{not-true}
use Rattle.std.proofs.lemmas.List.Folds.{list_any-append}
use Rattle.sv_ast.specs.declared.names.Named.{Named}
use Rattle.sv_ast.specs.declared.names.Ref.{Ref}
use Rattle.sv_ast.specs.declared.names.Ref.TheVariants.{Plain, Store}
use Rattle.sv_ast.specs.declared.script_tree.Expr.{Expr}
use Rattle.sv_base.specs.declared.names.Name.{Name}
use Rattle.sv_code.specs.declared.parts.Reading.{Reading}
use Rattle.sv_code.specs.Content as looks
use Rattle.sv_code.specs.Content.{is_bound}
use Rattle.sv_code.specs.Within.{has_cell, has_local}
use Rattle.sv_deps.specs.Reading.{number_if, numbers_from, counts_as_local, reading}
use Rattle.sv_fragments.specs.Expressions.{list_names}
use Rattle.sv_fragments.specs.Frags.{row_refs}
use Rattle.sv_lower.specs.Tops.{Tops, known_in}
use Rattle.sv_names.proofs.Same.{has-append, has-firsts, has-head, same_ref-true}
use Rattle.sv_names.specs.Distinct.{same_ref, has}
use Rattle.sv_names.specs.Locals.{name_of}
use Rattle.sv_names.specs.Uses.{free_names}
use Rattle.sv_scopes.specs.Rows.{row_names}
use Rattle.sv_within.proofs.Bools.{or_cases, or_first, or_second, not_if}
use Rattle.sv_within.proofs.Looking.{has_kept, kept_has}
use Rattle.sv_within.proofs.Seeing.{plain_has}

-- ---- what is kept of names

-- a name that is kept is one of them, and it is one that is to be kept
record IsKept (keeps : Ref → Bool) (names : List Ref) (n : Ref) : Type 0 where
  among : has n names ≡ true
  wanted : keeps n ≡ true

kept_is : (keeps : Ref → Bool) (names : List Ref) (n : Ref) → has n (filter keeps names) ≡ true → IsKept keeps names n
kept_is keeps [] n h = absurd (true≢false (sym h))
kept_is keeps (m ∷ names) n h = by (keeps m) refl (λ k. let own = kept_is keeps names n k in record { among = or_second (same_ref n m) (has n names) own.among; wanted = own.wanted }) h
  where
    by : (b : Bool) → keeps m ≡ b → (has n (filter keeps names) ≡ true → IsKept keeps (m ∷ names) n) → has n (if b then m ∷ filter keeps names else filter keeps names) ≡ true → IsKept keeps (m ∷ names) n
    by true e later k = or_cases (same_ref n m) (has n (filter keeps names)) k (λ s. record { among = or_first (same_ref n m) (has n names) s; wanted = ap keeps (same_ref-true n m s) ∙ e }) later
    by false e later k = later k

-- one of some names is called so
record IsCalled (x : Name) (names : List Ref) : Type 0 where
  ref : Ref
  among : has ref names ≡ true
  is : x ≡ name_of ref

same_number : (x y : Name) → x.0 ≡ y.0 → x ≡ y
same_number x y e = ap (λ z. record { 0 = z }) e

called : (x : Name) (names : List Ref) → is_bound x (map name_of names) ≡ true → IsCalled x names
called x [] h = absurd (true≢false (sym h))
called x (m ∷ names) h =
    or_cases (nat_eq x.0 (name_of m).0) (is_bound x (map name_of names)) h
    (λ s. record { ref = m; among = has-head m m names refl; is = same_number x (name_of m) (eqb-true x.0 (name_of m).0 s) })
    (λ r. let own = called x names r in record { ref = own.ref; among = or_second (same_ref own.ref m) (has own.ref names) own.among; is = own.is })

-- ---- more names

number_more : (a b : Bool) (start k : ℕ) → (a ≡ true → b ≡ true) → list_any (nat_eq k) (number_if a start) ≡ true → list_any (nat_eq k) (number_if b start) ≡ true
number_more true b start k f h = ap (λ z. list_any (nat_eq k) (number_if z start)) (f refl) ∙ h
number_more false b start k f h = absurd (true≢false (sym h))

-- more names have more numbers
numbers_more : (start : ℕ) (cells few more : List Ref) → ((n : Ref) → has n few ≡ true → has n more ≡ true) → (k : ℕ) → list_any (nat_eq k) (numbers_from start cells few) ≡ true → list_any (nat_eq k) (numbers_from start cells more) ≡ true
numbers_more start [] few more f k h = h
numbers_more start (c ∷ cells) few more f k h =
    let own = number_if (has c few) start in
    let rest = numbers_from (suc start) cells few in
    let own' = number_if (has c more) start in
    let rest' = numbers_from (suc start) cells more in
    list_any-append (nat_eq k) own' rest'
    ∙ or_cases (list_any (nat_eq k) own) (list_any (nat_eq k) rest) (sym (list_any-append (nat_eq k) own rest) ∙ h)
    (λ o. or_first (list_any (nat_eq k) own') (list_any (nat_eq k) rest') (number_more (has c few) (has c more) start k (f c) o))
    (λ r. or_second (list_any (nat_eq k) own') (list_any (nat_eq k) rest') (numbers_more (suc start) cells few more f k r))

-- ---- names of a row

-- no store is a plain name
no_store : (x : Name) (names : List Name) → has (Store x) (map Plain names) ≡ false
no_store x [] = refl
no_store x (y ∷ names) = no_store x names

plain_bound : (names : List Name) (r : Ref) → has r (map Plain names) ≡ true → is_bound (name_of r) names ≡ true
plain_bound names (Plain x) h = sym (plain_has x names) ∙ h
plain_bound names (Store x) h = absurd (true≢false (sym h ∙ no_store x names))

-- what the names of a row are called
abbrev pub called_in : Named → Option Named → List Name
called_in item index = looks.row_names item.name (option_map (λ i. i.name) index)

row_plain : (item : Named) (index : Option Named) → row_names item index ≡ map Plain (called_in item index)
row_plain item None = refl
row_plain item (Some index) = refl

row_bound : (item : Named) (index : Option Named) (r : Ref) → has r (row_refs item index) ≡ true → is_bound (name_of r) (called_in item index) ≡ true
row_bound item index r h = plain_bound (called_in item index) r (ap (has r) (sym (row_plain item index)) ∙ (sym (has-firsts r (row_names item index)) ∙ h))

-- ---- what a list and its key look at

module _ (tops : Tops) (cells locals : List Ref) (item : Named) (index : Option Named) (list key : Expr) where
  abbrev row : List Ref
  row = row_refs item index

  abbrev bound : List Name
  bound = called_in item index

  abbrev names : List Ref
  names = list_names row list (Some key)

  abbrev list_reads : Reading
  list_reads = reading tops cells locals names

  abbrev key_reads : Reading
  key_reads = reading tops cells (row ++ locals) (free_names key)

  -- what is free in the key and is none of the row's is a name of the list
  names_have : (n : Ref) → has n row ≡ false → has n (free_names key) ≡ true → has n names ≡ true
  names_have n o h =
      let others = filter (λ name. not (has name row)) (free_names key) in
      has-firsts n (free_names list ++ others) ∙ (has-append n (free_names list) others ∙ or_second (has n (free_names list)) (has n others) (has_kept row (free_names key) n o h))

  -- a name that isn't declared round the key is none of the row's, and isn't declared round the list
  abbrev inside : Ref → Bool
  inside n = has n (row ++ locals)

  no_row : (n : Ref) → inside n ≡ false → has n row ≡ false
  no_row n o = not_if (has n row) (inside n) (λ k. has-append n row locals ∙ or_first (has n row) (has n locals) k) o

  no_local : (n : Ref) → inside n ≡ false → has n locals ≡ false
  no_local n o = not_if (has n locals) (inside n) (λ k. has-append n row locals ∙ or_second (has n row) (has n locals) k) o

  cells_have : (n : Ref) → has n (filter (λ m. not (inside m)) (free_names key)) ≡ true → has n (filter (λ m. not (has m locals)) names) ≡ true
  cells_have n h =
      let own = kept_is (λ m. not (inside m)) (free_names key) n h in
      let o = not-true (inside n) own.wanted in
      has_kept locals names n (no_local n o) (names_have n (no_row n o) own.among)

  pub key_cells : (n : ℕ) → has_cell key_reads n ≡ true → has_cell list_reads n ≡ true
  key_cells = numbers_more 0 cells (filter (λ m. not (inside m)) (free_names key)) (filter (λ m. not (has m locals)) names) cells_have

  -- what counts as a local round the key, and is none of the row's, does so round the list
  counts_round : (n : Ref) → has n row ≡ false → counts_as_local tops (row ++ locals) n ≡ true → counts_as_local tops locals n ≡ true
  counts_round n o h = sym (ap (λ b. b || not (is_some (known_in tops.known n))) (has-append n row locals ∙ ap (λ b. b || has n locals) o)) ∙ h

  local_has : (n : Ref) → IsKept (counts_as_local tops (row ++ locals)) (free_names key) n → (b : Bool) → has n row ≡ b → (is_bound (name_of n) bound || has_local list_reads (name_of n)) ≡ true
  local_has n own true o = or_first (is_bound (name_of n) bound) (has_local list_reads (name_of n)) (row_bound item index n o)
  local_has n own false o =
      or_second (is_bound (name_of n) bound) (has_local list_reads (name_of n)) (kept_has (counts_as_local tops locals) names n (names_have n o own.among) (counts_round n o own.wanted))

  pub key_locals : (x : Name) → has_local key_reads x ≡ true → (is_bound x bound || has_local list_reads x) ≡ true
  key_locals x h =
      let counts = counts_as_local tops (row ++ locals) in
      let own = called x (filter counts (free_names key)) h in
      let n = own.ref in
      subst (λ y. (is_bound y bound || has_local list_reads y) ≡ true) (sym own.is) (local_has n (kept_is counts (free_names key) n own.among) (has n row) refl)
