-- What tables tell of files, and where imports lead.
use Rattle.std.proofs.Common.{◌≡◌, ℕ, zero, suc, ◌+◌, ◌<◌, Bool, true, false, cond, List, [], ◌∷◌, ◌++◌, Option, None, Some, length, map, refl, sym, ap, ◌∙◌, inl, inr, ◌⊎◌, subst, arith}
use Rattle.std.specs.Prelude.{Vec, position, slice_get, unwrap_or}
use Rattle.std.specs.List.{filter_map, cons_option, position_or_len}
use Rattle.std.specs.Option.{option_map_or}
use Rattle.std.specs.declared.alloc.Global.{Global}
use Rattle.std.proofs.lemmas.Bool.{cases_eq, cases_lt, lt-ltb, le-ltb, false≢true}
use Rattle.std.proofs.lemmas.List.{length_push, length-map}
use Rattle.sv_ast.specs.declared.files.SourceFile.{SourceFile}
use Rattle.sv_ast.specs.declared.script_tree.Stmt.{Stmt}
use Rattle.sv_ast.specs.declared.script_tree.StmtKind.{StmtKind-F, out-StmtKind}
use Rattle.sv_graph.specs.Links.{is_in, links_of, IsWhole}
use Rattle.sv_graph.specs.Reached.{Leads, IsReached}
use Rattle.sv_graph.specs.Search.{met_at}
use Rattle.sv_graph.proofs.Points.{in_cons}
use Rattle.sv_ast.specs.Files.{statements_of, name_in}
use Rattle.sv_imports.specs.Imports.{StmtLayer, file_of_name, target_layer, target, targets, imports}
use Rattle.sv_imports.specs.Table.{leads_in, IsTable}

-- ---- tables

leads-below : (table : List (Vec Bool Global)) (row : Vec Bool Global) (p q : ℕ) → p < length table → leads_in (table ++ row ∷ []) p q ≡ leads_in table p q
leads-below [] row p q h = absurd (omega (arith, h))
leads-below (r ∷ table) row zero q h = refl
leads-below (r ∷ table) row (suc p) q h = leads-below table row p q (omega (arith, h))

told : (xs : List Bool) (q : ℕ) → option_map_or (λ is_reached. is_reached) (slice_get xs q) false ≡ met_at xs q
told [] q = refl
told (x ∷ xs) zero = refl
told (x ∷ xs) (suc q) = told xs q

leads-last : (table : List (Vec Bool Global)) (row : Vec Bool Global) (n q : ℕ) → n ≡ length table → leads_in (table ++ row ∷ []) n q ≡ met_at row.items q
leads-last [] row zero q e = told row.items q
leads-last [] row (suc n) q e = absurd (omega (arith, e))
leads-last (r ∷ table) row zero q e = absurd (omega (arith, e))
leads-last (r ∷ table) row (suc n) q e = leads-last table row n q (omega (arith, e))

-- no rows
pub table-none : (links : List (List ℕ)) (table : List (Vec Bool Global)) → table ≡ [] → IsTable links 0 table
table-none links table e = record { size = ap length e; only = λ p q h e. absurd (omega (arith, h)); each = λ p q h e. absurd (omega (arith, h)) }

-- one row more
pub table-more : (links : List (List ℕ)) (n : ℕ) (table new : List (Vec Bool Global)) (row : Vec Bool Global) → IsTable links n table → IsReached (links_of links) (n ∷ []) (length links) row.items
    → new ≡ table ++ row ∷ [] → IsTable links (n + 1) new
table-more links n table new row t r e = record {
  size = ap length e ∙ length_push table row ∙ ap (λ z. z + 1) t.size;
  only = λ p q h told. elim (cases_eq p n) [
    | inl same ↦ subst (λ z. Leads (links_of links) (z ∷ []) q) (sym same) (r.only q (sym (leads-last table row n q (sym t.size)) ∙ sym (ap (λ z. leads_in z n q) e) ∙ subst (λ z. leads_in new z q ≡ true) same told))
    | inr other ↦ let below : p < n = omega (arith, h, other) in
        t.only p q below (sym (leads-below table row p q (subst (λ z. p < z) (sym t.size) below)) ∙ sym (ap (λ z. leads_in z p q) e) ∙ told)
  ];
  each = λ p q h leads. elim (cases_eq p n) [
    | inl same ↦ ap (λ z. leads_in z p q) e ∙ subst (λ z. leads_in (table ++ row ∷ []) z q ≡ true) (sym same) (leads-last table row n q (sym t.size) ∙ r.each q (subst (λ z. Leads (links_of links) (z ∷ []) q) same leads))
    | inr other ↦ let below : p < n = omega (arith, h, other) in
        ap (λ z. leads_in z p q) e ∙ leads-below table row p q (subst (λ z. p < z) (sym t.size) below) ∙ t.each p q below leads
  ];
}

-- ---- the imports of files are files

some_is : (b : Bool) (n q : ℕ) → b ≡ true → cond b (Some n) None ≡ Some q → n ≡ q
some_is b n q e h = let s : Some n ≡ Some q = sym (ap (λ z. cond z (Some n) None) e) ∙ h in ap (λ o. unwrap_or o 0) s

some_not : (b : Bool) (n q : ℕ) → b ≡ false → cond b (Some n) None ≡ Some q → ⊥
some_not b n q e h = let s : None ≡ Some q = sym (ap (λ z. cond z (Some n) None) e) ∙ h in cc

pub position-within : {X : Type 0} (p : X → Bool) (xs : List X) (q : ℕ) → position p xs ≡ Some q → q < length xs
position-within p xs q h = elim (cases_lt (position_or_len p xs) (length xs)) [
  | inl below ↦ subst (λ z. z < length xs) (some_is _ _ q (lt-ltb (position_or_len p xs) (length xs) below) h) below
  | inr past ↦ absurd (some_not _ (position_or_len p xs) q (le-ltb (position_or_len p xs) (length xs) past) h)
]

named-within : (files : List SourceFile) (name : Option (List ℕ)) (q : ℕ) → file_of_name files name ≡ Some q → q < length files
named-within files None q h = absurd (let no : None ≡ Some q = h in cc)
named-within files (Some name) q h = position-within _ files q h

layer-within : (files : List SourceFile) (layer : StmtLayer) (q : ℕ) → target_layer files layer ≡ Some q → q < length files
layer-within files (StmtKind-F.Import i) q h = named-within files (name_in i.from) q h
layer-within files _ q h = absurd (let no : None ≡ Some q = h in cc)

in_option : (o : Option ℕ) (q : ℕ) (rest : List ℕ) → is_in q (cons_option o rest) ≡ true → (o ≡ Some q) ⊎ (is_in q rest ≡ true)
in_option None q rest h = inr h
in_option (Some x) q rest h = elim (in_cons q x rest h) [ inl e ↦ inl (ap Some e) | inr e ↦ inr e ]

targets-within : (files : List SourceFile) (stmts : List Stmt) (q : ℕ) → is_in q (filter_map (target files) stmts) ≡ true → q < length files
targets-within files [] q h = absurd (false≢true h)
targets-within files (s ∷ stmts) q h = elim (in_option (target files s) q (filter_map (target files) stmts) h) [
  | inl own ↦ layer-within files (out-StmtKind s.kind) q own
  | inr later ↦ targets-within files stmts q later
]

all-within : (files sources : List SourceFile) (p q : ℕ) → is_in q (links_of (map (targets files) sources) p) ≡ true → q < length files
all-within files [] p q h = absurd (false≢true h)
all-within files (source ∷ sources) zero q h = targets-within files (statements_of source.tree) q h
all-within files (source ∷ sources) (suc p) q h = all-within files sources p q h

-- what files import is there
pub imports-whole : (files : List SourceFile) (links : List (List ℕ)) → links ≡ imports files → IsWhole links
imports-whole files links e =
    let size : length links ≡ length files = ap length e ∙ length-map files (targets files) in
    record { within = λ p q h. subst (λ z. q < z) (sym size) (all-within files files p q (subst (λ z. is_in q (links_of z p) ≡ true) e h)) }
