-- Tables of what is known, file by file.
use Rattle.std.proofs.Common.{◌≡◌, ℕ, ◌+◌, ◌<◌, ◌≤◌, Bool, true, false, cond, List, [], ◌∷◌, ◌++◌, length, drop, map, set, get_or, replicate, inl, inr, refl, sym, ap, ◌∙◌, add-one, arith}
use Rattle.std.specs.Prelude.{◌==◌, ◌&&◌, ◌||◌, not}
use Rattle.std.specs.List.{range_with_len}
use Rattle.std.proofs.lemmas.Bool.{cases_eq, eq-eqb, false_from_ne_true, eqb-true}
use Rattle.std.proofs.lemmas.List.{ext_get_or, get_or-map, get_or-replicate, get_or-set_same, get_or-set_other, length-replicate, length-set, drop_more, drop_all}
use Rattle.std.proofs.lemmas.List.FromFn.{get_or-map-range_with_len, length-map-range_with_len}
use Rattle.sv_ast.specs.declared.files.Bundle.{Bundle}
use Rattle.sv_ast.specs.declared.files.SourceFile.{SourceFile}
use Rattle.sv_ast.specs.declared.names.Ref.{Ref}
use Rattle.sv_ast.specs.declared.names.Ref.TheVariants.{Plain}
use Rattle.sv_effects.specs.declared.functions.Function.{Function}
use Rattle.sv_ast.specs.Files.{statements_of}
use Rattle.sv_effects.specs.Functions.{functions}
use Rattle.sv_names.specs.NameMap.{Entries, with_entry, with_entries}
use Rattle.sv_effects.specs.Known.{names_from, is_of, own, stmts_at, imported, all_given, known}

-- a table that has at each place what a function gives
pub tabled : (f : ℕ → Entries) (xs : List Entries) (n : ℕ) → length xs ≡ n → ((j : ℕ) → j < n → get_or xs j [] ≡ f j) → xs ≡ map f (range_with_len 0 n)
tabled f xs n size each =
    ext_get_or [] xs (map f (range_with_len 0 n)) (size ∙ sym (length-map-range_with_len f 0 n))
    (λ j h. let lt : j < n = omega (arith, h, size) in each j lt ∙ sym (get_or-map-range_with_len f 0 n j j [] lt (omega arith)))

-- ---- the functions of files

-- for each file, what the functions so far have given it and what the others will give are all that are its own
pub record AreOwn (only : Bool) (fs : List Function) (count point : ℕ) (table : List Entries) : Type 0 where
  pub size : length table ≡ count
  pub each : (j : ℕ) → j < count → own only fs j ≡ with_entries (get_or table j []) (names_from (is_of only j) point (drop point fs))

pub own_none : (only : Bool) (fs : List Function) (count : ℕ) (table : List Entries) → table ≡ replicate count [] → AreOwn only fs count 0 table
own_none only fs count table e = record {
  size = ap length e ∙ length-replicate count [];
  each = λ j h. ap (λ z. with_entries z (names_from (is_of only j) 0 fs)) (sym (ap (λ t. get_or t j []) e ∙ get_or-replicate count j [] [] h));
}

next_names : (only : Bool) (fs : List Function) (j point : ℕ) (f : Function) → point < length fs → f ≡ get_or fs point f
    → names_from (is_of only j) point (drop point fs) ≡ cond (is_of only j f) ((Plain f.name, point) ∷ []) [] ++ names_from (is_of only j) (point + 1) (drop (point + 1) fs)
next_names only fs j point f within is =
    ap (names_from (is_of only j) point) (drop_more fs point f within ∙ ap (λ x. x ∷ drop (point + 1) fs) (sym is))
    ∙ ap (λ p. cond (is_of only j f) ((Plain f.name, point) ∷ []) [] ++ names_from (is_of only j) p (drop (point + 1) fs)) (sym (add-one point))

taken_names : (b : Bool) (points : Entries) (k : Ref × ℕ) (more : Entries) → b ≡ true → with_entries points (cond b (k ∷ []) [] ++ more) ≡ with_entries (with_entry points k) more
taken_names b points k more e = ap (λ z. with_entries points (cond z (k ∷ []) [] ++ more)) e

left_names : (b : Bool) (points : Entries) (k : Ref × ℕ) (more : Entries) → b ≡ false → with_entries points (cond b (k ∷ []) [] ++ more) ≡ with_entries points more
left_names b points k more e = ap (λ z. with_entries points (cond z (k ∷ []) [] ++ more)) e

and_both : (a b : Bool) → a ≡ true → b ≡ true → (a && b) ≡ true
and_both a b e h = ap (λ z. z && b) e ∙ h

and_first : (a b : Bool) → a ≡ false → (a && b) ≡ false
and_first a b e = ap (λ z. z && b) e

and_second : (a b : Bool) → b ≡ false → (a && b) ≡ false
and_second true b e = e
and_second false b e = refl

-- one more function, which isn't among those that are asked for
pub own_other : (only : Bool) (fs : List Function) (count point : ℕ) (table : List Entries) (f : Function) → AreOwn only fs count point table → point < length fs → f ≡ get_or fs point f
    → (f.exported || not only) ≡ false → AreOwn only fs count (point + 1) table
own_other only fs count point table f o within is e = record {
  size = o.size;
  each = λ j h. o.each j h ∙ ap (with_entries (get_or table j [])) (next_names only fs j point f within is)
      ∙ left_names (is_of only j f) (get_or table j []) (Plain f.name, point) (names_from (is_of only j) (point + 1) (drop (point + 1) fs)) (and_first (f.exported || not only) (f.file == j) e);
}

-- one more function is put to those of its file
pub own_more : (only : Bool) (fs : List Function) (count point : ℕ) (table new : List Entries) (f : Function) → AreOwn only fs count point table → point < length fs → f ≡ get_or fs point f
    → (f.exported || not only) ≡ true → f.file < count → new ≡ set table f.file (with_entry (get_or table f.file []) (Plain f.name, point)) → AreOwn only fs count (point + 1) new
own_more only fs count point table new f o within is e fits n =
    let more = with_entry (get_or table f.file []) (Plain f.name, point) in
    let inside : f.file < length table = omega (arith, fits, o.size) in
    record {
      size = ap length n ∙ length-set table f.file more ∙ o.size;
      each = λ j h. o.each j h ∙ ap (with_entries (get_or table j [])) (next_names only fs j point f within is) ∙ elim (cases_eq j f.file) [
        | inl same ↦ taken_names (is_of only j f) (get_or table j []) (Plain f.name, point) (names_from (is_of only j) (point + 1) (drop (point + 1) fs))
            (and_both (f.exported || not only) (f.file == j) e (eq-eqb f.file j (sym same)))
            ∙ ap (λ z. with_entries z (names_from (is_of only j) (point + 1) (drop (point + 1) fs)))
            (ap (λ i. with_entry (get_or table i []) (Plain f.name, point)) same ∙ sym (ap (λ t. get_or t j []) n ∙ ap (λ i. get_or (set table f.file more) i []) same ∙ get_or-set_same table f.file more [] inside))
        | inr other ↦ left_names (is_of only j f) (get_or table j []) (Plain f.name, point) (names_from (is_of only j) (point + 1) (drop (point + 1) fs))
            (and_second (f.exported || not only) (f.file == j) (false_from_ne_true (f.file == j) (λ t. other (sym (eqb-true f.file j t)))))
            ∙ ap (λ z. with_entries z (names_from (is_of only j) (point + 1) (drop (point + 1) fs))) (sym (ap (λ t. get_or t j []) n ∙ get_or-set_other table f.file j more [] other))
      ];
    }

-- all functions were put to those of their files
pub own_all : (only : Bool) (fs : List Function) (count point : ℕ) (table : List Entries) → AreOwn only fs count point table → length fs ≤ point → table ≡ map (own only fs) (range_with_len 0 count)
own_all only fs count point table o past =
    tabled (own only fs) table count o.size (λ j h. sym (o.each j h ∙ ap (λ z. with_entries (get_or table j []) (names_from (is_of only j) point z)) (drop_all point fs past)))

-- ---- and what files import

-- the files so far know all, and the others their own functions
pub record AreKnown (bundle : Bundle) (file : ℕ) (table : List Entries) : Type 0 where
  pub size : length table ≡ length bundle.files
  pub done : (j : ℕ) → j < file → j < length bundle.files → get_or table j [] ≡ known bundle j
  pub left : (j : ℕ) → file ≤ j → j < length bundle.files → get_or table j [] ≡ own false (functions bundle) j

pub known_none : (bundle : Bundle) (fs : List Function) (count : ℕ) (table : List Entries) → fs ≡ functions bundle → count ≡ length bundle.files → table ≡ map (own false fs) (range_with_len 0 count) → AreKnown bundle 0 table
known_none bundle fs count table f c e =
    let is : table ≡ map (own false (functions bundle)) (range_with_len 0 (length bundle.files)) =
    e ∙ ap (λ z. map (own false z) (range_with_len 0 count)) f ∙ ap (λ z. map (own false (functions bundle)) (range_with_len 0 z)) c in
    record {
      size = ap length is ∙ length-map-range_with_len (own false (functions bundle)) 0 (length bundle.files);
      done = λ j h w. absurd (omega (arith, h));
      left = λ j h w. ap (λ t. get_or t j []) is ∙ get_or-map-range_with_len (own false (functions bundle)) 0 (length bundle.files) j j [] w (omega arith);
    }

pub known_more : (bundle : Bundle) (file : ℕ) (table new given : List Entries) (files : List SourceFile) (source : SourceFile) → AreKnown bundle file table → file < length bundle.files → files ≡ bundle.files → source ≡ get_or files file source → given ≡ all_given bundle
    → new ≡ set table file (with_entries (get_or table file []) (imported files given (statements_of source.tree))) → AreKnown bundle (file + 1) new
known_more bundle file table new given files source k within fe is g n =
    let inside : file < length table = omega (arith, within, k.size) in
    let more = with_entries (get_or table file []) (imported files given (statements_of source.tree)) in
    let stmts : statements_of source.tree ≡ stmts_at bundle.files file =
    ap (λ s. statements_of s.tree) (is ∙ ap (λ z. get_or z file source) fe) ∙ sym (get_or-map (λ (s : SourceFile). statements_of s.tree) bundle.files file source [] within) in
    let here : get_or new file [] ≡ known bundle file =
    ap (λ t. get_or t file []) n ∙ get_or-set_same table file more [] inside ∙ ap (λ z. with_entries z (imported files given (statements_of source.tree))) (k.left file (omega arith) within)
    ∙ ap (λ z. with_entries (own false (functions bundle) file) (imported z given (statements_of source.tree))) fe
    ∙ ap (λ z. with_entries (own false (functions bundle) file) (imported bundle.files z (statements_of source.tree))) g
    ∙ ap (λ z. with_entries (own false (functions bundle) file) (imported bundle.files (all_given bundle) z)) stmts in
    record {
      size = ap length n ∙ length-set table file more ∙ k.size;
      done = λ j h w. elim (cases_eq j file) [
        | inl same ↦ ap (λ i. get_or new i []) same ∙ here ∙ ap (known bundle) (sym same)
        | inr other ↦ ap (λ t. get_or t j []) n ∙ get_or-set_other table file j more [] other ∙ k.done j (omega (arith, h, other)) w
      ];
      left = λ j h w. ap (λ t. get_or t j []) n ∙ get_or-set_other table file j more [] (apart file j h) ∙ k.left j (omega (arith, h)) w;
    }
  where
    apart : (i j : ℕ) → i + 1 ≤ j → j ≡ i → ⊥
    apart i j h e = omega (arith, h, e)

pub known_all : (bundle : Bundle) (file : ℕ) (table : List Entries) → AreKnown bundle file table → length bundle.files ≤ file → table ≡ map (known bundle) (range_with_len 0 (length bundle.files))
known_all bundle file table k past = tabled (known bundle) table (length bundle.files) k.size (λ j h. k.done j (omega (arith, h, past)) h)
