-- Stained bodies, and which functions call which.
use Rattle.std.proofs.Common.{◌≡◌, ℕ, zero, suc, ◌+◌, ◌<◌, Bool, true, false, cond, List, [], ◌∷◌, ◌++◌, Option, None, Some, length, drop, take, map, set, get_or, inl, inr, refl, sym, ap, ◌∙◌, subst, add-one, append_assoc, arith}
use Rattle.std.specs.Prelude.{All, is_some, slice_get, unwrap_or}
use Rattle.std.specs.List.{list_any, filter_map, cons_option, range_with_len}
use Rattle.std.specs.Option.{option_to_list}
use Rattle.std.proofs.lemmas.Bool.{eq-eqb, or_left, false≢true}
use Rattle.std.proofs.lemmas.List.{get_or-map, get_or_past, get_or_read, drop_more, take_more, length-map}
use Rattle.std.proofs.lemmas.List.Elements.{All-get_or, filter_map-append}
use Rattle.std.proofs.lemmas.List.FromFn.{get_or-map-range_with_len, length-map-range_with_len}
use Rattle.std.proofs.lemmas.Option.{get_or_from_slice_get, slice_get_cases}
use Rattle.sv_ast.specs.declared.files.Bundle.{Bundle}
use Rattle.sv_ast.specs.declared.files.SourceFile.{SourceFile}
use Rattle.sv_effects.specs.declared.functions.Function.{Function}
use Rattle.sv_effects.specs.declared.notes.Sign.{Sign}
use Rattle.sv_effects.specs.declared.notes.Sign.TheVariants.{Calls, Hands}
use Rattle.sv_effects.specs.declared.stains.Calls.{Calls as Found}
use Rattle.sv_effects.specs.declared.top.Top.{Top}
use Rattle.sv_effects.specs.Calls.{points_from, calls_in, AreCalls}
use Rattle.sv_ast.specs.Files.{statements_of}
use Rattle.sv_effects.specs.Functions.{functions}
use Rattle.sv_names.specs.NameMap.{Entries}
use Rattle.sv_effects.specs.Known.{known, stmts_at}
use Rattle.sv_effects.specs.Stains.{is_stained, stains_among, called, calls}
use Rattle.sv_effects.specs.Top.{top_of}
use Rattle.sv_effects.proofs.Bounding.{SomeBelow, point_below, functions_in}
use Rattle.sv_graph.specs.Links.{is_in, links_of, AddsLinks, IsTurned}
use Rattle.sv_graph.proofs.Points.{in_left, in_right, in_parts, in_cons}
use Rattle.sv_graph.proofs.Turning.{adds-none, adds-more, turned-more}

-- ---- stains

pub row_is : (f : ℕ → Entries) (table : List Entries) (n i : ℕ) (row : Entries) → table ≡ map f (range_with_len 0 n) → i < n → row ≡ get_or table i row → row ≡ f i
row_is f table n i row e h r = r ∙ ap (λ t. get_or t i row) e ∙ get_or-map-range_with_len f 0 n i i row h (omega arith)

pub row_within : (f : ℕ → Entries) (table now : List Entries) (n i : ℕ) → now ≡ table → table ≡ map f (range_with_len 0 n) → i < n → i < length now
row_within f table now n i d e h = omega (arith, ap length d, ap length e, length-map-range_with_len f 0 n, h)

pub top_within : (files : List SourceFile) (tops now : List Top) (i : ℕ) → now ≡ tops → tops ≡ map (λ (s : SourceFile). top_of (statements_of s.tree)) files → i < length files → i < length now
top_within files tops now i d e h = omega (arith, ap length d, ap length e, length-map files (λ (s : SourceFile). top_of (statements_of s.tree)), h)

-- a function is of one of the files
pub file_within : (bundle : Bundle) (fs : List Function) (p : ℕ) (f : Function) → fs ≡ functions bundle → p < length fs → f ≡ get_or fs p f → f.file < length bundle.files
file_within bundle fs p f e h is =
    subst (λ (z : Function). z.file < length bundle.files) (sym is) (All-get_or (λ (z : Function). z.file < length bundle.files) fs p f h (functions_in bundle fs (length bundle.files) e refl))

-- what the top level of a file declares, among those of all files
top_is : (files : List SourceFile) (i : ℕ) (top : Top) → i < length files → top ≡ get_or (map (λ (s : SourceFile). top_of (statements_of s.tree)) files) i top → top ≡ top_of (stmts_at files i)
top_is [] i top h e = absurd (omega (arith, h))
top_is (s ∷ files) zero top h e = e
top_is (s ∷ files) (suc i) top h e = top_is files i top (omega (arith, h)) e

-- the signs of a function are stains by the tables
pub stained_is : (bundle : Bundle) (f : Function) (tops : List Top) (top : Top) (table : List Entries) (row : Entries) (signs : List Sign) → tops ≡ map (λ (s : SourceFile). top_of (statements_of s.tree)) bundle.files
    → table ≡ map (known bundle) (range_with_len 0 (length bundle.files)) → f.file < length bundle.files → top ≡ get_or tops f.file top → row ≡ get_or table f.file row → signs ≡ f.signs
    → list_any (stains_among bundle.names top row) signs ≡ is_stained bundle f
stained_is bundle f tops top table row signs z t h at r s =
    let row_same : row ≡ known bundle f.file = row_is (known bundle) table (length bundle.files) f.file row t h r in
    let top_same : top ≡ top_of (stmts_at bundle.files f.file) = top_is bundle.files f.file top h (at ∙ ap (λ l. get_or l f.file top) z) in
    ap (λ k. list_any (stains_among bundle.names top k) signs) row_same
    ∙ ap (λ l. list_any (stains_among bundle.names l (known bundle f.file)) signs) top_same
    ∙ ap (list_any (stains_among bundle.names (top_of (stmts_at bundle.files f.file)) (known bundle f.file))) s

-- ---- the points of stained bodies

pub next_points : (test : Function → Bool) (fs : List Function) (p : ℕ) (f : Function) → p < length fs → f ≡ get_or fs p f
    → points_from test p (drop p fs) ≡ cond (test f) (p ∷ []) [] ++ points_from test (p + 1) (drop (p + 1) fs)
next_points test fs p f within is =
    ap (points_from test p) (drop_more fs p f within ∙ ap (λ x. x ∷ drop (p + 1) fs) (sym is))
    ∙ ap (λ z. cond (test f) (p ∷ []) [] ++ points_from test z (drop (p + 1) fs)) (sym (add-one p))

-- one more function was looked at
pub stained_more : (test : Function → Bool) (fs : List Function) (points new : List ℕ) (p : ℕ) (f : Function) (b : Bool) → p < length fs → f ≡ get_or fs p f → b ≡ test f → new ≡ points ++ cond b (p ∷ []) []
    → points ++ points_from test p (drop p fs) ≡ new ++ points_from test (p + 1) (drop (p + 1) fs)
stained_more test fs points new p f b within is e n =
    let rest = points_from test (p + 1) (drop (p + 1) fs) in
    ap (λ z. points ++ z) (next_points test fs p f within is) ∙ sym (append_assoc points (cond (test f) (p ∷ []) []) rest)
    ∙ ap (λ z. (points ++ cond z (p ∷ []) []) ++ rest) (sym e) ∙ ap (λ z. z ++ rest) (sym n)

-- a point is that of a function that passes a test
record Told (test : Function → Bool) (fs : List Function) (a q : ℕ) : Type 0 where
  place : ℕ
  f : Function
  at : q ≡ a + place
  is : slice_get fs place ≡ Some f
  passes : test f ≡ true

points_only : (test : Function → Bool) (fs : List Function) (a q : ℕ) → is_in q (points_from test a fs) ≡ true → Told test fs a q
points_only test [] a q h = absurd (false≢true h)
points_only test (x ∷ fs) a q h = elim (in_parts q (cond (test x) (a ∷ []) []) (points_from test (suc a) fs) h) [
  | inl now ↦ own (test x) refl now
  | inr later ↦ let t = points_only test fs (suc a) q later in record { place = suc t.place; f = t.f; at = omega (arith, t.at); is = t.is; passes = t.passes }
]
  where
    own : (b : Bool) → test x ≡ b → is_in q (cond b (a ∷ []) []) ≡ true → Told test (x ∷ fs) a q
    own true e i = elim (in_cons q a [] i) [ inl same ↦ record { place = zero; f = x; at = omega (arith, same); is = refl; passes = e } | inr none ↦ absurd (false≢true none) ]
    own false e i = absurd (false≢true i)

none_is : (f : Function) → None ≡ Some f → ⊥
none_is f e = cc

points_all : (test : Function → Bool) (fs : List Function) (a p : ℕ) (f : Function) → slice_get fs p ≡ Some f → test f ≡ true → is_in (a + p) (points_from test a fs) ≡ true
points_all test [] a p f g t = absurd (none_is f g)
points_all test (x ∷ fs) a zero f g t =
    let same : x ≡ f = ap (λ o. unwrap_or o x) g in
    let first : is_in (a + 0) (cond (test x) (a ∷ []) []) ≡ true = ap (λ b. is_in (a + 0) (cond b (a ∷ []) [])) (ap test same ∙ t) ∙ or_left _ _ (eq-eqb a (a + 0) (omega arith)) in
    in_left (a + 0) (cond (test x) (a ∷ []) []) (points_from test (suc a) fs) first
points_all test (x ∷ fs) a (suc p) f g t =
    let e : suc a + p ≡ a + suc p = omega arith in
    in_right (a + suc p) (cond (test x) (a ∷ []) []) (points_from test (suc a) fs) (subst (λ z. is_in z (points_from test (suc a) fs) ≡ true) e (points_all test fs (suc a) p f g t))

same_bool : (a b : Bool) → (a ≡ true → b ≡ true) → (b ≡ true → a ≡ true) → a ≡ b
same_bool true b f g = sym (f refl)
same_bool false true f g = g refl
same_bool false false f g = refl

points_tell : (test : Function → Bool) (fs : List Function) (p : ℕ) (f : Function) → slice_get fs p ≡ Some f → is_in p (points_from test 0 fs) ≡ test f
points_tell test fs p f g = same_bool _ _ there back
  where
    there : is_in p (points_from test 0 fs) ≡ true → test f ≡ true
    there h =
        let t = points_only test fs 0 p h in
        let at : t.place ≡ p = omega (arith, t.at) in
        let same : t.f ≡ f = ap (λ o. unwrap_or o f) (sym t.is ∙ ap (slice_get fs) at ∙ g) in
        ap test (sym same) ∙ t.passes

    back : test f ≡ true → is_in p (points_from test 0 fs) ≡ true
    back t = let e : 0 + p ≡ p = omega arith in subst (λ z. is_in z (points_from test 0 fs) ≡ true) e (points_all test fs 0 p f g t)

points_within : (test : Function → Bool) (fs : List Function) (p : ℕ) → is_in p (points_from test 0 fs) ≡ true → is_some (slice_get fs p) ≡ true
points_within test fs p h =
    let t = points_only test fs 0 p h in
    let at : t.place ≡ p = omega (arith, t.at) in
    ap is_some (sym (ap (slice_get fs) at) ∙ t.is)

-- ---- callers

got_within : (fs : List Function) (p : ℕ) (f : Function) → slice_get fs p ≡ Some f → p < length fs
got_within fs p f g = elim (slice_get_cases fs p).1 [ inl there ↦ there.1 | inr past ↦ absurd (none_is f (sym past.1 ∙ g)) ]

calls_same : (bundle : Bundle) (table : List Entries) (f : Function) → table ≡ map (known bundle) (range_with_len 0 (length bundle.files)) → f.file < length bundle.files → calls_in table f ≡ calls bundle f
calls_same bundle table f t h =
    ap (λ row. filter_map (called row) f.signs) (ap (λ z. get_or z f.file []) t ∙ get_or-map-range_with_len (known bundle) 0 (length bundle.files) f.file f.file [] h (omega arith))

linked : (bundle : Bundle) (table : List Entries) (p : ℕ) (f : Function) → table ≡ map (known bundle) (range_with_len 0 (length bundle.files)) → slice_get (functions bundle) p ≡ Some f
    → links_of (map (calls_in table) (functions bundle)) p ≡ calls bundle f
linked bundle table p f t g =
    let fs = functions bundle in
    let within : p < length fs = got_within fs p f g in
    let is : get_or fs p f ≡ f = get_or_from_slice_get fs p f f g in
    let file : f.file < length bundle.files = subst (λ (z : Function). z.file < length bundle.files) is (All-get_or (λ (z : Function). z.file < length bundle.files) fs p f within (functions_in bundle fs (length bundle.files) refl refl)) in
    get_or-map (calls_in table) fs p f [] within ∙ ap (calls_in table) is ∙ calls_same bundle table f t file

link_within : (fs : List Function) (table : List Entries) (p q : ℕ) → is_in q (links_of (map (calls_in table) fs) p) ≡ true → is_some (slice_get fs p) ≡ true
link_within fs table p q h = elim (slice_get_cases fs p).1 [
  | inl there ↦ ap is_some there.2
  | inr past ↦ absurd (false≢true (subst (λ z. is_in q z ≡ true) (get_or_past (map (calls_in table) fs) p [] (omega (arith, past.0, length-map fs (calls_in table)))) h))
]

-- the tables tell which bodies are stained, and the callers
pub are_calls : (bundle : Bundle) (fs : List Function) (table : List Entries) (found : Found) → fs ≡ functions bundle → table ≡ map (known bundle) (range_with_len 0 (length bundle.files))
    → found.stained.items ≡ points_from (is_stained bundle) 0 fs → length found.callers.items ≡ length fs → IsTurned (map (calls_in table) fs) found.callers.items → AreCalls bundle found
are_calls bundle fs table found e t s size turned =
    let stains : found.stained.items ≡ points_from (is_stained bundle) 0 (functions bundle) = s ∙ ap (points_from (is_stained bundle) 0) e in
    let links : IsTurned (map (calls_in table) (functions bundle)) found.callers.items = subst (λ z. IsTurned (map (calls_in table) z) found.callers.items) e turned in
    record {
      size = size ∙ ap length e;
      stained = λ p f g. ap (is_in p) stains ∙ points_tell (is_stained bundle) (functions bundle) p f g;
      stained_within = λ p h. points_within (is_stained bundle) (functions bundle) p (sym (ap (is_in p) stains) ∙ h);
      callers = λ p q f g. same_bool _ _
          (λ h. subst (λ z. is_in q z ≡ true) (linked bundle table p f t g) (links.back p q h))
          (λ h. links.there p q (subst (λ z. is_in q z ≡ true) (sym (linked bundle table p f t g)) h));
      callers_within = λ p q h. link_within (functions bundle) table p q (links.back p q h);
    }

-- one more function was noted as a caller
pub callers_more : (table : List Entries) (fs : List Function) (callers new : List (List ℕ)) (p : ℕ) (f : Function) (row : Entries) (signs : List Sign) → p < length fs → f ≡ get_or fs p f → f.file < length table → row ≡ get_or table f.file row → signs ≡ f.signs
    → IsTurned (take p (map (calls_in table) fs)) callers → AddsLinks callers (filter_map (called row) signs) p new → IsTurned (take (p + 1) (map (calls_in table) fs)) new
callers_more table fs callers new p f row signs within is inside r s t a =
    let own = filter_map (called row) signs in
    let here : get_or (map (calls_in table) fs) p own ≡ own =
    get_or-map (calls_in table) fs p f own within ∙ ap (calls_in table) (sym is)
    ∙ ap (λ z. filter_map (called z) f.signs) (sym (get_or_read table f.file row inside r [])) ∙ ap (filter_map (called row)) (sym s) in
    let there : p < length (map (calls_in table) fs) = omega (arith, within, length-map fs (calls_in table)) in
    turned-more (map (calls_in table) fs) callers new p own there here t a

-- ---- the callers of what signs call

as_list : (o : Option ℕ) → cons_option o [] ≡ option_to_list o
as_list None = refl
as_list (Some p) = refl

called_more : (row : Entries) (signs : List Sign) (i : ℕ) (d : Sign) → i < length signs → filter_map (called row) (take (i + 1) signs) ≡ filter_map (called row) (take i signs) ++ option_to_list (called row (get_or signs i d))
called_more row signs i d within =
    ap (filter_map (called row)) (take_more signs i d within) ∙ filter_map-append (called row) (take i signs) (get_or signs i d ∷ [])
    ∙ ap (λ l. filter_map (called row) (take i signs) ++ l) (as_list (called row (get_or signs i d)))

adds_then : (a b c : List (List ℕ)) (first second : List ℕ) (to : ℕ) → AddsLinks a first to b → AddsLinks b second to c → AddsLinks a (first ++ second) to c
adds_then a b c first second to f s = record {
  keeps = λ p q h. s.keeps p q (f.keeps p q h);
  adds = λ p h. elim (in_parts p first second h) [ inl one ↦ s.keeps p to (f.adds p one) | inr two ↦ s.adds p two ];
  only = λ p q h. elim (s.only p q h) [
    | inl before ↦ elim (f.only p q before) [ inl old ↦ inl old | inr new ↦ inr (new.0, in_left p first second new.1) ]
    | inr new ↦ inr (new.0, in_right p first second new.1)
  ];
}

-- one more sign was noted
pub noted_more : (old now new : List (List ℕ)) (row : Entries) (signs : List Sign) (i to : ℕ) (d : Sign) → i < length signs → AddsLinks old (filter_map (called row) (take i signs)) to now → AddsLinks now (option_to_list (called row (get_or signs i d))) to new
    → AddsLinks old (filter_map (called row) (take (i + 1) signs)) to new
noted_more old now new row signs i to d within a b =
    subst (λ z. AddsLinks old z to new) (sym (called_more row signs i d within)) (adds_then old now new (filter_map (called row) (take i signs)) (option_to_list (called row (get_or signs i d))) to a b)

-- a sign that calls a function
pub noted_some : (old new : List (List ℕ)) (row : Entries) (s : Sign) (at to : ℕ) → called row s ≡ Some at → at < length old → new ≡ set old at (links_of old at ++ to ∷ []) → AddsLinks old (option_to_list (called row s)) to new
noted_some old new row s at to e within n = subst (λ z. AddsLinks old (option_to_list z) to new) (sym e) (adds-more old old new [] at to (adds-none old to) within n)

-- what a sign calls is there
pub called_within : (n : ℕ) (row : Entries) (s : Sign) (at : ℕ) → All (λ k. k.1 < n) row → called row s ≡ Some at → at < n
called_within n row (Calls name) at a e = subst (SomeBelow n) e (point_below n row name a)
called_within n row (Hands name) at a e = subst (SomeBelow n) e (point_below n row name a)
called_within n row _ at a e = absurd (let no : None ≡ Some at = e in cc)
