-- What reading a file, and then several, comes to.
use Rattle.std.proofs.Common.{◌≡◌, ◌<◌, ◌≤◌, ℕ, ◌+◌, List, [], ◌∷◌, ◌++◌, length, take, drop, get_or, true, false, Option, refl, ap, sym, ◌∙◌, subst, IsErr, IsErrAnd}
use Rattle.std.specs.Prelude.{Result, Ok, Err, IfSome}
use Rattle.std.proofs.lemmas.Option.{IfSome_then}
use Rattle.std.proofs.lemmas.List.{take_all, take_more, take-append-drop, drop_more}
use Rattle.sv_ast.specs.declared.files.Bundle.{Bundle}
use Rattle.sv_io.specs.Files.{Files}
use Rattle.sv_load.specs.Calls.{outcome_of}
use Rattle.sv_load.specs.Imports.{imports}
use Rattle.sv_load.specs.Loads.{Opened, Opens, Reads, known, stops, goes_on, ReadsAll, done, next, ends, Tells, Loads, has_file, with_file, nothing}
use Rattle.sv_load.specs.declared.refusals.LoadError.{LoadError}
use Rattle.sv_load.proofs.Told.{IfSome-always, IfSome-both, Tells-weaker, Tells-err, handed_on}

-- names that were read, and then more
pub ReadsAll-append : (files : Files) (names more : List (List ℕ)) (bundle middle : Bundle) (all outcome : Result Bundle LoadError)
    → ReadsAll files names bundle all → all ≡ Ok middle → ReadsAll files more middle outcome → ReadsAll files (names ++ more) bundle outcome
ReadsAll-append files _ more _ middle _ outcome (done bundle) is later =
    let same : middle ≡ bundle = cc in
    rw same at later
ReadsAll-append files _ more _ middle _ outcome (next name names bundle between all first rest) is later =
    next name (names ++ more) bundle between outcome first (ReadsAll-append files names more between middle all outcome rest is later)
ReadsAll-append files _ more _ middle _ outcome (ends name names bundle error first) is later = cc

-- the names up to a place were read
abbrev pub ReadUpTo : Option Files → List (List ℕ) → ℕ → Bundle → Bundle → Type 0
ReadUpTo told names i bundle now = IfSome told (λ files. ReadsAll files (take i names) bundle (Ok now))

-- one name more was read
pub read_up_to-next : (told now_told : Option Files) (names : List (List ℕ)) (i : ℕ) (name : List ℕ) (bundle now after : Bundle)
    → i < length names → name ≡ get_or names i name → ReadUpTo told names i bundle now → now_told ≡ told
    → IfSome now_told (λ files. Tells (Reads files name now) (Ok after)) → ReadUpTo told names (i + 1) bundle after
read_up_to-next told now_told names i name bundle now after h at before same step =
    let one : take i names ++ name ∷ [] ≡ take (i + 1) names = ap (λ n. take i names ++ n ∷ []) at ∙ sym (take_more names i name h) in
    let read : IfSome told (λ files. Reads files name now (Ok after)) = rw same at step in
    IfSome-both told before read (λ files all last. subst (λ (l : List (List ℕ)). ReadsAll files l bundle (Ok after)) one
    (ReadsAll-append files (take i names) (name ∷ []) bundle now (Ok now) (Ok after) all refl (next name [] now after (Ok after) last (done after))))

-- all were read
pub read_up_to-all : (told : Option Files) (names : List (List ℕ)) (i : ℕ) (bundle now : Bundle) → length names ≤ i → ReadUpTo told names i bundle now
    → IfSome told (λ files. Tells (ReadsAll files names bundle) (Ok now))
read_up_to-all told names i bundle now h before =
    IfSome_then told before (λ files all. subst (λ (l : List (List ℕ)). ReadsAll files l bundle (Ok now)) (take_all i names h) all)

-- the next one is refused
pub read_up_to-ends : (told now_told : Option Files) (names : List (List ℕ)) (i : ℕ) (name : List ℕ) (bundle now : Bundle) (error : LoadError)
    → i < length names → name ≡ get_or names i name → ReadUpTo told names i bundle now → now_told ≡ told
    → IfSome now_told (λ files. Tells (Reads files name now) (Err error)) → IfSome told (λ files. Tells (ReadsAll files names bundle) (Err error))
read_up_to-ends told now_told names i name bundle now error h at before same step =
    let left : drop i names ≡ name ∷ drop (i + 1) names = drop_more names i name h ∙ ap (λ n. n ∷ drop (i + 1) names) (sym at) in
    let parts : take i names ++ (name ∷ drop (i + 1) names) ≡ names = ap (λ l. take i names ++ l) (sym left) ∙ take-append-drop i names in
    let read : IfSome told (λ files. Tells (Reads files name now) (Err error)) = rw same at step in
    IfSome-both told before read (λ files all last. Tells-err (Reads files name now) (ReadsAll files names bundle) error
    (λ e p. subst (λ (l : List (List ℕ)). ReadsAll files l bundle (Err e)) parts
    (ReadsAll-append files (take i names) (name ∷ drop (i + 1) names) bundle now (Ok now) (Err e) all refl (ends name (drop (i + 1) names) now e p))) last)

-- ---- one file

pub reads-known : (told : Option Files) (name : List ℕ) (bundle : Bundle) → has_file name bundle.files ≡ true
    → IfSome told (λ files. Tells (Reads files name bundle) (Ok bundle))
reads-known told name bundle old = IfSome-always told (λ files. known name bundle old)

pub reads-stops : (told : Option Files) (name : List ℕ) (bundle : Bundle) (number : ℕ) (error : LoadError) → has_file name bundle.files ≡ false
    → number ≡ length bundle.files → IfSome told (λ files. Tells (Opens files number name bundle.names) (Err error))
    → IfSome told (λ files. Tells (Reads files name bundle) (Err error))
reads-stops told name bundle number error new count opens =
    IfSome_then told (subst (λ (n : ℕ). IfSome told (λ files. Tells (Opens files n name bundle.names) (Err error))) count opens) (λ files p. Tells-err (Opens files (length bundle.files) name bundle.names) (Reads files name bundle) error
    (λ e p. stops name bundle e new p) p)

pub reads-goes_on : (told now_told : Option Files) (name : List ℕ) (bundle between : Bundle) (number : ℕ) (opened : Opened) (names : List (List ℕ)) (outcome : Result Bundle LoadError)
    → has_file name bundle.files ≡ false → number ≡ length bundle.files → IfSome told (λ files. Tells (Opens files number name bundle.names) (Ok opened))
    → now_told ≡ told → names ≡ imports opened.file.tree → between ≡ with_file bundle opened
    → IfSome now_told (λ files. Tells (ReadsAll files names between) outcome) → IfSome told (λ files. Tells (Reads files name bundle) outcome)
reads-goes_on told now_told name bundle between number opened names outcome new count opens same is made later =
    let all : IfSome told (λ files. Tells (ReadsAll files (imports opened.file.tree) (with_file bundle opened)) outcome) = rw (same, is, made) at later in
    IfSome-both told (subst (λ (n : ℕ). IfSome told (λ files. Tells (Opens files n name bundle.names) (Ok opened))) count opens) all (λ files a b. Tells-weaker (ReadsAll files (imports opened.file.tree) (with_file bundle opened)) (Reads files name bundle) outcome
    (λ r p. goes_on name bundle opened r new a p) b)

-- the root, read where nothing was read before
pub loads-reads : (told : Option Files) (root name : List ℕ) (bundle : Bundle) (outcome : Result Bundle LoadError) → name ≡ root → bundle ≡ nothing
    → IfSome told (λ files. Tells (Reads files name bundle) outcome) → IfSome told (λ files. Loads files root outcome)
loads-reads told root name bundle outcome same none reads = rw (same, none) at reads

-- a refusal that is handed on
pub handed_bundle : (P : Files → Result Bundle LoadError → Type 0) (told : Option Files) (now : Bundle) (result : Result (Unit {0}) LoadError) (e : LoadError)
    → IsErr result → IsErrAnd result (λ x. x ≡ e) → IfSome told (λ files. Tells (P files) (Err e)) → IfSome told (λ files. Tells (P files) (outcome_of result now))
handed_bundle P told now result e h g = handed_on (λ r. IfSome told (λ files. Tells (P files) (outcome_of r now))) result e h g
