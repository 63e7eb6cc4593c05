-- The same files and root come to one outcome.
use Rattle.std.proofs.Common.{◌≡◌, ◌<◌, ◌≤◌, ℕ, List, [], ◌∷◌, length, Bool, true, false, Option, refl, ap, sym, ◌∙◌, arith, inl, inr, subst}
use Rattle.std.specs.Prelude.{Some, None, Result, Ok, Err, ◌⊎◌}
use Rattle.sv_base.specs.declared.limits.TheConstants.{FILE_COUNT_LIMIT}
use Rattle.sv_ast.specs.declared.files.Bundle.{Bundle}
use Rattle.sv_io.specs.Files.{Files}
use Rattle.sv_script.specs.Calls.{input_of}
use Rattle.sv_load.specs.Imports.{imports, is_module}
use Rattle.sv_load.specs.Laws.{IsOneOutcome}
use Rattle.sv_lines.specs.Lines.{line_starts}
use Rattle.sv_load.specs.Loads.{Opened, Holds, no_tree, tree, Finds, missing, too_long, found, Opens, too_many, not_found, there, Reads, known, stops, goes_on, ReadsAll, done, next, ends, has_file, with_file, nothing, refusal}
use Rattle.sv_load.specs.declared.refusals.LoadError.{LoadError}
use Rattle.sv_load.proofs.OneTree.{Readers, IsTree-unique, HasNoTree-unique, IsTree-HasNoTree}

none-some : {T P : Type 0} (o : Option T) (x : T) → o ≡ None → o ≡ Some x → P
none-some o x none some = cc

some-same : {T : Type 0} (o : Option T) (x y : T) → o ≡ Some x → o ≡ Some y → x ≡ y
some-same o x y one other = cc

too-long : {P : Type 0} (o : Option (List ℕ)) (a b : List ℕ) (limit : ℕ) → o ≡ Some a → limit < length a → o ≡ Some b → length b ≤ limit → P
too-long o a b limit one above other short = absurd (omega (arith, ap length (some-same o a b one other), above, short))

true-false : {P : Type 0} (t : Bool) → t ≡ true → t ≡ false → P
true-false t old new = cc

-- an outcome, and a refusal in place of one
abbrev right : {A : Type 0} → A → Result A LoadError
right x = Ok x

abbrev wrong : (A : Type 0) → LoadError → Result A LoadError
wrong A error = Err error

err-ok : {A P : Type 0} (x : A) (error : LoadError) → wrong A error ≡ right x → P
err-ok x error same = cc

ok-same : {A : Type 0} (x y : A) → right x ≡ right y → x ≡ y
ok-same x y same = cc

err-same : (A B : Type 0) (x y : LoadError) → wrong A x ≡ wrong A y → wrong B x ≡ wrong B y
err-same A B x y same =
    let one : x ≡ y = cc in
    ap (λ e. wrong B e) one

crowded : {P : Type 0} (n : ℕ) → FILE_COUNT_LIMIT ≤ n → n < FILE_COUNT_LIMIT → P
crowded n many few = absurd (omega (arith, many, few))

Finds-unique : (files : Files) (name : List ℕ) (a b : Result (List ℕ) LoadError) → Finds files name a → Finds files name b → a ≡ b
Finds-unique files name _ _ (missing none) (missing other) = refl
Finds-unique files name _ _ (missing none) (too_long bytes is long) = none-some _ _ none is
Finds-unique files name _ _ (missing none) (found bytes is short) = none-some _ _ none is
Finds-unique files name _ _ (too_long bytes is long) (missing none) = none-some _ _ none is
Finds-unique files name _ _ (too_long bytes is long) (too_long other is' long') = refl
Finds-unique files name _ _ (too_long bytes is long) (found other is' short) = too-long _ _ _ _ is long is' short
Finds-unique files name _ _ (found bytes is short) (missing none) = none-some _ _ none is
Finds-unique files name _ _ (found bytes is short) (too_long other is' long) = too-long _ _ _ _ is' long is short
Finds-unique files name _ _ (found bytes is short) (found other is' short') = ap Ok (some-same _ _ _ is is')

Holds-unique : Readers → (number : ℕ) (name bytes : List ℕ) (names : List (List ℕ)) (a b : Result Opened LoadError)
    → Holds number name bytes names a → Holds number name bytes names b → a ≡ b
Holds-unique readers number name bytes names _ _ (no_tree cause none) (no_tree other none') =
    ap (λ c. Err (refusal name bytes c)) (HasNoTree-unique (is_module name) (input_of number bytes 0 names) cause other none none')
Holds-unique readers number name bytes names _ _ (no_tree cause none) (tree t more is) = IsTree-HasNoTree (is_module name) _ t more cause is none
Holds-unique readers number name bytes names _ _ (tree t more is) (no_tree cause none) = IsTree-HasNoTree (is_module name) _ t more cause is none
Holds-unique readers number name bytes names _ _ (tree t more is) (tree t' more' is') =
    let same = IsTree-unique readers (is_module name) (input_of number bytes 0 names) t t' more more' is is' in
    ap Ok (λ k. record { file = record { name = name; lines = line_starts bytes; tree = same.tree k }; names = same.names_are k })

Opens-unique : Readers → (files : Files) (number : ℕ) (name : List ℕ) (names : List (List ℕ)) (a b : Result Opened LoadError)
    → Opens files number name names a → Opens files number name names b → a ≡ b
Opens-unique readers files number name names _ _ (too_many many) (too_many many') = refl
Opens-unique readers files number name names _ _ (too_many many) (not_found error few finds) = crowded number many few
Opens-unique readers files number name names _ _ (too_many many) (there bytes outcome few finds holds) = crowded number many few
Opens-unique readers files number name names _ _ (not_found error few finds) (too_many many) = crowded number many few
Opens-unique readers files number name names _ _ (not_found error few finds) (not_found other few' finds') =
    err-same (List ℕ) Opened error other (Finds-unique files name (Err error) (Err other) finds finds')
Opens-unique readers files number name names _ _ (not_found error few finds) (there bytes outcome few' finds' holds) =
    err-ok bytes error (Finds-unique files name (Err error) (Ok bytes) finds finds')
Opens-unique readers files number name names _ _ (there bytes outcome few finds holds) (too_many many) = crowded number many few
Opens-unique readers files number name names _ _ (there bytes outcome few finds holds) (not_found error few' finds') =
    err-ok bytes error (Finds-unique files name (Err error) (Ok bytes) finds' finds)
Opens-unique readers files number name names _ _ (there bytes outcome few finds holds) (there other outcome' few' finds' holds') =
    let same = ok-same other bytes (Finds-unique files name (Ok other) (Ok bytes) finds' finds) in
    let here : Holds number name bytes names outcome' = rw same at holds' in
    Holds-unique readers number name bytes names outcome outcome' holds here

-- ---- what an outcome can be, by what is known of the first step

known-only : (files : Files) (name : List ℕ) (bundle : Bundle) (b : Result Bundle LoadError) → has_file name bundle.files ≡ true → Reads files name bundle b → Ok bundle ≡ b
known-only files _ _ _ old (known name bundle old') = refl
known-only files _ _ _ old (stops name bundle error new opens) = true-false _ old new
known-only files _ _ _ old (goes_on name bundle opened outcome new opens all) = true-false _ old new

stops-only : Readers → (files : Files) (name : List ℕ) (bundle : Bundle) (error : LoadError) (b : Result Bundle LoadError) → has_file name bundle.files ≡ false
    → Opens files (length bundle.files) name bundle.names (Err error) → Reads files name bundle b → Err error ≡ b
stops-only readers files _ _ error _ new opens (known name bundle old) = true-false _ old new
stops-only readers files _ _ error _ new opens (stops name bundle other new' opens') =
    err-same Opened Bundle error other (Opens-unique readers files (length bundle.files) name bundle.names (Err error) (Err other) opens opens')
stops-only readers files _ _ error _ new opens (goes_on name bundle opened outcome new' opens' all) =
    err-ok opened error (Opens-unique readers files (length bundle.files) name bundle.names (Err error) (Ok opened) opens opens')

goes_on-only : Readers → (files : Files) (name : List ℕ) (bundle : Bundle) (opened : Opened) (b : Result Bundle LoadError) → has_file name bundle.files ≡ false
    → Opens files (length bundle.files) name bundle.names (Ok opened) → Reads files name bundle b → ReadsAll files (imports opened.file.tree) (with_file bundle opened) b
goes_on-only readers files _ _ opened _ new opens (known name bundle old) = true-false _ old new
goes_on-only readers files _ _ opened _ new opens (stops name bundle error new' opens') =
    err-ok opened error (Opens-unique readers files (length bundle.files) name bundle.names (Err error) (Ok opened) opens' opens)
goes_on-only readers files _ _ opened _ new opens (goes_on name bundle other outcome new' opens' all) =
    let same = ok-same other opened (Opens-unique readers files (length bundle.files) name bundle.names (Ok other) (Ok opened) opens' opens) in
    subst (λ (o : Opened). ReadsAll files (imports o.file.tree) (with_file bundle o) outcome) same all

done-only : (files : Files) (bundle : Bundle) (b : Result Bundle LoadError) → ReadsAll files [] bundle b → Ok bundle ≡ b
done-only files _ _ (done bundle) = refl

-- the first of several names is read and then the others, or it is refused
record Goes (files : Files) (name : List ℕ) (names : List (List ℕ)) (bundle : Bundle) (b : Result Bundle LoadError) : Type 0 where
  middle : Bundle
  first : Reads files name bundle (Ok middle)
  rest : ReadsAll files names middle b

record Stops (files : Files) (name : List ℕ) (bundle : Bundle) (b : Result Bundle LoadError) : Type 0 where
  error : LoadError
  first : Reads files name bundle (Err error)
  is : Err error ≡ b

first_of_all : (files : Files) (name : List ℕ) (names : List (List ℕ)) (bundle : Bundle) (b : Result Bundle LoadError) → ReadsAll files (name ∷ names) bundle b
    → Goes files name names bundle b ⊎ Stops files name bundle b
first_of_all files _ _ _ _ (next name names bundle middle outcome first rest) = inl (record { middle = middle; first = first; rest = rest })
first_of_all files _ _ _ _ (ends name names bundle error first) = inr (record { error = error; first = first; is = refl })

mutual
  Reads-unique : Readers → (files : Files) (name : List ℕ) (bundle : Bundle) (a b : Result Bundle LoadError) → Reads files name bundle a → Reads files name bundle b → a ≡ b
  Reads-unique readers files _ _ _ b (known name bundle old) other = known-only files name bundle b old other
  Reads-unique readers files _ _ _ b (stops name bundle error new opens) other = stops-only readers files name bundle error b new opens other
  Reads-unique readers files _ _ _ b (goes_on name bundle opened outcome new opens all) other =
      ReadsAll-unique readers files (imports opened.file.tree) (with_file bundle opened) outcome b all (goes_on-only readers files name bundle opened b new opens other)

  ReadsAll-unique : Readers → (files : Files) (names : List (List ℕ)) (bundle : Bundle) (a b : Result Bundle LoadError) → ReadsAll files names bundle a → ReadsAll files names bundle b → a ≡ b
  ReadsAll-unique readers files _ _ _ b (done bundle) other = done-only files bundle b other
  ReadsAll-unique readers files _ _ _ b (next name names bundle middle outcome first rest) other = elim (first_of_all files name names bundle b other) [
    | inl goes ↦
        let same = ok-same goes.middle middle (sym (Reads-unique readers files name bundle (Ok middle) (Ok goes.middle) first goes.first)) in
        ReadsAll-unique readers files names middle outcome b rest (subst (λ (m : Bundle). ReadsAll files names m b) same goes.rest)
    | inr stop ↦ err-ok middle stop.error (sym (Reads-unique readers files name bundle (Ok middle) (Err stop.error) first stop.first))
  ]
  ReadsAll-unique readers files _ _ _ b (ends name names bundle error first) other = elim (first_of_all files name names bundle b other) [
    | inl goes ↦ err-ok goes.middle error (Reads-unique readers files name bundle (Err error) (Ok goes.middle) first goes.first)
    | inr stop ↦ Reads-unique readers files name bundle (Err error) (Err stop.error) first stop.first ∙ stop.is
  ]

pub one_outcome : Readers → IsOneOutcome
one_outcome readers files root a b one other = Reads-unique readers files root nothing a b one other
