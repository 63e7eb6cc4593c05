-- What finding a file, reading its tree, and both, come to.
use Rattle.std.proofs.Common.{◌≡◌, ◌<◌, ◌≤◌, ℕ, List, length, Bool, true, false, Option, sym, subst}
use Rattle.std.specs.declared.alloc.Global.{Global}
use Rattle.std.specs.Prelude.{Vec, Some, None, Result, Ok, Err, IfSome}
use Rattle.std.proofs.lemmas.Option.{IfSome_then}
use Rattle.sv_ast.specs.declared.files.Component.{Component as ComponentTree}
use Rattle.sv_ast.specs.declared.files.FileTree.{FileTree}
use Rattle.sv_ast.specs.declared.files.FileTree.TheVariants.{Component, Module}
use Rattle.sv_ast.specs.declared.files.Module.{Module as ModuleTree}
use Rattle.sv_ast.specs.declared.refusals.ParseError.{ParseError}
use Rattle.sv_ast.specs.declared.refusals.ParseError.TheVariants as errors
use Rattle.sv_ast.specs.declared.refusals.Refused.{Refused}
use Rattle.sv_base.specs.declared.limits.TheConstants.{FILE_LIMIT, FILE_COUNT_LIMIT}
use Rattle.sv_expr.specs.Limits.{real}
use Rattle.sv_io.specs.Files.{Files, find_file}
use Rattle.sv_io.specs.Shelf.{IsGot, IsWithin}
use Rattle.sv_io.specs.declared.shelf.Got.{Got}
use Rattle.sv_io.specs.declared.shelf.Got.TheVariants as got
use Rattle.sv_lex.specs.Reader.{Input, Fails}
use Rattle.sv_markup.specs.Calls.{Answers, Refuses, ComponentAt, ModuleFileAt, of_text}
use Rattle.sv_markup.specs.Files.{top}
use Rattle.sv_script.specs.Calls.{input_of}
use Rattle.sv_script.specs.Script.{file_module}
use Rattle.sv_load.specs.Calls.{Parses}
use Rattle.sv_load.specs.Imports.{is_module}
use Rattle.sv_lines.specs.Lines.{line_starts}
use Rattle.sv_load.specs.Loads.{Opened, Holds, no_tree, tree, Finds, missing, too_long, found, Opens, too_many, not_found, there, Tells, refusal}
use Rattle.sv_load.specs.Trees.{IsTree, HasNoTree}
use Rattle.sv_load.specs.declared.refusals.LoadError.{LoadError}
use Rattle.sv_load.specs.declared.refusals.LoadError.TheVariants.{Missing, TooLong, TooMany}
use Rattle.sv_load.proofs.Told.{IfSome-always, Tells-weaker, Tells-err}

-- ---- the bytes of a file, asked for by a text that is its name

pub finds-found : (told : Option Files) (text name bytes : List ℕ) → text ≡ name → length bytes ≤ FILE_LIMIT
    → IfSome told (λ files. find_file files text ≡ Some bytes) → IfSome told (λ files. Finds files name (Ok bytes))
finds-found told text name bytes same short got = IfSome_then told got (λ files is. found bytes (rw same at is) short)

pub finds-missing : (told : Option Files) (text name shared : List ℕ) → text ≡ name → shared ≡ name
    → IfSome told (λ files. find_file files text ≡ None) → IfSome told (λ files. Finds files name (Err (Missing shared)))
finds-missing told text name shared same is got =
    IfSome_then told got (λ files none. subst (λ (s : List ℕ). Finds files name (Err (Missing s))) (sym is) (missing (rw same at none)))

pub finds-too_long : (told : Option Files) (text name shared : List ℕ) → text ≡ name → shared ≡ name
    → IfSome told (λ files. (bytes : List ℕ) × (find_file files text ≡ Some bytes) × (FILE_LIMIT < length bytes))
    → IfSome told (λ files. Finds files name (Err (TooLong shared)))
finds-too_long told text name shared same is got =
    IfSome_then told got (λ files long. subst (λ (s : List ℕ). Finds files name (Err (TooLong s))) (sym is) (too_long long.0 (rw same at long.1) long.2))

-- ---- what the shelf got

pub got-bytes : (told : Option Files) (text name : List ℕ) (shelf : Got) (bytes : Vec ℕ Global) → shelf ≡ got.Bytes bytes → text ≡ name
    → IfSome told (λ files. IsGot files text FILE_LIMIT shelf) → IsWithin FILE_LIMIT shelf → IfSome told (λ files. Finds files name (Ok bytes.items))
got-bytes told text name shelf bytes is same here within =
    finds-found told text name bytes.items same (subst (λ (g : Got). IsWithin FILE_LIMIT g) is within)
    (subst (λ (g : Got). IfSome told (λ files. IsGot files text FILE_LIMIT g)) is here)

pub got-missing : (told : Option Files) (text name shared : List ℕ) (shelf : Got) → shelf ≡ got.Missing → text ≡ name → shared ≡ name
    → IfSome told (λ files. IsGot files text FILE_LIMIT shelf) → IfSome told (λ files. Finds files name (Err (Missing shared)))
got-missing told text name shared shelf is same share here =
    finds-missing told text name shared same share (subst (λ (g : Got). IfSome told (λ files. IsGot files text FILE_LIMIT g)) is here)

pub got-too_long : (told : Option Files) (text name shared : List ℕ) (shelf : Got) → shelf ≡ got.TooLong → text ≡ name → shared ≡ name
    → IfSome told (λ files. IsGot files text FILE_LIMIT shelf) → IfSome told (λ files. Finds files name (Err (TooLong shared)))
got-too_long told text name shared shelf is same share here =
    finds-too_long told text name shared same share (subst (λ (g : Got). IfSome told (λ files. IsGot files text FILE_LIMIT g)) is here)

-- ---- the tree of a file

pub parses-refused : (kind : Bool) (i : Input) (e : ParseError) (cause : Refused) (names : List (List ℕ)) → e ≡ errors.Refused cause → Parses kind i (Err e) names
    → HasNoTree kind i cause
parses-refused kind i e cause names is none = subst (λ (x : ParseError). Parses kind i (Err x) names) is none

pub parses-module : (kind : Bool) (i : Input) (t : ModuleTree) (names : List (List ℕ)) → kind ≡ true → Answers ModuleFileAt i (Ok t) names → Parses kind i (Ok (Module t)) names
parses-module kind i t names is answers = subst (λ (k : Bool). IsTree k i (Module t) names) (sym is) answers

pub parses-component : (kind : Bool) (i : Input) (t : ComponentTree) (names : List (List ℕ)) → kind ≡ false → Answers ComponentAt i (Ok t) names → Parses kind i (Ok (Component t)) names
parses-component kind i t names is answers = subst (λ (k : Bool). IsTree k i (Component t) names) (sym is) answers

pub parses-no_module : (kind : Bool) (i : Input) (e : ParseError) (names : List (List ℕ)) → kind ≡ true → Refuses ModuleFileAt i e names
    → Fails (of_text (file_module real) i) e → Parses kind i (Err e) names
parses-no_module kind i errors.NoMemory names is refuses fails = tt
parses-no_module kind i (errors.Refused cause) names is refuses fails =
    subst (λ (k : Bool). HasNoTree k i cause) (sym is) (record { none = refuses.0; at_all = refuses.1; told = fails })

pub parses-no_component : (kind : Bool) (i : Input) (e : ParseError) (names : List (List ℕ)) → kind ≡ false → Refuses ComponentAt i e names
    → Fails (of_text (top real) i) e → Parses kind i (Err e) names
parses-no_component kind i errors.NoMemory names is refuses fails = tt
parses-no_component kind i (errors.Refused cause) names is refuses fails =
    subst (λ (k : Bool). HasNoTree k i cause) (sym is) (record { none = refuses.0; at_all = refuses.1; told = fails })

-- ---- what the bytes come to

pub holds-tree : (number : ℕ) (name bytes : List ℕ) (names more : List (List ℕ)) (t : FileTree) (lines shared : List ℕ)
    → IsTree (is_module name) (input_of number bytes 0 names) t more → lines ≡ line_starts bytes → shared ≡ name
    → Holds number name bytes names (Ok (record { file = record { name = shared; lines = lines; tree = t }; names = more }))
holds-tree number name bytes names more t lines shared is starts same =
    subst (λ (o : Opened). Holds number name bytes names (Ok o))
    (λ k. record { file = record { name = (sym same) k; lines = (sym starts) k; tree = t }; names = more })
    (tree t more is)

pub holds-no_tree : (number : ℕ) (name bytes : List ℕ) (names : List (List ℕ)) (cause : Refused) (error : LoadError)
    → HasNoTree (is_module name) (input_of number bytes 0 names) cause → error ≡ refusal name bytes cause → Tells (Holds number name bytes names) (Err error)
holds-no_tree number name bytes names cause error none is =
    subst (λ (e : LoadError). Tells (Holds number name bytes names) (Err e)) (sym is) (no_tree cause none)

-- ---- what a name comes to

pub opens-too_many : (told : Option Files) (number : ℕ) (name shared : List ℕ) (names : List (List ℕ)) → FILE_COUNT_LIMIT ≤ number → shared ≡ name
    → IfSome told (λ files. Tells (Opens files number name names) (Err (TooMany shared)))
opens-too_many told number name shared names many is =
    IfSome-always told (λ files. subst (λ (s : List ℕ). Opens files number name names (Err (TooMany s))) (sym is) (too_many many))

pub opens-not_found : (told : Option Files) (number : ℕ) (name : List ℕ) (names : List (List ℕ)) (error : LoadError) → number < FILE_COUNT_LIMIT
    → IfSome told (λ files. Tells (Finds files name) (Err error)) → IfSome told (λ files. Tells (Opens files number name names) (Err error))
opens-not_found told number name names error few finds =
    IfSome_then told finds (λ files p. Tells-err (Finds files name) (Opens files number name names) error (λ e p. not_found e few p) p)

pub opens-opens : (told : Option Files) (number : ℕ) (name bytes text : List ℕ) (names : List (List ℕ)) (outcome : Result Opened LoadError) → number < FILE_COUNT_LIMIT
    → IfSome told (λ files. Tells (Finds files name) (Ok bytes)) → text ≡ bytes → Tells (Holds number name text names) outcome
    → IfSome told (λ files. Tells (Opens files number name names) outcome)
opens-opens told number name bytes text names outcome few finds same holds =
    let here : Tells (Holds number name bytes names) outcome = rw same at holds in
    IfSome_then told finds (λ files p. Tells-weaker (Holds number name bytes names) (Opens files number name names) outcome (λ r q. there bytes r few p q) here)
