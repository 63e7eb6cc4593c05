-- The files of functions, and the numbers of those that are known.
use Rattle.std.proofs.Common.{◌≡◌, ℕ, suc, ◌+◌, ◌<◌, ◌≤◌, Bool, true, false, cond, List, [], ◌∷◌, ◌++◌, Option, None, Some, length, map, get_or, inl, inr, sym, subst, arith}
use Rattle.std.specs.Prelude.{All, is_some}
use Rattle.std.specs.List.{flat_map, range_with_len}
use Rattle.std.proofs.lemmas.Bool.{cases_lt}
use Rattle.std.proofs.lemmas.List.{get_or_past}
use Rattle.std.proofs.lemmas.List.Elements.{All-nil, All-cons, All-head, All-tail, All-append, All-push, All-get_or}
use Rattle.sv_ast.specs.declared.files.Bundle.{Bundle}
use Rattle.sv_ast.specs.declared.files.SourceFile.{SourceFile}
use Rattle.sv_ast.specs.declared.names.Ref.{Ref}
use Rattle.sv_ast.specs.declared.names.Ref.TheVariants.{Plain}
use Rattle.sv_ast.specs.declared.script_tree.Decl.{out-Decl}
use Rattle.sv_ast.specs.declared.script_tree.Expr.{Expr}
use Rattle.sv_ast.specs.declared.script_tree.ExprKind.{ExprKind-F, out-ExprKind}
use Rattle.sv_ast.specs.declared.script_tree.ImportName.{ImportName}
use Rattle.sv_ast.specs.declared.script_tree.Stmt.{Stmt}
use Rattle.sv_ast.specs.declared.script_tree.StmtKind.{StmtKind-F, out-StmtKind}
use Rattle.sv_base.specs.declared.names.Name.{Name}
use Rattle.sv_names.specs.Distinct.{same_ref}
use Rattle.sv_names.specs.Uses.{named}
use Rattle.sv_base.specs.Names.{Table}
use Rattle.sv_effects.specs.declared.functions.Function.{Function}
use Rattle.sv_ast.specs.Files.{statements_of}
use Rattle.sv_effects.specs.Functions.{Layer, StmtLayer, arrow_layer, value_functions, decl_functions, stmt_layer, stmt_functions, file_functions, functions_from, functions}
use Rattle.sv_names.specs.NameMap.{Entries, number_of, with_entry, with_entries}
use Rattle.sv_effects.specs.Known.{names_from, is_of, own, stmts_at, module_at, with_local, given_name, import_layer, stmt_imported, all_given, known}

all_flat : {X Y : Type 0} (P : Y → Type 0) (f : X → List Y) (xs : List X) → ((x : X) → All P (f x)) → All P (flat_map f xs)
all_flat P f [] each = All-nil P
all_flat P f (x ∷ xs) each = All-append P (f x) (flat_map f xs) (each x) (all_flat P f xs each)

all_map : {X Y : Type 0} (P : Y → Type 0) (f : X → Y) (xs : List X) → ((x : X) → P (f x)) → All P (map f xs)
all_map P f [] each = All-nil P
all_map P f (x ∷ xs) each = All-cons P (f x) (map f xs) (each x) (all_map P f xs each)

-- ---- the files of functions

-- a function is of a file below a number
abbrev In : ℕ → Function → Type 0
In n f = f.file < n

arrow_in : (n : ℕ) (table : Table) (file : ℕ) (name : Name) (exported : Bool) (value : Expr) (layer : Layer) → file < n → All (In n) (arrow_layer table file name exported value layer)
arrow_in n table file name exported value (ExprKind-F.Arrow params body) h = All-cons (In n) _ [] h (All-nil (In n))
arrow_in n table file name exported value _ h = All-nil (In n)

value_in : (n : ℕ) (table : Table) (file : ℕ) (name : Name) (exported : Bool) (value : Option Expr) → file < n → All (In n) (value_functions table file name exported value)
value_in n table file name exported None h = All-nil (In n)
value_in n table file name exported (Some value) h = arrow_in n table file name exported value (out-ExprKind value.kind) h

stmt_in : (n : ℕ) (table : Table) (file : ℕ) (s : Stmt) (layer : StmtLayer) → file < n → All (In n) (stmt_layer table file s layer)
stmt_in n table file s (StmtKind-F.Func name exported params body) h = All-cons (In n) _ [] h (All-nil (In n))
stmt_in n table file s (StmtKind-F.Const decls exported) h = all_flat (In n) (decl_functions table file exported) decls (λ d. value_in n table file (out-Decl d).name.name exported (out-Decl d).first h)
stmt_in n table file s _ h = All-nil (In n)

files_in : (n : ℕ) (table : Table) (file : ℕ) (files : List SourceFile) → file + length files ≤ n → All (In n) (functions_from table file files)
files_in n table file [] h = All-nil (In n)
files_in n table file (source ∷ files) h =
    All-append (In n) (file_functions table file source) (functions_from table (suc file) files)
    (all_flat (In n) (stmt_functions table file) (statements_of source.tree) (λ s. stmt_in n table file s (out-StmtKind s.kind) (omega (arith, h))))
    (files_in n table (suc file) files (omega (arith, h)))

-- each function is of one of the files
pub functions_in : (bundle : Bundle) (fs : List Function) (count : ℕ) → fs ≡ functions bundle → count ≡ length bundle.files → All (λ f. f.file < count) fs
functions_in bundle fs count e c =
    subst (λ z. All (λ (f : Function). f.file < count) z) (sym e) (files_in count bundle.names 0 bundle.files (omega (arith, c)))

-- ---- the numbers of functions

-- a name stands for a function below a number
abbrev Below : ℕ → Ref × ℕ → Type 0
Below n k = k.1 < n

with_below : (n : ℕ) (points : Entries) (k : Ref × ℕ) (b : Bool) → All (Below n) points → k.1 < n → All (Below n) (cond b points (points ++ k ∷ []))
with_below n points k true a h = a
with_below n points k false a h = All-push (Below n) points k a h

all_with : (n : ℕ) (points more : Entries) → All (Below n) points → All (Below n) more → All (Below n) (with_entries points more)
all_with n points [] a m = a
all_with n points (k ∷ more) a m =
    all_with n (with_entry points k) more (with_below n points k (is_some (number_of points k.0)) a (All-head (Below n) k more m)) (All-tail (Below n) k more m)

some_names : (n : ℕ) (k : Ref × ℕ) (b : Bool) → k.1 < n → All (Below n) (cond b (k ∷ []) [])
some_names n k true h = All-cons (Below n) k [] h (All-nil (Below n))
some_names n k false h = All-nil (Below n)

names_below : (n : ℕ) (test : Function → Bool) (p : ℕ) (fs : List Function) → p + length fs ≤ n → All (Below n) (names_from test p fs)
names_below n test p [] h = All-nil (Below n)
names_below n test p (f ∷ fs) h =
    All-append (Below n) (cond (test f) ((Plain f.name, p) ∷ []) []) (names_from test (suc p) fs) (some_names n (Plain f.name, p) (test f) (omega (arith, h))) (names_below n test (suc p) fs (omega (arith, h)))

pub own_below : (n : ℕ) (only : Bool) (fs : List Function) (file : ℕ) → length fs ≤ n → All (Below n) (own only fs file)
own_below n only fs file h = all_with n [] (names_from (is_of only file) 0 fs) (All-nil (Below n)) (names_below n (is_of only file) 0 fs (omega (arith, h)))

-- an answer is below a number
abbrev pub SomeBelow : ℕ → Option ℕ → Type 0
SomeBelow n None = Unit {0}
SomeBelow n (Some p) = p < n

found_below : (n : ℕ) (b : Bool) (p : ℕ) (o : Option ℕ) → p < n → SomeBelow n o → SomeBelow n (cond b (Some p) o)
found_below n true p o h s = h
found_below n false p o h s = s

pub point_below : (n : ℕ) (points : Entries) (name : Ref) → All (Below n) points → SomeBelow n (number_of points name)
point_below n [] name a = tt
point_below n (k ∷ points) name a = found_below n (same_ref name k.0) k.1 (number_of points name) (All-head (Below n) k points a) (point_below n points name (All-tail (Below n) k points a))

local_below : (n : ℕ) (s : ImportName) (o : Option ℕ) → SomeBelow n o → All (Below n) (with_local s o)
local_below n s None h = All-nil (Below n)
local_below n s (Some p) h = All-cons (Below n) (named s.local, p) [] h (All-nil (Below n))

row_below : (n : ℕ) (given : List Entries) (file : ℕ) → All (All (Below n)) given → All (Below n) (get_or given file [])
row_below n given file a = elim (cases_lt file (length given)) [
  | inl inside ↦ All-get_or (All (Below n)) given file [] inside a
  | inr past ↦ subst (All (Below n)) (sym (get_or_past given file [] past)) (All-nil (Below n))
]

given_below : (n : ℕ) (given : List Entries) (file : Option ℕ) (s : ImportName) → All (All (Below n)) given → All (Below n) (given_name given file s)
given_below n given None s a = All-nil (Below n)
given_below n given (Some file) s a = local_below n s _ (point_below n (get_or given file []) (named s.given) (row_below n given file a))

layer_below : (n : ℕ) (files : List SourceFile) (given : List Entries) (layer : StmtLayer) → All (All (Below n)) given → All (Below n) (import_layer files given layer)
layer_below n files given (StmtKind-F.Import i) a = all_flat (Below n) (given_name given (module_at files i.from)) i.names (λ s. given_below n given (module_at files i.from) s a)
layer_below n files given _ a = All-nil (Below n)

-- what is known in a file are functions
known_below : (bundle : Bundle) (file : ℕ) → All (Below (length (functions bundle))) (known bundle file)
known_below bundle file =
    let n = length (functions bundle) in
    let given : All (All (Below n)) (all_given bundle) = all_map (All (Below n)) (own true (functions bundle)) (range_with_len 0 (length bundle.files)) (λ j. own_below n true (functions bundle) j (omega arith)) in
    all_with n (own false (functions bundle) file) _ (own_below n false (functions bundle) file (omega arith))
    (all_flat (Below n) (stmt_imported bundle.files (all_given bundle)) (stmts_at bundle.files file) (λ s. layer_below n bundle.files (all_given bundle) (out-StmtKind s.kind) given))

-- and so in all files
pub all_below : (bundle : Bundle) (n count : ℕ) (table : List Entries) → n ≡ length (functions bundle) → table ≡ map (known bundle) (range_with_len 0 count) → All (λ points. All (λ k. k.1 < n) points) table
all_below bundle n count table e t =
    subst (λ z. All (All (Below n)) z) (sym t) (all_map (All (Below n)) (known bundle) (range_with_len 0 count) (λ j. subst (λ z. All (Below z) (known bundle j)) (sym e) (known_below bundle j)))
