-- The reactive statements of a script by their numbers.
use Rattle.std.proofs.Common.{◌≡◌, ℕ, zero, suc, ◌+◌, ◌<◌, Bool, true, false, cond, List, [], ◌∷◌, ◌++◌, Some, length, filter, drop, get_or, refl, sym, ap, ◌∙◌, arith}
use Rattle.std.specs.Prelude.{slice_get, slice_index_or, count_by, nat_lt, ◌==◌, if◌then◌else◌}
use Rattle.std.proofs.lemmas.Bool.{eq-eqb, ltb-true}
use Rattle.std.proofs.lemmas.List.Sums.{sum_by-cons}
use Rattle.std.specs.Option.{option_to_list, option_map}
use Rattle.std.proofs.lemmas.List.{drop_more, append_assoc, length-map}
use Rattle.sv_ast.specs.declared.names.Ref.{Ref}
use Rattle.sv_ast.specs.declared.script_tree.Stmt.{Stmt}
use Rattle.sv_code.specs.declared.program.Run.{Run}
use Rattle.sv_names.specs.Uses.{read_names}
use Rattle.sv_check.specs.Waiting.{is_reactive, sets, reads as stmt_reads}
use Rattle.sv_order.specs.declared.reads.Reads.{Reads}
use Rattle.sv_order.specs.ReactiveOrder.{IsEachOnce}
use Rattle.sv_compile.specs.Runs.{reactives_from, reactives, run, run_at, runs}

-- one statement more in the order in which they run
pub next_run : (cells : List Ref) (all : List (ℕ × Stmt)) (order whole : List ℕ) (i number : ℕ) (done more : List Run) (r : Run) (p : ℕ × Stmt) → i < length order → number ≡ get_or order i 0
    → slice_get all number ≡ Some p → r ≡ run cells number p → more ≡ done ++ r ∷ [] → runs cells all whole ≡ done ++ runs cells all (drop i order)
    → runs cells all whole ≡ more ++ runs cells all (drop (i + 1) order)
next_run cells all order whole i number done more r p within is there made pushed so_far =
    let rest = runs cells all (drop (i + 1) order) in
    let next : drop i order ≡ number ∷ drop (i + 1) order = drop_more order i 0 within ∙ ap (λ x. x ∷ drop (i + 1) order) (sym is) in
    let own : run_at cells all number ≡ r ∷ [] = ap (λ o. option_to_list (option_map (run cells number) o)) there ∙ ap (λ x. x ∷ []) (sym made) in
    so_far ∙ ap (λ l. done ++ runs cells all l) next ∙ ap (λ l. done ++ (l ++ rest)) own ∙ sym (append_assoc done (r ∷ []) rest) ∙ ap (λ l. l ++ rest) (sym pushed)

-- as many as there are
length_placed : (n : ℕ) (stmts : List Stmt) → length (reactives_from n stmts) ≡ length (filter is_reactive stmts)
length_placed n [] = refl
length_placed n (s ∷ stmts) = by n s stmts (is_reactive s) refl (length_placed (n + 1) stmts)
  where
    by : (n : ℕ) (s : Stmt) (stmts : List Stmt) (b : Bool) → is_reactive s ≡ b → length (reactives_from (n + 1) stmts) ≡ length (filter is_reactive stmts)
        → length (reactives_from n (s ∷ stmts)) ≡ length (filter is_reactive (s ∷ stmts))
    by n s stmts true e rest = rw (e) (ap (λ k. suc k) rest)
    by n s stmts false e rest = rw (e) rest

counted : (t : ℕ) (xs : List ℕ) (k d : ℕ) → k < length xs → slice_index_or xs k d ≡ t → 0 < count_by (λ x. x == t) xs
counted t [] k d within is = absurd (omega arith)
counted t (x ∷ xs) zero d within is =
    let one = ap (λ b. cond {A = ℕ} b 1 0) (eq-eqb x t is) in
    omega (arith, sum_by-cons (λ y. cond (y == t) 1 0) x xs, one)
counted t (x ∷ xs) (suc k) d within is = omega (arith, sum_by-cons (λ y. cond (y == t) 1 0) x xs, counted t xs k d (omega arith) is)

below_by : (list : List Reads) (order : List ℕ) (t : ℕ) (b : Bool) → nat_lt t (length list) ≡ b → count_by (λ x. x == t) order ≡ (if nat_lt t (length list) then 1 else 0) → 0 < count_by (λ x. x == t) order → t < length list
below_by list order t true lt once some = ltb-true t (length list) lt
below_by list order t false lt once some = let none : count_by (λ x. x == t) order ≡ 0 = once ∙ rw (lt) refl in absurd (omega arith)

once_below : (list : List Reads) (order : List ℕ) → IsEachOnce list order → (k d : ℕ) → k < length order → slice_index_or order k d < length list
once_below list order once k d within =
    let t = slice_index_or order k d in
    below_by list order t (nat_lt t (length list)) refl (once t) (counted t order k d within refl)

-- an order in which each reactive statement stands once has their numbers
pub numbers_below : (cells : List Ref) (stmts : List Stmt) (order : List ℕ) → IsEachOnce (stmt_reads cells stmts) order → (k d : ℕ) → k < length order → slice_index_or order k d < length (reactives stmts)
numbers_below cells stmts order once k d within =
    let low = once_below (stmt_reads cells stmts) order once k d within in
    let many : length (stmt_reads cells stmts) ≡ length (filter is_reactive stmts) = length-map (filter is_reactive stmts) (λ s. record { reads = read_names s; sets = sets cells s }) in
    let same = length_placed 0 stmts in
    omega arith
