-- Cells, each once, are the same cells.
use Rattle.std.proofs.Common.{◌≡◌, List, [], ◌∷◌, ◌++◌, Some, None, ap, ◌∙◌, refl}
use Rattle.std.specs.Prelude.{◌&&◌, if◌then◌else◌}
use Rattle.std.specs.List.{flat_map}
use Rattle.std.specs.Option.{option_to_list}
use Rattle.sv_ast.specs.declared.names.Ref.{Ref}
use Rattle.sv_ast.specs.declared.names.Ref.TheVariants.{Plain, Store}
use Rattle.sv_ast.specs.declared.script_tree.Stmt.{Stmt}
use Rattle.sv_names.specs.Distinct.{has, firsts}
use Rattle.sv_names.specs.Uses.{read_names, assigned_names}
use Rattle.sv_names.proofs.Same.{has-firsts}
use Rattle.sv_check.specs.Waiting.{reactives, store_beside, sets, reads}
use Rattle.sv_check.proofs.Unique.{map_alike}

beside_once : (cells : List Ref) (name : Ref) → store_beside (firsts cells) name ≡ store_beside cells name
beside_once cells (Plain x) =
    ap (λ b. if b && has (Store x) (firsts cells) then Some (Store x) else None) (has-firsts (Plain x) cells)
    ∙ ap (λ b. if has (Plain x) cells && b then Some (Store x) else None) (has-firsts (Store x) cells)
beside_once cells (Store x) = refl

all_once : (cells names : List Ref)
    → flat_map (λ name. name ∷ option_to_list (store_beside (firsts cells) name)) names ≡ flat_map (λ name. name ∷ option_to_list (store_beside cells name)) names
all_once cells [] = refl
all_once cells (name ∷ names) =
    let rest = flat_map (λ name. name ∷ option_to_list (store_beside (firsts cells) name)) names in
    ap (λ s. (name ∷ option_to_list s) ++ rest) (beside_once cells name)
    ∙ ap (λ l. (name ∷ option_to_list (store_beside cells name)) ++ l) (all_once cells names)

reads_once : (cells : List Ref) (stmts : List Stmt) → reads (firsts cells) stmts ≡ reads cells stmts
reads_once cells stmts =
    map_alike (λ (s : Stmt). record { reads = read_names s; sets = sets (firsts cells) s }) (λ (s : Stmt). record { reads = read_names s; sets = sets cells s })
    (λ s. ap (λ names. record { reads = read_names s; sets = names }) (all_once cells (assigned_names s))) (reactives stmts)

pub reads_known : (cells known : List Ref) (stmts : List Stmt) → known ≡ firsts cells → reads known stmts ≡ reads cells stmts
reads_known cells known stmts is = ap (λ names. reads names stmts) is ∙ reads_once cells stmts
