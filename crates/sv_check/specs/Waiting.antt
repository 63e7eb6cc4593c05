-- Reactive statements that wait for one another (Svelte 4 docs, '$: marks a statement as reactive').
use Rattle.std.specs.Prelude.{ℕ, Bool, true, false, ◌&&◌, List, [], ◌∷◌, Option, None, Some, map, filter, slice_get, if◌then◌else◌}
use Rattle.std.specs.List.{flat_map}
use Rattle.std.specs.Option.{option_to_list}
use Rattle.sv_ast.specs.declared.names.Ref.{Ref}
use Rattle.sv_ast.specs.declared.names.Ref.TheVariants.{Plain, Store}
use Rattle.sv_ast.specs.declared.script_tree.Stmt.{Stmt}
use Rattle.sv_ast.specs.declared.script_tree.StmtKind.{StmtKind-F, out-StmtKind}
use Rattle.sv_base.specs.declared.span.Span.{Span}
use Rattle.sv_names.specs.Distinct.{has}
use Rattle.sv_names.specs.Uses.{read_names, assigned_names}
use Rattle.sv_order.specs.declared.reads.Reads.{Reads}
use Rattle.sv_order.specs.ReactiveOrder.{Before}
use Rattle.sv_graph.specs.Cycle.{IsCycle, IsFirstCycle}
use Rattle.sv_scopes.specs.Script.{StmtLayer}

abbrev pub is_reactive_layer : StmtLayer → Bool
is_reactive_layer (StmtKind-F.React s) = true
is_reactive_layer _ = false

abbrev pub is_reactive : Stmt → Bool
is_reactive s = is_reactive_layer (out-StmtKind s.kind)

-- the reactive statements among those at the top of a file
abbrev pub reactives : List Stmt → List Stmt
reactives stmts = filter is_reactive stmts

-- the name `$x` beside that of a cell `x`, where both are among some cells
abbrev pub store_beside : List Ref → Ref → Option Ref
store_beside cells (Plain x) = if has (Plain x) cells && has (Store x) cells then Some (Store x) else None
store_beside cells (Store x) = None

-- what a statement assigns in a component of some cells: a cell `x` with a `$x` is assigned together with that
abbrev pub sets : List Ref → Stmt → List Ref
sets cells s = flat_map (λ name. name ∷ option_to_list (store_beside cells name)) (assigned_names s)

-- what each reactive statement reads and assigns
abbrev pub reads : List Ref → List Stmt → List Reads
reads cells stmts = map (λ s. record { reads = read_names s; sets = sets cells s }) (reactives stmts)

-- the place of a reactive statement by its number
abbrev pub place_at : List Stmt → ℕ → List Span
place_at stmts n = option_to_list (slice_get (map (λ s. s.span) (reactives stmts)) n)

-- the place of the first statement of a cycle
abbrev pub first_place : List Stmt → List ℕ → List Span
first_place stmts [] = []
first_place stmts (n ∷ cycle) = place_at stmts n

-- where some reactive statements of a component of some cells wait for one another: at the first that lies on any cycle
pub data AreWaiting (cells : List Ref) (stmts : List Stmt) : List Span → Type 0 where
  none : ((cycle : List ℕ) → IsCycle (Before (reads cells stmts)) cycle → ⊥) → AreWaiting cells stmts []
  some : (cycle : List ℕ) → IsFirstCycle (Before (reads cells stmts)) cycle → AreWaiting cells stmts (first_place stmts cycle)
