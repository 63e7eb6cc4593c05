use Rattle.std.proofs.Common.{◌≡◌, ◌++◌, drop, filter}
use Rattle.std.specs.Prelude.{not, ◌&&◌}
use Rattle.sv_names.specs.Distinct.{has, firsts}
use Rattle.sv_compile.specs.TopLevel.{is_plain, all_lets}
use Rattle.sv_compile.proofs.cells.reactive_cells.Given as goal

abbrev pub invariant-loop-cell : goal.invariant-loop-cell
invariant-loop-cell l =
    filter (λ cell. is_plain cell && not (has cell (firsts (all_lets l.stmts)))) l.cells ≡ l.own ++ filter (λ cell. is_plain cell && not (has cell (firsts (all_lets l.stmts)))) (drop l.cell-index l.cells)
