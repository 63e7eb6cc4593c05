use Rattle.std.proofs.Common.{◌≡◌, ◌++◌, map, filter, drop}
use Rattle.sv_names.specs.Distinct.{with_names}
use Rattle.sv_resolve.specs.Cells.{is_store, stores}
use Rattle.sv_resolve.proofs.cells.add_stores.Given as goal

abbrev pub invariant-loop-found : goal.invariant-loop-found
invariant-loop-found l = record {
  cells : l.cells ≡ l.fn.cells ++ l.known;
  known : stores l.uses ≡ with_names l.known (filter is_store (map (λ u. u.name) (drop l.found-index l.uses)));
}
