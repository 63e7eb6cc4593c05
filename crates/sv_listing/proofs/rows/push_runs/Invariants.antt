use Rattle.std.proofs.Common.{◌≡◌, ◌++◌, drop}
use Rattle.std.specs.String.{string_bytes}
use Rattle.std.specs.List.{flat_map}
use Rattle.sv_listing.specs.Listing.{run_line}
use Rattle.sv_listing.proofs.rows.push_runs.Given as goal

abbrev pub invariant-loop-run : goal.invariant-loop-run
invariant-loop-run l = string_bytes l.fn.text ++ flat_map (run_line l.names l.cells l.lines) l.runs ≡ string_bytes l.text ++ flat_map (run_line l.names l.cells l.lines) (drop l.run-index l.runs)
