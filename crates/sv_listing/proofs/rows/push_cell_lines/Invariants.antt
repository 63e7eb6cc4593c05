use Rattle.std.proofs.Common.{◌≡◌, ◌++◌, ℕ, drop}
use Rattle.std.specs.String.{string_bytes}
use Rattle.std.specs.List.{flat_map, enumerate_from}
use Rattle.sv_ast.specs.declared.names.Ref.{Ref}
use Rattle.sv_listing.specs.Listing.{cell_line}
use Rattle.sv_listing.proofs.rows.push_cell_lines.Given as goal

abbrev pub invariant-loop-number : goal.invariant-loop-number
invariant-loop-number l =
    string_bytes l.fn.text ++ flat_map (λ (c : ℕ × Ref). cell_line l.names c.0 c.1) (enumerate_from 0 l.cells)
    ≡ string_bytes l.text ++ flat_map (λ (c : ℕ × Ref). cell_line l.names c.0 c.1) (enumerate_from l.number (drop l.number l.cells))
