use Rattle.std.proofs.Common.{◌≡◌, ◌++◌, map, filter, drop}
use Rattle.sv_imports.specs.Cycles.{closes}
use Rattle.sv_imports.specs.Table.{leads_in}
use Rattle.sv_imports.proofs.cycles.find_cycles_in.Given as goal

abbrev pub invariant-loop-stmt : goal.invariant-loop-stmt
invariant-loop-stmt l =
    map (λ s. s.span) (filter (closes (leads_in l.table) l.files l.file) l.stmt-items)
    ≡ l.places ++ map (λ s. s.span) (filter (closes (leads_in l.table) l.files l.file) (drop l.stmt-index l.stmt-items))
