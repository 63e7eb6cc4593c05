use Rattle.sv_imports.specs.Table.{IsTable}
use Rattle.sv_imports.proofs.cycles.leads_table.Given as goal

-- the rows of the files so far
abbrev pub invariant-loop-start : goal.invariant-loop-start
invariant-loop-start l = IsTable l.links l.start l.table.items
