use Rattle.std.proofs.Common.{◌≡◌, ◌++◌, drop}
use Rattle.sv_imports.specs.Cycles.{cycles_from}
use Rattle.sv_imports.specs.Table.{leads_in}
use Rattle.sv_imports.proofs.cycles.find_cycles.Given as goal

abbrev pub invariant-loop-file : goal.invariant-loop-file
invariant-loop-file l = cycles_from (leads_in l.table) l.files 0 l.files ≡ l.places ++ cycles_from (leads_in l.table) l.files l.file (drop l.file l.files)
