use Rattle.std.proofs.Common.{◌≡◌, ◌++◌, map, drop}
use Rattle.sv_slots.specs.Sheets.{sheet}
use Rattle.sv_slots.proofs.sheets.sheets_of.Given as goal

abbrev pub invariant-loop-source : goal.invariant-loop-source
invariant-loop-source l = map (sheet l.bundle.names l.files) l.files ≡ l.sheets ++ map (sheet l.bundle.names l.files) (drop l.source-index l.files)
