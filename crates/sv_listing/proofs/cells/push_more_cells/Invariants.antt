use Rattle.std.proofs.Common.{◌≡◌, ◌++◌, map, drop}
use Rattle.std.specs.String.{string_bytes}
use Rattle.sv_listing.specs.Names.{cell_text, behind_commas}
use Rattle.sv_listing.proofs.cells.push_more_cells.Given as goal

abbrev pub invariant-loop-number : goal.invariant-loop-number
invariant-loop-number l = string_bytes l.fn.text ++ behind_commas (map (cell_text l.names l.cells) l.numbers) ≡ string_bytes l.text ++ behind_commas (map (cell_text l.names l.cells) (drop l.number-index l.numbers))
