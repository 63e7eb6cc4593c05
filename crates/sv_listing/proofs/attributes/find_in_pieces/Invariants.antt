use Rattle.std.proofs.Common.{◌≡◌, ◌++◌, drop}
use Rattle.std.specs.List.{flat_map}
use Rattle.sv_listing.specs.Parts.{in_piece}
use Rattle.sv_listing.proofs.attributes.find_in_pieces.Given as goal

abbrev pub invariant-loop-piece : goal.invariant-loop-piece
invariant-loop-piece l = l.fn.found ++ flat_map in_piece l.pieces ≡ l.found ++ flat_map in_piece (drop l.piece-index l.pieces)
