use Rattle.std.proofs.Common.{◌≡◌, length, map, take}
use Rattle.std.specs.List.{All}
use Rattle.sv_fragments.specs.Frags.{node}
use Rattle.sv_fragments.specs.Pieces.{made, IsNumber}
use Rattle.sv_fragments.proofs.pieces.pieces_of.Given as goal

abbrev pub invariant-loop-number : goal.invariant-loop-number
invariant-loop-number l = (map (made l.nodes) l.pieces.items ≡ map node (take l.number l.nodes)) × All (IsNumber (length l.nodes)) l.pieces.items
