use Rattle.std.proofs.Common.{◌≡◌, [], ◌∷◌, ◌++◌, rules}
use Rattle.sv_fragments.proofs.Nodes.{more_pieces}
use Rattle.sv_fragments.proofs.pieces.pieces_of.Goals as goal

pub loop-number-preserved : goal.loop-number-preserved
loop-number-preserved c =
    let pushed : c.push.new.self.items ≡ c.loop-number.pieces.items ++ c.in_ok-piece_of.field-0 ∷ [] = search rules in
    more_pieces c.args.nodes.now c.loop-number.number c.index-nodes-number.result c.loop-number.pieces.items c.push.new.self.items c.in_ok-piece_of.field-0
    c.loop-number-test.true c.index-nodes-number.is c.in_ok-piece_of.ensures pushed c.loop-number.invariant
