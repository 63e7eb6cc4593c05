use Rattle.std.proofs.Common.{◌+◌, ◌-◌, sym, subst, length, map, take, drop, arith}
use Rattle.sv_store.specs.Kept.{subscriber_of}
use Rattle.sv_states.specs.Moving.{IsThere}
use Rattle.sv_states.specs.Moves.{moves_seen}
use Rattle.sv_states.specs.Board.{seen_as}
use Rattle.sv_states.proofs.Making.{stores_followed}
use Rattle.sv_states.proofs.Seating.{ready-fewer}
use Rattle.sv_states.proofs.board.Board.+follow_all.Goals as goal

pub follow-requires-clause-made : goal.follow-requires-clause-made
follow-requires-clause-made t c =
    let g = moves_seen c.args.moves.now in
    let same = stores_followed (map subscriber_of (take (length c.args.cells.now - 1) (drop 1 c.args.cells.now))) g (seen_as c.args.self.now) (seen_as c.follow_all.new.self) c.follow_all.ensures.states in
    subst (λ h. IsThere (length c.follow_all.new.self.stores) h.store) (sym c.follow_all.ensures.goal) (subst (λ n. IsThere n g.store) (sym same) c.requires.made)

pub follow-requires-clause-enough : goal.follow-requires-clause-enough
follow-requires-clause-enough t c =
    c.follow_all.ensures.left 1 (ready-fewer c.args.self.now.stores (length c.args.cells.now) _ c.args.moves.now (omega arith) c.requires.enough)

pub returns-in-len1-up-clause-left : goal.returns-in-len1-up-clause-left
returns-in-len1-up-clause-left t c n r =
    c.follow.ensures.left n (c.follow_all.ensures.left (1 + n) (ready-fewer c.args.self.now.stores (length c.args.cells.now + n) _ c.args.moves.now (omega arith) r))
