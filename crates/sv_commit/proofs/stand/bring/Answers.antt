use Rattle.sv_live.specs.Shown.{name_of}
use Rattle.sv_commit.proofs.Standing.{taken-among, taken-moved}
use Rattle.sv_commit.proofs.stand.bring.Goals as goal

pub move_one-requires : goal.move_one-requires
move_one-requires c =
    taken-among c.args.screen.now (name_of c.args.spot.above) c.args.spot.end c.args.walk.now c.take.new.self c.in-Some.taken.live c.in-Some.taken.last c.in-Some.ensures.taken c.in-Some.ensures.placed c.requires c.cursor-end.result c.cursor-end.ensures

pub returns-clause-brought : goal.returns-clause-brought
returns-clause-brought c =
    taken-moved c.args.screen.now (name_of c.args.spot.above) c.args.spot.end c.args.walk.now c.take.new.self c.in-Some.taken.live c.in-Some.taken.last c.in-Some.ensures.taken c.in-Some.ensures.placed c.requires c.move_one.new.screen c.cursor-end.result
    c.cursor-end.ensures c.in_ok-move_one.ensures
