use Rattle.sv_live.specs.Shown.{name_of}
use Rattle.sv_commit.proofs.Standing.{made-place, made-hole}
use Rattle.sv_commit.proofs.make.make_hole.Goals as goal

pub make_anchor-requires : goal.make_anchor-requires
make_anchor-requires c = made-place c.args.screen.now c.args.screen.now (name_of c.args.spot.above) c.args.spot.end c.args.walk.now.rest c.args.walk.now.placed c.requires c.has_keys.ensures c.cursor.result c.cursor.ensures

pub returns-clause-stands : goal.returns-clause-stands
returns-clause-stands c = λ place. (
    let m = c.in_ok-anchor.ensures in
    made-hole c.args.screen.now c.make_anchor.new.self (name_of c.args.spot.above) c.args.spot.end c.args.walk.now.rest c.args.walk.now.placed c.requires c.has_keys.ensures c.cursor.result c.cursor.ensures
    place c.in_ok-anchor.anchor c.new.result c.new.ensures m.made m.next m.tells)
