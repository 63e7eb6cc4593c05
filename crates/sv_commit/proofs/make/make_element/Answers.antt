use Rattle.sv_live.specs.Shown.{name_of}
use Rattle.sv_commit.proofs.Standing.{made-place, made-element}
use Rattle.sv_commit.proofs.make.make_element.Goals as goal

pub make_element-requires : goal.make_element-requires
make_element-requires c = made-place c.args.screen.now c.args.screen.now (name_of c.args.spot.above) c.args.spot.end c.args.walk.now.rest c.args.walk.now.placed c.requires c.has_keys.ensures c.cursor.result c.cursor.ensures

pub returns-clause-stands : goal.returns-clause-stands
returns-clause-stands c =
    let m = c.in_ok-named.ensures in
    made-element c.args.screen.now c.make_element.new.self (name_of c.args.spot.above) c.args.spot.end c.args.walk.now.rest c.args.walk.now.placed c.requires c.has_keys.ensures c.cursor.result c.cursor.ensures
    c.in_ok-named.named c.args.own.now.mark c.in_ok-own.own c.new.result c.args.own.now.name c.in_ok-own.ensures c.new.ensures m.made m.serial m.next m.tells
