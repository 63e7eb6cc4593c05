use Rattle.sv_live.specs.Shown.{name_of}
use Rattle.sv_commit.proofs.Standing.{made-place, made-text}
use Rattle.sv_commit.proofs.Results.{ok-four}
use Rattle.sv_commit.proofs.make.make_text.Goals as goal

pub make_text-requires : goal.make_text-requires
make_text-requires c = made-place c.args.screen.now c.args.screen.now (name_of c.args.spot.above) c.args.spot.end c.args.walk.now.rest c.args.walk.now.placed c.requires c.has_keys.ensures c.cursor.result c.cursor.ensures

pub returns-clause-stands : goal.returns-clause-stands
returns-clause-stands c = ok-four c.make_text.result c.make_text.ensures.made c.make_text.ensures.serial c.make_text.ensures.next c.make_text.ensures.tells (λ n made serial next tells mark.
    made-text c.args.screen.now c.make_text.new.self (name_of c.args.spot.above) c.args.spot.end c.args.walk.now.rest c.args.walk.now.placed c.requires c.has_keys.ensures c.cursor.result c.cursor.ensures mark n c.args.text.now made serial next tells)
