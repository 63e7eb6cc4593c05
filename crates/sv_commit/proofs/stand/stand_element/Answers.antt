use Rattle.sv_live.specs.Shown.{name_of}
use Rattle.sv_live.proofs.Stands.{Stands-then, Becomes-then}
use Rattle.sv_commit.proofs.Standing.{at_some, put-within, put-gone}
use Rattle.sv_commit.proofs.Results.{ok-map}
use Rattle.sv_commit.proofs.stand.stand_element.Goals as goal

pub put_away-requires : goal.put_away-requires
put_away-requires c =
    put-within c.args.screen.now c.bring.new.screen (name_of c.args.spot.above) c.args.spot.end _ c.bring.new.walk.rest c.bring.new.walk.placed c.in-Some.live c.in-Err.other c.in-Err.ensures.other.0
    (at_some _ c.in_ok-live.field-0 c.in-Some.live c.in-Some.is c.in_ok-live.ensures.brought) c.requires

pub make_element-requires-in-Err : goal.make_element-requires-in-Err
make_element-requires-in-Err c =
    Stands-then c.args.screen.now c.put_away.new.screen (name_of c.args.spot.above) c.args.spot.end _ _ c.requires
    (put-gone c.args.screen.now c.bring.new.screen (name_of c.args.spot.above) c.args.spot.end _ c.bring.new.walk.rest c.bring.new.walk.placed c.in-Some.live c.in-Err.other c.in-Err.ensures.other.0
    (at_some _ c.in_ok-live.field-0 c.in-Some.live c.in-Some.is c.in_ok-live.ensures.brought) c.put_away.new.screen c.in_ok-put_away-in-Err.ensures)

pub returns-in_ok-put_away-in-Err-clause-stands : goal.returns-in_ok-put_away-in-Err-clause-stands
returns-in_ok-put_away-in-Err-clause-stands c =
    ok-map c.make_element-in-Err.result c.make_element-in-Err.ensures.stands (λ n b.
    Becomes-then c.args.screen.now c.put_away.new.screen _ (name_of c.args.spot.above) c.args.spot.end _ _ _
    (put-gone c.args.screen.now c.bring.new.screen (name_of c.args.spot.above) c.args.spot.end _ c.bring.new.walk.rest c.bring.new.walk.placed c.in-Some.live c.in-Err.other c.in-Err.ensures.other.0
    (at_some _ c.in_ok-live.field-0 c.in-Some.live c.in-Some.is c.in_ok-live.ensures.brought) c.put_away.new.screen c.in_ok-put_away-in-Err.ensures) b)
