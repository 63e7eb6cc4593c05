use Rattle.std.proofs.Common.{◌++◌, true, ap, ◌∙◌}
use Rattle.sv_live.specs.Shown.{name_of}
use Rattle.sv_commit.proofs.Standing.{one-within, one-gone, taken-list, taken-rest}
use Rattle.sv_commit.proofs.arrange.clear.Goals as goal

pub put_away-requires : goal.put_away-requires
put_away-requires c =
    let w = c.loop-live.walk in
    let k = c.in-Some.ensures.taken in
    one-within c.args.screen.now c.loop-live.screen (name_of c.args.spot.above) c.args.spot.end _ (w.rest ++ w.placed) k.front (k.back ++ w.placed) c.in-Some.live (taken-list w.rest c.take_last.new.self.rest w.placed c.in-Some.live true k) c.loop-live.invariant.becomes
    c.requires

pub loop-live-preserved : goal.loop-live-preserved
loop-live-preserved c =
    let w = c.loop-live.walk in
    let now = c.take_last.new.self in
    let k = c.in-Some.ensures.taken in
    record {
      becomes =
          one-gone c.args.screen.now c.loop-live.screen (name_of c.args.spot.above) c.args.spot.end _ (w.rest ++ w.placed) k.front (k.back ++ w.placed) c.in-Some.live (taken-list w.rest now.rest w.placed c.in-Some.live true k) c.loop-live.invariant.becomes
          c.put_away.new.screen (now.rest ++ now.placed) (ap (λ z. now.rest ++ z) c.in-Some.ensures.placed ∙ taken-rest w.rest now.rest w.placed c.in-Some.live true k) c.in_ok-put_away.ensures;
      placed = c.in-Some.ensures.placed ∙ c.loop-live.invariant.placed;
    }
