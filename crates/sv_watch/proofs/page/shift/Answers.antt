use Rattle.std.proofs.Common.{◌≡◌, ◌+◌, ◌-◌, ◌≤◌, ◌<◌, length, arith}
use Rattle.sv_watch.proofs.Standing.{shifted-at, shifted-back, shifted-nowhere}
use Rattle.sv_watch.proofs.page.shift.Goals.{then-place-rest, else-place-rest}
use Rattle.sv_watch.proofs.page.shift.Goals as goal

pub returns-in_default-clause-moved : goal.returns-in_default-clause-moved
returns-in_default-clause-moved c = shifted-nowhere c.args.serial c.args.before c.args.pieces.now c.in_default.ensures.place

pub returns-clause-moved : goal.returns-clause-moved
returns-clause-moved c =
    let ts = c.args.pieces.now in
    let turned = c.turn_left.new.pieces in
    let count = c.span_at-count.result in
    let rest = length turned - count in
    let place = c.place_behind-place.result in
    let left : rest + count ≡ length ts = omega (arith, c.turn_left.ensures.len, c.span_at-count.ensures.bound) in
    elim c.if-place-rest.branch [
      | then-place-rest w ↦
          let inside : place < rest = omega (arith, w.if-place-rest.true) in
          shifted-at c.args.serial c.args.before ts turned c.turn_right.new.pieces c.in-Some.at count c.parent-parent.result rest place c.index-pieces-at.result c.in-Some.ensures.place c.span_at-count.ensures.count
          c.turn_left.ensures.turned c.parent-parent.ensures left c.place_behind-place.ensures.count inside (rw w.to-is at c.turn_right.ensures.turned)
      | else-place-rest w ↦
          let past : rest ≤ place = omega (arith, w.if-place-rest.false) in
          shifted-back c.args.serial c.args.before ts turned c.turn_right.new.pieces c.in-Some.at count c.parent-parent.result rest place c.index-pieces-at.result c.in-Some.ensures.place c.span_at-count.ensures.count
          c.turn_left.ensures.turned c.parent-parent.ensures left c.place_behind-place.ensures.count past (rw w.to-is at c.turn_right.ensures.turned)
    ]
