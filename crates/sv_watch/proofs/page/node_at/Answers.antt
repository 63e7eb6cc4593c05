use Rattle.std.proofs.Common.{rules, ◌≢◌, ◌≤◌, ◌<◌, length}
use Rattle.sv_watch.proofs.Standing.{place-zero, place-some, place-none}
use Rattle.sv_watch.proofs.page.node_at.Goals as goal

pub returns-then-serial-eq0-clause-place : goal.returns-then-serial-eq0-clause-place
returns-then-serial-eq0-clause-place c = place-zero c.args.serial c.args.pieces.now c.if-serial-eq0.true

pub returns-then-at-pieces-clause-place : goal.returns-then-at-pieces-clause-place
returns-then-at-pieces-clause-place c =
    let late : c.args.serial ≢ 0 = search rules in
    let inside : c.starting-at.result < length c.args.pieces.now = search rules in
    place-some c.args.serial c.args.pieces.now c.starting-at.result late c.starting-at.ensures.count inside

pub returns-clause-place : goal.returns-clause-place
returns-clause-place c =
    let late : c.args.serial ≢ 0 = search rules in
    let past : length c.args.pieces.now ≤ c.starting-at.result = search rules in
    place-none c.args.serial c.args.pieces.now c.starting-at.result late c.starting-at.ensures.count past
