use Rattle.std.proofs.Common.{rules, ◌≤◌, ◌<◌, length}
use Rattle.sv_tokens.specs.Seen.{ends}
use Rattle.sv_watch.proofs.Standing.{through-at, through-all}
use Rattle.sv_watch.proofs.page.through_end.Goals as goal

pub returns-then-inside-pieces-clause-count : goal.returns-then-inside-pieces-clause-count
returns-then-inside-pieces-clause-count c =
    let inside : c.ending-inside.result < length c.args.pieces.now = search rules in
    through-at (ends c.args.serial) c.args.pieces.now c.ending-inside.result c.ending-inside.ensures.count inside

pub returns-clause-count : goal.returns-clause-count
returns-clause-count c =
    let past : length c.args.pieces.now ≤ c.ending-inside.result = search rules in
    through-all (ends c.args.serial) c.args.pieces.now c.ending-inside.result c.ending-inside.ensures.count past
