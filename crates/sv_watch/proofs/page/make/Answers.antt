use Rattle.std.proofs.Common.{rules, ◌≤◌, ◌<◌, length}
use Rattle.sv_watch.proofs.Standing.{made-nowhere, made-there}
use Rattle.sv_watch.proofs.page.make.Goals as goal

pub returns-then-at-len-clause-ok : goal.returns-then-at-len-clause-ok
returns-then-at-len-clause-ok c =
    let ts = c.args.page.now.pieces.items in
    let past : length ts ≤ c.place_behind-at.result = search rules in
    made-nowhere ts c.args.page.now.last c.args.serial c.args.parent c.args.before c.place_behind-at.result c.args.what.now (rw c.deref.ensures.value at c.place_behind-at.ensures.count) past

pub returns-clause-ok : goal.returns-clause-ok
returns-clause-ok c =
    let ts = c.args.page.now.pieces.items in
    let late : c.args.page.now.last < c.args.serial = search rules in
    let inside : c.place_behind-at.result < length ts = search rules in
    made-there ts c.insert.new.pieces.items c.args.page.now.last c.args.serial c.args.parent c.args.before c.place_behind-at.result c.args.what.now late
    (rw c.deref.ensures.value at c.place_behind-at.ensures.count) inside c.in_ok-insert.ensures.ok
