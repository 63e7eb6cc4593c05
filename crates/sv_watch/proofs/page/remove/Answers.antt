use Rattle.std.proofs.Common.{rules, ◌≡◌, ◌∙◌, ◌+◌, ◌-◌, ap, take, length}
use Rattle.std.proofs.lemmas.List.{take_at}
use Rattle.sv_watch.proofs.Standing.{removed-at, removed-nowhere}
use Rattle.sv_watch.proofs.page.remove.Goals as goal

pub returns-in_default : goal.returns-in_default
returns-in_default c = removed-nowhere c.args.serial c.args.pieces.now.items (rw c.deref.ensures.value at c.in_default.ensures.place)

pub returns : goal.returns
returns c =
    let ts = c.args.pieces.now.items in
    let turned = c.turn_left.new.pieces in
    let count = c.span_at-count.result in
    let rest = c.len.result - count in
    let size : length turned ≡ c.args.pieces.now.len = search rules in
    let left : rest + count ≡ length ts = search rules in
    c.truncate.ensures.items
    ∙ (ap (take rest) (take_at turned _ c.args.pieces.now.len size)
    ∙ removed-at c.args.serial ts turned c.in-Some.at count rest (rw c.deref.ensures.value at c.in-Some.ensures.place) (rw c.deref-2.ensures.value at c.span_at-count.ensures.count)
    (rw c.deref_mut.ensures.value at c.turn_left.ensures.turned) left)
