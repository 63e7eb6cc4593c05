use Rattle.std.proofs.Common.{◌∙◌, ap}
use Rattle.sv_tokens.specs.Edit.{with_attribute}
use Rattle.sv_tokens.specs.Replay.{with_start}
use Rattle.sv_watch.proofs.Standing.{rewritten-at, rewritten-nowhere, on_ok}
use Rattle.sv_watch.proofs.page.set_attribute.Goals as goal

pub returns-in_default-clause-ok : goal.returns-in_default-clause-ok
returns-in_default-clause-ok c = rewritten-nowhere c.args.serial _ c.args.pieces.now.items (rw c.deref.ensures.value at c.in_default.ensures.place)

pub returns-clause-ok : goal.returns-clause-ok
returns-clause-ok c =
    let f = with_start (with_attribute (record { slot = c.args.slot; name = c.args.name.now; value = c.args.value.now })) in
    on_ok c.set_attribute.result c.set_attribute.ensures.ok (λ set.
    rewritten-at c.args.serial f c.args.pieces.now.items c.in-Some.at c.index_mut.result.now c.set_attribute.new.self (rw c.deref.ensures.value at c.in-Some.ensures.place)
    c.requires c.index_mut.ensures.value (set ∙ ap (λ z. with_start (with_attribute z) c.index_mut.result.now) c.in_ok-attribute.ensures))
