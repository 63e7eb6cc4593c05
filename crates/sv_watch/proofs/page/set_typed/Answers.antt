use Rattle.std.proofs.Common.{◌∙◌, ap}
use Rattle.sv_tokens.specs.Edit.{with_typed}
use Rattle.sv_tokens.specs.Replay.{with_start}
use Rattle.sv_watch.proofs.Standing.{rewritten-at, rewritten-nowhere}
use Rattle.sv_watch.proofs.page.set_typed.Goals as goal

pub returns-in-Some-clause-ok : goal.returns-in-Some-clause-ok
returns-in-Some-clause-ok c =
    rewritten-at c.args.serial (with_start (with_typed c.args.typed.now)) c.args.pieces.now.items c.in-Some.at c.index_mut.result.now c.set_typed.new.self (rw c.deref.ensures.value at c.in-Some.ensures.place)
    c.requires c.index_mut.ensures.value (c.set_typed.ensures ∙ ap (λ z. with_start (with_typed z) c.index_mut.result.now) c.in_ok-typed.ensures)

pub returns-in-None-clause-ok : goal.returns-in-None-clause-ok
returns-in-None-clause-ok c = rewritten-nowhere c.args.serial (with_start (with_typed c.args.typed.now)) c.args.pieces.now.items (rw c.deref.ensures.value at c.in-None.ensures.place)
