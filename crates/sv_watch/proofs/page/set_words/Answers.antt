use Rattle.std.proofs.Common.{◌∙◌, ap}
use Rattle.sv_tokens.specs.Replay.{with_words}
use Rattle.sv_watch.proofs.Standing.{rewritten-at, rewritten-nowhere}
use Rattle.sv_watch.proofs.page.set_words.Goals as goal

pub returns-in-Some-clause-ok : goal.returns-in-Some-clause-ok
returns-in-Some-clause-ok c =
    rewritten-at c.args.serial (with_words c.args.text.now) c.args.pieces.now.items c.in-Some.at c.index_mut.result.now c.set_words.new.self (rw c.deref.ensures.value at c.in-Some.ensures.place) c.requires
    c.index_mut.ensures.value (c.set_words.ensures ∙ ap (λ z. with_words z c.index_mut.result.now) c.in_ok-words.ensures)

pub returns-in-None-clause-ok : goal.returns-in-None-clause-ok
returns-in-None-clause-ok c = rewritten-nowhere c.args.serial (with_words c.args.text.now) c.args.pieces.now.items (rw c.deref.ensures.value at c.in-None.ensures.place)
