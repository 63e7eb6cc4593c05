use Rattle.sv_tokens.specs.Edit.{without_slot}
use Rattle.sv_tokens.specs.Replay.{with_start}
use Rattle.sv_watch.proofs.Standing.{rewritten-at, rewritten-nowhere}
use Rattle.sv_watch.proofs.page.take_attribute.Goals as goal

pub returns-in-Some : goal.returns-in-Some
returns-in-Some c =
    rewritten-at c.args.serial (with_start (without_slot c.args.slot)) c.args.pieces.now.items c.in-Some.at c.index_mut.result.now c.drop_attribute.new.self (rw c.deref.ensures.value at c.in-Some.ensures.place)
    c.requires c.index_mut.ensures.value c.drop_attribute.ensures

pub returns-in_default : goal.returns-in_default
returns-in_default c = rewritten-nowhere c.args.serial (with_start (without_slot c.args.slot)) c.args.pieces.now.items (rw c.deref.ensures.value at c.in_default.ensures.place)
