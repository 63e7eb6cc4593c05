use Rattle.std.proofs.Common.{◌≡◌, ap, sym, subst, ◌∙◌}
use Rattle.std.specs.Prelude.{IfOk}
use Rattle.sv_wire.specs.declared.state.State.{State}
use Rattle.sv_wire.specs.Stream.{Told, behind, stands, resumed}
use Rattle.sv_wire.specs.Reader.{standing_of, IsSettled}
use Rattle.sv_wire.proofs.Steps.{state-resumed}
use Rattle.sv_wire.proofs.reader.feed.Goals as goal

pub feed_part-requires : goal.feed_part-requires
feed_part-requires c = subst (λ (z : State). IsSettled z c.args.held.now.bytes.items) c.in-Unfinished.is c.requires

pub returns-in-Unfinished-clause-told : goal.returns-in-Unfinished-clause-told
returns-in-Unfinished-clause-told c =
    let was = c.args.items.now.items in
    subst (λ (t : Told). IfOk c.feed_part.result (λ now. behind was t ≡ behind c.feed_part.new.items.items (stands (standing_of now c.feed_part.new.held.bytes.items))))
    (sym (state-resumed c.args.state c.in-Unfinished.part c.in-Unfinished.needs c.args.held.now.bytes.items c.args.piece.now c.in-Unfinished.is)) c.feed_part.ensures.told

pub returns-in-Ended-clause-told : goal.returns-in-Ended-clause-told
returns-in-Ended-clause-told c =
    let held = c.args.held.now.bytes.items in
    ap (behind c.args.items.now.items) (ap (λ z. resumed (standing_of z held) c.args.piece.now) c.in-Ended.is ∙ c.ending.ensures.ending held)

pub returns-in-Ended-clause-settled : goal.returns-in-Ended-clause-settled
returns-in-Ended-clause-settled c = c.ending.ensures.settled c.args.held.now.bytes.items

pub returns-in-Bad-clause-told : goal.returns-in-Bad-clause-told
returns-in-Bad-clause-told c = ap (behind c.args.items.now.items) (ap (λ z. resumed (standing_of z c.args.held.now.bytes.items) c.args.piece.now) c.in-Bad.is)
