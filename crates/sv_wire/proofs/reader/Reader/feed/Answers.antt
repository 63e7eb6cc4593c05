use Rattle.std.proofs.Common.{ap, sym, ◌∙◌}
use Rattle.sv_wire.specs.Stream.{behind, resumed}
use Rattle.sv_wire.specs.Reader.{standing_of}
use Rattle.sv_wire.proofs.Steps.{if-read, if-wants, told-whole}
use Rattle.sv_wire.proofs.reader.Reader.feed.Goals as goal

pub returns-clause-told : goal.returns-clause-told
returns-clause-told c =
    let held = c.feed.new.held.bytes.items in
    if-read (standing_of c.in_ok-state.state held) c.answer.result _ (c.answer.ensures held)
    (ap (λ z. behind c.args.items.now.items (resumed z c.args.piece.now)) (sym c.self.view_is) ∙ c.in_ok-state.ensures.told)

pub returns-clause-whole : goal.returns-clause-whole
returns-clause-whole c =
    let held = c.feed.new.held.bytes.items in
    if-read (standing_of c.in_ok-state.state held) c.answer.result _ (c.answer.ensures held) (λ bytes was.
    told-whole bytes c.args.piece.now c.args.self.now (standing_of c.in_ok-state.state held) c.args.items.now.items c.feed.new.items.items was
    (ap (λ z. behind c.args.items.now.items (resumed z c.args.piece.now)) (sym c.self.view_is) ∙ c.in_ok-state.ensures.told))

pub returns-clause-answer : goal.returns-clause-answer
returns-clause-answer c =
    let held = c.feed.new.held.bytes.items in
    if-read (standing_of c.in_ok-state.state held) c.answer.result _ (c.answer.ensures held) (c.answer.ensures held)

pub returns-clause-kept : goal.returns-clause-kept
returns-clause-kept c =
    let held = c.feed.new.held.bytes.items in
    if-wants (standing_of c.in_ok-state.state held) c.answer.result _ (c.answer.ensures held)
