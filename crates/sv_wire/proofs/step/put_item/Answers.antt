use Rattle.std.proofs.Common.{◌+◌, ap, sym, ◌∙◌}
use Rattle.sv_wire.specs.Stream.{after_end}
use Rattle.sv_wire.proofs.Steps.{read-one, read-last, rest-whole}
use Rattle.sv_wire.proofs.step.put_item.Goals as goal

pub returns-then-last-clause-steps : goal.returns-then-last-clause-steps
returns-then-last-clause-steps c =
    read-last c.args.at c.args.count c.args.bytes.now c.args.item c.ending.result c.args.items.now.items c.push.new.self.items c.requires.read c.requires.bound
    (sym c.is_end-last.ensures ∙ c.if-last.true) c.in_ok-push.ensures.items
    (λ held. ap (after_end (c.args.at + c.args.count)) (sym (rest-whole c.args.count c.args.bytes.now)) ∙ c.ending.ensures.ending held) c.ending.ensures.settled

pub returns-clause-steps : goal.returns-clause-steps
returns-clause-steps c =
    read-one c.args.at c.args.count c.args.bytes.now c.args.item c.args.items.now.items c.push.new.self.items c.requires.read c.requires.bound (sym c.is_end-last.ensures ∙ c.if-last.false) c.in_ok-push.ensures.items
