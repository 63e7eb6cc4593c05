use Rattle.std.proofs.Common.{ap, sym, ◌∙◌, Ok}
use Rattle.sv_wire.proofs.Items.{rest-is}
use Rattle.sv_wire.proofs.forms.item_of.Goals as goal

pub overflow_sub-result : goal.overflow_sub-result
overflow_sub-result c = (rest-is c.args.bytes.now (c.in_ok-item.item, c.in_ok-item.rest.now) c.in_ok-item.ensures).0

pub returns-clause-item : goal.returns-clause-item
returns-clause-item c =
    c.in_ok-item.ensures ∙ ap (λ z. Ok (c.in_ok-item.item, z)) (sym (rest-is c.args.bytes.now (c.in_ok-item.item, c.in_ok-item.rest.now) c.in_ok-item.ensures).1)
