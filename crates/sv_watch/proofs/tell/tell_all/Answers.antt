use Rattle.std.proofs.Common.{rules, ◌∙◌, Err, OnOk, ap, arith}
use Rattle.std.proofs.lemmas.Grind.{common_steps}
use Rattle.sv_watch.proofs.Telling.{begun-none, begun-heard, begun-refused, wants-room}
use Rattle.sv_watch.proofs.tell.tell_all.Goals as goal

pub returns-in_err-reserve : goal.returns-in_err-reserve
returns-in_err-reserve g c =
    let never : OnOk c.from_residual.result ⊥ = search rules in
    wants-room _ c.args.change.now c.args.list.now.items c.args.gone.now.items c.reserve.new.self.items c.from_residual.result never c.in_err-reserve.ensures.items

pub loop-at-init : goal.loop-at-init
loop-at-init g c = record {
  begun = begun-none _ c.args.change.now c.args.list.now.items c.args.gone.now.items c.reserve.new.self.items c.in_ok-reserve.ensures.items;
  within = omega arith;
  room = grind (arith, common_steps);
}

pub loop-at-preserved-in-Ok : goal.loop-at-preserved-in-Ok
loop-at-preserved-in-Ok g c = record {
  begun = begun-heard c.args.change.now _ _ _ _ _ c.loop-at.at c.tell_at.result c.in-Ok.field-0 c.in-Ok.is c.loop-at.invariant.begun c.tell_at.ensures.told;
  within = grind (arith, common_steps);
  room = grind (arith, common_steps);
}

pub loop-at-preserved : goal.loop-at-preserved
loop-at-preserved g c = record {
  begun = begun-refused c.args.change.now _ _ _ _ _ _ _ c.loop-at.at c.tell_at.result (c.in-Err-Refused.is ∙ ap Err c.in-Err-Refused.field-0-is) c.loop-at.invariant.begun c.tell_at.ensures.told c.let_go.ensures.leaves;
  within = grind (arith, common_steps);
  room = grind (arith, common_steps);
}
