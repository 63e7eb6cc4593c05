use Rattle.std.proofs.Common.{sym, ap, subst, take, ◌+◌}
use Rattle.sv_order.proofs.Setting.{IsNoting, noting-none, noting-unknown, noting-written}
use Rattle.sv_order.proofs.links.note_setter.Goals as goal
use Rattle.sv_order.proofs.links.note_setter.Goals.{in-Some+in_ok-note_last, in_default}

pub loop-name-init : goal.loop-name-init
loop-name-init c = noting-none c.args.names.now.keys c.args.setters.now.items c.args.statement c.requires.size c.requires.earlier

pub loop-name-preserved : goal.loop-name-preserved
loop-name-preserved c = elim c.match-number_of.branch [
  | in-Some+in_ok-note_last w ↦ noting-written c.args.names.now.keys c.args.setters.now.items c.loop-name.setters.items c.match-number_of.setters.items c.args.sets.now c.args.statement c.loop-name.name-index w.in-Some.at _
      w.index_mut.result.now w.note_last.new.list c.loop-name-test.true w.in-Some.ensures c.loop-name.invariant w.index_mut.ensures.value w.in_ok-note_last.ensures (ap (λ z. z.items) w.setters-is)
  | in_default w ↦ subst (IsNoting c.args.names.now.keys c.args.setters.now.items (take (c.loop-name.name-index + 1) c.args.sets.now) c.args.statement) (ap (λ z. z.items) (sym w.setters-is)) (noting-unknown c.args.names.now.keys c.args.setters.now.items c.loop-name.setters.items c.args.sets.now c.args.statement c.loop-name.name-index _ c.loop-name-test.true (sym w.in_default.ensures) c.loop-name.invariant)
]
