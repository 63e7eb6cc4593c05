use Rattle.std.proofs.Common.{subst, ap, ◌∙◌}
use Rattle.sv_order.specs.ReactiveOrder.{IsCause}
use Rattle.sv_check.specs.Waiting.{first_place}
use Rattle.sv_check.proofs.Waits.{none_wait, some_wait, some_place}
use Rattle.sv_check.proofs.waiting.run_of.Goals as goal

pub returns-in-Ok-clause-waiting : goal.returns-in-Ok-clause-waiting
returns-in-Ok-clause-waiting c = none_wait c.args.cells.now c.args.stmts.now c.deref.result.now c.new.result (c.deref.ensures.value ∙ c.in_ok-reads.ensures) c.new.ensures c.in-Ok.ensures.acyclic

pub returns-in-Err-Cycle-clause-waiting : goal.returns-in-Err-Cycle-clause-waiting
returns-in-Err-Cycle-clause-waiting c =
    some_wait c.args.cells.now c.args.stmts.now c.deref.result.now c.in-Err-Cycle.cycle.items c.in_ok-place_at-in-Err-Cycle.field-0 (c.deref.ensures.value ∙ c.in_ok-reads.ensures)
    (subst (IsCause c.deref.result.now) c.in-Err-Cycle.field-0-is c.in-Err-Cycle.ensures.cycle)
    (c.in_ok-place_at-in-Err-Cycle.ensures ∙ ap (first_place c.args.stmts.now) c.deref-in-Err-Cycle.ensures.value)

pub returns-in-Err-Cycle-clause-order : goal.returns-in-Err-Cycle-clause-order
returns-in-Err-Cycle-clause-order c = λ h. absurd
    (some_place c.args.cells.now c.args.stmts.now c.deref.result.now c.in-Err-Cycle.cycle.items c.in_ok-place_at-in-Err-Cycle.field-0 (c.deref.ensures.value ∙ c.in_ok-reads.ensures)
    (subst (IsCause c.deref.result.now) c.in-Err-Cycle.field-0-is c.in-Err-Cycle.ensures.cycle)
    (c.in_ok-place_at-in-Err-Cycle.ensures ∙ ap (first_place c.args.stmts.now) c.deref-in-Err-Cycle.ensures.value) h)

pub returns-in-Err-Cycle-clause-once : goal.returns-in-Err-Cycle-clause-once
returns-in-Err-Cycle-clause-once c = λ h. absurd
    (some_place c.args.cells.now c.args.stmts.now c.deref.result.now c.in-Err-Cycle.cycle.items c.in_ok-place_at-in-Err-Cycle.field-0 (c.deref.ensures.value ∙ c.in_ok-reads.ensures)
    (subst (IsCause c.deref.result.now) c.in-Err-Cycle.field-0-is c.in-Err-Cycle.ensures.cycle)
    (c.in_ok-place_at-in-Err-Cycle.ensures ∙ ap (first_place c.args.stmts.now) c.deref-in-Err-Cycle.ensures.value) h)
