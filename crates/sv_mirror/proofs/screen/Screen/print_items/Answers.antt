use Rattle.std.proofs.Common.{arith}
use Rattle.sv_io.proofs.Written.{on_err}
use Rattle.sv_mirror.proofs.Showing.{shown-front, shown-last, shown-more}
use Rattle.sv_mirror.proofs.screen.Screen.print_items.Goals as goal

pub returns-in_err-fault-clause-front : goal.returns-in_err-fault-clause-front
returns-in_err-fault-clause-front g c =
    on_err _
    (shown-front c.args.items.now c.loop-placed.placed-index (g.K.Sink.written c.args.out.now) (g.K.Sink.written c.loop-placed.out) (g.K.Sink.written c.print_item.new.out) c.args.self.now c.loop-placed.self c.placed-item.result
    c.loop-placed.invariant.shown c.loop-placed-test.true c.placed-item.is c.in_err-fault.ensures.front)

pub returns-in-Some-clause-shown : goal.returns-in-Some-clause-shown
returns-in-Some-clause-shown g c =
    shown-last c.args.items.now c.loop-placed.placed-index (g.K.Sink.written c.args.out.now) (g.K.Sink.written c.loop-placed.out) (g.K.Sink.written c.print_item.new.out) c.args.self.now c.loop-placed.self c.placed-item.result
    c.loop-placed.invariant.shown c.loop-placed-test.true c.placed-item.is c.print_item.new.self c.in_ok-fault.field-0 c.in_ok-fault.ensures.shown c.in-Some.fault c.in-Some.is

pub loop-placed-preserved : goal.loop-placed-preserved
loop-placed-preserved g c = record {
  shown = shown-more c.args.items.now c.loop-placed.placed-index (g.K.Sink.written c.args.out.now) (g.K.Sink.written c.loop-placed.out) (g.K.Sink.written c.print_item.new.out) c.args.self.now c.loop-placed.self c.placed-item.result
      c.loop-placed.invariant.shown c.loop-placed-test.true c.placed-item.is c.print_item.new.self c.in_ok-fault.field-0 c.in_ok-fault.ensures.shown c.in_default.is c.in_ok-fault.ensures.few;
  faults = omega (arith, c.loop-placed.invariant.faults, c.print_item.ensures.later);
}
