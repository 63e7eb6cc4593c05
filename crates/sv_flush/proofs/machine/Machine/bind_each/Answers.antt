use Rattle.std.proofs.Common.{sym}
use Rattle.sv_flush.proofs.Deeds.{each-mapped, deed-exit, deed-next}
use Rattle.sv_flush.proofs.Steps.{at-any}
use Rattle.sv_flush.specs.Flush.{bound}
use Rattle.sv_flush.specs.Waits.{binding_of}
use Rattle.sv_flush.proofs.machine.Machine.bind_each.Goals as goal

pub returns-in_err-bind_one : goal.returns-in_err-bind_one
returns-in_err-bind_one c =
    deed-exit _ _ _ _ _ _ _ _ _ _ c.loop-binding.invariant c.loop-binding-test.true (at-any _ _ _ _ c.loop-binding-test.true) c.in_err-bind_one.was c.bind_one.ensures c.from_residual.ensures.1

pub loop-binding-preserved : goal.loop-binding-preserved
loop-binding-preserved c = deed-next _ _ _ _ _ _ _ _ _ c.loop-binding.invariant c.loop-binding-test.true (at-any _ _ _ _ c.loop-binding-test.true) c.in_ok-bind_one.was c.bind_one.ensures

pub loop-binding-init : goal.loop-binding-init
loop-binding-init c = sym (each-mapped binding_of (bound c.args.self.now.program.now) c.args.bindings.now c.args.world.now)
