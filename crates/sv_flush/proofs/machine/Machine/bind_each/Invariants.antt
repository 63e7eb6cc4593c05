use Rattle.std.proofs.Common.{◌≡◌, drop, map}
use Rattle.sv_flush.specs.Flush.{bound}
use Rattle.sv_flush.specs.Waits.{binding_of}
use Rattle.sv_meaning.specs.Runs.{each_in_turn}
use Rattle.sv_flush.proofs.machine.Machine.bind_each.Given as goal

abbrev pub invariant-loop-binding : goal.invariant-loop-binding
invariant-loop-binding l =
    each_in_turn (bound l.self.program.now) (map binding_of l.bindings) l.fn.world ≡ each_in_turn (λ b. bound l.self.program.now (binding_of b)) (drop l.binding-index l.bindings) l.world
