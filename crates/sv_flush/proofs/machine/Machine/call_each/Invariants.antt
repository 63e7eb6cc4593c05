use Rattle.std.proofs.Common.{◌≡◌, drop}
use Rattle.sv_value.specs.View.{view_of}
use Rattle.sv_meaning.specs.Runs.{each_in_turn}
use Rattle.sv_flush.specs.Callbacks.{called_back}
use Rattle.sv_flush.proofs.machine.Machine.call_each.Given as goal

abbrev pub invariant-loop-callback : goal.invariant-loop-callback
invariant-loop-callback l =
    each_in_turn (λ v. called_back l.self.program.now (view_of v)) l.callbacks l.fn.world ≡ each_in_turn (λ v. called_back l.self.program.now (view_of v)) (drop l.callback-index l.callbacks) l.world
