use Rattle.sv_flush.specs.Callbacks.{after}
use Rattle.sv_flush.specs.Outcome.{each}
use Rattle.sv_flush.specs.Rounds.{waiting_callbacks}
use Rattle.sv_flush.proofs.Steps.{Left}
use Rattle.sv_flush.proofs.machine.Machine.call_waiting.Given as goal

abbrev pub invariant-loop-at : goal.invariant-loop-at
invariant-loop-at l =
    Left (after l.self.program.now l.inst.number) (each (after l.self.program.now l.inst.number) (waiting_callbacks l.fn.page.rounds l.inst.number) l.fn.page) l.at-items l.at-index l.page
