use Rattle.sv_flush.proofs.Derived.{flushed_computed}
use Rattle.sv_flush.proofs.Presenting.{flushed_settled, flushed_records, flushed_present, flushed_past}
use Rattle.sv_flush.proofs.machine.Machine.flush.Goals as goal

pub returns : goal.returns
returns c = record {
  run = c.run_rounds.ensures;
  settled = flushed_settled _ _ _ _ c.run_rounds.ensures;
  records = flushed_records _ _ _ _ c.facts.ensures.sound c.run_rounds.ensures;
  present = flushed_present _ _ _ _ c.facts.ensures.sound c.run_rounds.ensures;
  past = flushed_past _ _ _ _ c.facts.ensures.sound c.run_rounds.ensures;
  computed = flushed_computed _ _ _ _ c.run_rounds.ensures;
}
