use Rattle.sv_flush.proofs.Derived.{mounted_computed}
use Rattle.sv_flush.proofs.Presenting.{mounted_records, mounted_past}
use Rattle.sv_flush.proofs.machine.Machine.mount.Goals as goal

pub returns : goal.returns
returns c = record {
  run = c.make_root.ensures;
  records = mounted_records _ _ _ _ c.facts.ensures.sound c.make_root.ensures;
  past = mounted_past _ _ _ _ c.facts.ensures.sound c.make_root.ensures;
  computed = mounted_computed _ _ _ _ c.make_root.ensures;
}
