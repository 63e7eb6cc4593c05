use Rattle.sv_family.proofs.Standing.{stands_in, children_stand}
use Rattle.sv_family.proofs.laws.each_instance_stands_once.Goals as goal
use Rattle.sv_family.specs.Kin.{kins}

pub returns : goal.returns
returns c = record {
  stands = λ p m n q h parent. stands_in p (kins m.world.states) m.showing m.counters.next h.0 n q parent;
  once = λ p m a b n h here there. h.0.children.once a b n here there;
  filled = λ p m q x h is. children_stand p (kins m.world.states) m.showing h.2 q x is;
}
