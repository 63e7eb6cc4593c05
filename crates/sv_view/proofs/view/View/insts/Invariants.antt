use Rattle.std.proofs.Common.{◌≡◌, ◌∷◌, map, take}
use Rattle.sv_view.specs.View.{inst_number}
use Rattle.sv_view.proofs.view.View.insts.Given as goal

abbrev pub invariant-loop-level : goal.invariant-loop-level
invariant-loop-level l = map inst_number l.all.items ≡ l.self.own.inst ∷ map (λ x. x.inst) (take l.level-index l.level-items)
