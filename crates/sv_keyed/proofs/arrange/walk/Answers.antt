use Rattle.std.proofs.Common.{sym, subst}
use Rattle.sv_keyed.specs.Keys.{IsDistinct}
use Rattle.sv_keyed.proofs.Repeats.{distinct_of}
use Rattle.sv_keyed.proofs.Walking.{placed}
use Rattle.sv_keyed.proofs.arrange.walk.Goals as goal

pub returns-clause-placed : goal.returns-clause-placed
returns-clause-placed c = λ once.
    let h = c.in_ok-place.ensures once in
    let none = placed _ _ _ _ h in
    rw none at h

pub returns-clause-idle : goal.returns-clause-idle
returns-clause-idle c = λ same.
    let once = subst IsDistinct (sym same) (distinct_of c.args.new.now c.requires.once) in
    ((c.in_ok-place.ensures once).idle same).0
