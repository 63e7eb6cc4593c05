use Rattle.std.proofs.Common.{◌≡◌, ◌∙◌, ap, suc, arith, Ok}
use Rattle.sv_flush.proofs.Creating.{created-behind}
use Rattle.sv_flush.proofs.machine.Machine.+create.Goals as goal

pub create-returns : goal.create-returns
create-returns t c =
    let enough : c.args.room ≡ suc c.in-Some.below = grind arith in
    created-behind _ c.in-Some.below _ _ _ _ _ _ _ _ _ _ _ c.make.result c.in-Some-2.inst _ enough c.site_of.ensures (c.in_ok-inst.was ∙ ap Ok c.in-Some-2.is) c.make.ensures c.grow.ensures
