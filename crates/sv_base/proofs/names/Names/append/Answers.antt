use Rattle.std.proofs.Common.{◌≤◌, length, refl, ◌∙◌, arith}
use Rattle.sv_base.proofs.Tables.{join-step}
use Rattle.sv_base.proofs.names.Names.append.Goals as goal
use Rattle.sv_base.proofs.names.Names.append.Goals.{in-Some+in_ok-intern, in_default}

pub loop-number-preserved : goal.loop-number-preserved
loop-number-preserved c =
    elim c.match-text.branch [
      | in-Some+in_ok-intern w ↦ w.self-is ∙ w.in_ok-intern.ensures.table
          ∙ join-step c.args.self.now c.args.more.now c.loop-number.self c.loop-number.number w.in-Some.text.now c.requires w.in-Some.ensures.text c.loop-number.invariant
      | in_default w ↦ (let past : length c.args.more.now ≤ c.loop-number.number = w.in_default.ensures.none.0 refl in absurd (omega arith))
    ]
