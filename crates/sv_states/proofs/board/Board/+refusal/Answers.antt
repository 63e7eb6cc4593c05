use Rattle.std.proofs.Common.{◌<◌, ◌∙◌, sym, arith, None}
use Rattle.sv_value.specs.View.{view_of}
use Rattle.sv_store.specs.Kept.{subscriber_of}
use Rattle.sv_states.specs.Board.{seen_as}
use Rattle.sv_states.proofs.Going.{none_of}
use Rattle.sv_states.proofs.Refusing.{refused-here, refused-above}
use Rattle.sv_states.proofs.board.Board.+refusal.Goals as goal
use Rattle.sv_states.proofs.board.Board.+refusal.Goals.{in-Some-above+else-is_some, in_default-above}

pub returns : goal.returns
returns t c =
    let s = seen_as c.args.self.now in
    let v = view_of c.args.value.now in
    let pos : 0 < c.args.room = omega arith in
    let none = sym c.find.ensures ∙ c.in_default.is in
    elim c.match-above.branch [
      | in-Some-above+else-is_some w ↦
          c.held_refusal.ensures
          ∙ sym (refused-above c.args.room s v c.args.at.inst.number c.args.at.cell c.in_ok-instance.instance.now pos (sym c.in_ok-instance.ensures) none (sym c.if-not-changes.ensures) (subscriber_of w.in-Some-above.variable) None (sym w.in-Some-above.ensures)
          (sym w.refusal-further.ensures ∙ none_of w.refusal-further.result (sym w.if-is_some.ensures)))
      | in_default-above w ↦
          c.held_refusal.ensures
          ∙ sym (refused-here c.args.room s v c.args.at.inst.number c.args.at.cell c.in_ok-instance.instance.now pos (sym c.in_ok-instance.ensures) none (sym c.if-not-changes.ensures) (sym w.in_default-above.ensures))
    ]
