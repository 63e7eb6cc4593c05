use Rattle.std.proofs.Common.{◌∙◌, sym, ap, Some}
use Rattle.std.specs.Prelude.{option_map, option_copied}
use Rattle.sv_value.specs.View.{view_of}
use Rattle.sv_states.specs.Moving.{goal_of, stores_after}
use Rattle.sv_states.proofs.Naming.{goal-none, goal-held, goal-set}
use Rattle.sv_states.proofs.board.Board.goal.Goals as goal
use Rattle.sv_states.proofs.board.Board.goal.Goals.{then-is_to, else-is_to}

pub returns-in_default-value : goal.returns-in_default-value
returns-in_default-value c =
    let stores = c.args.self.now.stores in
    let none = sym c.value.ensures ∙ ap (λ o. option_map view_of (option_copied o)) c.in_default-value.is in
    sym (ap (λ v. goal_of (stores_after c.args.set v stores) v) (ap view_of c.in-Store.is) ∙ goal-none c.args.set stores c.in-Store.id none)

pub returns : goal.returns
returns c =
    let stores = c.args.self.now.stores in
    let id = c.in-Store.id in
    let u = view_of c.in-Some.held.now in
    let held = sym c.value.ensures ∙ ap (λ o. option_map view_of (option_copied o)) c.in-Some.is in
    let here = ap (λ v. goal_of (stores_after c.args.set v stores) v) (ap view_of c.in-Store.is) in
    elim c.if-is_to.branch [
      | then-is_to w ↦
          (λ k. record { store = Some id; value = (ap view_of c.in_ok-share.ensures ∙ ap (λ b. view_of b.now) w.shown-is ∙ ap view_of c.in-Store.is) k })
          ∙ sym (here ∙ goal-set c.args.set stores id u (sym c.is_to.ensures ∙ w.if-is_to.true) held)
      | else-is_to w ↦
          (λ k. record { store = Some id; value = (ap view_of c.in_ok-share.ensures ∙ ap (λ b. view_of b.now) w.shown-is) k }) ∙ sym (here ∙ goal-held c.args.set stores id u (sym c.is_to.ensures ∙ w.if-is_to.false) held)
    ]
