use Rattle.std.proofs.Common.{ap, ◌∙◌}
use Rattle.sv_value.specs.View.{view_of}
use Rattle.sv_states.specs.Refusal.{assign_refusal}
use Rattle.sv_states.specs.States.{live, depth_of}
use Rattle.sv_states.proofs.Refusing.{answer_of, refusal_is}
use Rattle.sv_states.proofs.states.States.assign.Goals as goal

pub returns-in-Some-clause-answer : goal.returns-in-Some-clause-answer
returns-in-Some-clause-answer c =
    let s = c.args.self.now in
    let n = c.args.at.inst.number in
    let v = view_of c.args.value in
    answer_of (Unit {0}) c.in-Some.refusal (assign_refusal s n c.args.at.cell v) (c.in-Some.ensures ∙ ap (λ t. assign_refusal t n c.args.at.cell v) c.self.view_is) (refusal_is (depth_of (live s n)) s v n c.args.at.cell)
