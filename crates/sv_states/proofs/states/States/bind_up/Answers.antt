use Rattle.std.proofs.Common.{ap, ◌∙◌}
use Rattle.sv_instance.specs.Binds.{bound_of}
use Rattle.sv_states.specs.Refusal.{bind_refusal}
use Rattle.sv_states.specs.States.{live, value_in}
use Rattle.sv_states.proofs.Refusing.{answer_of, sent_is}
use Rattle.sv_states.proofs.states.States.bind_up.Goals as goal

pub returns-in-Some-clause-answer : goal.returns-in-Some-clause-answer
returns-in-Some-clause-answer c =
    let s = c.args.self.now in
    let n = c.args.inst.number in
    let b = bound_of c.args.bound in
    answer_of (Unit {0}) c.in-Some.refusal (bind_refusal s n b) (c.in-Some.ensures ∙ ap (λ t. bind_refusal t n b) c.self.view_is) (sent_is (value_in (live s n) b.cell) s b.owner b.target)
