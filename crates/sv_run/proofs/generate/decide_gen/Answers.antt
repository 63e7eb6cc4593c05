use Rattle.std.proofs.Common.{subst, [], ◌∷◌}
use Rattle.std.specs.Prelude.{IfOk}
use Rattle.sv_run.specs.Causes.{IsOver, IsSummed}
use Rattle.sv_run.specs.Generated.{root_name}
use Rattle.sv_run.specs.Job.{answer_of}
use Rattle.sv_run.proofs.generate.decide_gen.Goals as goal

pub returns-clause-answer : goal.returns-clause-answer
returns-clause-answer c =
    subst (λ text. IfOk c.decide_program.result (λ job. IsOver ((root_name, text) ∷ []) root_name (IsSummed c.args.count) (answer_of job))) c.in_ok-component_text.ensures c.decide_program.ensures.answer
