use Rattle.std.proofs.lemmas.Result.{IfOk-weaker}
use Rattle.sv_run.specs.Causes.{IsDone}
use Rattle.sv_run.specs.Job.{answer_of}
use Rattle.sv_run.proofs.Deciding.{over-not_loaded, over-mistaken, over-fit}
use Rattle.sv_run.proofs.program.decide_program.Goals as goal

pub returns-in-Err-clause-answer : goal.returns-in-Err-clause-answer
returns-in-Err-clause-answer g c = IfOk-weaker c.not_loaded.result _ _
    (λ job is. over-not_loaded (λ files. IsDone files c.args.task) (g.F.Shelf.files c.args.shelf.now) c.args.root.now (answer_of job) c.in-Err.error is c.in-Err.ensures.loads)
    c.not_loaded.ensures.answer

pub returns-in-Ok-check-clause-answer : goal.returns-in-Ok-check-clause-answer
returns-in-Ok-check-clause-answer g c = IfOk-weaker c.done.result _ _
    (λ job is. over-fit (λ files. IsDone files c.args.task) (g.F.Shelf.files c.args.shelf.now) c.args.root.now (answer_of job) _ c.in-Ok.bundle c.in-Ok-check.checked.bundle.now
    c.in-Ok.ensures.same c.in-Ok-check.ensures.clean c.in-Ok-check.ensures.bundle c.in-Ok.ensures.loads is)
    c.done.ensures.answer

pub returns-clause-answer : goal.returns-clause-answer
returns-clause-answer g c = IfOk-weaker c.unclean.result _ _
    (λ job is. over-mistaken (λ files. IsDone files c.args.task) (g.F.Shelf.files c.args.shelf.now) c.args.root.now (answer_of job) c.in-Ok.bundle is c.in-Ok.ensures.loads)
    c.unclean.ensures.answer
