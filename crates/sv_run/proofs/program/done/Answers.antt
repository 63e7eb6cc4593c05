use Rattle.std.proofs.Common.{refl}
use Rattle.std.proofs.lemmas.Result.{IfOk-weaker}
use Rattle.sv_run.specs.Job.{answer_of}
use Rattle.sv_run.proofs.Deciding.{done-told, done-always}
use Rattle.sv_run.proofs.program.done.Goals as goal

pub returns-in-Accept-clause-answer : goal.returns-in-Accept-clause-answer
returns-in-Accept-clause-answer g c = done-always (g.F.Shelf.files c.args.shelf.now) c.args.task _ c.args.checked.now.bundle.now _ c.in-Accept.is (λ files. refl)

pub returns-in_ok-listed-in-List-clause-answer : goal.returns-in_ok-listed-in-List-clause-answer
returns-in_ok-listed-in-List-clause-answer g c = done-always (g.F.Shelf.files c.args.shelf.now) c.args.task _ c.args.checked.now.bundle.now _ c.in-List.is (λ files. c.in_ok-listed-in-List.ensures.answer)

pub returns-in_ok-rendered-in-Render-clause-answer : goal.returns-in_ok-rendered-in-Render-clause-answer
returns-in_ok-rendered-in-Render-clause-answer g c =
    done-always (g.F.Shelf.files c.args.shelf.now) c.args.task _ c.args.checked.now.bundle.now _ c.in-Render.is (λ files. c.in_ok-rendered-in-Render.ensures.answer)

pub returns-in-Play-clause-answer : goal.returns-in-Play-clause-answer
returns-in-Play-clause-answer g c = IfOk-weaker c.under_events.result _ _
    (λ job is. done-told (g.F.Shelf.files c.args.shelf.now) c.args.task _ c.args.checked.now.bundle.now (answer_of job) c.in-Play.is is)
    c.under_events.ensures.answer

pub returns-in-Test-clause-answer : goal.returns-in-Test-clause-answer
returns-in-Test-clause-answer g c = IfOk-weaker c.under_steps.result _ _
    (λ job is. done-told (g.F.Shelf.files c.args.shelf.now) c.args.task _ c.args.checked.now.bundle.now (answer_of job) c.in-Test.is is)
    c.under_steps.ensures.answer

pub returns-in_ok-summed-in-Sum-clause-answer : goal.returns-in_ok-summed-in-Sum-clause-answer
returns-in_ok-summed-in-Sum-clause-answer g c = done-always (g.F.Shelf.files c.args.shelf.now) c.args.task _ c.args.checked.now.bundle.now _ c.in-Sum.is (λ files. c.in_ok-summed-in-Sum.ensures.answer)
