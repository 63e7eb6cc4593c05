use Rattle.std.proofs.Common.{subst}
use Rattle.std.specs.Prelude.{IfSome, IfNone}
use Rattle.std.proofs.lemmas.Result.{IfOk-weaker}
use Rattle.sv_run.specs.Job.{answer_of}
use Rattle.sv_run.proofs.Deciding.{calls-usage, calls-form, calls-always}
use Rattle.sv_run.proofs.top.decide.Goals as goal
use Rattle.sv_words.specs.Texts.{bytes_of}
use Rattle.sv_words.specs.Words.{IsCommand, IsNoForm, Runs, Checks, Prints, Renders, Gens, Tests}

pub returns-in-Run-clause-answer : goal.returns-in-Run-clause-answer
returns-in-Run-clause-answer g c =
    let words = bytes_of c.args.words.now in
    let some : IsCommand words c.in-Some.command = subst (λ o. IfSome o (IsCommand words)) c.in-Some.is c.in_ok-command.ensures.some in
    IfOk-weaker c.decide_program.result _ _
    (λ job is. calls-form (g.F.Shelf.files c.args.shelf.now) words (Runs c.in-Run.root.now c.in-Run.events.now c.in-Run.flags) (answer_of job) (subst (IsCommand words) c.in-Run.is some) is)
    c.decide_program.ensures.answer

pub returns-in-Check-clause-answer : goal.returns-in-Check-clause-answer
returns-in-Check-clause-answer g c =
    let words = bytes_of c.args.words.now in
    let some : IsCommand words c.in-Some.command = subst (λ o. IfSome o (IsCommand words)) c.in-Some.is c.in_ok-command.ensures.some in
    IfOk-weaker c.decide_program-in-Check.result _ _
    (λ job is. calls-form (g.F.Shelf.files c.args.shelf.now) words (Checks c.in-Check.root.now) (answer_of job) (subst (IsCommand words) c.in-Check.is some) is)
    c.decide_program-in-Check.ensures.answer

pub returns-in-Print-clause-answer : goal.returns-in-Print-clause-answer
returns-in-Print-clause-answer g c =
    let words = bytes_of c.args.words.now in
    let some : IsCommand words c.in-Some.command = subst (λ o. IfSome o (IsCommand words)) c.in-Some.is c.in_ok-command.ensures.some in
    IfOk-weaker c.decide_program-in-Print.result _ _
    (λ job is. calls-form (g.F.Shelf.files c.args.shelf.now) words (Prints c.in-Print.root.now) (answer_of job) (subst (IsCommand words) c.in-Print.is some) is)
    c.decide_program-in-Print.ensures.answer

pub returns-in-Render-clause-answer : goal.returns-in-Render-clause-answer
returns-in-Render-clause-answer g c =
    let words = bytes_of c.args.words.now in
    let some : IsCommand words c.in-Some.command = subst (λ o. IfSome o (IsCommand words)) c.in-Some.is c.in_ok-command.ensures.some in
    IfOk-weaker c.decide_program-in-Render.result _ _
    (λ job is. calls-form (g.F.Shelf.files c.args.shelf.now) words (Renders c.in-Render.root.now) (answer_of job) (subst (IsCommand words) c.in-Render.is some) is)
    c.decide_program-in-Render.ensures.answer

pub returns-in-Test-clause-answer : goal.returns-in-Test-clause-answer
returns-in-Test-clause-answer g c =
    let words = bytes_of c.args.words.now in
    let some : IsCommand words c.in-Some.command = subst (λ o. IfSome o (IsCommand words)) c.in-Some.is c.in_ok-command.ensures.some in
    IfOk-weaker c.decide_program-in-Test.result _ _
    (λ job is. calls-form (g.F.Shelf.files c.args.shelf.now) words (Tests c.in-Test.root.now c.in-Test.events.now) (answer_of job) (subst (IsCommand words) c.in-Test.is some) is)
    c.decide_program-in-Test.ensures.answer

pub returns-in-Gen-clause-answer : goal.returns-in-Gen-clause-answer
returns-in-Gen-clause-answer g c =
    let words = bytes_of c.args.words.now in
    let some : IsCommand words c.in-Some.command = subst (λ o. IfSome o (IsCommand words)) c.in-Some.is c.in_ok-command.ensures.some in
    IfOk-weaker c.decide_gen.result _ _
    (λ job is. calls-always (g.F.Shelf.files c.args.shelf.now) words (Gens c.in-Gen.count) (answer_of job) (subst (IsCommand words) c.in-Gen.is some) (λ files. is))
    c.decide_gen.ensures.answer

pub returns-in_default-clause-answer : goal.returns-in_default-clause-answer
returns-in_default-clause-answer g c =
    let words = bytes_of c.args.words.now in
    calls-usage (g.F.Shelf.files c.args.shelf.now) words (subst (λ o. IfNone o (IsNoForm words)) c.in_default.is c.in_ok-command.ensures.none)
