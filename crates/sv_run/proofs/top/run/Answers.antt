use Rattle.std.proofs.Common.{inr, sym, ◌∙◌}
use Rattle.std.proofs.lemmas.Option.{IfSome_then}
use Rattle.sv_run.specs.Job.{answer_of}
use Rattle.sv_run.proofs.Running.{no_read_fault, no_write_fault, run-answered, run-given, run-broken}
use Rattle.sv_run.proofs.top.run.Goals as goal
use Rattle.sv_words.specs.Texts.{bytes_of}

pub returns-in-Ok-answer-clause-answers : goal.returns-in-Ok-answer-clause-answers
returns-in-Ok-answer-clause-answers g c = IfSome_then (g.F.Shelf.files c.args.shelf.now) c.in-Ok.ensures.answer
    (λ files is. run-answered (bytes_of c.args.words.now) files _ _ _ (answer_of c.in-Ok.job) is c.in-Ok-answer.ensures.status c.in-Ok-answer.ensures.all)

pub returns-in-Ok-answer-clause-completes : goal.returns-in-Ok-answer-clause-completes
returns-in-Ok-answer-clause-completes g c = IfSome_then (g.F.Shelf.files c.args.shelf.now) c.in-Ok.ensures.answer
    (λ files is shelf sink. run-given c.one_answer.ensures (bytes_of c.args.words.now) files _ _ _ (answer_of c.in-Ok.job) is c.in-Ok-answer.ensures.status c.in-Ok-answer.ensures.all)

pub returns-in-Ok-answer-clause-read_fault : goal.returns-in-Ok-answer-clause-read_fault
returns-in-Ok-answer-clause-read_fault g c = λ is. absurd (no_read_fault (answer_of c.in-Ok.job) (sym c.in-Ok-answer.ensures.status ∙ is))

pub returns-in-Ok-answer-clause-read_nothing : goal.returns-in-Ok-answer-clause-read_nothing
returns-in-Ok-answer-clause-read_nothing g c = λ is. absurd (no_read_fault (answer_of c.in-Ok.job) (sym c.in-Ok-answer.ensures.status ∙ is))

pub returns-in-Ok-answer-clause-write_fault : goal.returns-in-Ok-answer-clause-write_fault
returns-in-Ok-answer-clause-write_fault g c = λ is. absurd (no_write_fault (answer_of c.in-Ok.job) (sym c.in-Ok-answer.ensures.status ∙ is))

pub returns-in-Err-Failed-answer-clause-answers : goal.returns-in-Err-Failed-answer-clause-answers
returns-in-Err-Failed-answer-clause-answers g c = IfSome_then (g.F.Shelf.files c.args.shelf.now) c.in-Ok.ensures.answer
    (λ files is. run-broken (bytes_of c.args.words.now) files _ _ (answer_of c.in-Ok.job) is c.in-Err-Failed-answer.ensures.front)

pub returns-clause-answers : goal.returns-clause-answers
returns-clause-answers g c = IfSome_then (g.F.Shelf.files c.args.shelf.now) c.in-Ok.ensures.answer
    (λ files is. inr (run-broken (bytes_of c.args.words.now) files _ _ (answer_of c.in-Ok.job) is c.in-Err-NoMemory-answer.ensures.front))
