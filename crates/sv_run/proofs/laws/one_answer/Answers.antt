use Rattle.sv_run.proofs.OneAnswer.{IsAnswer-unique}
use Rattle.sv_run.proofs.laws.one_answer.Goals as goal

pub returns : goal.returns
returns c = IsAnswer-unique (record { outcomes = c.one_outcome.ensures; mistakes = c.one_mistake.ensures; cleans = c.mistake_or_clean.ensures; programs = c.one_program.ensures; orders = c.one_order.ensures; forms = c.one_form.ensures })
