use Rattle.std.proofs.Common.{subst}
use Rattle.sv_check.specs.Checked.{IsCause}
use Rattle.sv_run.specs.Job.{refusal_of}
use Rattle.sv_run.proofs.Deciding.{mistaken_is, file_within}
use Rattle.sv_run.proofs.refusals.unclean.Goals as goal

pub refused-requires-clause-there : goal.refused-requires-clause-there
refused-requires-clause-there c = file_within c.args.bundle.now c.in-Refused.mistake (subst (IsCause c.args.bundle.now) c.in-Refused.is c.requires.cause)

pub returns-in_ok-refused-in-Refused-clause-answer : goal.returns-in_ok-refused-in-Refused-clause-answer
returns-in_ok-refused-in-Refused-clause-answer c =
    mistaken_is c.args.bundle.now c.in-Refused.mistake (refusal_of c.in_ok-refused-in-Refused.field-0) (subst (IsCause c.args.bundle.now) c.in-Refused.is c.requires.cause)
    c.in_ok-refused-in-Refused.ensures
