use Rattle.sv_wire.proofs.Steps.{answer-unfinished, answer-ended, answer-bad}
use Rattle.sv_wire.proofs.reader.answer.Goals as goal

pub returns-in-Unfinished : goal.returns-in-Unfinished
returns-in-Unfinished c = λ held. answer-unfinished c.args.state _ _ held c.in-Unfinished.is

pub returns-in-Ended : goal.returns-in-Ended
returns-in-Ended c = λ held. answer-ended c.args.state _ held c.in-Ended.is

pub returns-in-Bad : goal.returns-in-Bad
returns-in-Bad c = λ held. answer-bad c.args.state c.in-Bad.at held c.in-Bad.is
