use Rattle.sv_document.proofs.Laid.{value_laid, check_laid}
use Rattle.sv_document.proofs.laws.shown_as_printed.Goals as goal

pub returns-clause-value : goal.returns-clause-value
returns-clause-value c = λ e. value_laid e.typed e.attributes

pub returns-clause-check : goal.returns-clause-check
returns-clause-check c = λ e once. check_laid e.typed e.attributes once
