use Rattle.std.proofs.Common.{sym, subst}
use Rattle.sv_tokens.specs.Counting.{Has}
use Rattle.sv_tokens.specs.Token.{texts}
use Rattle.sv_tokens.proofs.Standing.{texts-Gains, texts-numbered}
use Rattle.rows_values.proofs.prints.paragraph.Goals as goal

pub returns : goal.returns
returns c = subst (λ z. Has (texts c.in_ok-text.text.0) z) (sym c.number.ensures.tokens) (texts-numbered _ _ _ (texts-Gains _ _ _ _ _ _ _ _ c.in_ok-text.ensures))
