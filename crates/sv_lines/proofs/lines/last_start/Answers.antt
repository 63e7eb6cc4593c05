use Rattle.std.proofs.Common.{ap, sym, ◌∙◌, arith, unwrap_or}
use Rattle.sv_lines.proofs.Places.{last_start-last}
use Rattle.sv_lines.proofs.lines.last_start.Goals as goal

pub returns : goal.returns
returns c =
    c.unwrap_or.ensures ∙ ap (λ o. unwrap_or o 0) c.copied.ensures ∙ c.last.ensures.item.4 (omega arith) 0 ∙ sym (last_start-last c.args.starts.now)
