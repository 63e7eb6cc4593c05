use Rattle.std.proofs.Common.{ap, sym, ◌∙◌}
use Rattle.sv_white.specs.White.{trim_at}
use Rattle.sv_white.proofs.Trimming.{start_is, end_is}
use Rattle.sv_white.proofs.strip.trim.Goals as goal

pub returns-in-Front : goal.returns-in-Front
returns-in-Front c = start_is c.args.text.now c.trim_ascii_start.result.now c.trim_ascii_start.ensures.value ∙ ap (λ e. trim_at e c.args.text.now) (sym c.in-Front.is)

pub returns-in-Back : goal.returns-in-Back
returns-in-Back c = end_is c.args.text.now c.trim_ascii_end.result.now c.trim_ascii_end.ensures.value ∙ ap (λ e. trim_at e c.args.text.now) (sym c.in-Back.is)
