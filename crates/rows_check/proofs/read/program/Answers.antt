use Rattle.std.proofs.Common.{◌≡◌, true, ap, subst, sym}
use Rattle.std.proofs.lemmas.List.Elements.{All-push}
use Rattle.sv_lines.specs.Lines.{ascends, LinesAscend}
use Rattle.rows_check.proofs.read.program.Goals as goal

pub loop-file-preserved : goal.loop-file-preserved
loop-file-preserved c =
    subst LinesAscend (sym c.in_ok-push.ensures.ok)
    (All-push (λ file. ascends file.lines ≡ true) c.loop-file.bundle.files c.in_ok-read.read c.loop-file.invariant (ap (λ lines. ascends lines) c.in_ok-read.ensures))
