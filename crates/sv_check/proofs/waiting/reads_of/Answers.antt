use Rattle.std.proofs.Common.{◌≡◌, ap, subst, ◌∙◌}
use Rattle.std.specs.Prelude.{IfOk}
use Rattle.sv_names.specs.Distinct.{with_names}
use Rattle.sv_check.proofs.Beside.{reads_known}
use Rattle.sv_check.proofs.waiting.reads_of.Goals as goal

pub returns : goal.returns
returns c =
    subst (λ list. IfOk c.reads_beside.result (λ reads. reads.items ≡ list))
    (reads_known c.args.cells.now c.add_all.new.names c.args.stmts.now (c.in_ok-add_all.ensures ∙ ap (λ names. with_names names c.args.cells.now) c.new-known.ensures))
    c.reads_beside.ensures
