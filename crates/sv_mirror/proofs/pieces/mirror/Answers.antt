use Rattle.std.proofs.Common.{sym, ◌∙◌}
use Rattle.sv_io.proofs.Written.{on_err}
use Rattle.sv_mirror.specs.Faults.{line_of}
use Rattle.sv_mirror.specs.Printed.{printed}
use Rattle.sv_mirror.proofs.Writing.{front-more, text-front}
use Rattle.sv_mirror.proofs.pieces.mirror.Goals as goal

pub returns-in_err-fault-clause-front : goal.returns-in_err-fault-clause-front
returns-in_err-fault-clause-front g c = on_err _ (front-more (printed c.args.bytes.now).turns (line_of (printed c.args.bytes.now).fault) c.in_err-fault.ensures.front)

pub returns-in_err-write_all-clause-front : goal.returns-in_err-write_all-clause-front
returns-in_err-write_all-clause-front g c =
    on_err _
    (text-front (printed c.args.bytes.now) c.in-Some.fault c.as_bytes.result.now (sym c.in-Some.is ∙ c.in_ok-fault.ensures.status) (c.as_bytes.ensures.value ∙ c.in_ok-line.ensures) c.in_ok-fault.ensures.all
    c.in_err-write_all.ensures.front)
