use Rattle.std.proofs.Common.{◌≡◌, subst}
use Rattle.std.specs.Prelude.{IfSome}
use Rattle.sv_run.specs.Beside.{bytes_events, file_bytes}
use Rattle.sv_run.specs.Causes.{of_events}
use Rattle.sv_run.specs.Job.{answer_of, bytes_found, refusal_of}
use Rattle.sv_run.proofs.Deciding.{under-bytes, under-refused}
use Rattle.sv_run.proofs.program.under_events.Goals as goal

pub returns-in_ok-played-in-Bytes-clause-answer : goal.returns-in_ok-played-in-Bytes-clause-answer
returns-in_ok-played-in-Bytes-clause-answer g c =
    under-bytes (of_events c.args.flags) c.args.checked.now.bundle.now bytes_events (g.F.Shelf.files c.args.shelf.now) c.args.file.now _ c.in-Bytes.bytes.items c.deref.result.now c.deref.ensures.value
    (subst (λ found. IfSome (g.F.Shelf.files c.args.shelf.now) (λ files. file_bytes files c.args.file.now ≡ bytes_found found)) c.in-Bytes.is c.in_ok-bytes.ensures.found)
    c.in_ok-played-in-Bytes.ensures.answer

pub returns-in-Refused-clause-answer : goal.returns-in-Refused-clause-answer
returns-in-Refused-clause-answer g c =
    under-refused (of_events c.args.flags) c.args.checked.now.bundle.now bytes_events (g.F.Shelf.files c.args.shelf.now) c.args.file.now (refusal_of c.in-Refused.refusal)
    (subst (λ found. IfSome (g.F.Shelf.files c.args.shelf.now) (λ files. file_bytes files c.args.file.now ≡ bytes_found found)) c.in-Refused.is c.in_ok-bytes.ensures.found)
