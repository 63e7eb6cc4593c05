use Rattle.sv_run.proofs.Deciding.{bytes-found, bytes-missing, bytes-long}
use Rattle.sv_run.proofs.beside.find.Goals as goal

pub returns-in-Bytes-clause-found : goal.returns-in-Bytes-clause-found
returns-in-Bytes-clause-found g c =
    bytes-found (g.F.Shelf.files c.args.shelf.now) c.args.file.now c.in_ok-bytes.field-0 c.in_ok-bytes.ensures.got c.in-Bytes.bytes c.in-Bytes.is c.in_ok-bytes.ensures.within

pub returns-in_ok-name-in-Missing-clause-found : goal.returns-in_ok-name-in-Missing-clause-found
returns-in_ok-name-in-Missing-clause-found g c =
    bytes-missing (g.F.Shelf.files c.args.shelf.now) c.args.file.now c.in_ok-bytes.field-0 c.in_ok-bytes.ensures.got _ c.in-Missing.is c.in_ok-name-in-Missing.ensures.ok

pub returns-in-TooLong-clause-found : goal.returns-in-TooLong-clause-found
returns-in-TooLong-clause-found g c = bytes-long (g.F.Shelf.files c.args.shelf.now) c.args.file.now c.in_ok-bytes.field-0 c.in_ok-bytes.ensures.got c.in-TooLong.is
