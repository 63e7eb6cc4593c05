use Rattle.std.proofs.Common.{◌≡◌, rules}
use Rattle.sv_io.specs.declared.shelf.Got.TheVariants as got
use Rattle.sv_load.proofs.Finding.{got-bytes, got-missing, got-too_long}
use Rattle.sv_load.proofs.file.find.Goals as goal

pub returns-in-Ok-Bytes-clause-found : goal.returns-in-Ok-Bytes-clause-found
returns-in-Ok-Bytes-clause-found g c =
    let is : c.in-Ok-Bytes.field-0 ≡ got.Bytes c.in-Ok-Bytes.bytes = search rules in
    got-bytes (g.F.Shelf.files c.args.shelf.now) c.as_str.result.now c.args.name.now c.in-Ok-Bytes.field-0 c.in-Ok-Bytes.bytes is c.as_str.ensures c.in-Ok-Bytes.ensures.got c.in-Ok-Bytes.ensures.within

pub returns-in_ok-share-in-Ok-Missing-clause-found : goal.returns-in_ok-share-in-Ok-Missing-clause-found
returns-in_ok-share-in-Ok-Missing-clause-found g c =
    let is : c.in-Ok-Missing.field-0 ≡ got.Missing = search rules in
    got-missing (g.F.Shelf.files c.args.shelf.now) c.as_str.result.now c.args.name.now c.in_ok-share-in-Ok-Missing.field-0 c.in-Ok-Missing.field-0 is c.as_str.ensures c.in_ok-share-in-Ok-Missing.ensures c.in-Ok-Missing.ensures.got

pub returns-in_ok-share-in-Ok-TooLong-clause-found : goal.returns-in_ok-share-in-Ok-TooLong-clause-found
returns-in_ok-share-in-Ok-TooLong-clause-found g c =
    let is : c.in-Ok-TooLong.field-0 ≡ got.TooLong = search rules in
    got-too_long (g.F.Shelf.files c.args.shelf.now) c.as_str.result.now c.args.name.now c.in_ok-share-in-Ok-TooLong.field-0 c.in-Ok-TooLong.field-0 is c.as_str.ensures c.in_ok-share-in-Ok-TooLong.ensures c.in-Ok-TooLong.ensures.got
