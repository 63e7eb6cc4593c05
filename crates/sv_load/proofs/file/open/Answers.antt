use Rattle.std.proofs.Common.{◌≡◌, ◌<◌, ◌≤◌, IfSome, rules}
use Rattle.std.proofs.lemmas.Grind.{common_steps}
use Rattle.std.proofs.Common.{arith}
use Rattle.sv_base.specs.declared.limits.TheConstants.{FILE_COUNT_LIMIT}
use Rattle.sv_load.specs.Calls.{opened_of}
use Rattle.sv_load.specs.Loads.{Opens, Tells}
use Rattle.sv_load.proofs.Finding.{opens-too_many, opens-not_found, opens-opens}
use Rattle.sv_load.proofs.Told.{handed_on}
use Rattle.sv_load.proofs.file.open.Goals as goal

pub returns-then-number-ge-FILE_COUNT_LIMIT-clause-opens : goal.returns-then-number-ge-FILE_COUNT_LIMIT-clause-opens
returns-then-number-ge-FILE_COUNT_LIMIT-clause-opens g c =
    let many : FILE_COUNT_LIMIT ≤ c.args.number = grind (arith, common_steps) in
    opens-too_many (g.F.Shelf.files c.args.shelf.now) c.args.number c.args.name.now _ c.args.names.now many c.in_ok-share.ensures

pub returns-in_err-bytes-clause-opens : goal.returns-in_err-bytes-clause-opens
returns-in_err-bytes-clause-opens g c =
    let few : c.args.number < FILE_COUNT_LIMIT = grind (arith, common_steps) in
    let told = g.F.Shelf.files c.args.shelf.now in
    handed_on (λ r. IfSome told (λ files. Tells (Opens files c.args.number c.args.name.now c.args.names.now) (opened_of r c.args.names.now)))
    c.from_residual-in_err-bytes.result c.in_err-bytes.field-0.0 c.from_residual-in_err-bytes.ensures.0 c.from_residual-in_err-bytes.ensures.1
    (opens-not_found told c.args.number c.args.name.now c.args.names.now c.in_err-bytes.field-0.0 few c.in_err-bytes.ensures.found)

pub returns-clause-opens : goal.returns-clause-opens
returns-clause-opens g c =
    let few : c.args.number < FILE_COUNT_LIMIT = grind (arith, common_steps) in
    let same : c.deref.result.now ≡ c.in_ok-bytes.bytes.items = search rules in
    opens-opens (g.F.Shelf.files c.args.shelf.now) c.args.number c.args.name.now c.in_ok-bytes.bytes.items c.deref.result.now c.args.names.now _ few c.in_ok-bytes.ensures.found same c.source_file.ensures.holds
