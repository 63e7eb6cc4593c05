use Rattle.std.proofs.Common.{◌<◌, length, refl, arith}
use Rattle.std.proofs.lemmas.Option.{slice_get_read}
use Rattle.sv_compile.proofs.program.compile_files.Goals as goal

pub compile_file-requires : goal.compile_file-requires
compile_file-requires c =
    let n = c.loop-n.n in
    let size = c.requires.size in
    let within : n < length c.args.told.now = omega (arith, c.loop-n-test.true) in
    c.requires.each n c.index-files-n.result c.index-told-n.result
    (slice_get_read c.args.files.now (length c.args.files.now) n c.index-files-n.result refl c.loop-n-test.true c.index-files-n.is)
    (slice_get_read c.args.told.now (length c.args.told.now) n c.index-told-n.result refl within c.index-told-n.is)
