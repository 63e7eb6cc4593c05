use Rattle.std.proofs.Common.{refl, ap}
use Rattle.sv_checks.specs.Tells.{seen}
use Rattle.sv_session.proofs.Mounting.{mounts-new}
use Rattle.sv_session.specs.Plays.{program_of}
use Rattle.sv_test.proofs.Playing.{first-program, first-shown, first-left, first-refused, event-program, event-shown, event-left, event-refused, check-left, all-played}
use Rattle.sv_test.proofs.play.play_on.Goals as goal

pub returns-in-Err : goal.returns-in-Err
returns-in-Err c =
    first-refused (program_of c.args.session.now) c.args.deeds.now c.args.report.now c.mount.result c.args.session.now c.mount.new.self refl c.requires.page
    (mounts-new c.args.session.now c.mount.new.self c.mount.result c.requires.stage c.mount.ensures.mounts) c.in-Err.error c.in-Err.is

pub loop-at-init : goal.loop-at-init
loop-at-init c =
    let mounts = mounts-new c.args.session.now c.mount.new.self c.mount.result c.requires.stage c.mount.ensures.mounts in
    record {
      program = first-program (program_of c.args.session.now) c.args.deeds.now c.args.report.now c.mount.result c.args.session.now c.mount.new.self refl c.requires.page mounts;
      shown = first-shown (program_of c.args.session.now) c.args.deeds.now c.args.report.now c.mount.result c.args.session.now c.mount.new.self refl c.requires.page mounts c.in-Ok.field-0 c.in-Ok.is;
      ready = c.mount.ensures.ready;
      left = first-left (program_of c.args.session.now) c.args.deeds.now c.args.report.now c.mount.result c.args.session.now c.mount.new.self refl c.requires.page mounts c.in-Ok.field-0 c.in-Ok.is;
    }
