use Rattle.std.proofs.Common.{refl}
use Rattle.sv_play.proofs.Summing.{first-program, first-shown, first-summed, first-refused}
use Rattle.sv_play.proofs.summary.sum_turns.Goals as goal
use Rattle.sv_session.proofs.Mounting.{mounts-new}
use Rattle.sv_session.specs.Plays.{program_of}

pub returns-in-Err : goal.returns-in-Err
returns-in-Err c =
    first-refused (program_of c.args.session.now) c.args.events.now c.mount.result c.args.session.now c.mount.new.self refl c.requires.page (mounts-new c.args.session.now c.mount.new.self c.mount.result c.requires.stage c.mount.ensures.mounts) c.in-Err.error c.in-Err.is

pub loop-event-init : goal.loop-event-init
loop-event-init c = record {
  program = first-program (program_of c.args.session.now) c.args.events.now c.mount.result c.args.session.now c.mount.new.self refl c.requires.page (mounts-new c.args.session.now c.mount.new.self c.mount.result c.requires.stage c.mount.ensures.mounts);
  shown = first-shown (program_of c.args.session.now) c.args.events.now c.mount.result c.args.session.now c.mount.new.self refl c.requires.page (mounts-new c.args.session.now c.mount.new.self c.mount.result c.requires.stage c.mount.ensures.mounts) c.in-Ok.turned c.in-Ok.is;
  ready = c.mount.ensures.ready;
  so_far = first-summed (program_of c.args.session.now) c.args.events.now c.mount.result c.args.session.now c.mount.new.self refl c.requires.page (mounts-new c.args.session.now c.mount.new.self c.mount.result c.requires.stage c.mount.ensures.mounts) c.in-Ok.turned c.in-Ok.is;
}
