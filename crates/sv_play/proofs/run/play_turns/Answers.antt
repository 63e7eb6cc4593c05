use Rattle.std.proofs.Common.{◌+◌, refl, sym, ap, subst, arith}
use Rattle.sv_io.proofs.Written.{on_err}
use Rattle.sv_play.proofs.Playing.{first-is, first-fronts, first-refused, first-written, first-shown, first-same, first-printed, next-is, next-fronts, next-refused, next-written, next-shown, next-same, next-printed, ready-printed, all-text, all-refused}
use Rattle.sv_play.proofs.run.play_turns.Goals as goal
use Rattle.sv_session.proofs.Mounting.{mounts-new}
use Rattle.sv_session.specs.Plays.{program_of}
use Rattle.sv_session.specs.Ready.{IsReady}

pub print_turn-requires-clause-played : goal.print_turn-requires-clause-played
print_turn-requires-clause-played g c =
    first-is (program_of c.args.session.now) c.args.printer.now.flags c.args.events.now (g.K.Sink.written c.args.out.now) (g.K.Sink.written c.args.out.now) c.mount-answer.result c.args.session.now c.mount-answer.new.self
    refl c.requires.page c.requires.numbers (mounts-new c.args.session.now c.mount-answer.new.self c.mount-answer.result c.requires.stage c.mount-answer.ensures.mounts)

pub returns-in_err-print_turn-clause-front : goal.returns-in_err-print_turn-clause-front
returns-in_err-print_turn-clause-front g c =
    on_err _
    (first-fronts (program_of c.args.session.now) c.args.printer.now.flags c.args.events.now (g.K.Sink.written c.args.out.now) (g.K.Sink.written c.print_turn.new.out) c.mount-answer.result c.args.session.now c.mount-answer.new.self
    refl c.requires.page c.requires.numbers (mounts-new c.args.session.now c.mount-answer.new.self c.mount-answer.result c.requires.stage c.mount-answer.ensures.mounts)
    c.in_err-print_turn.ensures.front)

pub returns-then-branch-clause-status : goal.returns-then-branch-clause-status
returns-then-branch-clause-status g c =
    first-refused (program_of c.args.session.now) c.args.printer.now.flags c.args.events.now (g.K.Sink.written c.args.out.now) (g.K.Sink.written c.print_turn.new.out) c.mount-answer.result c.args.session.now c.mount-answer.new.self
    refl c.requires.page c.requires.numbers (mounts-new c.args.session.now c.mount-answer.new.self c.mount-answer.result c.requires.stage c.mount-answer.ensures.mounts)
    c.in_ok-print_turn.field-0 c.in_ok-print_turn.ensures.status c.if-branch.true

pub returns-then-branch-clause-all : goal.returns-then-branch-clause-all
returns-then-branch-clause-all g c =
    first-written (program_of c.args.session.now) c.args.printer.now.flags c.args.events.now (g.K.Sink.written c.args.out.now) (g.K.Sink.written c.print_turn.new.out) c.mount-answer.result c.args.session.now c.mount-answer.new.self
    refl c.requires.page c.requires.numbers (mounts-new c.args.session.now c.mount-answer.new.self c.mount-answer.result c.requires.stage c.mount-answer.ensures.mounts)
    c.in_ok-print_turn.field-0 c.in_ok-print_turn.ensures.status c.if-branch.true c.in_ok-print_turn.ensures.all

pub loop-event-init : goal.loop-event-init
loop-event-init g c = record {
  number = refl;
  program = first-same (program_of c.args.session.now) c.args.printer.now.flags c.args.events.now (g.K.Sink.written c.args.out.now) (g.K.Sink.written c.print_turn.new.out) c.mount-answer.result c.args.session.now c.mount-answer.new.self
      refl c.requires.page c.requires.numbers (mounts-new c.args.session.now c.mount-answer.new.self c.mount-answer.result c.requires.stage c.mount-answer.ensures.mounts)
      c.in_ok-print_turn.field-0 c.in_ok-print_turn.ensures.ended c.if-branch.false c.print_turn.new.session c.in_ok-print_turn.ensures.shown;
  shown = first-shown (program_of c.args.session.now) c.args.printer.now.flags c.args.events.now (g.K.Sink.written c.args.out.now) (g.K.Sink.written c.print_turn.new.out) c.mount-answer.result c.args.session.now c.mount-answer.new.self
      refl c.requires.page c.requires.numbers (mounts-new c.args.session.now c.mount-answer.new.self c.mount-answer.result c.requires.stage c.mount-answer.ensures.mounts)
      c.in_ok-print_turn.field-0 c.in_ok-print_turn.ensures.ended c.if-branch.false c.print_turn.new.session c.in_ok-print_turn.ensures.shown;
  played = first-printed (program_of c.args.session.now) c.args.printer.now.flags c.args.events.now (g.K.Sink.written c.args.out.now) (g.K.Sink.written c.print_turn.new.out) c.mount-answer.result c.args.session.now c.mount-answer.new.self
      refl c.requires.page c.requires.numbers (mounts-new c.args.session.now c.mount-answer.new.self c.mount-answer.result c.requires.stage c.mount-answer.ensures.mounts)
      c.in_ok-print_turn.field-0 c.in_ok-print_turn.ensures.ended c.if-branch.false c.print_turn.new.session c.in_ok-print_turn.ensures.shown c.in_ok-print_turn.ensures.all;
  ready = subst IsReady (sym c.in_ok-print_turn.ensures.shown) (ready-printed c.args.printer.now.flags c.mount-answer.result c.mount-answer.new.self c.mount-answer.ensures.ready);
  faults = c.print_turn.ensures.later;
}

pub print_turn-requires-in-loop-event-clause-played : goal.print_turn-requires-in-loop-event-clause-played
print_turn-requires-in-loop-event-clause-played g c =
    next-is (program_of c.args.session.now) c.args.printer.now.flags c.args.events.now (g.K.Sink.written c.args.out.now) (g.K.Sink.written c.loop-event.out) (g.K.Sink.written c.loop-event.out) c.loop-event.event-index c.loop-event.number
    c.turn-answer.result c.loop-event.session c.turn-answer.new.self c.event-item.result c.loop-event.invariant.program c.loop-event.invariant.shown c.loop-event.invariant.played c.loop-event.invariant.number c.loop-event-test.true
    c.event-item.is c.turn-answer.ensures.turns

pub returns-in_err-print_turn-2-clause-front : goal.returns-in_err-print_turn-2-clause-front
returns-in_err-print_turn-2-clause-front g c =
    on_err _
    (next-fronts (program_of c.args.session.now) c.args.printer.now.flags c.args.events.now (g.K.Sink.written c.args.out.now) (g.K.Sink.written c.loop-event.out) (g.K.Sink.written c.print_turn-in-loop-event.new.out) c.loop-event.event-index c.loop-event.number
    c.turn-answer.result c.loop-event.session c.turn-answer.new.self c.event-item.result c.loop-event.invariant.program c.loop-event.invariant.shown c.loop-event.invariant.played c.loop-event.invariant.number c.loop-event-test.true
    c.event-item.is c.turn-answer.ensures.turns
    c.in_err-print_turn-2.ensures.front)

pub returns-then-branch-2-clause-status : goal.returns-then-branch-2-clause-status
returns-then-branch-2-clause-status g c =
    next-refused (program_of c.args.session.now) c.args.printer.now.flags c.args.events.now (g.K.Sink.written c.args.out.now) (g.K.Sink.written c.loop-event.out) (g.K.Sink.written c.print_turn-in-loop-event.new.out) c.loop-event.event-index c.loop-event.number
    c.turn-answer.result c.loop-event.session c.turn-answer.new.self c.event-item.result c.loop-event.invariant.program c.loop-event.invariant.shown c.loop-event.invariant.played c.loop-event.invariant.number c.loop-event-test.true
    c.event-item.is c.turn-answer.ensures.turns
    c.in_ok-print_turn-2.field-0 c.in_ok-print_turn-2.ensures.status c.if-branch-2.true

pub returns-then-branch-2-clause-all : goal.returns-then-branch-2-clause-all
returns-then-branch-2-clause-all g c =
    next-written (program_of c.args.session.now) c.args.printer.now.flags c.args.events.now (g.K.Sink.written c.args.out.now) (g.K.Sink.written c.loop-event.out) (g.K.Sink.written c.print_turn-in-loop-event.new.out) c.loop-event.event-index c.loop-event.number
    c.turn-answer.result c.loop-event.session c.turn-answer.new.self c.event-item.result c.loop-event.invariant.program c.loop-event.invariant.shown c.loop-event.invariant.played c.loop-event.invariant.number c.loop-event-test.true
    c.event-item.is c.turn-answer.ensures.turns
    c.in_ok-print_turn-2.field-0 c.in_ok-print_turn-2.ensures.status c.if-branch-2.true c.in_ok-print_turn-2.ensures.all

pub loop-event-preserved : goal.loop-event-preserved
loop-event-preserved g c = record {
  number = ap (λ n. n + 1) c.loop-event.invariant.number;
  program = next-same (program_of c.args.session.now) c.args.printer.now.flags c.args.events.now (g.K.Sink.written c.args.out.now) (g.K.Sink.written c.loop-event.out) (g.K.Sink.written c.print_turn-in-loop-event.new.out) c.loop-event.event-index c.loop-event.number
      c.turn-answer.result c.loop-event.session c.turn-answer.new.self c.event-item.result c.loop-event.invariant.program c.loop-event.invariant.shown c.loop-event.invariant.played c.loop-event.invariant.number c.loop-event-test.true
      c.event-item.is c.turn-answer.ensures.turns
      c.in_ok-print_turn-2.field-0 c.in_ok-print_turn-2.ensures.ended c.if-branch-2.false c.print_turn-in-loop-event.new.session c.in_ok-print_turn-2.ensures.shown;
  shown = next-shown (program_of c.args.session.now) c.args.printer.now.flags c.args.events.now (g.K.Sink.written c.args.out.now) (g.K.Sink.written c.loop-event.out) (g.K.Sink.written c.print_turn-in-loop-event.new.out) c.loop-event.event-index c.loop-event.number
      c.turn-answer.result c.loop-event.session c.turn-answer.new.self c.event-item.result c.loop-event.invariant.program c.loop-event.invariant.shown c.loop-event.invariant.played c.loop-event.invariant.number c.loop-event-test.true
      c.event-item.is c.turn-answer.ensures.turns
      c.in_ok-print_turn-2.field-0 c.in_ok-print_turn-2.ensures.ended c.if-branch-2.false c.print_turn-in-loop-event.new.session c.in_ok-print_turn-2.ensures.shown;
  played = next-printed (program_of c.args.session.now) c.args.printer.now.flags c.args.events.now (g.K.Sink.written c.args.out.now) (g.K.Sink.written c.loop-event.out) (g.K.Sink.written c.print_turn-in-loop-event.new.out) c.loop-event.event-index c.loop-event.number
      c.turn-answer.result c.loop-event.session c.turn-answer.new.self c.event-item.result c.loop-event.invariant.program c.loop-event.invariant.shown c.loop-event.invariant.played c.loop-event.invariant.number c.loop-event-test.true
      c.event-item.is c.turn-answer.ensures.turns
      c.in_ok-print_turn-2.field-0 c.in_ok-print_turn-2.ensures.ended c.if-branch-2.false c.print_turn-in-loop-event.new.session c.in_ok-print_turn-2.ensures.shown c.in_ok-print_turn-2.ensures.all;
  ready = subst IsReady (sym c.in_ok-print_turn-2.ensures.shown) (ready-printed c.args.printer.now.flags c.turn-answer.result c.turn-answer.new.self c.turn-answer.ensures.ready);
  faults = omega (arith, c.loop-event.invariant.faults, c.print_turn-in-loop-event.ensures.later);
}

pub returns-clause-status : goal.returns-clause-status
returns-clause-status g c =
    all-refused (program_of c.args.session.now) c.args.printer.now.flags c.args.events.now (g.K.Sink.written c.args.out.now) (g.K.Sink.written c.loop-event.out) c.loop-event.event-index c.loop-event.session c.loop-event.invariant.played c.loop-event-test.false

pub returns-clause-all : goal.returns-clause-all
returns-clause-all g c =
    all-text (program_of c.args.session.now) c.args.printer.now.flags c.args.events.now (g.K.Sink.written c.args.out.now) (g.K.Sink.written c.loop-event.out) c.loop-event.event-index c.loop-event.session c.loop-event.invariant.played c.loop-event-test.false
