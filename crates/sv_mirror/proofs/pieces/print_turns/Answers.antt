use Rattle.std.proofs.Common.{arith}
use Rattle.sv_io.proofs.Written.{on_err}
use Rattle.sv_mirror.proofs.Course.{split-is, read-none, room, read-front, read-last, read-more}
use Rattle.sv_mirror.proofs.Writing.{ended-turns}
use Rattle.sv_mirror.proofs.pieces.print_turns.Goals as goal

pub loop-rest-init : goal.loop-rest-init
loop-rest-init g c = record {
  read = read-none c.args.bytes.now (g.K.Sink.written c.args.out.now) c.new-reader.result c.in_ok-screen.screen c.new-reader.ensures.begun c.new-reader.ensures.told c.in_ok-screen.ensures.page c.in_ok-screen.ensures.turns;
  faults = omega arith;
}

pub print_piece-requires : goal.print_piece-requires
print_piece-requires g c =
    let parts = split-is c.min.result c.loop-rest.rest.now c.split_at.result.0.now c.split_at.result.1.now c.split_at.ensures.front c.split_at.ensures.back in
    let fits = room c.args.bytes.now c.loop-rest.rest.now c.split_at.result.0.now c.split_at.result.1.now (g.K.Sink.written c.args.out.now) (g.K.Sink.written c.loop-rest.out) (g.K.Sink.written c.loop-rest.out) c.loop-rest.reader
    c.loop-rest.reader c.loop-rest.screen c.loop-rest.screen c.loop-rest.invariant.read parts in
    omega (arith, fits)

pub returns-in_err-fault-clause-front : goal.returns-in_err-fault-clause-front
returns-in_err-fault-clause-front g c =
    let parts = split-is c.min.result c.loop-rest.rest.now c.split_at.result.0.now c.split_at.result.1.now c.split_at.ensures.front c.split_at.ensures.back in
    on_err _
    (read-front c.args.bytes.now c.loop-rest.rest.now c.split_at.result.0.now c.split_at.result.1.now (g.K.Sink.written c.args.out.now) (g.K.Sink.written c.loop-rest.out) (g.K.Sink.written c.print_piece.new.out) c.loop-rest.reader
    c.print_piece.new.reader c.loop-rest.screen c.print_piece.new.screen c.loop-rest.invariant.read parts (c.in_err-fault.ensures.front c.split_at.result.1.now))

pub returns-in-Some-clause-all : goal.returns-in-Some-clause-all
returns-in-Some-clause-all g c =
    let parts = split-is c.min.result c.loop-rest.rest.now c.split_at.result.0.now c.split_at.result.1.now c.split_at.ensures.front c.split_at.ensures.back in
    ended-turns
    (read-last c.args.bytes.now c.loop-rest.rest.now c.split_at.result.0.now c.split_at.result.1.now (g.K.Sink.written c.args.out.now) (g.K.Sink.written c.loop-rest.out) (g.K.Sink.written c.print_piece.new.out) c.loop-rest.reader
    c.print_piece.new.reader c.loop-rest.screen c.print_piece.new.screen c.loop-rest.invariant.read parts c.in_ok-fault.field-0 c.in_ok-fault.ensures.shown c.in-Some.fault c.in-Some.is)

pub loop-rest-preserved : goal.loop-rest-preserved
loop-rest-preserved g c =
    let parts = split-is c.min.result c.loop-rest.rest.now c.split_at.result.0.now c.split_at.result.1.now c.split_at.ensures.front c.split_at.ensures.back in
    record {
      read = read-more c.args.bytes.now c.loop-rest.rest.now c.split_at.result.0.now c.split_at.result.1.now (g.K.Sink.written c.args.out.now) (g.K.Sink.written c.loop-rest.out) (g.K.Sink.written c.print_piece.new.out)
          c.loop-rest.reader c.print_piece.new.reader c.loop-rest.screen c.print_piece.new.screen c.loop-rest.invariant.read parts c.in_ok-fault.field-0 c.in_ok-fault.ensures.shown c.in_default.is c.in_ok-fault.ensures.reads
          (c.in_ok-fault.ensures.sound c.in_default.is) c.in_ok-fault.ensures.few;
      faults = omega (arith, c.loop-rest.invariant.faults, c.print_piece.ensures.later);
    }
