use Rattle.std.proofs.Common.{sym, ap, ◌∙◌}
use Rattle.sv_io.proofs.Written.{on_err}
use Rattle.sv_mirror.proofs.Course.{piece-prints, piece-front}
use Rattle.sv_mirror.proofs.Telling.{so}
use Rattle.sv_mirror.proofs.pieces.print_piece.Goals as goal

pub returns-in_err-unfit-clause-front : goal.returns-in_err-unfit-clause-front
returns-in_err-unfit-clause-front g c =
    on_err _
    (piece-front c.args.reader.now c.read_piece.new.reader c.args.piece.now c.deref.result.now (c.in_ok-items.ensures.told ∙ ap (so c.read_piece.new.reader) (sym c.deref.ensures.value)) (g.K.Sink.written c.args.out.now)
    (g.K.Sink.written c.print_items.new.out) c.args.screen.now c.in_err-unfit.ensures.front)

pub returns-clause-shown : goal.returns-clause-shown
returns-clause-shown g c =
    piece-prints c.args.reader.now c.read_piece.new.reader c.args.piece.now c.deref.result.now (c.in_ok-items.ensures.told ∙ ap (so c.read_piece.new.reader) (sym c.deref.ensures.value)) (g.K.Sink.written c.args.out.now)
    (g.K.Sink.written c.print_items.new.out) c.args.screen.now c.print_items.new.self c.in_ok-unfit.unfit c.in_ok-items.bad c.or.result c.in_ok-items.ensures.bad c.or.ensures c.in_ok-unfit.ensures.shown
