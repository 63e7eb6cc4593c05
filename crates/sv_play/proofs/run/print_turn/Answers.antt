use Rattle.std.proofs.Common.{◌∙◌}
use Rattle.sv_io.proofs.Written.{on_err}
use Rattle.sv_play.proofs.Playing.{turn-front, turn-written}
use Rattle.sv_play.proofs.run.print_turn.Goals as goal

pub returns-in_err-write_all-in-Ok-clause-front : goal.returns-in_err-write_all-in-Ok-clause-front
returns-in_err-write_all-in-Ok-clause-front g c =
    on_err _
    (turn-front c.args.printer.now.flags c.args.number c.args.answer c.in-Ok.turned c.args.session.now c.number.new.session c.deref.result.now (g.K.Sink.written c.args.out.now)
    (g.K.Sink.written c.write_all.new.sink) c.in-Ok.is c.in_ok-number-in-Ok.ensures (c.deref.ensures.value ∙ c.in_ok-text-in-Ok.ensures) c.in_err-write_all-in-Ok.ensures.front)

pub returns-in_ok-write_all-in-Ok-clause-all : goal.returns-in_ok-write_all-in-Ok-clause-all
returns-in_ok-write_all-in-Ok-clause-all g c =
    turn-written c.args.printer.now.flags c.args.number c.args.answer c.in-Ok.turned c.args.session.now c.number.new.session c.deref.result.now (g.K.Sink.written c.args.out.now)
    (g.K.Sink.written c.write_all.new.sink) c.in-Ok.is c.in_ok-number-in-Ok.ensures (c.deref.ensures.value ∙ c.in_ok-text-in-Ok.ensures) c.in_ok-write_all-in-Ok.ensures.all
