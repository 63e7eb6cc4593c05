use Rattle.std.proofs.Common.{sym, ◌∙◌}
use Rattle.sv_lex.proofs.Taken.{taken}
use Rattle.sv_lex.proofs.cursor.Tokens.take_as.Goals as goal

pub returns : goal.returns
returns c =
    taken c.args.text.now c.args.self.now _ c.take.new.self c.in_ok-name.name c.token_span-span.result (sym c.is_empty.ensures ∙ c.if-is_empty.false)
    c.in_ok-name.ensures.name c.in_ok-name.ensures.known c.take.ensures.next c.token_span-span.ensures
