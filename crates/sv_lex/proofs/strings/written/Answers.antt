use Rattle.std.proofs.Common.{sym, ◌∙◌}
use Rattle.sv_lex.proofs.Chars.{char_bounds}
use Rattle.sv_lex.proofs.strings.written.Goals as goal

pub returns-in-Some-clause-within : goal.returns-in-Some-clause-within
returns-in-Some-clause-within c =
    let h = char_bounds c.args.z.now c.in-Some.c (sym c.decode-found.ensures.char ∙ c.in-Some.is) in rw c.decode-found.ensures.size h
