use Rattle.std.proofs.Common.{sym, ◌∙◌}
use Rattle.sv_lex.proofs.Chars.{char_bounds}
use Rattle.sv_tags.proofs.texts.written.Goals as goal

pub returns-in-Some-found-clause-within : goal.returns-in-Some-found-clause-within
returns-in-Some-found-clause-within c =
    let h = char_bounds c.args.z.now c.in-Some-found.c (sym c.decode-found.ensures.char ∙ c.in-Some-found.is) in rw c.decode-found.ensures.size h
