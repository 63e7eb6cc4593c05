use Rattle.bstr.proofs.lemmas.PieceLemmas.{size-within}
use Rattle.sv_lex.proofs.characters.char_len.Goals as goal

pub returns-then-is_in-clause-within : goal.returns-then-is_in-clause-within
returns-then-is_in-clause-within c = let h = size-within c.args.z.now in rw c.decode-found.ensures.size h
