use Rattle.std.proofs.Common.{sym, subst, take}
use Rattle.std.specs.Str.{IsUtf8}
use Rattle.sv_lex.proofs.Utf8.{name_utf8}
use Rattle.sv_lex.proofs.naming.name_text.Goals as goal

pub unreachable-requires : goal.unreachable-requires
unreachable-requires c =
    c.in-Err.ensures.cases.0 (subst (λ n. IsUtf8 (take n c.args.z.now)) (sym c.name_len.ensures.value) (name_utf8 c.args.z.now))
