use Rattle.std.proofs.Common.{sym, subst}
use Rattle.std.specs.Str.{IsUtf8}
use Rattle.sv_tags.specs.declared.classes.Class.TheVariants.{AttributeName}
use Rattle.sv_tags.proofs.Names.{front_utf8}
use Rattle.sv_tags.proofs.directives.name_at.Goals as goal

pub unreachable-requires : goal.unreachable-requires
unreachable-requires c = c.in-Err.ensures.cases.0 (subst IsUtf8 (sym c.front_of.ensures) (front_utf8 AttributeName c.args.z.now))
