use Rattle.std.proofs.Common.{◌≡◌, ◌++◌, drop, map}
use Rattle.sv_compile.specs.Constants.{decl_name}
use Rattle.sv_compile.proofs.constants.add_decls.Given as goal

abbrev pub invariant-loop-decl : goal.invariant-loop-decl
invariant-loop-decl l = l.fn.names ++ map decl_name l.decls ≡ l.names ++ map decl_name (drop l.decl-index l.decls)
