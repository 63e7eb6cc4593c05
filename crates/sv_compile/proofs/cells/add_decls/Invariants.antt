use Rattle.std.proofs.Common.{◌≡◌, drop}
use Rattle.sv_imports.specs.Given.{decl_names}
use Rattle.sv_names.specs.Distinct.{with_names}
use Rattle.sv_compile.proofs.cells.add_decls.Given as goal

abbrev pub invariant-loop-decl : goal.invariant-loop-decl
invariant-loop-decl l = with_names l.fn.names (decl_names l.decls) ≡ with_names l.names (decl_names (drop l.decl-index l.decls))
