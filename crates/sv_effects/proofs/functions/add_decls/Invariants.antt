use Rattle.std.proofs.Common.{◌≡◌, ◌++◌, drop}
use Rattle.sv_effects.specs.Functions.{decls_functions}
use Rattle.sv_effects.proofs.functions.add_decls.Given as goal

abbrev pub invariant-loop-decl : goal.invariant-loop-decl
invariant-loop-decl l = l.fn.functions ++ decls_functions l.names l.file l.exported l.decls ≡ l.functions ++ decls_functions l.names l.file l.exported (drop l.decl-index l.decls)
