use Rattle.std.proofs.Common.{◌≡◌, drop}
use Rattle.sv_names.specs.Distinct.{with_names}
use Rattle.sv_effects.specs.Top.{decl_names}
use Rattle.sv_effects.proofs.top.add_decls.Given as goal

abbrev pub invariant-loop-decl : goal.invariant-loop-decl
invariant-loop-decl l = with_names l.fn.variables (decl_names l.decls) ≡ with_names l.variables (decl_names (drop l.decl-index l.decls))
