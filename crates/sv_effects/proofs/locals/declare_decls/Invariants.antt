use Rattle.std.proofs.Common.{◌≡◌, map, drop}
use Rattle.sv_names.specs.Distinct.{with_names}
use Rattle.sv_effects.specs.Signs.{together, decl_part}
use Rattle.sv_effects.proofs.locals.declare_decls.Given as goal

abbrev pub invariant-loop-decl : goal.invariant-loop-decl
invariant-loop-decl l = with_names l.fn.locals (together (map decl_part l.decls)).declares ≡ with_names l.locals (together (map decl_part (drop l.decl-index l.decls))).declares
