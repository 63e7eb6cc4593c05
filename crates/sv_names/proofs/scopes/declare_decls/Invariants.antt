use Rattle.std.proofs.Common.{◌≡◌, map, drop}
use Rattle.sv_names.specs.Distinct.{with_names}
use Rattle.sv_names.specs.Uses.{together, decl_parts}
use Rattle.sv_names.proofs.scopes.declare_decls.Given as goal

abbrev pub invariant-loop-decl : goal.invariant-loop-decl
invariant-loop-decl l = with_names l.fn.scope (together (map decl_parts l.decls)).declares ≡ with_names l.scope (together (map decl_parts (drop l.decl-index l.decls))).declares
