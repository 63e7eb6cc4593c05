use Rattle.std.proofs.Common.{◌≡◌, map, drop}
use Rattle.std.specs.List.{list_any}
use Rattle.sv_purity.specs.Pure.{together, decl_part}
use Rattle.sv_purity.proofs.scope.is_among.Given as goal

abbrev pub invariant-loop-decl : goal.invariant-loop-decl
invariant-loop-decl g l = list_any (g.S.Sought.is_sought l.sought) (together (map decl_part l.decls)).declares ≡ list_any (g.S.Sought.is_sought l.sought) (together (map decl_part (drop l.decl-index l.decls))).declares
