use Rattle.std.proofs.Common.{◌≡◌, map, drop}
use Rattle.sv_ast.specs.declared.names.Ref.TheVariants.{Plain}
use Rattle.sv_names.specs.Distinct.{with_names}
use Rattle.sv_deps.specs.Looks.{let_names}
use Rattle.sv_deps.proofs.around.let_names.Given as goal

abbrev pub invariant-loop-name : goal.invariant-loop-name
invariant-loop-name l = let_names l.lets ≡ with_names l.names (map Plain (map (λ x. x.local) (drop l.name-index l.lets)))
