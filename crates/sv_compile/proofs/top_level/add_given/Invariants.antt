use Rattle.std.proofs.Common.{◌≡◌, drop, map}
use Rattle.sv_compile.specs.TopLevel.{given_name}
use Rattle.sv_lower.specs.Tops.{with_all}
use Rattle.sv_compile.proofs.top_level.add_given.Given as goal

abbrev pub invariant-loop-found : goal.invariant-loop-found
invariant-loop-found l = record l.fn.tops { known = with_all l.fn.tops.known (map given_name l.given) } ≡ record l.tops { known = with_all l.tops.known (map given_name (drop l.found-index l.given)) }
