use Rattle.std.proofs.Common.{◌≡◌, map, filter, drop}
use Rattle.sv_names.specs.Distinct.{firsts, with_names}
use Rattle.sv_names.proofs.lists.names_read.Given as goal

abbrev pub invariant-loop-found : goal.invariant-loop-found
invariant-loop-found l = firsts (map (λ u. u.name) (filter (λ u. u.is_read) l.uses)) ≡ with_names l.names (map (λ u. u.name) (filter (λ u. u.is_read) (drop l.found-index l.uses)))
