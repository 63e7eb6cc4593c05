use Rattle.std.proofs.Common.{◌≡◌, map, drop}
use Rattle.sv_names.specs.Distinct.{with_names}
use Rattle.sv_check.specs.Imported.{local_names}
use Rattle.sv_check.proofs.imported.add_specs.Given as goal

abbrev pub invariant-loop-given : goal.invariant-loop-given
invariant-loop-given l = with_names l.fn.list (local_names l.names (map (λ word. word.now) l.words) l.specs) ≡ with_names l.list (local_names l.names (map (λ word. word.now) l.words) (drop l.given-index l.specs))
