use Rattle.std.proofs.Common.{◌≡◌, ◌++◌, drop}
use Rattle.std.specs.List.{filter_map}
use Rattle.sv_compile.specs.Constants.{spec_given}
use Rattle.sv_compile.proofs.imports.add_specs.Given as goal

abbrev pub invariant-loop-imported : goal.invariant-loop-imported
invariant-loop-imported l = l.fn.given ++ filter_map (spec_given l.bundle.names l.bundle.files l.from) l.specs ≡ l.given ++ filter_map (spec_given l.bundle.names l.bundle.files l.from) (drop l.imported-index l.specs)
