use Rattle.std.proofs.Common.{◌≡◌, ◌++◌, drop}
use Rattle.std.specs.List.{filter_map}
use Rattle.sv_compile.specs.TopLevel.{prop_of}
use Rattle.sv_compile.proofs.cells.props_of.Given as goal

abbrev pub invariant-loop-name : goal.invariant-loop-name
invariant-loop-name l = filter_map (prop_of l.tops) l.names ≡ l.props ++ filter_map (prop_of l.tops) (drop l.name-index l.names)
