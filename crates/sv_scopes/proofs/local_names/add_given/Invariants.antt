use Rattle.std.proofs.Common.{◌≡◌, drop}
use Rattle.std.specs.List.{flat_map}
use Rattle.sv_names.specs.Distinct.{with_names}
use Rattle.sv_scopes.specs.Attributes.{given_part}
use Rattle.sv_scopes.specs.Parts.{names_of}
use Rattle.sv_scopes.proofs.local_names.add_given.Given as goal

abbrev pub invariant-loop-part : goal.invariant-loop-part
invariant-loop-part l = with_names l.fn.names (names_of (flat_map given_part l.parts)) ≡ with_names l.names (names_of (flat_map given_part (drop l.part-index l.parts)))
