use Rattle.std.proofs.Common.{◌≡◌, ◌++◌, map, drop}
use Rattle.std.specs.List.{flat_map}
use Rattle.sv_scopes.specs.Attributes.{given_part}
use Rattle.sv_fragments.specs.Attributes.{let_name}
use Rattle.sv_fragments.proofs.attributes.add_let_parts.Given as goal

abbrev pub invariant-loop-part : goal.invariant-loop-part
invariant-loop-part l = l.fn.lets ++ map (let_name l.prop) (flat_map given_part l.parts) ≡ l.lets ++ map (let_name l.prop) (flat_map given_part (drop l.part-index l.parts))
