use Rattle.std.proofs.Common.{◌≡◌, ◌++◌, drop}
use Rattle.std.specs.List.{filter_map}
use Rattle.sv_flush.specs.Creation.{binding_of}
use Rattle.sv_flush.proofs.wait.push_bindings.Given as goal

abbrev pub invariant-loop-attr : goal.invariant-loop-attr
invariant-loop-attr l =
    (record l.fn.rounds { bindings = l.fn.rounds.bindings ++ filter_map (binding_of l.ends.child.number l.ends.owner.number l.props) l.attrs })
    ≡ (record l.rounds { bindings = l.rounds.bindings ++ filter_map (binding_of l.ends.child.number l.ends.owner.number l.props) (drop l.attr-index l.attrs) })
