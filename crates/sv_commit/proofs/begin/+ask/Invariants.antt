use Rattle.std.proofs.Common.{take}
use Rattle.sv_live.specs.Shown.{flat_all}
use Rattle.sv_commit.specs.Asked.{Holds}
use Rattle.sv_commit.proofs.begin.+ask.Given as goal

abbrev pub invariant-ask_all-loop-node : goal.invariant-ask_all-loop-node
invariant-ask_all-loop-node l = Holds l.initial.asked l.asked (flat_all (take l.node-index l.nodes))
