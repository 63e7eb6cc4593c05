use Rattle.std.proofs.Common.{[], drop}
use Rattle.sv_deps.specs.Looks.{content}
use Rattle.sv_deps.proofs.Onward.{Onward}
use Rattle.sv_deps.proofs.looks.find_content.Given as goal

abbrev pub invariant-loop-node : goal.invariant-loop-node
invariant-loop-node l = Onward l.fn.seen l.seen (content l.names l.content []) (content l.names (drop l.node-index l.content) [])
