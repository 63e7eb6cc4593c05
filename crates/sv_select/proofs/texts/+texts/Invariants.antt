use Rattle.std.proofs.Common.{◌≡◌, ◌++◌, drop, string_bytes}
use Rattle.sv_select.specs.Texts.{text_in}
use Rattle.sv_select.proofs.texts.+texts.Given as goal

abbrev pub invariant-push_texts-loop-node : goal.invariant-push_texts-loop-node
invariant-push_texts-loop-node l = string_bytes l.out ++ text_in (drop l.node-index l.nodes) ≡ string_bytes l.fn.out ++ text_in l.nodes
