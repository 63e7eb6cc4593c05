use Rattle.std.proofs.Common.{◌≡◌, drop}
use Rattle.sv_instance.specs.Contexts.{context_at}
use Rattle.sv_instance.specs.Given.{contexts_of}
use Rattle.sv_instance.proofs.contexts.find_context.Given as goal

abbrev pub invariant-loop-context : goal.invariant-loop-context
invariant-loop-context l = context_at (contexts_of l.list) l.key ≡ context_at (contexts_of (drop l.context-index l.list)) l.key
