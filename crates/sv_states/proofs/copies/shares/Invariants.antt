use Rattle.std.proofs.Common.{◌≡◌, length}
use Rattle.std.specs.Prelude.{All}
use Rattle.sv_value.specs.View.{view_of}
use Rattle.sv_states.proofs.copies.shares.Given as goal

abbrev pub invariant-loop-copy : goal.invariant-loop-copy
invariant-loop-copy l = record { count : length l.list.items ≡ l._copy; same : All (λ v. view_of v ≡ view_of l.value) l.list.items }
