-- Assignments that something may speak against.
use Rattle.std.specs.Prelude.{Option, Some, None}
use Rattle.sv_base.specs.declared.span.Span.{Span}
use Rattle.sv_ops.specs.declared.faults.FaultKind.TheVariants as fault
use Rattle.sv_states.specs.declared.error.AssignError.{AssignError}
use Rattle.sv_states.specs.declared.error.AssignError.TheVariants.{ReadOnly, NotAStore, NoMemory}
use Rattle.sv_meaning.specs.Outcome.{Fails, Deed}

-- what is done where nothing speaks against it: a derived store has no method that sets it, and want of memory is no fault of a script
abbrev pub unless : {A : Type 0} → Option AssignError → Span → Deed A → Deed A
unless None s d w = d w
unless (Some ReadOnly) s d w = Fails fault.NoMember s w
unless (Some NotAStore) s d w = Fails fault.NotAStore s w
unless (Some NoMemory) s d w = d w
