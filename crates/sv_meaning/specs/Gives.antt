-- What code answers, and leaves, against what is meant. There may be no memory, and nothing is said of what is left then.
use Rattle.std.specs.Prelude.{◌≡◌, Result, Ok, Err}
use Rattle.sv_base.specs.declared.span.Span.{Span}
use Rattle.sv_ops.specs.declared.faults.Fault.{Fault as FaultAt}
use Rattle.sv_ops.specs.declared.faults.FaultKind.TheVariants.{NoMember, NotAStore}
use Rattle.sv_states.specs.declared.error.AssignError.{AssignError}
use Rattle.sv_states.specs.declared.error.AssignError.TheVariants as refused
use Rattle.sv_value.specs.Value.{Val}
use Rattle.sv_value.specs.View.{view_of}
use Rattle.sv_value.specs.declared.value.Value.{Value}
use Rattle.sv_world.specs.declared.world.World.{World}
use Rattle.sv_meaning.specs.Env.{Env}
use Rattle.sv_meaning.specs.Outcome.{Ending, Ends, Fails, Outcome, Done, Failed, Flow, Next, Broken, Continued, Returned}
use Rattle.sv_meaning.specs.declared.declarations.End.{End}
use Rattle.sv_meaning.specs.declared.declarations.End.TheVariants as end
use Rattle.sv_meaning.specs.declared.errors.EvalError.{EvalError}
use Rattle.sv_meaning.specs.declared.errors.EvalError.TheVariants.{Fault, NoMemory}

module _ {A B : Type 0} (shows : A → B) where
  abbrev pub Gives : Result A EvalError → Env → World → Outcome B → Type 0
  Gives (Ok a) env w o = o ≡ Done (shows a) env w
  Gives (Err (Fault f)) env w o = o ≡ Failed f.kind f.span w
  Gives (Err NoMemory) env w o = Unit {0}

  abbrev pub EndsAs : Result A EvalError → World → Ending B → Type 0
  EndsAs (Ok a) w e = e ≡ Ends (shows a) w
  EndsAs (Err (Fault f)) w e = e ≡ Fails f.kind f.span w
  EndsAs (Err NoMemory) w e = Unit {0}

-- the value of a pure evaluation
abbrev pub Evaluates : Result Value EvalError → Result Val FaultAt → Type 0
Evaluates (Ok v) r = r ≡ Ok (view_of v)
Evaluates (Err (Fault f)) r = r ≡ Err f
Evaluates (Err NoMemory) r = Unit {0}

-- how a statement ends
abbrev pub flow_of : End → Flow
flow_of end.Next = Next
flow_of end.Broken = Broken
flow_of end.Continued = Continued
flow_of (end.Returned v) = Returned (view_of v)

-- what an assignment at a place answers
abbrev pub assigned_at : Span → Result (Unit {0}) AssignError → Result (Unit {0}) EvalError
assigned_at s (Ok u) = Ok u
assigned_at s (Err refused.ReadOnly) = Err (Fault (record { kind = NoMember; span = s }))
assigned_at s (Err refused.NotAStore) = Err (Fault (record { kind = NotAStore; span = s }))
assigned_at s (Err refused.NoMemory) = Err NoMemory
