-- Parts: the expressions of markup, evaluated, and the texts of what they give.
use Rattle.std.specs.Prelude.{ℕ, ◌+◌, List, Option, Some, None, Result, Ok, Err, if◌then◌else◌}
use Rattle.sv_code.specs.declared.parts.Part.{Part}
use Rattle.sv_code.specs.declared.program.Program.{Program}
use Rattle.sv_meaning.specs.Parts.{part_value}
use Rattle.sv_ops.specs.declared.faults.Fault as faults
use Rattle.sv_ops.specs.declared.faults.FaultKind.{FaultKind}
use Rattle.sv_ops.specs.declared.faults.FaultKind.TheVariants.{NotText}
use Rattle.sv_parts.specs.Sides.{Sides, moved}
use Rattle.sv_parts.specs.State.{Outcome, Run, andThen, numbered}
use Rattle.sv_parts.specs.declared.refusal.Refusal.TheVariants.{Fault}
use Rattle.sv_parts.specs.declared.state.State.{State}
use Rattle.sv_shapes.specs.Shapes.{Opened, mark_in, text_in}
use Rattle.sv_shapes.specs.declared.shape.Shape.{Shape}
use Rattle.sv_shapes.specs.declared.shape.Shape.TheVariants as shape
use Rattle.sv_value.specs.Value.{Val}
use Rattle.sv_value.specs.Words.{text_of}

-- a fault at the place of a part
abbrev pub faulted : {A : Type 0} → FaultKind → Part → Outcome A
faulted kind part = Err (Fault (record { kind = kind; span = part.span }))

-- one more part was evaluated
abbrev pub counted : State → State
counted s = record s { tally = record { count = s.tally.count + 1 } }

-- what an evaluation gives
abbrev pub valued : Result Val faults.Fault → Run Val
valued (Ok v) s = Ok (v, counted s)
valued (Err fault) s = Err (Fault fault)

-- a part is evaluated
abbrev pub evaluated : Program → Part → Sides → Run Val
evaluated p part at s = valued (part_value p at.new part) s

-- a text that is there
abbrev pub given_text : Part → Option (List ℕ) → Run (List ℕ)
given_text part None s = faulted NotText part
given_text part (Some text) s = Ok (text, s)

-- the text of a part
abbrev pub text_of_part : Program → Part → Sides → Run (List ℕ)
text_of_part p part at s = andThen (evaluated p part at s) (λ v u. given_text part (text_of v) u)

-- what a part came to before stays where nothing that it looks at moved
abbrev pub renewed : {A : Type 0} → Part → Run A → Option A → Sides → Run A
renewed part anew None at s = anew s
renewed part anew (Some old) at s = if moved part.reads at then anew s else Ok (old, s)

-- the text of a part that had one, or none
abbrev pub text_step : Program → Part → Option (List ℕ) → Sides → Run (List ℕ)
text_step p part old at s = renewed part (text_of_part p part at) old at s

-- ---- texts of the page

-- the mark that a text had, or a new one
abbrev pub marked : Option ℕ → Run ℕ
marked None s = numbered s
marked (Some mark) s = Ok (mark, s)

-- a text that is written
abbrev pub literal_step : Option ℕ → Run Shape
literal_step old s = andThen (marked old s) (λ mark u. Ok (shape.Literal mark, u))

-- the text of an expression
abbrev pub show_step : Program → Part → Sides → Opened → Run Shape
show_step p part at old s = andThen (text_step p part (text_in old) at s) (λ text v. andThen (marked (mark_in old) v) (λ mark u. Ok (shape.Text mark text, u)))
