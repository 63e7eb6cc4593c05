-- What the steps of a test do, once their selectors are read.
use Rattle.std.specs.Prelude.{ℕ, ◌+◌, List, [], ◌∷◌, ◌++◌, Option, None, Some, Result, Ok, Err}
use Rattle.sv_events.specs.declared.event.Event.{Event}
use Rattle.sv_select.specs.Grammar.{selector_of}
use Rattle.sv_select.specs.declared.selector.Selector.{Selector}
use Rattle.sv_steps.specs.declared.step.Expectation.{Expectation}
use Rattle.sv_steps.specs.declared.step.Step.{Step}
use Rattle.sv_steps.specs.declared.step.Step.TheVariants as step
use Rattle.sv_steps.specs.declared.step.Want.{Want}

-- an event comes to the page, or something is wanted of the elements that match a selector
pub data Deed : Type 0 where
  Comes : (event : Event) → Deed
  Checks : (selector : Selector) (want : Want) → Deed

-- deeds, or the number of the first step whose selector is none
abbrev pub Deeds : Type 0
Deeds = Result (List Deed) ℕ

-- a check, where its selector is one
abbrev pub check_with : (at : ℕ) → Option Selector → Want → Result Deed ℕ
check_with at None want = Err at
check_with at (Some selector) want = Ok (Checks selector want)

abbrev pub check_of : (at : ℕ) → Expectation → Result Deed ℕ
check_of at x = check_with at (selector_of x.selector) x.want

-- the deed of a step with a number
abbrev pub deed_of : (at : ℕ) → Step → Result Deed ℕ
deed_of at (step.Event event) = Ok (Comes event)
deed_of at (step.Expect x) = check_of at x

-- deeds with some before them
abbrev pub behind : List Deed → Deeds → Deeds
behind deeds (Ok more) = Ok (deeds ++ more)
behind deeds (Err at) = Err at

-- a deed before others, or the first step that is wrong
abbrev pub first_then : Result Deed ℕ → Deeds → Deeds
first_then (Ok deed) deeds = behind (deed ∷ []) deeds
first_then (Err at) deeds = Err at

-- the deeds of steps that are counted from this number on
abbrev pub deeds_from : (at : ℕ) → List Step → Deeds
deeds_from at [] = Ok []
deeds_from at (s ∷ steps) = first_then (deed_of at s) (deeds_from (at + 1) steps)
