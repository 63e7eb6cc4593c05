-- The patch of an instance: from what was shown of it before to its present view.
use Rattle.std.specs.Prelude.{◌≡◌, ℕ, List, [], Option, Some, None, Result, Ok, Err}
use Rattle.sv_code.specs.declared.fragments.Frag.{Frag}
use Rattle.sv_code.specs.declared.program.Program.{Program}
use Rattle.sv_plan.specs.Plan.{plan_all}
use Rattle.sv_parts.specs.State.{Outcome, Run}
use Rattle.sv_parts.specs.declared.counters.Counters.{Counters}
use Rattle.sv_plan.specs.declared.instance.Patched.{Patched}
use Rattle.sv_parts.specs.declared.refusal.PatchError.{PatchError}
use Rattle.sv_parts.specs.declared.refusal.PatchError.TheVariants.{Refused, NoMemory}
use Rattle.sv_parts.specs.declared.refusal.Refusal.{Refusal}
use Rattle.sv_parts.specs.declared.state.Effect.{Effect}
use Rattle.sv_parts.specs.declared.state.Kept.{Kept}
use Rattle.sv_parts.specs.declared.state.State.{State}
use Rattle.sv_parts.specs.declared.tally.Tally.{Tally}
use Rattle.sv_shapes.specs.Showing.{Showing, shown_of, recorded}
use Rattle.sv_shapes.specs.declared.shape.Shape.{Shape}
use Rattle.sv_shapes.specs.declared.shown.Shown.{Shown}
use Rattle.sv_view.specs.Level.{View}

-- the view on which an instance was shown before; where it wasn't, the present one, which isn't looked at as the old one
abbrev pub old_view : Option Shown → View → View
old_view None view = view
old_view (Some shown) view = shown.view

-- what was shown of it
abbrev pub old_parts : Option Shown → List Shape
old_parts None = []
old_parts (Some shown) = shown.parts

-- what is planned for an instance with this markup: the tags are those with which it and its owners stand in the markup of their owners
unfoldable pub planned : Program → List (Option ℕ) → List Frag → Option Shown → View → Run (List Shape)
planned p tags markup shown view s = plan_all p tags markup (record { old = old_view shown view; new = view }) (old_parts shown) s

-- a plan begins with the work that is left and the next number
abbrev pub begun : Counters → Tally → State
begun counters tally = record { counters = counters; tally = tally; effects = []; kept = [] }

-- what a patch leaves: its effects, the places that stay, what is shown now, and what is left
pub record After : Type 0 where
  pub effects : List Effect
  pub kept : List Kept
  pub showing : Showing
  pub counters : Counters
  pub tally : Tally

abbrev pub ended : Showing → ℕ → View → Outcome (List Shape) → Result After Refusal
ended page n view (Ok x) = Ok (record {
  effects = x.1.effects;
  kept = x.1.kept;
  showing = recorded page n view x.0;
  counters = x.1.counters;
  tally = x.1.tally;
})
ended page n view (Err r) = Err r

-- the patch of an instance with a number
unfoldable pub patched : Program → List (Option ℕ) → ℕ → List Frag → View → Showing → Counters → Tally → Result After Refusal
patched p tags n markup view page counters tally = ended page n view (planned p tags markup (shown_of page n) view (begun counters tally))

-- what code answers, and leaves, against that: there may be no memory
abbrev pub Patches : Result Patched PatchError → Showing → Counters → Tally → Result After Refusal → Type 0
Patches (Ok x) page counters tally wanted = wanted ≡ Ok (record { effects = x.effects; kept = x.kept; showing = page; counters = counters; tally = tally })
Patches (Err (Refused r)) page counters tally wanted = wanted ≡ Err r
Patches (Err NoMemory) page counters tally wanted = Unit {0}
