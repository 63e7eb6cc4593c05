-- What is shown of instances, against what evaluations give.
use Rattle.std.specs.Prelude.{◌≡◌, ℕ, Some}
use Rattle.sv_code.specs.Within.{ArePartsWithin}
use Rattle.sv_code.specs.declared.program.Program.{Program}
use Rattle.sv_flush.specs.Creation.{mounted}
use Rattle.sv_flush.specs.Outcome.{Done}
use Rattle.sv_flush.specs.Page.{begun, blank}
use Rattle.sv_flush.specs.Showing.{tags_of}
use Rattle.sv_flush.specs.declared.page.Page.{Page}
use Rattle.sv_meaning.specs.Components.{component_of, markup_of}
use Rattle.sv_right.specs.Right.{AreRight}
use Rattle.sv_shapes.specs.Showing.{shown_of}
use Rattle.sv_shapes.specs.declared.shown.Shown.{Shown}
use Rattle.sv_within.specs.Keys.{AreAllKeysSeen}

-- an instance is shown right: what is held of its markup is what an evaluation gives, on the view on which it is shown
abbrev pub IsShownRight : Program → Page → ℕ → Shown → Type 0
IsShownRight p m n x = AreRight p (tags_of m.world x.view) (markup_of (component_of p m.world n)) x.view x.parts

-- so it is of each instance that is shown on a page
abbrev pub AreShownRight : Program → Page → Type 0
AreShownRight p m = (n : ℕ) (x : Shown) → shown_of m.showing n ≡ Some x → IsShownRight p m n x

-- where parts read nothing but what they look at, and lists look at what the keys of their rows look at, each instance is shown right on the page
-- that begins with nothing, once the module files ran and the root was made with all below it
abbrev pub FirstPageIsRight : Type 0
FirstPageIsRight = (p : Program) (m : Page) → ArePartsWithin p → AreAllKeysSeen p → mounted p (begun blank) ≡ Done tt m → AreShownRight p m
