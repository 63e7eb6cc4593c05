-- The first page is what evaluations give on the cells that snapshots saw.
use Rattle.std.specs.Prelude.{◌≡◌, Option, option_map}
use Rattle.sv_alike.specs.Views.{Views, evaluated_page}
use Rattle.sv_code.specs.Compiled.{IsCompiled}
use Rattle.sv_code.specs.Content.{AreContentsSeen}
use Rattle.sv_code.specs.Within.{ArePartsWithin}
use Rattle.sv_code.specs.declared.program.Program.{Program}
use Rattle.sv_flush.specs.Creation.{mounted}
use Rattle.sv_flush.specs.Outcome.{Done}
use Rattle.sv_flush.specs.Page.{begun, blank}
use Rattle.sv_flush.specs.declared.page.Page.{Page}
use Rattle.sv_fresh.specs.Fresh.{drawn}
use Rattle.sv_shapes.specs.Showing.{Showing, shown_of}
use Rattle.sv_shapes.specs.declared.shown.Shown.{Shown}
use Rattle.sv_view.specs.Level.{View}
use Rattle.sv_view.specs.View.{levels_of}
use Rattle.sv_within.specs.Keys.{AreAllKeysSeen}

-- the view on which an instance was shown, before an owner's
abbrev pub seen_before : Option View → Shown → View
seen_before owner x = record x.view { owners = levels_of owner }

-- the views of instances on the cells on which they were shown
abbrev pub seen_views : Showing → Views
seen_views s owner n = option_map (seen_before owner) (shown_of s n)

-- the page that begins with nothing is, once the root was made with all below it, what evaluations give on those views
abbrev pub FirstPageIsSeen : Type 0
FirstPageIsSeen = (p : Program) (m : Page) → IsCompiled p → ArePartsWithin p → AreContentsSeen p → AreAllKeysSeen p → mounted p (begun blank) ≡ Done tt m →
    drawn p m.world m.showing ≡ evaluated_page p m.world m.showing (seen_views m.showing)
