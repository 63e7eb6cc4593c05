-- The first page: what is shown once the root is created, before any flush.
use Rattle.std.specs.Prelude.{◌≡◌, ◌++◌, [], ◌∷◌, None, true, false}
use Rattle.sv_code.specs.declared.program.Program.{Program}
use Rattle.sv_document.specs.Printed.{html}
use Rattle.sv_flush.specs.Creation.{mounted}
use Rattle.sv_flush.specs.Outcome.{Outcome, Done, Halted}
use Rattle.sv_flush.specs.Page.{blank, begun}
use Rattle.sv_flush.specs.declared.page.Page.{Page}
use Rattle.sv_fresh.specs.Fresh.{drawn, fresh}
use Rattle.sv_play.specs.Refused.{refused_line}
use Rattle.sv_play.specs.Run.{Printed}

-- the page that patches recorded, or why there is none
abbrev pub page_of : Program → Outcome (Unit {0}) → Printed
page_of p (Done u m) = record { text = html None (drawn p m.world m.showing) ++ 10 ∷ []; refused = false }
page_of p (Halted r m) = record { text = refused_line p r; refused = true }

-- what is printed: the module files run, and the root is made with all below it
unfoldable pub first_page : Program → Printed
first_page p = page_of p (mounted p (begun blank))

-- where nobody waits then, the page is the fresh one of the present states
abbrev pub IsFreshWhereIdle : Program → Type 0
IsFreshWhereIdle p =
    (m : Page) → mounted p (begun blank) ≡ Done tt m → m.world.states.queue ≡ [] → first_page p ≡ record { text = html None (fresh p m.world m.showing) ++ 10 ∷ []; refused = false }
