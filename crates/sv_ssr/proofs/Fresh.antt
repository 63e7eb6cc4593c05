-- The first page is the fresh one where nobody waits.
use Rattle.std.proofs.Common.{◌≡◌, List, [], ◌∷◌, ◌++◌, None, false, ap, ◌∙◌}
use Rattle.sv_code.specs.declared.program.Program.{Program}
use Rattle.sv_document.specs.Printed.{html}
use Rattle.sv_document.specs.declared.tree.Node.{Node}
use Rattle.sv_flush.specs.Creation.{mounted}
use Rattle.sv_flush.specs.Outcome.{Done}
use Rattle.sv_flush.specs.Page.{blank, begun}
use Rattle.sv_flush.specs.declared.page.Page.{Page}
use Rattle.sv_fresh.specs.Fresh.{fresh}
use Rattle.sv_play.specs.Run.{Printed}
use Rattle.sv_session.proofs.First.{first_page_fresh}
use Rattle.sv_ssr.specs.First.{page_of, first_page, IsFreshWhereIdle}
use Rattle.sv_within.specs.Runnable.{IsRunnable}

-- what is printed of nodes
abbrev printed_of : List Node → Printed
printed_of nodes = record { text = html None nodes ++ 10 ∷ []; refused = false }

pub first_is_fresh : (p : Program) → IsRunnable p → IsFreshWhereIdle p
unfolding first_page
first_is_fresh p h m is idle = ap (page_of p) is ∙ ap printed_of (first_page_fresh p h m is idle)
