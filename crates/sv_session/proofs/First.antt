-- The first page is the fresh one where nobody waits.
use Rattle.std.proofs.Common.{◌≡◌, []}
use Rattle.sv_code.specs.declared.program.Program.{Program}
use Rattle.sv_flush.specs.Creation.{mounted}
use Rattle.sv_flush.specs.Outcome.{Done}
use Rattle.sv_flush.specs.Page.{blank, begun}
use Rattle.sv_flush.specs.declared.page.Page.{Page}
use Rattle.sv_fresh.specs.Fresh.{drawn, fresh}
use Rattle.sv_shown.proofs.First.{first_fresh}
use Rattle.sv_shown.proofs.Whole.{shown_course}
use Rattle.sv_within.specs.Runnable.{IsRunnable}

pub first_page_fresh : (p : Program) → IsRunnable p → (m : Page) → mounted p (begun blank) ≡ Done tt m → m.world.states.queue ≡ [] → drawn p m.world m.showing ≡ fresh p m.world m.showing
first_page_fresh p h m = first_fresh p h.compiled h.keys (λ ms. shown_course p ms h.compiled h.keys) m
