use Rattle.std.proofs.Common.{◌≡◌, ◌++◌, true, drop}
use Rattle.sv_select.specs.Reach.{on_page}
use Rattle.sv_select.proofs.reach.on_page.Given as goal

abbrev pub invariant-loop-link : goal.invariant-loop-link
invariant-loop-link l = on_page true l.links ≡ l.reached.items ++ on_page l.here (drop l._link-index l.links)
