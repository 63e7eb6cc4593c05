use Rattle.std.proofs.Common.{◌≡◌, [], drop}
use Rattle.sv_slots.specs.Sheets.{with_slots}
use Rattle.sv_slots.proofs.sheets.slots_of.Given as goal

abbrev pub invariant-loop-site : goal.invariant-loop-site
invariant-loop-site l = with_slots [] l.sites ≡ with_slots l.slots (drop l.site-index l.sites)
