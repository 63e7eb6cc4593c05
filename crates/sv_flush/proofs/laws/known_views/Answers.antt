use Rattle.sv_flush.proofs.Knowing.{present_known, shown_known, locals_known, content_known}
use Rattle.sv_flush.proofs.laws.known_views.Goals as goal

pub returns : goal.returns
returns c = record { present = present_known; shown = shown_known; locals = locals_known; content = content_known }
