use Rattle.std.proofs.Common.{◌≡◌, drop}
use Rattle.sv_flush.specs.Showing.{tags_kept}
use Rattle.sv_flush.proofs.show.keep_tags.Given as goal

abbrev pub invariant-loop-one : goal.invariant-loop-one
invariant-loop-one l = tags_kept l.showing l.kept l.fn.world ≡ tags_kept l.showing (drop l.one-index l.kept) l.world
