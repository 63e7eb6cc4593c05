-- Errors of patches as those of turns.
use Rattle.sv_parts.specs.declared.refusal.PatchError.{PatchError}
use Rattle.sv_parts.specs.declared.refusal.PatchError.TheVariants as patch
use Rattle.sv_session.specs.declared.stage.TurnError.{TurnError}
use Rattle.sv_session.specs.declared.stage.TurnError.TheVariants as turn

abbrev pub of_patch : PatchError → TurnError
of_patch (patch.Refused r) = turn.Refused r
of_patch patch.NoMemory = turn.NoMemory
