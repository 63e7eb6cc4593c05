-- What code answers against the sums of a run.
use Rattle.std.specs.Prelude.{◌≡◌, Result, Ok, Err}
use Rattle.sv_parts.specs.declared.refusal.Refusal.{Refusal}
use Rattle.sv_play.specs.declared.summary.Sums.{Sums}
use Rattle.sv_session.specs.declared.stage.TurnError.{TurnError}
use Rattle.sv_session.specs.declared.stage.TurnError.TheVariants as error

abbrev pub SumsToBody : Result Sums TurnError → Result Sums Refusal → Type 0
SumsToBody (Ok sums) wanted = wanted ≡ Ok sums
SumsToBody (Err (error.Refused r)) wanted = wanted ≡ Err r
SumsToBody (Err error.Stopped) wanted = ⊥
SumsToBody (Err error.NoMemory) wanted = Unit {0}

pub record SumsTo (result : Result Sums TurnError) (wanted : Result Sums Refusal) : Type 0 where
  pub sums : SumsToBody result wanted
