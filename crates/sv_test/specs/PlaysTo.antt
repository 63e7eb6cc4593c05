-- What code answers of a test that it plays.
use Rattle.std.specs.Prelude.{◌≡◌, Result, Ok, Err}
use Rattle.sv_checks.specs.Report.{Report}
use Rattle.sv_session.specs.declared.stage.TurnError.{TurnError}
use Rattle.sv_session.specs.declared.stage.TurnError.TheVariants as error
use Rattle.sv_test.specs.Tested.{Played, Ends, Stops}

abbrev pub PlaysToBody : Result (Unit {0}) TurnError → Report → Played → Type 0
PlaysToBody (Ok u) report wanted = wanted ≡ Ends report
PlaysToBody (Err (error.Refused r)) report wanted = wanted ≡ Stops r report
PlaysToBody (Err error.Stopped) report wanted = ⊥
PlaysToBody (Err error.NoMemory) report wanted = Unit {0}

pub record PlaysTo (result : Result (Unit {0}) TurnError) (report : Report) (wanted : Played) : Type 0 where
  pub plays : PlaysToBody result report wanted
