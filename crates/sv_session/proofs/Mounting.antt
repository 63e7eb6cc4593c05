-- What mounting a new session is.
use Rattle.std.proofs.Common.{◌≡◌, Result, subst}
use Rattle.sv_page.specs.Turns.{first_turn}
use Rattle.sv_session.specs.Plays.{Plays, MountsAt, Mounts, program_of}
use Rattle.sv_session.specs.declared.session.Session.{Session}
use Rattle.sv_session.specs.declared.stage.Stage.TheVariants.{New}
use Rattle.sv_session.specs.declared.stage.TurnError.{TurnError}
use Rattle.sv_session.specs.declared.stage.Turned.{Turned}

pub mounts-new : (old new : Session) (r : Result Turned TurnError) → old.stage ≡ New → Mounts r old new → Plays r old new (first_turn (program_of old) old.page)
mounts-new old new r is h = subst (λ stage. MountsAt stage r old new) is h
