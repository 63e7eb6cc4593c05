-- How views come to agree: nothing moved between them, or they agree back, or by way of a third one.
use Rattle.std.specs.Prelude.{◌≡◌, ℕ, false, List, Option}
use Rattle.sv_agree.specs.Agreeing.{AgreesFor}
use Rattle.sv_agree.specs.Scopes.{Scope, only, AgreesAt}
use Rattle.sv_code.specs.declared.fragments.Frag.{Frag}
use Rattle.sv_code.specs.declared.parts.Reading.{Reading}
use Rattle.sv_code.specs.declared.program.Program.{Program}
use Rattle.sv_local.specs.Versions.{AreVersions}
use Rattle.sv_meaning.specs.Moved.{moved}
use Rattle.sv_right.specs.Drawing.{AreAllAlike}
use Rattle.sv_view.specs.Level.{View}

-- where equal versions mean equal values, views agree at what a reading has if nothing of that moved
abbrev pub StillViewsAgree : Type 0
StillViewsAgree = (reads : Reading) (v v' : View) → AreVersions v v' → moved reads v v' ≡ false → AgreesAt (only reads) v v'

-- where a view agrees with another one, that agrees with it
abbrev pub ViewsAgreeBack : Type 0
ViewsAgreeBack = (p : Program) (depth : ℕ) (scope : Scope) (tags tags' : List (Option ℕ)) (frags : List Frag) (v v' : View) → AgreesFor p depth scope tags tags' frags v v' →
    AgreesFor p depth scope tags' tags frags v' v

-- a view that agrees with one that agrees with a third agrees with that
abbrev pub ViewsAgreeInTurn : Type 0
ViewsAgreeInTurn = (p : Program) (depth : ℕ) (scope : Scope) (tags tags' tags'' : List (Option ℕ)) (frags : List Frag) (v v' v'' : View) → AgreesFor p depth scope tags tags' frags v v' →
    AgreesFor p depth scope tags' tags'' frags v' v'' → AgreesFor p depth scope tags tags'' frags v v''

-- a view that agrees with another one agrees with each that gives the same values as that
abbrev pub AlikeViewsAgree : Type 0
AlikeViewsAgree = (p : Program) (depth : ℕ) (scope : Scope) (tags tags' : List (Option ℕ)) (frags : List Frag) (v v' v'' : View) → AgreesFor p depth scope tags tags' frags v v' → AreAllAlike v' v'' →
    AgreesFor p depth scope tags tags' frags v v''
