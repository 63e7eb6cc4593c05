-- What code answers of deeds.
use Rattle.std.specs.Prelude.{◌≡◌, map, Result, Ok, Err, Vec, ⊤}
use Rattle.std.specs.Prelude.{ℕ}
use Rattle.std.specs.declared.alloc.Global.{Global}
use Rattle.sv_checks.specs.Deeds.{Deed, Comes, Checks, Deeds}
use Rattle.sv_checks.specs.declared.deed.Deed.{Deed as Own}
use Rattle.sv_checks.specs.declared.deed.Deed.TheVariants as own
use Rattle.sv_checks.specs.declared.deed.DeedError.{DeedError}
use Rattle.sv_checks.specs.declared.deed.DeedError.TheVariants.{BadSelector, NoMemory}

-- what a deed of code stands for
abbrev pub seen : Own → Deed
seen (own.Event event) = Comes event.now
seen (own.Check check) = Checks check.selector check.want.now

-- it answers the first wrong step, or finds no memory
abbrev pub Fails : {A : Type 0} → DeedError → Result A ℕ → Type 0
Fails (BadSelector at) told = told ≡ Err at
Fails NoMemory told = ⊤

abbrev pub TellsOne : Result Own DeedError → Result Deed ℕ → Type 0
TellsOne (Ok deed) told = told ≡ Ok (seen deed)
TellsOne (Err error) told = Fails error told

abbrev pub Tells : Result (Vec Own Global) DeedError → Deeds → Type 0
Tells (Ok deeds) told = told ≡ Ok (map seen deeds.items)
Tells (Err error) told = Fails error told
