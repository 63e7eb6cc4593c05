-- What code answers, and leaves, against a step. There may be no memory, and nothing is said of what is left then.
use Rattle.std.specs.Prelude.{◌≡◌, Result, Ok, Err}
use Rattle.sv_flush.specs.Outcome.{Outcome, Done, Halted}
use Rattle.sv_flush.specs.declared.page.Page.{Page}
use Rattle.sv_parts.specs.declared.refusal.PatchError.{PatchError}
use Rattle.sv_parts.specs.declared.refusal.PatchError.TheVariants.{Refused, NoMemory}

abbrev pub MeetsBody : {A : Type 0} → Result A PatchError → Page → Outcome A → Type 0
MeetsBody (Ok a) m o = o ≡ Done a m
MeetsBody (Err (Refused r)) m o = o ≡ Halted r m
MeetsBody (Err NoMemory) m o = Unit {0}

pub record Meets {A : Type 0} (result : Result A PatchError) (page : Page) (outcome : Outcome A) : Type 0 where
  pub meets : MeetsBody result page outcome
