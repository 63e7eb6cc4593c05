-- The first of some mistakes.
use Rattle.std.specs.Prelude.{◌≡◌, ◌<◌, ◌≤◌, List, [], ◌∷◌, ◌++◌, All, Option, None, Some, nat_lt, if◌then◌else◌}
use Rattle.sv_resolve.specs.declared.refusals.CheckError.{CheckError}
use Rattle.sv_resolve.specs.declared.refusals.CheckError.TheVariants.{Refused, NoMemory}
use Rattle.sv_resolve.specs.declared.refusals.CheckRefusal.{CheckRefusal}

-- the earlier of two mistakes, of which the second may be the only one
abbrev pub earlier : Option CheckRefusal → CheckRefusal → Option CheckRefusal
earlier None next = Some next
earlier (Some first) next = if nat_lt next.at.from first.at.from then Some next else Some first

-- it begins before all that stand before it in the list, and no later than those behind it
pub record IsEarliest (first : CheckRefusal) (list : List CheckRefusal) : Type 0 where
  pub front : List CheckRefusal
  pub back : List CheckRefusal
  pub stands : list ≡ front ++ first ∷ back
  pub before : All (λ other. first.at.from < other.at.from) front
  pub behind : All (λ other. first.at.from ≤ other.at.from) back

-- the first, where there is one
abbrev pub IsFirst : Option CheckRefusal → List CheckRefusal → Type 0
IsFirst None list = list ≡ []
IsFirst (Some first) list = IsEarliest first list

-- why a file is refused
abbrev pub IsCause : List CheckRefusal → CheckError → Type 0
IsCause list (Refused first) = IsEarliest first list
IsCause list NoMemory = Unit {0}
