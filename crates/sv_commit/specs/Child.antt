-- Places inside what is shown.
use Rattle.std.specs.Prelude.{◌≤◌, ℕ, List, ◌∷◌, ◌++◌, Option, Some, None}
use Rattle.sv_tokens.specs.Counting.{times}
use Rattle.sv_tokens.specs.Token.{Name, Page, begins}
use Rattle.sv_live.specs.declared.live.Named.{Named}
use Rattle.sv_live.specs.declared.live.Live.{Live}
use Rattle.sv_live.specs.declared.live.Live.TheVariants as live
use Rattle.sv_live.specs.declared.node.Own.{Own}
use Rattle.sv_live.specs.Shown.{name_of}
use Rattle.sv_live.specs.Stands.{State, Stands, Becomes}

-- what a child component shows stands before its anchor
abbrev pub IsChildPlace : Type 0
IsChildPlace = (page : Page) (above : Name) (end : Option ℕ) (front back : List Live) (place anchor : ℕ) (parts : List Live) → Stands page above end (front ++ live.Hole place anchor parts ∷ back) → Stands page above (Some anchor) parts

-- what becomes of that becomes of all that stands there
abbrev pub IsChildAlone : Type 0
IsChildAlone = (old new : State) (above : Name) (end : Option ℕ) (front back : List Live) (place anchor : ℕ) (parts now : List Live) → Becomes old new above (Some anchor) parts now
    → Becomes old new above end (front ++ live.Hole place anchor parts ∷ back) (front ++ live.Hole place anchor now ∷ back)

-- what is in an element stands at its end, where no two nodes have one key
abbrev pub IsElementPlace : Type 0
IsElementPlace = (page : Page) (above : Name) (end : Option ℕ) (front back : List Live) (n : Named) (own : Own) (parts : List Live) → ((key : ℕ) → times (begins key) page.tokens ≤ 1) → Stands page above end (front ++ live.Element n own parts ∷ back)
    → Stands page (name_of n) None parts

-- what becomes of that becomes of all that stands there
abbrev pub IsElementAlone : Type 0
IsElementAlone = (old new : State) (above : Name) (end : Option ℕ) (front back : List Live) (n : Named) (own : Own) (parts now : List Live) → Becomes old new (name_of n) None parts now
    → Becomes old new above end (front ++ live.Element n own parts ∷ back) (front ++ live.Element n own now ∷ back)
