-- The lines over what is printed.
use Rattle.std.specs.Prelude.{ℕ, List, [], ◌∷◌, ◌++◌, Bool, codes, decimal, if◌then◌else◌}

-- what is said of a turn whose event finds no target
abbrev pub note : Bool → List ℕ
note target = if target then [] else codes " (no target)"

-- the line of a turn by its number
unfoldable pub turn_line : ℕ → Bool → List ℕ
turn_line number target = codes "turn " ++ (decimal number ++ (note target ++ 10 ∷ []))

-- the line over what a watcher reports, by its place
unfoldable pub watch_line : ℕ → List ℕ
watch_line number = codes "watch " ++ (decimal number ++ 10 ∷ [])
