-- The lines of a turn.
use Rattle.std.specs.Prelude.{ℕ, List, [], ◌∷◌, ◌++◌, Bool, codes, decimal, flat_map, if◌then◌else◌}
use Rattle.sv_session.specs.declared.stage.Turned.{Turned}

-- what is said of a turn whose event finds no target
abbrev pub note : Bool → List ℕ
note target = if target then [] else codes " (no target)"

-- the line of a turn by its number
unfoldable pub turn_line : ℕ → Bool → List ℕ
turn_line number target = codes "turn " ++ (decimal number ++ (note target ++ 10 ∷ []))

-- a line that a script logged
unfoldable pub log_line : List ℕ → List ℕ
log_line text = codes "log: " ++ (text ++ 10 ∷ [])

-- what was logged, where it is asked for
abbrev pub log_lines : Bool → List (List ℕ) → List ℕ
log_lines asked lines = if asked then flat_map log_line lines else []

-- the line behind a page: how many expressions of markup were evaluated, and how many instances and subscriptions there are
unfoldable pub tally_line : Turned → List ℕ
tally_line t =
    codes "tally " ++ (decimal t.evaluations ++ (codes " instances " ++ (decimal t.instances ++ (codes " subscriptions " ++ (decimal t.subscriptions ++ 10 ∷ [])))))

-- the line for the sums of a run: how many events came, how many expressions were evaluated, and how long the last page is
unfoldable pub summary_line : (count evaluations bytes : ℕ) → List ℕ
summary_line count evaluations bytes =
    codes "gen " ++ (decimal count ++ (codes ": " ++ (decimal count ++ (codes " turns, " ++ (decimal evaluations ++ (codes " evaluations, " ++ (decimal bytes ++ codes " bytes\n")))))))
