-- What stays keeps its node: what shows a mark stands in the node in which that mark stood, or in a new one.
use Rattle.std.specs.Prelude.{◌≡◌, ◌≤◌, ℕ, List, [], ◌∷◌, ◌++◌, Option, Some, None}
use Rattle.sv_tokens.specs.Counting.{times}
use Rattle.sv_live.specs.declared.live.Named.{Named}
use Rattle.sv_live.specs.declared.live.Live.{Live}
use Rattle.sv_live.specs.declared.live.Live.TheVariants as live
use Rattle.sv_live.specs.declared.node.Own.{Own}
use Rattle.sv_live.specs.Known.{Seat, number, answers, known, text_node, element_node, inside, seat}

-- the node that was there, or a new one, whose serial number is none that was given before the next one
abbrev pub IsNamed : (next : ℕ) → Option Named → Named → Type 0
IsNamed next (Some was) n = n ≡ was
IsNamed next None n = next ≤ n.serial

-- the seat that was there, with what its child shows, or a new one, whose child shows nothing
abbrev pub IsSeated : Option Seat → Seat → Type 0
IsSeated (Some was) now = now ≡ was
IsSeated None now = now.parts ≡ []

-- it is the only one of them that is known by its number
pub record IsSole (l : Live) (lives : List Live) : Type 0 where
  pub front : List Live
  pub back : List Live
  pub is : lives ≡ front ++ l ∷ back
  pub ahead : times (answers (number l)) front ≡ 0
  pub behind : times (answers (number l)) back ≡ 0

-- What is shown follows what was known there by its number. A text stands in the node of that text. An element stands in the node of that element, if
-- it had this name, and so it is with all that is inside it. A child component stands where it stood, with all that it shows.
pub data IsKept : (next : ℕ) (was : Option Live) (now : Live) → Type 0 where
  kept_text : (next : ℕ) (was : Option Live) (mark : ℕ) (n : Named) (text : List ℕ) → IsNamed next (text_node was) n → IsKept next was (live.Text mark n text)
  kept_element : (next : ℕ) (was : Option Live) (n : Named) (own : Own) (parts : List Live) → IsNamed next (element_node own.name was) n
      → ((l : Live) → IsSole l parts → IsKept next (known (number l) (inside own.name was)) l) → IsKept next was (live.Element n own parts)
  kept_hole : (next : ℕ) (was : Option Live) (place anchor : ℕ) (parts : List Live) → IsSeated (seat was) (record { anchor = anchor; parts = parts }) → IsKept next was (live.Hole place anchor parts)

-- each that is the only one with its number follows what was known there by that number
abbrev pub AreKept : (next : ℕ) (was now : List Live) → Type 0
AreKept next was now = (l : Live) → IsSole l now → IsKept next (known (number l) was) l
