-- How values by number stand in the slots of a slab.
use Rattle.std.specs.Prelude.{◌≡◌, ℕ, zero, suc, ◌<◌, Bool, true, false, nat_eq, if◌then◌else◌, List, [], ◌∷◌, Option, Some, None, slice_index_or}
use Rattle.sv_numbered.specs.declared.numbered.Entry.{Entry}

module _ {T : Type 0} where
  -- what stands at a key
  abbrev pub slot : List (Option (Entry T)) → ℕ → Option (Entry T)
  slot slots key = slice_index_or slots key None

  abbrev pub has_number : Option (Entry T) → ℕ → Bool
  has_number None n = false
  has_number (Some e) n = nat_eq e.number n

  -- whether the value at a key has this number
  abbrev pub is_at : List (Option (Entry T)) → ℕ → ℕ → Bool
  is_at slots n key = has_number (slot slots key) n

  -- the value with a number
  abbrev pub found : List (Option (Entry T)) → ℕ → Option T
  found [] n = None
  found (None ∷ slots) n = found slots n
  found (Some e ∷ slots) n = if nat_eq e.number n then Some e.value else found slots n

  -- the values with so many numbers, from a first one on
  abbrev pub numbered : ℕ → ℕ → List (Option (Entry T)) → List (Option T)
  numbered zero first slots = []
  numbered (suc count) first slots = found slots first ∷ numbered count (suc first) slots

  -- the values by number, up to the next number
  abbrev pub by_number : ℕ → List (Option (Entry T)) → List (Option T)
  by_number next slots = numbered next 0 slots

  -- the number stands at this key
  abbrev pub IsAt : List (Option (Entry T)) → ℕ → ℕ → Type 0
  IsAt slots n key = is_at slots n key ≡ true

  -- the number stands at no key
  abbrev pub IsNowhere : List (Option (Entry T)) → ℕ → Type 0
  IsNowhere slots n = (key : ℕ) → is_at slots n key ≡ false

  -- each number is below the next, and 0 is none of them; each stands at one key
  pub record IsSound (next : ℕ) (slots : List (Option (Entry T))) : Type 0 where
    pub begun : 0 < next
    pub given : (n key : ℕ) → is_at slots n key ≡ true → (0 < n) × (n < next)
    pub once : (n key other : ℕ) → is_at slots n key ≡ true → is_at slots n other ≡ true → key ≡ other
