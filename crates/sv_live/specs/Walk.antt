-- What is still to be placed, and what is placed.
use Rattle.std.specs.Prelude.{◌≡◌, ◌≢◌, ◌≤◌, ◌<◌, length, Bool, true, false, ℕ, List, [], ◌∷◌, ◌++◌, Option, Some, None, slice_index_or}
use Rattle.std.specs.BTreeMap.{BTreeMap, get}
use Rattle.std.specs.Ordering.{nat_cmp}
use Rattle.sv_tokens.specs.Counting.{times}
use Rattle.sv_live.specs.declared.live.Live.{Live}
use Rattle.sv_live.specs.Known.{number, answers, known}
use Rattle.sv_live.specs.Kept.{AreKept}

-- what was there and was not looked at yet, what is to be placed, and what is placed
pub record Walk : Type 0 where
  pub left : List Live
  pub rest : List Live
  pub placed : List Live

-- one was taken out, which may have been the last
pub record Takes (old new : List Live) (live : Live) (last : Bool) : Type 0 where
  pub front : List Live
  pub back : List Live
  pub was : old ≡ front ++ live ∷ back
  pub is : new ≡ front ++ back
  pub end : last ≡ true → back ≡ []

-- what is known by other numbers is known as before
abbrev pub KeepsOthers : (n : ℕ) (old new : List Live) → Type 0
KeepsOthers n old new = (k : ℕ) → k ≢ n → known k new ≡ known k old

-- Some were placed before the others, and each of them, where it is the only one with its number, follows what was to be placed with that number. What is
-- to be placed with other numbers is as it was.
pub record Places (next : ℕ) (old new : Walk) : Type 0 where
  pub added : List Live
  pub placed : new.placed ≡ added ++ old.placed
  pub others : (n : ℕ) → times (answers n) added ≡ 0 → known n new.rest ≡ known n old.rest
  pub kept : AreKept next old.rest added

-- ---- slots

-- what is in a slot, if something is
abbrev pub slot : List (Option Live) → ℕ → Option Live
slot slots i = slice_index_or slots i None

-- one is in the slot, and is known by that number
abbrev pub has_number : ℕ → Option Live → Bool
has_number n None = false
has_number n (Some live) = answers n live

abbrev pub listed : Option Live → List Live
listed None = []
listed (Some live) = live ∷ []

-- what is in slots, the last slot first
abbrev pub rest_of : List (Option Live) → List Live
rest_of [] = []
rest_of (s ∷ slots) = rest_of slots ++ listed s

-- each that is in a slot is found by its number, and the slots before the start are empty
pub record IsIndexed (slots : List (Option Live)) (start : ℕ) (index : BTreeMap ℕ ℕ) : Type 0 where
  pub found : (i : ℕ) (l : Live) → slot slots i ≡ Some l → get nat_cmp index (number l) ≡ Some i
  pub empty : (i : ℕ) → i < start → slot slots i ≡ None
  pub within : start ≤ length slots
