-- What becomes of watchers that are told of many changes.
use Rattle.std.specs.Prelude.{◌≡◌, ◌≤◌, List, [], ◌∷◌, ◌++◌, Bool, true, Result, Ok, Err}
use Rattle.sv_base.specs.declared.memory.NoMemory.{NoMemory as Wants}
use Rattle.sv_io.specs.Faults.{Rose}
use Rattle.sv_tokens.specs.declared.change.Change.{Change}
use Rattle.sv_watch.specs.Ear.{Ear}
use Rattle.sv_watch.specs.Told.{Tells}

-- They were told of one change after another, up to the first for which memory was wanting.
pub data TellsEach : List Change → Result (Unit {0}) Wants → (old new was_gone now_gone : List Ear) → Type 0 where
  ended : {list gone : List Ear} → TellsEach [] (Ok tt) list list gone gone
  onward : {change : Change} {changes : List Change} {result : Result (Unit {0}) Wants} {old mid new was_gone mid_gone now_gone : List Ear}
      → Tells change (Ok tt) old mid was_gone mid_gone → TellsEach changes result mid new mid_gone now_gone → TellsEach (change ∷ changes) result old new was_gone now_gone
  stopped : {change : Change} {changes : List Change} {wants : Wants} {old new was_gone now_gone : List Ear} (told : Wants)
      → Tells change (Err told) old new was_gone now_gone → TellsEach (change ∷ changes) (Err wants) old new was_gone now_gone

-- Each of them is left, in their order, and has heard some of the first of the changes, or all where that is said; or it is gone, has heard some of the first of them, and has refused the next.
pub data Parted (all : Bool) (changes : List Change) : (old left gone : List Ear) → Type 0 where
  empty : Parted all changes [] [] []
  stayed : {was now : Ear} {old left gone : List Ear} (front rest : List Change) → changes ≡ front ++ rest → (all ≡ true → rest ≡ []) → now.heard ≡ was.heard ++ front → was.faults ≤ now.faults
      → now.report_of ≡ was.report_of → Parted all changes old left gone → Parted all changes (was ∷ old) (now ∷ left) gone
  went : {was : Ear} {old left gone : List Ear} (now : Ear) (before behind : List Ear) (front rest : List Change) (next : Change) → gone ≡ before ++ now ∷ behind → changes ≡ front ++ next ∷ rest
      → now.heard ≡ was.heard ++ front → Rose was.faults now.faults → now.report_of ≡ was.report_of → Parted all changes old left (before ++ behind) → Parted all changes (was ∷ old) left gone

-- the same, of those that went behind others
pub record Parts (all : Bool) (changes : List Change) (old left was_gone now_gone : List Ear) : Type 0 where
  pub added : List Ear
  pub gone : now_gone ≡ was_gone ++ added
  pub parted : Parted all changes old left added
