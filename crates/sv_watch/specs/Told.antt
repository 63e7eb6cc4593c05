-- What becomes of watchers that are told of changes.
use Rattle.std.specs.Prelude.{◌≡◌, ◌≤◌, ℕ, List, [], ◌∷◌, ◌++◌, length, Result, Ok, Err, OnOk, OnErr}
use Rattle.sv_base.specs.declared.memory.NoMemory.{NoMemory as Wants}
use Rattle.sv_io.specs.Faults.{Rose}
use Rattle.sv_tokens.specs.declared.change.Change.{Change}
use Rattle.sv_watch.specs.Ear.{Ear}
use Rattle.sv_watch.specs.declared.watcher.TellError.{TellError}
use Rattle.sv_watch.specs.declared.watcher.TellError.TheVariants.{Refused, NoMemory}

-- a watcher heard the change
pub record Hears (change : Change) (old new : Ear) : Type 0 where
  pub heard : new.heard ≡ old.heard ++ change ∷ []
  pub later : old.faults ≤ new.faults
  pub report : new.report_of ≡ old.report_of

-- a watcher refused a change
pub record Refuses (old new : Ear) : Type 0 where
  pub kept : new.heard ≡ old.heard
  pub rose : Rose old.faults new.faults
  pub report : new.report_of ≡ old.report_of

-- what became of a watcher that was told of the change, by what it answered
abbrev pub Answers : Change → Result (Unit {0}) TellError → (old new : Ear) → Type 0
Answers change (Ok u) old new = Hears change old new
Answers change (Err Refused) old new = Refuses old new
Answers change (Err NoMemory) old new = new ≡ old

-- Each of the watchers was told of the change, in their order: those that are left heard it, and those that are gone refused it.
pub data Told (change : Change) : (old left gone : List Ear) → Type 0 where
  nobody : Told change [] [] []
  hearer : {was now : Ear} {old left gone : List Ear} → Hears change was now → Told change old left gone → Told change (was ∷ old) (now ∷ left) gone
  refuser : {was now : Ear} {old left gone : List Ear} → Refuses was now → Told change old left gone → Told change (was ∷ old) left (now ∷ gone)

-- The first of the watchers were told of the change, and the others are as they were; those that refused it stand behind those that were gone before. Nobody is left out but where memory is wanting, and then somebody is, if anybody is there.
pub record Tells (change : Change) (result : Result (Unit {0}) Wants) (old new was_gone now_gone : List Ear) : Type 0 where
  pub first : List Ear
  pub others : List Ear
  pub left : List Ear
  pub added : List Ear
  pub told : Told change first left added
  pub was : old ≡ first ++ others
  pub is : new ≡ left ++ others
  pub gone : now_gone ≡ was_gone ++ added
  pub all : OnOk result (others ≡ [])
  pub wants : OnErr result (others ≡ [] → first ≡ [])

-- the watcher at a place was told of the change, and the others are as they were
pub record TellsAt (change : Change) (result : Result (Unit {0}) TellError) (old new : List Ear) (at : ℕ) : Type 0 where
  pub front : List Ear
  pub before : Ear
  pub after : Ear
  pub back : List Ear
  pub was : old ≡ front ++ before ∷ back
  pub is : new ≡ front ++ after ∷ back
  pub here : length front ≡ at
  pub answers : Answers change result before after

-- the watcher at a place went to the end of those that are gone
pub record Leaves (old new was_gone now_gone : List Ear) (at : ℕ) : Type 0 where
  pub front : List Ear
  pub watcher : Ear
  pub back : List Ear
  pub was : old ≡ front ++ watcher ∷ back
  pub is : new ≡ front ++ back
  pub here : length front ≡ at
  pub gone : now_gone ≡ was_gone ++ watcher ∷ []
