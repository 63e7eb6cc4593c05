-- What holds of derived stores at every moment.
use Rattle.std.specs.Prelude.{◌≡◌, ℕ, ◌<◌, true, false, List, map, All}
use Rattle.std.specs.List.{AllPairs}
use Rattle.sv_derived.specs.Derived.{Derived}

-- the numbers in order
abbrev pub ids : List Derived → List ℕ
ids all = map (λ d. d.id) all

abbrev pub AreBelow : List ℕ → ℕ → Type 0
AreBelow ns n = All (λ m. m < n) ns

-- what a store is derived of was made before it, and a frozen one isn't pending
pub record IsFormed (d : Derived) : Type 0 where
  pub inputs : AreBelow d.recipe.inputs d.id
  pub frozen : d.is_frozen ≡ true → d.is_pending ≡ false

-- each number is above those before it
pub record IsOrdered (all : List Derived) : Type 0 where
  pub ascending : AllPairs (λ m n. m < n) (ids all)
  pub formed : All IsFormed all
