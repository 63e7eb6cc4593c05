-- Claims on what is held, beside those on another view: the second is true where the first one is, and their tags stand alike.
use Rattle.std.proofs.Common.{◌≡◌, ℕ, suc, List, [], ◌∷◌, ◌++◌, Some}
use Rattle.std.specs.Prelude.{slice_get}
use Rattle.sv_agree.specs.Agreeing.{slot_in_tag, AgreesWith, AgreesAbove}
use Rattle.sv_agree.specs.Scopes.{only}
use Rattle.sv_agree.specs.Standing.{Stood, stood_in, OfBoth, Pairs}
use Rattle.sv_attributes.specs.Each as lists
use Rattle.sv_code.specs.Names.{Each}
use Rattle.sv_code.specs.declared.program.Program.{Program}
use Rattle.sv_code.specs.declared.tags.Tag.{Tag}
use Rattle.sv_right.specs.Claims.{Claim}
use Rattle.sv_right.specs.Right.{IsTrue}

-- ---- lists

pub pairs_append : {A : Type 0} (R : A → A → Type 0) (xs xs' ys ys' : List A) → Pairs R xs ys → Pairs R xs' ys' → Pairs R (xs ++ xs') (ys ++ ys')
pairs_append R [] xs' [] ys' h k = k
pairs_append R [] xs' (y ∷ ys) ys' h k = absurd h
pairs_append R (x ∷ xs) xs' [] ys' h k = absurd h
pairs_append R (x ∷ xs) xs' (y ∷ ys) ys' h k = (h.0, pairs_append R xs xs' ys ys' h.1 k)

-- what two functions make of each thing and its number goes in pairs
pub pairs_each : {A B : Type 0} (R : B → B → Type 0) (f g : A → ℕ → List B) → ((x : A) (i : ℕ) → Pairs R (f x i) (g x i)) → (i : ℕ) (xs : List A) → Pairs R (lists.each f i xs) (lists.each g i xs)
pairs_each R f g each i [] = tt
pairs_each R f g each i (x ∷ xs) = pairs_append R (f x i) (lists.each f (suc i) xs) (g x i) (lists.each g (suc i) xs) (each x i) (pairs_each R f g each (suc i) xs)

-- ---- claims

-- the same is held of the same tag, on views that agree at what its content looks at, where slots count that stand so many tags deep
pub record StandsAt (p : Program) (depth : ℕ) (a b : Stood) : Type 0 where
  pub tag : a.tag ≡ b.tag
  pub held : a.held ≡ b.held
  pub content : (t : Tag) → slice_get p.tags a.tag ≡ Some t → AgreesWith (only t.reads) (slot_in_tag p depth a.tag) (AgreesAbove p depth a.tags b.tags) a.view b.view

-- a claim that is true where another one is, whose tags stand alike
pub record Follows (p : Program) (depth : ℕ) (c d : Claim) : Type 0 where
  pub holds : IsTrue p c → IsTrue p d
  pub tags : OfBoth (StandsAt p depth) (stood_in c) (stood_in d)

-- claims that are true, each where one of some others is
abbrev pub Follow : Program → ℕ → List Claim → List Claim → Type 0
Follow p depth cs ds = Pairs (Follows p depth) cs ds

pub all_true : (p : Program) (depth : ℕ) (cs ds : List Claim) → Follow p depth cs ds → Each (IsTrue p) cs → Each (IsTrue p) ds
all_true p depth [] [] h k = tt
all_true p depth [] (d ∷ ds) h k = absurd h
all_true p depth (c ∷ cs) [] h k = absurd h
all_true p depth (c ∷ cs) (d ∷ ds) h k = (h.0.holds k.0, all_true p depth cs ds h.1 k.1)
