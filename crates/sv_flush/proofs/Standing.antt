-- Levels of views, and the views that are made of them.
use Rattle.std.proofs.Common.{ℕ, List, [], ◌∷◌, ◌++◌, Option, unwrap_or, ⊎_elim, ◌⊎◌, inl, inr}
use Rattle.sv_flush.proofs.Handing.{HandsView, Hands, Passes}
use Rattle.sv_flush.proofs.Lasting.{IsOf}
use Rattle.sv_flush.specs.Lent.{StandsIn}
use Rattle.sv_parts.specs.declared.state.Effect.{Effect}
use Rattle.sv_parts.specs.declared.state.Effect.TheVariants as effect
use Rattle.std.specs.Prelude.{None, Some}
use Rattle.sv_view.specs.Cell.{Cell}
use Rattle.sv_view.specs.Level.{Level, View}
use Rattle.sv_view.specs.View.{view_from}

pub stands-front : (xs ys : List Level) (n : ℕ) (cells : List Cell) → StandsIn xs n cells → StandsIn (xs ++ ys) n cells
stands-front [] ys n cells h = absurd h
stands-front (x ∷ xs) ys n cells h = ⊎_elim (λ here. inl here) (λ there. inr (stands-front xs ys n cells there)) h

pub stands-back : (xs ys : List Level) (n : ℕ) (cells : List Cell) → StandsIn ys n cells → StandsIn (xs ++ ys) n cells
stands-back [] ys n cells h = h
stands-back (x ∷ xs) ys n cells h = inr (stands-back xs ys n cells h)

pub stands-parts : (xs ys : List Level) (n : ℕ) (cells : List Cell) → StandsIn (xs ++ ys) n cells → StandsIn xs n cells ⊎ StandsIn ys n cells
stands-parts [] ys n cells h = inr h
stands-parts (x ∷ xs) ys n cells h = ⊎_elim (λ here. inl (inl here)) (λ there. ⊎_elim (λ a. inl (inr a)) (λ b. inr b) (stands-parts xs ys n cells there)) h

-- a fact of all levels stays with other locals, and for the owner's view
pub all_pass : (S : ℕ → List Cell → Type 0) → Passes (λ v. (n : ℕ) (cells : List Cell) → StandsIn (v.own ∷ v.owners) n cells → S n cells)
all_pass S = record {
  locals = λ v locals w. w;
  owner = λ v w. by v w v.owners (λ n cells h. w n cells (inr h));
}
  where
    by : (v : View) → ((n : ℕ) (cells : List Cell) → StandsIn (v.own ∷ v.owners) n cells → S n cells) → (ls : List Level) → ((n : ℕ) (cells : List Cell) → StandsIn ls n cells → S n cells)
        → (n : ℕ) (cells : List Cell) → StandsIn ((unwrap_or (view_from ls v.modules) v).own ∷ (unwrap_or (view_from ls v.modules) v).owners) n cells → S n cells
    by v w [] k = w
    by v w (l ∷ ls) k = k

pub of_pass : (due : List Level) → Passes (IsOf due)
of_pass due = all_pass (StandsIn due)

-- ---- views that effects hand down

hands_more : (V W : View → Type 0) → ((v : View) → V v → W v) → (o : Option View) → HandsView V o → HandsView W o
hands_more V W k None h = tt
hands_more V W k (Some v) h = k v h

pub hands-mono : (V W : View → Type 0) → ((v : View) → V v → W v) → (e : Effect) → Hands V e → Hands W e
hands-mono V W k (effect.Create place n props view) h = k view h
hands-mono V W k (effect.Set place props view) h = hands_more V W k view h
hands-mono V W k (effect.Destroy place) h = tt
