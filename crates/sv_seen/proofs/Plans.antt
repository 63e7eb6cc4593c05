-- What the first plan of an instance leaves: shapes that are right, and children to be made.
use Rattle.std.proofs.Common.{◌≡◌, ℕ, ◌+◌, true, List, [], ◌∷◌, map, Option, Ok, refl, ap, ◌∙◌, arith, nat_eq}
use Rattle.std.proofs.lemmas.Bool.{eq-eqb}
use Rattle.sv_code.specs.Names.{Each}
use Rattle.sv_code.specs.declared.fragments.Frag.{Frag}
use Rattle.sv_code.specs.declared.program.Program.{Program}
use Rattle.sv_flush.proofs.Handing.{Hands}
use Rattle.sv_parts.specs.Sides.{Sides}
use Rattle.sv_parts.specs.declared.counters.Counters.{Counters}
use Rattle.sv_parts.specs.declared.state.Effect.{Effect}
use Rattle.sv_parts.specs.declared.state.Effect.TheVariants as effect
use Rattle.sv_parts.specs.declared.state.State.{State}
use Rattle.sv_parts.specs.declared.tally.Tally.{Tally}
use Rattle.sv_places.proofs.Patches.{plan-follows}
use Rattle.sv_places.specs.Fits.{Fits, Fitter, fit_each, fitter, slotted, fits_all}
use Rattle.sv_places.specs.Keeping.{Follows, set_at, destroyed_at}
use Rattle.sv_places.specs.Numbers.{count}
use Rattle.sv_plan.specs.Patch.{begun}
use Rattle.sv_plan.specs.Plan.{plan_all}
use Rattle.sv_shapes.specs.Places.{places_all}
use Rattle.sv_shapes.specs.declared.shape.Shape.{Shape}
use Rattle.sv_tokens.specs.Counting.{one}
use Rattle.sv_view.specs.Level.{View}

-- a child is made on such a view, and nothing else is done
abbrev pub Bears : (View → Type 0) → Effect → Type 0
Bears W (effect.Create place k props view) = W view
Bears W (effect.Set place props view) = ⊥
Bears W (effect.Destroy place) = ⊥

none_counted : (n more : ℕ) → one (nat_eq n n) + more ≡ 0 → ⊥
none_counted n more e = let first : one (nat_eq n n) ≡ 1 = ap one (eq-eqb n n refl) in omega (arith, first, e)

-- where nothing is set and nothing goes, children are made
bear-all : (W : View → Type 0) (es : List Effect) → ((n : ℕ) → count n (set_at es) ≡ 0) → ((n : ℕ) → count n (destroyed_at es) ≡ 0) → Each (Hands W) es → Each (Bears W) es
bear-all W [] sets goes h = tt
bear-all W (effect.Create place k props view ∷ es) sets goes h = (h.0, bear-all W es sets goes h.1)
bear-all W (effect.Set place props view ∷ es) sets goes h = absurd (none_counted place (count place (set_at es)) (sets place))
bear-all W (effect.Destroy place ∷ es) sets goes h = absurd (none_counted place (count place (destroyed_at es)) (goes place))

nothing-fits : (fits : List Fitter) → fit_each fits [] ≡ true
nothing-fits [] = refl
nothing-fits (fit ∷ fits) = refl

nothing-all : (p : Program) (tags : List (Option ℕ)) (frags : List Frag) → Fits p tags frags []
unfolding fits_all
nothing-all p tags frags = nothing-fits (map (fitter p (slotted p tags)) frags)

no-places : (n : ℕ) → count n (places_all []) ≡ 0
unfolding places_all
no-places n = refl

-- nothing was there that could be set or go
pub plan-bears : (W : View → Type 0) (p : Program) (tags : List (Option ℕ)) (frags : List Frag) (at : Sides) (counters : Counters) (tally : Tally) (parts : List Shape) (s : State)
    → plan_all p tags frags at [] (begun counters tally) ≡ Ok (parts, s) → Each (Hands W) s.effects → Each (Bears W) s.effects
plan-bears W p tags frags at counters tally parts s e hands = by (plan-follows p tags frags at [] parts (begun counters tally) s (nothing-all p tags frags) e) where
  by : Follows [] parts (begun counters tally) s → Each (Bears W) s.effects
  by f = bear-all W s.effects
      (λ n. ap (λ es. count n (set_at es)) f.effects_are ∙ omega (arith, f.keeps.set n, f.keeps.lost n, f.keeps.there n, no-places n))
      (λ n. ap (λ es. count n (destroyed_at es)) f.effects_are ∙ omega (arith, f.keeps.lost n, f.keeps.there n, no-places n))
      hands
