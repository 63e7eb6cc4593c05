-- What walks change: fragments beside one another, content that stays or goes.
use Rattle.std.proofs.Common.{◌≡◌, ℕ, suc, ◌+◌, Bool, true, false, ◌&&◌, List, [], ◌∷◌, ◌++◌, map, Option, Some, None, refl, sym, ap, subst, ◌∙◌, arith, slice_get}
use Rattle.sv_parts.specs.Sides.{Sides}
use Rattle.sv_parts.specs.State.{Run, each, one}
use Rattle.sv_parts.specs.declared.state.Effect.TheVariants.{Destroy}
use Rattle.sv_parts.specs.declared.state.State.{State}
use Rattle.sv_places.proofs.Changes.{Load, nowhere, both, Change, Ends, ends-then, ends-as, change-on, change-as, quiet-change}
use Rattle.sv_places.proofs.Loads.{load, loads, layer, load_in, load-out, load-nil, load-cons}
use Rattle.sv_places.proofs.Quiet.{quiet-same}
use Rattle.sv_places.proofs.Steps.{destroyed-change}
use Rattle.sv_places.specs.Fits.{Fitter, AllFitter, fit_each}
use Rattle.sv_places.specs.Numbers.{numbers_all}
use Rattle.sv_plan.specs.Plan.{Planner, Walker, plan_each, kept_step}
use Rattle.sv_shapes.specs.Places.{places_all}
use Rattle.sv_shapes.specs.Shapes.{Opened, opened}
use Rattle.sv_shapes.specs.declared.shape.Row.{Row}
use Rattle.sv_shapes.specs.declared.shape.Shape.{Shape, Shape-F, out-Shape}

-- a test of two things
pub both-true : (a b : Bool) → (a && b) ≡ true → (a ≡ true) × (b ≡ true)
both-true true b e = (refl, e)
both-true false b e = absurd (cc)

module _ (n : ℕ) where
  -- what comes of old shapes: shapes that fit, and what that changes
  abbrev pub Follows : AllFitter → List Shape → State → List Shape → State → Type 0
  Follows fit olds s news t = (fit news ≡ true) × Change n (loads n olds) (loads n news) s t

  -- a walk from shapes that fit
  pub record Walks (fit : AllFitter) (walk : Walker) : Type 0 where
    pub empty : fit [] ≡ true
    pub ends : (at : Sides) (olds : List Shape) (s : State) → fit olds ≡ true → Ends (Follows fit olds s) (walk at olds s)

  abbrev pub fits_some : Fitter → Option Shape → Bool
  fits_some fit None = true
  fits_some fit (Some x) = fit x

  abbrev pub load_some : Option Shape → Load
  load_some None = nowhere
  load_some (Some x) = load n x

  -- the same of one shape
  abbrev pub Plans : Fitter → Planner → Type 0
  Plans fit plan = (at : Sides) (old : Option Shape) (s : State) → fits_some fit old ≡ true → Ends (λ new t. (fit new ≡ true) × Change n (load_some old) (load n new) s t) (plan at old s)

  -- planners beside their fitters
  abbrev pub AllPlan : List Fitter → List Planner → Type 0
  AllPlan [] [] = Unit {0}
  AllPlan [] (plan ∷ plans) = ⊥
  AllPlan (fit ∷ fits) [] = ⊥
  AllPlan (fit ∷ fits) (plan ∷ plans) = Plans fit plan × AllPlan fits plans

  -- the old shapes from one with a number on
  abbrev from : (ℕ → Option Shape) → ℕ → List Shape → Type 0
  from get i olds = (j : ℕ) → get (i + j) ≡ slice_get olds j

  abbrev head_of : List Shape → Option Shape
  head_of [] = None
  head_of (x ∷ xs) = Some x

  abbrev tail_of : List Shape → List Shape
  tail_of [] = []
  tail_of (x ∷ xs) = xs

  tail-from : (get : ℕ → Option Shape) (i : ℕ) (olds : List Shape) → from get i olds → from get (suc i) (tail_of olds)
  tail-from get i [] h j = ap get (omega arith) ∙ h (suc j)
  tail-from get i (x ∷ xs) h j = ap get (omega arith) ∙ h (suc j)

  head-from : (get : ℕ → Option Shape) (i : ℕ) (olds : List Shape) → from get i olds → head_of olds ≡ get i
  head-from get i [] h = sym (h 0) ∙ ap get (omega arith)
  head-from get i (x ∷ xs) h = sym (h 0) ∙ ap get (omega arith)

  fits-split : (fit : Fitter) (fits : List Fitter) (olds : List Shape) → fit_each (fit ∷ fits) olds ≡ true → (fits_some fit (head_of olds) ≡ true) × (fit_each fits (tail_of olds) ≡ true)
  fits-split fit fits [] e = (refl, refl)
  fits-split fit fits (x ∷ xs) e = both-true (fit x) (fit_each fits xs) e

  loads-split : (olds : List Shape) → loads n olds ≡ both (load_some (head_of olds)) (loads n (tail_of olds))
  unfolding places_all numbers_all
  loads-split [] = refl
  loads-split (x ∷ xs) = load-cons n x xs

  -- one shape, and those behind it
  follows-cons : (fit : Fitter) (fits : List Fitter) (olds : List Shape) (x : Shape) (news : List Shape) (s t u : State) → fit x ≡ true → Change n (load_some (head_of olds)) (load n x) s t → Follows (fit_each fits) (tail_of olds) t news u →
      Follows (fit_each (fit ∷ fits)) olds s (x ∷ news) u
  follows-cons fit fits olds x news s t u e k l =
      (rw (e, l.0) refl, subst (λ a. Change n a (loads n (x ∷ news)) s u) (sym (loads-split olds)) (subst (λ b. Change n (both (load_some (head_of olds)) (loads n (tail_of olds))) b s u) (sym (load-cons n x news)) (change-on n _ _ _ _ s t u k l.1)))

  all-ends : (fits : List Fitter) (plans : List Planner) → AllPlan fits plans → (at : Sides) (get : ℕ → Option Shape) (i : ℕ) (olds : List Shape) → from get i olds → fit_each fits olds ≡ true → (s : State) →
      Ends (Follows (fit_each fits) olds s) (each (λ plan j u. one (plan at (get j) u)) i plans s)
  all-ends [] [] q at get i [] h e s = (refl, subst (λ a. Change n a a s s) (sym (load-nil n)) (quiet-change n s s (quiet-same s)))
  all-ends [] [] q at get i (x ∷ olds) h e s = absurd (cc)
  all-ends [] (plan ∷ plans) q at get i olds h e s = elim q [ ]
  all-ends (fit ∷ fits) [] q at get i olds h e s = elim q [ ]
  all-ends (fit ∷ fits) (plan ∷ plans) q at get i olds h e s =
      ends-then (λ ys t. (x : Shape) × (ys ≡ x ∷ []) × (fit x ≡ true) × Change n (load_some (head_of olds)) (load n x) s t) (Follows (fit_each (fit ∷ fits)) olds s) (one (plan at (get i) s)) _
      (ends-then (λ x t. (fit x ≡ true) × Change n (load_some (head_of olds)) (load n x) s t) _ (plan at (get i) s) _
      (subst (λ o. Ends (λ x t. (fit x ≡ true) × Change n (load_some (head_of olds)) (load n x) s t) (plan at o s)) (head-from get i olds h) (q.0 at (head_of olds) s (fits-split fit fits olds e).0))
      (λ x t k. (x, refl, k.0, k.1)))
      (λ ys t k. ends-then (Follows (fit_each fits) (tail_of olds) t) (Follows (fit_each (fit ∷ fits)) olds s) _ _
      (all-ends fits plans q.1 at get (suc i) (tail_of olds) (tail-from get i olds h) (fits-split fit fits olds e).1 t)
      (λ news u l. subst (λ zs. Follows (fit_each (fit ∷ fits)) olds s (zs ++ news) u) (sym k.1) (follows-cons fit fits olds k.0 news s t u k.2 k.3 l)))

  pub each-walks : (fits : List Fitter) (plans : List Planner) → AllPlan fits plans → Walks (fit_each fits) (plan_each plans)
  each-walks fits plans q = record { empty = refl; ends = λ at olds s e. all-ends fits plans q at (slice_get olds) 0 olds (λ j. ap (slice_get olds) (omega arith)) e s }

  -- content stays where old shapes fit, or goes and is made anew
  pub kept-ends : (fit : AllFitter) (walk : Walker) → Walks fit walk → (at : Sides) (kept : Bool) (olds : List Shape) (s : State) → (kept ≡ true → fit olds ≡ true) → Ends (Follows fit olds s) (kept_step walk at kept olds s)
  kept-ends fit walk k at true olds s e = k.ends at olds s (e refl)
  kept-ends fit walk k at false olds s e =
      ends-as (Follows fit [] (record s { effects = s.effects ++ map Destroy (places_all olds) })) (Follows fit olds s) (walk at [] _)
      (λ news u l. (
        l.0,
        change-as n (both (loads n olds) (loads n [])) (both nowhere (loads n news)) (loads n olds) (loads n news) s u (omega (arith, no_places)) (omega (arith, no_numbers)) (omega arith) (omega arith)
            (change-on n (loads n olds) nowhere (loads n []) (loads n news) s _ u (destroyed-change n olds s) l.1),
      ))
      (k.ends at [] _ k.empty)
    where
      no_places : (loads n []).places ≡ 0
      no_places = ap (λ (l : Load). l.places) (load-nil n)

      no_numbers : (loads n []).numbers ≡ 0
      no_numbers = ap (λ (l : Load). l.numbers) (load-nil n)

  -- ---- one layer of what comes

  abbrev pub fits_in : (Shape-F Shape Row → Bool) → Opened → Bool
  fits_in fit None = true
  fits_in fit (Some y) = fit y

  -- a shape whose layer fits, and what that changes
  pub record Makes (fit : Shape-F Shape Row → Bool) (old : Opened) (s : State) (x : Shape) (t : State) : Type 0 where
    pub over : Shape-F Shape Row
    pub out : out-Shape x ≡ over
    pub fits : fit over ≡ true
    pub change : Change n (load_in n old) (layer n over) s t

  abbrev pub LayerPlans : (Shape-F Shape Row → Bool) → (Sides → Opened → Run Shape) → Type 0
  LayerPlans fit run = (at : Sides) (old : Opened) (s : State) → fits_in fit old ≡ true → Ends (Makes fit old s) (run at old s)

  pub layer-plans : (fit : Shape-F Shape Row → Bool) (run : Sides → Opened → Run Shape) → LayerPlans fit run → Plans (λ x. fit (out-Shape x)) (λ at old. run at (opened old))
  layer-plans fit run k at None s e =
      ends-as (Makes fit None s) _ (run at None s) (λ x t m. (ap fit m.out ∙ m.fits, subst (λ b. Change n nowhere b s t) (sym (load-out n x ∙ ap (layer n) m.out)) m.change)) (k at None s refl)
  layer-plans fit run k at (Some old) s e =
      ends-as (Makes fit (Some (out-Shape old)) s) _ (run at (Some (out-Shape old)) s)
      (λ x t m. (ap fit m.out ∙ m.fits, subst (λ a. Change n a (load n x) s t) (sym (load-out n old)) (subst (λ b. Change n (layer n (out-Shape old)) b s t) (sym (load-out n x ∙ ap (layer n) m.out)) m.change)))
      (k at (Some (out-Shape old)) s e)
