-- What walks lend: fragments beside one another, content that stays or goes.
use Rattle.std.proofs.Common.{◌≡◌, ℕ, suc, ◌+◌, Bool, true, false, List, [], ◌∷◌, ◌++◌, map, Option, Some, None, refl, sym, ap, subst, ◌∙◌, arith, slice_get}
use Rattle.sv_code.specs.Names.{Each}
use Rattle.sv_code.specs.declared.program.Program.{Program}
use Rattle.sv_parts.specs.Sides.{Sides}
use Rattle.sv_parts.specs.State.{Run, each, one}
use Rattle.sv_parts.specs.declared.state.Effect.TheVariants.{Destroy}
use Rattle.sv_parts.specs.declared.state.State.{State}
use Rattle.sv_places.proofs.Changes.{Ends, ends-then, ends-as}
use Rattle.sv_places.proofs.Walks.{both-true, fits_in}
use Rattle.sv_places.specs.Fits.{Fitter, AllFitter, fit_each}
use Rattle.sv_plan.specs.Plan.{Planner, Walker, plan_each, kept_step}
use Rattle.sv_shapes.specs.Places.{places_all}
use Rattle.sv_shapes.specs.Shapes.{Opened, opened}
use Rattle.sv_shapes.specs.declared.shape.Row.{Row}
use Rattle.sv_shapes.specs.declared.shape.Shape.{Shape, Shape-F, out-Shape}
use Rattle.sv_stands.proofs.Lending.{within_none, lent_within, lent_on, Silent, silent_added, silent_same, lent_none, lent_after}
use Rattle.sv_stands.specs.Holds.{Hold, Holder, AllHolder, hold_each}
use Rattle.sv_stands.specs.Lent.{IsFor, PlanLends}
use Rattle.sv_view.specs.Level.{View}

-- ---- the first of some shapes, and those behind it

abbrev pub first : List Shape → Option Shape
first [] = None
first (x ∷ shapes) = Some x

abbrev pub behind : List Shape → List Shape
behind [] = []
behind (x ∷ shapes) = shapes

abbrev pub fits_some : Fitter → Option Shape → Bool
fits_some fit None = true
fits_some fit (Some x) = fit x

abbrev pub held_some : Holder → View → Option Shape → List Hold
held_some hold v None = []
held_some hold v (Some x) = hold v x

fits_split : (fit : Fitter) (fits : List Fitter) (olds : List Shape) → fit_each (fit ∷ fits) olds ≡ true → (fits_some fit (first olds) ≡ true) × (fit_each fits (behind olds) ≡ true)
fits_split fit fits [] e = (refl, refl)
fits_split fit fits (x ∷ olds) e = both-true (fit x) (fit_each fits olds) e

held_split : (hold : Holder) (holds : List Holder) (v : View) (olds : List Shape) → hold_each (hold ∷ holds) v olds ≡ held_some hold v (first olds) ++ hold_each holds v (behind olds)
held_split hold holds v [] = refl
held_split hold holds v (x ∷ olds) = refl

-- the old shapes from one with a number on
abbrev From : (ℕ → Option Shape) → ℕ → List Shape → Type 0
From get i olds = (j : ℕ) → get (i + j) ≡ slice_get olds j

from_behind : (get : ℕ → Option Shape) (i : ℕ) (olds : List Shape) → From get i olds → From get (suc i) (behind olds)
from_behind get i [] h j = ap get (omega arith) ∙ h (suc j)
from_behind get i (x ∷ olds) h j = ap get (omega arith) ∙ h (suc j)

from_first : (get : ℕ → Option Shape) (i : ℕ) (olds : List Shape) → From get i olds → first olds ≡ get i
from_first get i [] h = sym (h 0) ∙ ap get (omega arith)
from_first get i (x ∷ olds) h = sym (h 0) ∙ ap get (omega arith)

-- the holds in one layer of a shape
abbrev pub LayerHolder : Type 0
LayerHolder = View → Shape-F Shape Row → List Hold

abbrev pub held_in : LayerHolder → View → Opened → List Hold
held_in hold v None = []
held_in hold v (Some y) = hold v y

module _ (p : Program) where
  -- what comes of old shapes, with what it lends
  abbrev pub Lending : AllHolder → Sides → List Shape → State → List Shape → State → Type 0
  Lending hold at olds s news t = PlanLends p (hold at.old olds) (hold at.new news) s t

  -- a walk from shapes that fit
  pub record Walks (fit : AllFitter) (hold : AllHolder) (walk : Walker) : Type 0 where
    pub empty : fit [] ≡ true
    pub none : (v : View) → hold v [] ≡ []
    pub ends : (at : Sides) (olds : List Shape) (s : State) → fit olds ≡ true → Ends (Lending hold at olds s) (walk at olds s)

  -- the same of one shape
  abbrev pub LendingOne : Holder → Sides → Option Shape → State → Shape → State → Type 0
  LendingOne hold at old s new t = PlanLends p (held_some hold at.old old) (hold at.new new) s t

  abbrev pub Plans : Fitter → Holder → Planner → Type 0
  Plans fit hold plan = (at : Sides) (old : Option Shape) (s : State) → fits_some fit old ≡ true → Ends (LendingOne hold at old s) (plan at old s)

  -- planners beside their fitters and holders
  abbrev pub AllPlan : List Fitter → List Holder → List Planner → Type 0
  AllPlan [] [] [] = Unit {0}
  AllPlan [] [] (plan ∷ plans) = ⊥
  AllPlan [] (hold ∷ holds) plans = ⊥
  AllPlan (fit ∷ fits) [] plans = ⊥
  AllPlan (fit ∷ fits) (hold ∷ holds) [] = ⊥
  AllPlan (fit ∷ fits) (hold ∷ holds) (plan ∷ plans) = Plans fit hold plan × AllPlan fits holds plans

  -- one shape, and those behind it
  lending_cons : (hold : Holder) (holds : List Holder) (at : Sides) (olds : List Shape) (x : Shape) (news : List Shape) (s t u : State) → LendingOne hold at (first olds) s x t → Lending (hold_each holds) at (behind olds) t news u →
      Lending (hold_each (hold ∷ holds)) at olds s (x ∷ news) u
  lending_cons hold holds at olds x news s t u k l =
      subst (λ hs. PlanLends p hs (hold at.new x ++ hold_each holds at.new news) s u) (sym (held_split hold holds at.old olds))
      (lent_on p (held_some hold at.old (first olds)) (hold at.new x) (hold_each holds at.old (behind olds)) (hold_each holds at.new news) s t u k l)

  all_end : (fits : List Fitter) (holds : List Holder) (plans : List Planner) → AllPlan fits holds plans → (at : Sides) (get : ℕ → Option Shape) (i : ℕ) (olds : List Shape) → From get i olds → fit_each fits olds ≡ true → (s : State) →
      Ends (Lending (hold_each holds) at olds s) (each (λ plan j u. one (plan at (get j) u)) i plans s)
  all_end [] [] [] q at get i olds h e s = lent_none p (hold_each [] at.old olds) s s (silent_same p s)
  all_end [] [] (plan ∷ plans) q at get i olds h e s = elim q [ ]
  all_end [] (hold ∷ holds) plans q at get i olds h e s = elim q [ ]
  all_end (fit ∷ fits) [] plans q at get i olds h e s = elim q [ ]
  all_end (fit ∷ fits) (hold ∷ holds) [] q at get i olds h e s = elim q [ ]
  all_end (fit ∷ fits) (hold ∷ holds) (plan ∷ plans) q at get i olds h e s =
      ends-then (λ ys t. (x : Shape) × (ys ≡ x ∷ []) × LendingOne hold at (first olds) s x t) (Lending (hold_each (hold ∷ holds)) at olds s) (one (plan at (get i) s)) _
      (ends-then (LendingOne hold at (first olds) s) (λ ys t. (x : Shape) × (ys ≡ x ∷ []) × LendingOne hold at (first olds) s x t) (plan at (get i) s) _
      (subst (λ o. Ends (LendingOne hold at (first olds) s) (plan at o s)) (from_first get i olds h) (q.0 at (first olds) s (fits_split fit fits olds e).0))
      (λ x t k. (x, refl, k)))
      (λ ys t k. ends-then (Lending (hold_each holds) at (behind olds) t) (Lending (hold_each (hold ∷ holds)) at olds s) _ _
      (all_end fits holds plans q.1 at get (suc i) (behind olds) (from_behind get i olds h) (fits_split fit fits olds e).1 t)
      (λ news u l. subst (λ zs. Lending (hold_each (hold ∷ holds)) at olds s (zs ++ news) u) (sym k.1) (lending_cons hold holds at olds k.0 news s t u k.2 l)))

  pub each_walks : (fits : List Fitter) (holds : List Holder) (plans : List Planner) → AllPlan fits holds plans → Walks (fit_each fits) (hold_each holds) (plan_each plans)
  each_walks fits holds plans q = record { empty = refl; none = λ v. refl; ends = λ at olds s e. all_end fits holds plans q at (slice_get olds) 0 olds (λ j. ap (slice_get olds) (omega arith)) e s }

  -- ---- content that stays, or goes

  -- children that go
  none_for : (places : List ℕ) → Each (IsFor []) (map Destroy places)
  none_for [] = tt
  none_for (place ∷ places) = (tt, none_for places)

  pub destroyed_silent : (parts : List Shape) (s : State) → Silent p s (record s { effects = s.effects ++ map Destroy (places_all parts) })
  destroyed_silent parts s = silent_added p s _ (map Destroy (places_all parts)) refl refl (none_for (places_all parts))

  -- new content, where some may have stood
  pub anew_ends : (fit : AllFitter) (hold : AllHolder) (walk : Walker) → Walks fit hold walk → (at : Sides) (befores : List Hold) (s t : State) → Silent p s t → Ends (λ news u. PlanLends p befores (hold at.new news) s u) (walk at [] t)
  anew_ends fit hold walk k at befores s t g =
      ends-as (Lending hold at [] t) (λ news u. PlanLends p befores (hold at.new news) s u) (walk at [] t)
      (λ news u l. lent_after p befores (hold at.new news) s t u g
      (lent_within p [] befores (hold at.new news) t u (within_none befores) (subst (λ hs. PlanLends p hs (hold at.new news) t u) (k.none at.old) l)))
      (k.ends at [] t k.empty)

  pub kept_ends : (fit : AllFitter) (hold : AllHolder) (walk : Walker) → Walks fit hold walk → (at : Sides) (befores : List Hold) (kept : Bool) (olds : List Shape) (s : State) → (kept ≡ true → (fit olds ≡ true) × (hold at.old olds ≡ befores)) →
      Ends (λ news t. PlanLends p befores (hold at.new news) s t) (kept_step walk at kept olds s)
  kept_ends fit hold walk k at befores true olds s e =
      ends-as (Lending hold at olds s) (λ news t. PlanLends p befores (hold at.new news) s t) (walk at olds s) (λ news t l. subst (λ hs. PlanLends p hs (hold at.new news) s t) (e refl).1 l) (k.ends at olds s (e refl).0)
  kept_ends fit hold walk k at befores false olds s e = anew_ends fit hold walk k at befores s _ (destroyed_silent olds s)

  -- ---- one layer of what comes

  -- a shape of a layer, with what it lends
  pub record Comes (hold : LayerHolder) (at : Sides) (old : Opened) (s : State) (x : Shape) (t : State) : Type 0 where
    pub over : Shape-F Shape Row
    pub out : out-Shape x ≡ over
    pub lent : PlanLends p (held_in hold at.old old) (hold at.new over) s t

  abbrev pub LayerPlans : (Shape-F Shape Row → Bool) → LayerHolder → (Sides → Opened → Run Shape) → Type 0
  LayerPlans fit hold run = (at : Sides) (old : Opened) (s : State) → fits_in 0 fit old ≡ true → Ends (Comes hold at old s) (run at old s)

  pub layer_plans : (fit : Shape-F Shape Row → Bool) (hold : LayerHolder) (run : Sides → Opened → Run Shape) → LayerPlans fit hold run →
      Plans (λ x. fit (out-Shape x)) (λ v x. hold v (out-Shape x)) (λ at old. run at (opened old))
  layer_plans fit hold run k at None s e =
      ends-as (Comes hold at None s) _ (run at None s) (λ x t m. subst (λ y. PlanLends p [] (hold at.new y) s t) (sym m.out) m.lent) (k at None s refl)
  layer_plans fit hold run k at (Some old) s e =
      ends-as (Comes hold at (Some (out-Shape old)) s) _ (run at (Some (out-Shape old)) s) (λ x t m. subst (λ y. PlanLends p (hold at.old (out-Shape old)) (hold at.new y) s t) (sym m.out) m.lent) (k at (Some (out-Shape old)) s e)
