-- What an order and a cycle of statements are.
use Rattle.std.proofs.Common.{◌≡◌, ℕ, ◌<◌, ◌≤◌, true, cond, List, [], ◌∷◌, length, Vec, Global, sym, ap, ◌∙◌, inl, inr, subst, arith}
use Rattle.std.specs.Prelude.{nat_lt, filter}
use Rattle.std.specs.List.{range_with_len}
use Rattle.std.proofs.lemmas.Bool.{cases_lt, lt-ltb, le-ltb, false≢true, false_from_ne_true}
use Rattle.sv_graph.specs.Links.{is_in, links_of, IsLink}
use Rattle.sv_graph.specs.Visits.{Visits}
use Rattle.sv_graph.specs.Cycle.{IsCycle, IsFirstCycle}
use Rattle.sv_graph.specs.Visited.{IsVisited}
use Rattle.sv_graph.specs.declared.outcome.Visited.{Visited}
use Rattle.sv_graph.specs.declared.outcome.Visited.TheVariants.{Order, Cycle}
use Rattle.sv_graph.proofs.Points.{in_head}
use Rattle.sv_graph.proofs.Visiting.{visits-reach}
use Rattle.sv_graph.proofs.Cycling.{first-map}
use Rattle.sv_order.specs.declared.reads.Reads.{Reads}
use Rattle.sv_order.specs.ReactiveOrder.{Before, before_of, IsOrder, IsEachOnce, IsBehind}
use Rattle.sv_order.specs.Points.{IsTwoStep, IsFound}
use Rattle.sv_order.proofs.TwoSteps.{visits-statements}
use Rattle.sv_order.proofs.Placing.{times, times-absent, times-present, visits-once, visits-below, visits-behind, visits-acyclic}
use Rattle.sv_order.proofs.Circles.{cycle-earlier, first-only}
use Rattle.sv_order.proofs.Naming.{in-range, range-in, before-there, before-back, before-below}

module _ (list : List Reads) (order : List ℕ) (o : IsOrder list order) where
  there : (t : ℕ) → t < length list → is_in t order ≡ true
  there t lt = visits-reach t o (in-range 0 (length list) t (omega arith) (omega arith))

  below : (t : ℕ) → is_in t order ≡ true → t < length list
  below t here = visits-below (before_of list) (length list) t (λ p x is. before-below list p x is) o (λ x is. omega (arith, range-in 0 (length list) x is)) (λ x no_one. absurd (false≢true no_one)) here

  pub order-once : IsEachOnce list order
  order-once t = elim (cases_lt t (length list)) [
    | inl lt ↦ (let most : times t order ≤ 1 = visits-once (before_of list) t o (omega arith) in
        let least = times-present t order (there t lt) in
        let one : times t order ≡ 1 = omega arith in
        one ∙ sym (ap (λ b. cond {A = ℕ} b 1 0) (lt-ltb t (length list) lt)))
    | inr past ↦ times-absent t order (false_from_ne_true _ (λ here. absurd (omega (arith, below t here, past)))) ∙ sym (ap (λ b. cond {A = ℕ} b 1 0) (le-ltb t (length list) past))
  ]

  pub order-behind : IsBehind list order
  order-behind s t front back b e = visits-behind (before_of list) front back t s o e (before-there list s t b).1

  pub order-acyclic : (cycle : List ℕ) → IsCycle (Before list) cycle → ⊥
  order-acyclic [] is = is
  order-acyclic (x ∷ rest) is =
      let own = cycle-earlier (Before list) (x ∷ rest) x is (in_head x rest) in
      visits-acyclic (before_of list) (x ∷ rest) x o
      (λ y here. let z = cycle-earlier (Before list) (x ∷ rest) y is here in (z.0, z.1, (before-there list z.0 y z.2).1))
      (in_head x rest) (there x (before-there list own.0 x own.2).0)

-- the statements among the points
pub points-order : (list : List Reads) (links : List (List ℕ)) (points order : List ℕ) → IsTwoStep (length list) (before_of list) (links_of links) → Visits (links_of links) [] (range_with_len 0 (length list)) points
    → order ≡ filter (λ p. nat_lt p (length list)) points → IsOrder list order
points-order list links points order steps v e = subst (IsOrder list) (sym e) (visits-statements (length list) (before_of list) (links_of links) steps points v)

pub points-cycle : (list : List Reads) (links : List (List ℕ)) (points cycle : List ℕ) → IsTwoStep (length list) (before_of list) (links_of links) → IsFirstCycle (λ p q. IsLink links q p) points
    → cycle ≡ filter (λ p. nat_lt p (length list)) points → IsFirstCycle (Before list) cycle
points-cycle list links points cycle steps first e =
    first-map (λ s t. (t < length list) × (is_in s (before_of list t) ≡ true)) (Before list) (λ s t h. before-back list s t h) (λ s t b. before-there list s t b) cycle
    (subst (IsFirstCycle (λ s t. (t < length list) × (is_in s (before_of list t) ≡ true))) (sym e) (first-only (length list) (before_of list) (links_of links) steps points first))

-- what came of the visits
pub found-order : (list : List Reads) (v : Visited) (points : Vec ℕ Global) (slice order : List ℕ) → IsFound list v → v ≡ Order points → slice ≡ points.items → order ≡ filter (λ p. nat_lt p (length list)) slice → IsOrder list order
found-order list v points slice order found is read e =
    points-order list found.links points.items order found.two (subst (IsVisited found.links (length list)) is found.visited) (e ∙ ap (filter (λ p. nat_lt p (length list))) read)

pub found-cycle : (list : List Reads) (v : Visited) (points : Vec ℕ Global) (slice cycle : List ℕ) → IsFound list v → v ≡ Cycle points → slice ≡ points.items → cycle ≡ filter (λ p. nat_lt p (length list)) slice → IsFirstCycle (Before list) cycle
found-cycle list v points slice cycle found is read e =
    points-cycle list found.links points.items cycle found.two (subst (IsVisited found.links (length list)) is found.visited) (e ∙ ap (filter (λ p. nat_lt p (length list))) read)
