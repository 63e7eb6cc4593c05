-- Cycles of statements, and cycles of statements and names.
use Rattle.std.proofs.Common.{◌≡◌, ℕ, ◌<◌, ◌≤◌, true, List, [], ◌∷◌, sym, ◌∙◌, inl, inr, ◌⊎◌, subst, arith}
use Rattle.std.specs.List.{flat_map}
use Rattle.std.proofs.lemmas.Bool.{cases_lt, false≢true}
use Rattle.sv_graph.specs.Links.{is_in}
use Rattle.sv_graph.specs.Cycle.{Leads, IsCycle, IsFirstCycle}
use Rattle.sv_graph.proofs.Points.{in_head, in_tail, in_cons, in_left, in_right, in_parts}
use Rattle.sv_order.specs.Points.{IsTwoStep}
use Rattle.sv_order.proofs.TwoSteps.{only, only-below, only-above}

-- ---- the point before one on a cycle

leads-earlier : (R : ℕ → ℕ → Type 0) (p : ℕ) (points : List ℕ) (end x : ℕ) → Leads R p points end → (is_in x points ≡ true) ⊎ (x ≡ end) → (y : ℕ) × (is_in y (p ∷ points) ≡ true) × R y x
leads-earlier R p [] end x h (inl no_one) = absurd (false≢true no_one)
leads-earlier R p [] end x h (inr same) = (p, in_head p [], subst (R p) (sym same) h)
leads-earlier R p (q ∷ points) end x h (inl here) =
    let deeper = λ (place : (is_in x points ≡ true) ⊎ (x ≡ end)). leads-earlier R q points end x h.1 place in
    elim (in_cons x q points here) [
      | inl same ↦ (p, in_head p (q ∷ points), subst (R p) same h.0)
      | inr later ↦ (let y = deeper (inl later) in (y.0, in_tail y.0 p (q ∷ points) y.1, y.2))
    ]
leads-earlier R p (q ∷ points) end x h (inr same) = let y = leads-earlier R q points end x h.1 (inr same) in (y.0, in_tail y.0 p (q ∷ points) y.1, y.2)

pub cycle-earlier : (R : ℕ → ℕ → Type 0) (cycle : List ℕ) (x : ℕ) → IsCycle R cycle → is_in x cycle ≡ true → (y : ℕ) × (is_in y cycle ≡ true) × R y x
cycle-earlier R [] x h here = absurd h
cycle-earlier R (p ∷ points) x h here = elim (in_cons x p points here) [
  | inl same ↦ leads-earlier R p points p x h (inr (sym same))
  | inr later ↦ leads-earlier R p points p x h (inl later)
]

-- ---- two steps are one

in-flat_map : (f : ℕ → List ℕ) (p : ℕ) (qs : List ℕ) → is_in p (flat_map f qs) ≡ true → (q : ℕ) × (is_in q qs ≡ true) × (is_in p (f q) ≡ true)
in-flat_map f p [] h = absurd (false≢true h)
in-flat_map f p (q ∷ qs) h =
    let deeper = λ (later : is_in p (flat_map f qs) ≡ true). in-flat_map f p qs later in
    elim (in_parts p (f q) (flat_map f qs) h) [
      | inl now ↦ (q, in_head q qs, now)
      | inr later ↦ (let r = deeper later in (r.0, in_tail r.0 q qs r.1, r.2))
    ]

flat_map-in : (f : ℕ → List ℕ) (p q : ℕ) (qs : List ℕ) → is_in q qs ≡ true → is_in p (f q) ≡ true → is_in p (flat_map f qs) ≡ true
flat_map-in f p q [] h here = absurd (false≢true h)
flat_map-in f p q (x ∷ qs) h here =
    let deeper = λ (later : is_in q qs ≡ true). flat_map-in f p q qs later here in
    elim (in_cons q x qs h) [
      | inl same ↦ in_left p (f x) (flat_map f qs) (subst (λ z. is_in p (f z) ≡ true) (sym same) here)
      | inr later ↦ in_right p (f x) (flat_map f qs) (deeper later)
    ]

module _ (count : ℕ) (before links : ℕ → List ℕ) (steps : IsTwoStep count before links) where
  abbrev Back : ℕ → ℕ → Type 0
  Back p q = is_in p (links q) ≡ true

  abbrev Is : ℕ → ℕ → Type 0
  Is s t = (t < count) × (is_in s (before t) ≡ true)

  -- a link between two statements
  not_both : (p q : ℕ) → p < count → q < count → Back p q → ⊥
  not_both p q below under h = omega (arith, steps.down q p under h)

  back-name : (p q : ℕ) → p < count → Back p q → count ≤ q
  back-name p q below h = elim (cases_lt q count) [ inl lt ↦ absurd (not_both p q below lt h) | inr above ↦ above ]

  back-statement : (p q : ℕ) → count ≤ p → Back p q → q < count
  back-statement p q above h = elim (cases_lt q count) [ inl lt ↦ lt | inr le ↦ absurd (omega (arith, steps.up q p le h)) ]

  back-two : (p q r : ℕ) → p < count → Back p q → Back q r → Is p r
  back-two p q r below one two =
      let end = back-statement q r (back-name p q below one) two in
      (end, subst (λ z. is_in p z ≡ true) (steps.two r end) (flat_map-in links p q (links r) two one))

  -- from a statement on, every second point is a statement
  leads-only : (p : ℕ) (points : List ℕ) (end : ℕ) → p < count → end < count → Leads Back p points end → Leads Is p (only count points) end
  leads-only p [] end below under h = absurd (not_both p end below under h)
  leads-only p (q ∷ []) end below under h = subst (λ z. Leads Is p z end) (sym (only-above count q [] (back-name p q below h.0))) (back-two p q end below h.0 h.1)
  leads-only p (q ∷ r ∷ points) end below under h =
      let step = back-two p q r below h.0 h.1.0 in
      let rest = leads-only r points end step.0 under h.1.1 in
      subst (λ z. Leads Is p z end) (sym (only-above count q (r ∷ points) (back-name p q below h.0) ∙ only-below count r points step.0)) (step, rest)

  -- a cycle of statements goes through names
  leads-through : (p : ℕ) (points : List ℕ) (end : ℕ) → Leads Is p points end → (all : List ℕ) × Leads Back p all end × ((x : ℕ) → is_in x points ≡ true → is_in x all ≡ true)
  leads-through p [] end h =
      let q = in-flat_map links p (links end) (subst (λ z. is_in p z ≡ true) (sym (steps.two end h.0)) h.1) in
      (q.0 ∷ [], (q.2, q.1), λ x no_one. absurd (false≢true no_one))
  leads-through p (s ∷ points) end h =
      let q = in-flat_map links p (links s) (subst (λ z. is_in p z ≡ true) (sym (steps.two s h.0.0)) h.0.1) in
      let rest = leads-through s points end h.1 in (
        q.0 ∷ s ∷ rest.0,
        (q.2, (q.1, rest.1)),
        λ x here. elim (in_cons x s points here) [
          | inl same ↦ in_tail x q.0 (s ∷ rest.0) (subst (λ z. is_in x (z ∷ rest.0) ≡ true) (sym same) (in_head x rest.0))
          | inr later ↦ in_tail x q.0 (s ∷ rest.0) (in_tail x s rest.0 (rest.2 x later))
        ],
      )

  head_below : (a : ℕ) (points : List ℕ) → IsFirstCycle Back (a ∷ points) → a < count
  head_below a [] h = elim (cases_lt a count) [ inl lt ↦ lt | inr above ↦ back-statement a a above h.is_cycle ]
  head_below a (q ∷ points) h = elim (cases_lt a count) [
    | inl lt ↦ lt
    | inr above ↦ (let under = back-statement a q above h.is_cycle.0 in
        let least = h.is_first (a ∷ q ∷ points) q h.is_cycle (in_tail q a (q ∷ points) (in_head q points)) in
        omega (arith, under, least))
  ]

  -- the first cycle of points is that of the statements among them
  pub first-only : (points : List ℕ) → IsFirstCycle Back points → IsFirstCycle Is (only count points)
  first-only [] h = absurd h.is_cycle
  first-only (a ∷ points) h =
      let below = head_below a points h in
      subst (IsFirstCycle Is) (sym (only-below count a points below)) (record {
        is_cycle = leads-only a points a below below h.is_cycle;
        is_first = least;
      })
    where
      least : (other : List ℕ) (s : ℕ) → IsCycle Is other → is_in s other ≡ true → a ≤ s
      least [] s is here = absurd is
      least (p ∷ others) s is here =
          let through = leads-through p others p is in
          h.is_first (p ∷ through.0) s through.1 (elim (in_cons s p others here) [
            | inl same ↦ subst (λ z. is_in s (z ∷ through.0) ≡ true) (sym same) (in_head s through.0)
            | inr later ↦ in_tail s p through.0 (through.2 s later)
          ])
