-- What visits of points leave: each once, behind all that it is linked to; and so there is no cycle.
use Rattle.std.proofs.Common.{◌≡◌, ℕ, ◌+◌, ◌<◌, ◌≤◌, true, false, cond, List, [], ◌∷◌, ◌++◌, refl, sym, ap, ◌∙◌, inl, inr, subst, arith, append_assoc}
use Rattle.std.specs.Prelude.{◌==◌, ◌||◌, count_by}
use Rattle.std.proofs.lemmas.Bool.{cases_Bool, false≢true, eq-eqb, ne_eqb, cases_eq}
use Rattle.std.proofs.lemmas.List.{append-nil}
use Rattle.std.proofs.lemmas.List.Sums.{sum_by_push, sum_by-cons}
use Rattle.sv_graph.specs.Links.{is_in}
use Rattle.sv_graph.specs.Visits.{with_point, Visits, none, again, first}
use Rattle.sv_graph.proofs.Points.{in_head, in_tail, in_cons, in_push_cases, with_new, with_old}
use Rattle.sv_graph.proofs.Visiting.{visits-reach}

abbrev pub times : ℕ → List ℕ → ℕ
times p points = count_by (λ x. x == p) points

times-push : (p x : ℕ) (points : List ℕ) → times p (points ++ x ∷ []) ≡ times p points + cond (x == p) 1 0
times-push p x points = sum_by_push (λ y. cond (y == p) 1 0) points x

times-cons : (p x : ℕ) (points : List ℕ) → times p (x ∷ points) ≡ cond (x == p) 1 0 + times p points
times-cons p x points = sum_by-cons (λ y. cond (y == p) 1 0) x points

pub times-absent : (p : ℕ) (points : List ℕ) → is_in p points ≡ false → times p points ≡ 0
times-absent p [] h = refl
times-absent p (x ∷ points) h =
    let later = times-absent p points in
    elim (cases_eq x p) [
      | inl same ↦ absurd (false≢true (sym h ∙ subst (λ z. is_in z (x ∷ points) ≡ true) same (in_head x points)))
      | inr other ↦ (let rest : is_in p points ≡ false = sym (ap (λ b. b || is_in p points) (ne_eqb x p other)) ∙ h in
          let one = ap (λ b. cond {A = ℕ} b 1 0) (ne_eqb x p other) in
          omega (arith, times-cons p x points, one, later rest))
    ]

pub times-present : (p : ℕ) (points : List ℕ) → is_in p points ≡ true → 0 < times p points
times-present p [] h = absurd (false≢true h)
times-present p (x ∷ points) h =
    let deeper = λ (later : is_in p points ≡ true). times-present p points later in
    elim (in_cons p x points h) [
      | inl same ↦ (let one = ap (λ b. cond {A = ℕ} b 1 0) (eq-eqb x p same) in omega (arith, times-cons p x points, one))
      | inr later ↦ omega (arith, times-cons p x points, deeper later)
    ]

module _ (links : ℕ → List ℕ) where
  -- a point stands once at most
  with-once : (p q : ℕ) (placed : List ℕ) → times q placed ≤ 1 → times q (with_point p placed) ≤ 1
  with-once p q placed le = elim (cases_Bool (is_in p placed)) [
    | inl h ↦ subst (λ z. times q z ≤ 1) (sym (with_old p placed h)) le
    | inr h ↦ subst (λ z. times q z ≤ 1) (sym (with_new p placed h)) (elim (cases_eq p q) [
      | inl same ↦ (let none = subst (λ z. times z placed ≡ 0) same (times-absent p placed h) in
          let one = ap (λ b. cond {A = ℕ} b 1 0) (eq-eqb p q same) in
          omega (arith, times-push q p placed, one, none))
      | inr other ↦ (let one = ap (λ b. cond {A = ℕ} b 1 0) (ne_eqb p q other) in omega (arith, times-push q p placed, one, le))
    ])
  ]

  pub visits-once : {points placed after : List ℕ} (q : ℕ) → Visits links placed points after → times q placed ≤ 1 → times q after ≤ 1
  visits-once q none le = le
  visits-once q (again h v) le = visits-once q v le
  visits-once q (first {p = p} {between = between} h v w) le = visits-once q w (with-once p q between (visits-once q v le))

  -- nothing stands there but what could be visited
  pub visits-below : {points placed after : List ℕ} (end q : ℕ) → ((p x : ℕ) → is_in x (links p) ≡ true → x < end) → Visits links placed points after → ((x : ℕ) → is_in x points ≡ true → x < end)
      → ((x : ℕ) → is_in x placed ≡ true → x < end) → is_in q after ≡ true → q < end
  visits-below end q all none points placed here = placed q here
  visits-below end q all (again {p = p} {points = rest} h v) points placed here = visits-below end q all v (λ x is. points x (in_tail x p rest is)) placed here
  visits-below end q all (first {p = p} {points = rest} {between = between} h v w) points placed here =
      visits-below end q all w (λ x is. points x (in_tail x p rest is))
      (λ x is. with_below x is (λ inside. visits-below end x all v (λ y inner. all p y inner) placed inside) (points p (in_head p rest))) here
    where
      with_below : (x : ℕ) → is_in x (with_point p between) ≡ true → (is_in x between ≡ true → x < end) → p < end → x < end
      with_below x is inner own = elim (cases_Bool (is_in p between)) [
        | inl old ↦ inner (subst (λ z. is_in x z ≡ true) (with_old p between old) is)
        | inr new ↦ elim (in_push_cases x p between (subst (λ z. is_in x z ≡ true) (with_new p between new) is)) [ inl before ↦ inner before | inr same ↦ subst (λ z. z < end) same own ]
      ]

  -- each point of a list stands behind all that it is linked to, where some were seen before
  abbrev IsOrderly : List ℕ → List ℕ → Type 0
  IsOrderly seen [] = Unit {0}
  IsOrderly seen (p ∷ points) = ((q : ℕ) → is_in q (links p) ≡ true → is_in q seen ≡ true) × IsOrderly (seen ++ p ∷ []) points

  orderly-push : (seen points : List ℕ) (p : ℕ) → IsOrderly seen points → ((q : ℕ) → is_in q (links p) ≡ true → is_in q (seen ++ points) ≡ true) → IsOrderly seen (points ++ p ∷ [])
  orderly-push seen [] p o all = (λ q link. subst (λ z. is_in q z ≡ true) (append-nil seen) (all q link), tt)
  orderly-push seen (x ∷ points) p o all = (o.0, orderly-push (seen ++ x ∷ []) points p o.1 (λ q link. subst (λ z. is_in q z ≡ true) (sym (append_assoc seen (x ∷ []) points)) (all q link)))

  visits-orderly : {points placed after : List ℕ} → Visits links placed points after → IsOrderly [] placed → IsOrderly [] after
  visits-orderly none o = o
  visits-orderly (again h v) o = visits-orderly v o
  visits-orderly (first {p = p} {between = between} h v w) o =
      let inner = visits-orderly v o in
      visits-orderly w (elim (cases_Bool (is_in p between)) [
        | inl old ↦ subst (IsOrderly []) (sym (with_old p between old)) inner
        | inr new ↦ subst (IsOrderly []) (sym (with_new p between new)) (orderly-push [] between p inner (λ q link. visits-reach q v link))
      ])

  orderly-at : (seen front back : List ℕ) (t s : ℕ) → IsOrderly seen (front ++ t ∷ back) → is_in s (links t) ≡ true → is_in s (seen ++ front) ≡ true
  orderly-at seen [] back t s o link = subst (λ z. is_in s z ≡ true) (sym (append-nil seen)) (o.0 s link)
  orderly-at seen (x ∷ front) back t s o link = subst (λ z. is_in s z ≡ true) (append_assoc seen (x ∷ []) front) (orderly-at (seen ++ x ∷ []) front back t s o.1 link)

  pub visits-behind : {points after : List ℕ} (front back : List ℕ) (t s : ℕ) → Visits links [] points after → after ≡ front ++ t ∷ back → is_in s (links t) ≡ true → is_in s front ≡ true
  visits-behind front back t s v e link = orderly-at [] front back t s (subst (IsOrderly []) e (visits-orderly v tt)) link

  -- no point of a list without beginning stands in an orderly list
  orderly-none : (seen points cycle : List ℕ) → IsOrderly seen points → ((x : ℕ) → is_in x cycle ≡ true → (y : ℕ) × (is_in y cycle ≡ true) × (is_in y (links x) ≡ true))
      → ((x : ℕ) → is_in x cycle ≡ true → is_in x seen ≡ true → ⊥) → (x : ℕ) → is_in x cycle ≡ true → is_in x points ≡ true → ⊥
  orderly-none seen [] cycle o earlier apart x here there = false≢true there
  orderly-none seen (p ∷ points) cycle o earlier apart x here there =
      let alone = λ (own : is_in p cycle ≡ true). let y = earlier p own in apart y.0 y.1 (o.0 y.0 y.2) in
      let later = orderly-none (seen ++ p ∷ []) points cycle o.1 earlier
      (λ z in_cycle in_seen. elim (in_push_cases z p seen in_seen) [ inl before ↦ apart z in_cycle before | inr same ↦ alone (subst (λ w. is_in w cycle ≡ true) (sym same) in_cycle) ]) in
      elim (in_cons x p points there) [ inl same ↦ alone (subst (λ w. is_in w cycle ≡ true) (sym same) here) | inr rest ↦ later x here rest ]

  pub visits-acyclic : {points after : List ℕ} (cycle : List ℕ) (x : ℕ) → Visits links [] points after → ((x : ℕ) → is_in x cycle ≡ true → (y : ℕ) × (is_in y cycle ≡ true) × (is_in y (links x) ≡ true))
      → is_in x cycle ≡ true → is_in x after ≡ true → ⊥
  visits-acyclic cycle x v earlier here there = orderly-none [] _ cycle (visits-orderly v tt) earlier (λ z is no_one. false≢true no_one) x here there
