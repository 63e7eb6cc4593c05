-- What visits leave: all that was placed before, and all that was to be visited.
use Rattle.std.proofs.Common.{◌≡◌, ℕ, true, List, [], ◌++◌, inl, inr, subst}
use Rattle.sv_graph.specs.Links.{is_in}
use Rattle.sv_graph.specs.Visits.{with_point, Visits, none, again, first}
use Rattle.sv_graph.proofs.Points.{in_cons, in_with, kept_with}

-- visits of some points and then of others
pub visits-append : {links : ℕ → List ℕ} {xs ys placed between after : List ℕ} → Visits links placed xs between → Visits links between ys after → Visits links placed (xs ++ ys) after
visits-append none after = after
visits-append (again h v) after = again h (visits-append v after)
visits-append (first h v w) after = first h v (visits-append w after)

-- what is placed stays
pub visits-keep : {links : ℕ → List ℕ} {points placed after : List ℕ} (q : ℕ) → Visits links placed points after → is_in q placed ≡ true → is_in q after ≡ true
visits-keep q none here = here
visits-keep q (again h v) here = visits-keep q v here
visits-keep q (first {p = p} {between = between} h v w) here = visits-keep q w (kept_with q p between (visits-keep q v here))

-- what is to be visited is placed
pub visits-reach : {links : ℕ → List ℕ} {points placed after : List ℕ} (q : ℕ) → Visits links placed points after → is_in q points ≡ true → is_in q after ≡ true
visits-reach q none here = absurd (let no : is_in q [] ≡ true = here in cc)
visits-reach q (again {p = p} {points = rest} {placed = placed} h v) here = elim (in_cons q p rest here) [
  | inl e ↦ visits-keep q v (subst (λ z. is_in z placed ≡ true) e h)
  | inr e ↦ visits-reach q v e
]
visits-reach q (first {p = p} {points = rest} {between = between} h v w) here = elim (in_cons q p rest here) [
  | inl e ↦ visits-keep q w (subst (λ z. is_in z (with_point p between) ≡ true) e (in_with p between))
  | inr e ↦ visits-reach q w e
]
