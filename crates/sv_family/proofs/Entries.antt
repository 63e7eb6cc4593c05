-- Sorted entries stay sorted where one is put in.
use Rattle.std.proofs.Common.{◌≡◌, ℕ, ◌<◌, List, [], ◌∷◌, arith}
use Rattle.std.specs.BTreeMap.{insert_entry}
use Rattle.std.specs.Cmp.{ranks}
use Rattle.std.specs.Ordering.{MatchOrdering, match_ordering, nat_cmp}
use Rattle.std.specs.declared.cmp.Ordering.{Ordering}
use Rattle.std.specs.declared.cmp.Ordering.TheVariants.{Less, Equal, Greater}
use Rattle.sv_code.proofs.Each.{each_mono}
use Rattle.sv_code.specs.Names.{Each}
use Rattle.sv_family.specs.Family.{AreSorted}

-- what holds of all numbers holds with one more of which it holds
pub each_put : {X : Type 0} (Q : ℕ → Type 0) (es : List (ℕ × X)) (k : ℕ) (v : X) → Q k → Each (λ e. Q e.0) es → Each (λ e. Q e.0) (insert_entry nat_cmp es k v)
each_put Q [] k v q h = (q, tt)
each_put {X} Q (e ∷ es) k v q h = by (each_put Q es k v q h.1) (nat_cmp k e.0) where
  by : Each (λ f. Q f.0) (insert_entry nat_cmp es k v) → (r : Ordering) → Each (λ (f : ℕ × X). Q f.0) (match_ordering r ((k, v) ∷ e ∷ es) ((e.0, v) ∷ es) (e ∷ insert_entry nat_cmp es k v))
  by rest Less = (q, h)
  by rest Equal = h
  by rest Greater = (h.0, rest)

pub sorted_put : {X : Type 0} (es : List (ℕ × X)) (k : ℕ) (v : X) → AreSorted es → AreSorted (insert_entry nat_cmp es k v)
sorted_put [] k v h = (tt, tt)
sorted_put {X} (e ∷ es) k v h = by (sorted_put es k v h.1) (nat_cmp k e.0) (ranks k e.0) where
  by : AreSorted (insert_entry nat_cmp es k v) → (r : Ordering) → MatchOrdering r (k < e.0) (k ≡ e.0) (e.0 < k) → AreSorted {A = X} (match_ordering r ((k, v) ∷ e ∷ es) ((e.0, v) ∷ es) (e ∷ insert_entry nat_cmp es k v))
  by rest Less lt = ((lt, each_mono (λ f. e.0 < f.0) (λ f. k < f.0) (λ f more. omega (arith, lt, more)) es h.0), h)
  by rest Equal same = h
  by rest Greater lt = (each_put (λ m. e.0 < m) es k v lt h.0, rest)
