-- Cycles as lists, and ways from a point back to it.
use Rattle.std.proofs.Common.{◌≡◌, ℕ, ◌+◌, ◌<◌, true, List, [], ◌∷◌, length, sym, inl, inr, subst, arith}
use Rattle.std.proofs.lemmas.Bool.{cases_lt, cases_eq, false≢true}
use Rattle.std.proofs.lemmas.List.{get_or_past}
use Rattle.sv_graph.specs.Links.{is_in, links_of, IsLink, IsTurned}
use Rattle.sv_graph.specs.Path.{Path, one, more}
use Rattle.sv_graph.specs.Cycle.{Leads, IsCycle, IsFirstCycle}
use Rattle.sv_graph.specs.Search.{IsCycleOf}
use Rattle.sv_graph.proofs.Points.{in_cons}
use Rattle.sv_graph.proofs.Turning.{path-turn}

-- ---- relations

pub leads-map : (R S : ℕ → ℕ → Type 0) → ((p q : ℕ) → R p q → S p q) → (p : ℕ) (points : List ℕ) (end : ℕ) → Leads R p points end → Leads S p points end
leads-map R S f p [] end h = f p end h
leads-map R S f p (q ∷ points) end h = (f p q h.0, leads-map R S f q points end h.1)

pub cycle-map : (R S : ℕ → ℕ → Type 0) → ((p q : ℕ) → R p q → S p q) → (points : List ℕ) → IsCycle R points → IsCycle S points
cycle-map R S f [] h = h
cycle-map R S f (p ∷ points) h = leads-map R S f p points p h

pub first-map : (R S : ℕ → ℕ → Type 0) → ((p q : ℕ) → R p q → S p q) → ((p q : ℕ) → S p q → R p q) → (points : List ℕ) → IsFirstCycle R points → IsFirstCycle S points
first-map R S there back points h = record {
  is_cycle = cycle-map R S there points h.is_cycle;
  is_first = λ other p cycle here. h.is_first other p (cycle-map S R back other cycle) here;
}

-- ---- ways

path-join : {links : ℕ → List ℕ} {p q r : ℕ} → Path links p q → Path links q r → Path links p r
path-join (one h) path = more h path
path-join (more h first) path = more h (path-join first path)

leads-path : (links : List (List ℕ)) (p : ℕ) (points : List ℕ) (end : ℕ) → Leads (IsLink links) p points end → Path (links_of links) p end
leads-path links p [] end h = one h
leads-path links p (q ∷ points) end h = more h.0 (leads-path links q points end h.1)

-- a point between two ends
leads-split : (links : List (List ℕ)) (p : ℕ) (points : List ℕ) (end x : ℕ) → Leads (IsLink links) p points end → is_in x points ≡ true → Path (links_of links) p x × Path (links_of links) x end
leads-split links p [] end x h here = absurd (false≢true here)
leads-split links p (q ∷ points) end x h here =
    let deeper = λ (later : is_in x points ≡ true). leads-split links q points end x h.1 later in
    elim (in_cons x q points here) [
      | inl same ↦ (subst (Path (links_of links) p) same (one h.0), subst (λ z. Path (links_of links) z end) same (leads-path links q points end h.1))
      | inr later ↦ (more h.0 (deeper later).0, (deeper later).1)
    ]

-- each point of a cycle leads to itself
pub cycle-path : (links : List (List ℕ)) (points : List ℕ) (x : ℕ) → IsCycle (IsLink links) points → is_in x points ≡ true → Path (links_of links) x x
cycle-path links [] x h here = absurd h
cycle-path links (p ∷ points) x h here = elim (in_cons x p points here) [
  | inl same ↦ subst (λ z. Path (links_of links) z z) same (leads-path links p points p h)
  | inr later ↦ (let ways = leads-split links p points p x h later in path-join ways.1 ways.0)
]

linked_within : (links : List (List ℕ)) (p q : ℕ) → IsLink links p q → p < length links
linked_within links p q h = elim (cases_lt p (length links)) [
  | inl lt ↦ lt
  | inr past ↦ absurd (false≢true (subst (λ z. is_in q z ≡ true) (get_or_past links p [] past) h))
]

-- what leads on is there
pub path_within : (links : List (List ℕ)) (p q : ℕ) → Path (links_of links) p q → p < length links
path_within links p q (one h) = linked_within links p q h
path_within links p q (more {q = r} h path) = linked_within links p r h

-- ---- the first cycle

-- no point below this one lies on a cycle
pub record NoneBelow (links : List (List ℕ)) (start : ℕ) : Type 0 where
  pub none : (p : ℕ) → p < start → Path (links_of links) p p → ⊥

pub none-first : (links : List (List ℕ)) → NoneBelow links 0
none-first links = record { none = λ p lt path. absurd (omega arith) }

pub none-next : (links : List (List ℕ)) (start : ℕ) → NoneBelow links start → (Path (links_of links) start start → ⊥) → NoneBelow links (start + 1)
none-next links start below off = record { none = λ p lt path. elim (cases_eq p start) [ inl same ↦ off (subst (λ z. Path (links_of links) z z) same path) | inr other ↦ below.none p (omega (arith, other)) path ] }

pub none_within : (links : List (List ℕ)) (start : ℕ) → NoneBelow links start → (p : ℕ) × Path (links_of links) p p → start < length links
none_within links start below cyclic = elim (cases_lt cyclic.0 start) [
  | inl lt ↦ absurd (below.none cyclic.0 lt cyclic.1)
  | inr above ↦ omega (arith, above, path_within links cyclic.0 cyclic.0 cyclic.1)
]

pub first-found : (links : List (List ℕ)) (start : ℕ) (cycle : List ℕ) → NoneBelow links start → IsCycleOf links start cycle → IsFirstCycle (IsLink links) cycle
first-found links start [] below c = absurd c.0
first-found links start (x ∷ cycle) below c = record {
  is_cycle = c.0;
  is_first = λ other p is here. elim (cases_lt p x) [
    | inl lt ↦ absurd (below.none p (subst (λ z. p < z) c.1 lt) (cycle-path links other p is here))
    | inr above ↦ above
  ];
}

pub cyclic-turned : (links turned now : List (List ℕ)) → now ≡ turned → IsTurned links turned → (p : ℕ) × Path (links_of links) p p → (p : ℕ) × Path (links_of now) p p
cyclic-turned links turned now e t cyclic = (cyclic.0, subst (λ z. Path (links_of z) cyclic.0 cyclic.0) (sym e) (path-turn links turned cyclic.0 cyclic.0 t cyclic.1))

-- a cycle of the links turned round is one of the links, the other way
pub first-turned : (links turned : List (List ℕ)) (cycle : List ℕ) → IsTurned links turned → IsFirstCycle (IsLink turned) cycle → IsFirstCycle (λ p q. IsLink links q p) cycle
first-turned links turned cycle t h = first-map (IsLink turned) (λ p q. IsLink links q p) (λ p q. t.back q p) (λ p q. t.there q p) cycle h
