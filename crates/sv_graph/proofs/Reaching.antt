-- How points are reached.
use Rattle.std.proofs.Common.{◌≡◌, ℕ, zero, suc, ◌+◌, ◌<◌, Bool, true, false, cond, List, [], ◌∷◌, ◌++◌, length, replicate, refl, sym, ap, ◌∙◌, inl, inr, ◌⊎◌, subst, arith}
use Rattle.std.specs.Prelude.{not, count_by, slice_set}
use Rattle.std.proofs.lemmas.Bool.{cases_eq, false≢true}
use Rattle.std.proofs.lemmas.List.{get_or-set_same, get_or-set_other, length-set, length-replicate, length_push}
use Rattle.std.proofs.lemmas.List.Sums.{sum_by-set}
use Rattle.sv_graph.specs.Links.{is_in}
use Rattle.sv_graph.specs.Reached.{Leads, start, further, IsReached, IsReaching, Adds, Reaches}
use Rattle.sv_graph.specs.Search.{met_at}
use Rattle.sv_graph.proofs.Points.{in_left, in_push, in_push_cases}

-- ---- one point more

pub reaches-none : (met : List Bool) (stack : List ℕ) → Reaches [] met stack met stack
reaches-none met stack = record {
  size = refl;
  keeps = λ p h. h;
  adds = λ p h. absurd (false≢true h);
  only = λ p h. inl h;
  stays = λ p h. h;
  stacks = λ p h. inl h;
  waits = λ p h. inl h;
  less = omega arith;
}

count-met : (met : List Bool) (at : ℕ) → at < length met → met_at met at ≡ false → count_by not (slice_set met at true) + 1 ≡ count_by not met
count-met met at within fresh =
    let change = sum_by-set (λ x. cond (not x) 1 0) met at true false within in
    let was = ap (λ x. cond {A = ℕ} (not x) 1 0) fresh in
    omega (arith, change, was)

pub reaches-more : (points : List ℕ) (at : ℕ) (met now new : List Bool) (stack here there : List ℕ) (b : Bool) → at < length now → Reaches points met stack now here → met_at now at ≡ b → Adds b at now here new there
    → Reaches (points ++ at ∷ []) met stack new there
reaches-more points at met now new stack here there true within r known e =
    subst (λ z. Reaches (points ++ at ∷ []) met stack new z) (sym e.1) (subst (λ z. Reaches (points ++ at ∷ []) met stack z here) (sym e.0) (record {
      size = r.size;
      keeps = r.keeps;
      adds = λ p h. elim (in_push_cases p at points h) [ inl before ↦ r.adds p before | inr same ↦ subst (λ z. met_at now z ≡ true) same known ];
      only = λ p h. elim (r.only p h) [ inl old ↦ inl old | inr own ↦ inr (in_left p points (at ∷ []) own) ];
      stays = r.stays;
      stacks = λ p h. elim (r.stacks p h) [ inl old ↦ inl old | inr own ↦ inr (in_left p points (at ∷ []) own) ];
      waits = r.waits;
      less = r.less;
    }))
reaches-more points at met now new stack here there false within r fresh e =
    let is : met_at (slice_set now at true) at ≡ true = get_or-set_same now at true false within in
    let apart : (p : ℕ) → (p ≡ at → ⊥) → met_at (slice_set now at true) p ≡ met_at now p = λ p other. get_or-set_other now at p true false other in
    let stays : (p : ℕ) → met_at now p ≡ true → met_at (slice_set now at true) p ≡ true = λ p h. elim (cases_eq p at) [
      | inl same ↦ ap (met_at (slice_set now at true)) same ∙ is
      | inr other ↦ apart p other ∙ h
    ] in
    let back : (p : ℕ) → met_at (slice_set now at true) p ≡ true → (at ≡ p) ⊎ (met_at now p ≡ true) = λ p h. elim (cases_eq p at) [ inl same ↦ inl (sym same) | inr other ↦ inr (sym (apart p other) ∙ h) ] in
    subst (λ z. Reaches (points ++ at ∷ []) met stack new z) (sym e.1) (subst (λ z. Reaches (points ++ at ∷ []) met stack z (here ++ at ∷ [])) (sym e.0) (record {
      size = length-set now at true ∙ r.size;
      keeps = λ p h. stays p (r.keeps p h);
      adds = λ p h. elim (in_push_cases p at points h) [ inl before ↦ stays p (r.adds p before) | inr same ↦ ap (met_at (slice_set now at true)) (sym same) ∙ is ];
      only = λ p h. elim (back p h) [
        | inl same ↦ inr (subst (λ z. is_in z (points ++ at ∷ []) ≡ true) same (in_push at points))
        | inr before ↦ elim (r.only p before) [ inl old ↦ inl old | inr own ↦ inr (in_left p points (at ∷ []) own) ]
      ];
      stays = λ p h. in_left p here (at ∷ []) (r.stays p h);
      stacks = λ p h. elim (in_push_cases p at here h) [
        | inl before ↦ elim (r.stacks p before) [ inl old ↦ inl old | inr own ↦ inr (in_left p points (at ∷ []) own) ]
        | inr same ↦ inr (subst (λ z. is_in z (points ++ at ∷ []) ≡ true) same (in_push at points))
      ];
      waits = λ p h. elim (back p h) [
        | inl same ↦ inr (subst (λ z. is_in z (here ++ at ∷ []) ≡ true) same (in_push at here))
        | inr before ↦ elim (r.waits p before) [ inl old ↦ inl old | inr own ↦ inr (in_left p here (at ∷ []) own) ]
      ];
      less = omega (arith, r.less, count-met now at within fresh, length_push here at);
    }))

-- ---- the walk

unmet : (n p : ℕ) → met_at (replicate n false) p ≡ true → ⊥
unmet zero p h = false≢true h
unmet (suc n) zero h = false≢true h
unmet (suc n) (suc p) h = unmet n p h

module _ (links : ℕ → List ℕ) (starts : List ℕ) where
  pub reaching-start : (count : ℕ) (met met' : List Bool) (stack' : List ℕ) → met ≡ replicate count false → Reaches starts met [] met' stack' → IsReaching links starts count met' stack'
  reaching-start count met met' stack' e r =
      let none : (p : ℕ) → met_at met p ≡ true → ⊥ = λ p h. unmet count p (subst (λ z. met_at z p ≡ true) e h) in
      record {
        size = r.size ∙ (ap length e ∙ length-replicate count false);
        only = λ p h. elim (r.only p h) [ inl old ↦ absurd (none p old) | inr own ↦ start own ];
        begun = r.adds;
        stacked = λ p h. elim (r.stacks p h) [ inl old ↦ absurd (false≢true old) | inr own ↦ r.adds p own ];
        closed = λ p q h link. elim (r.waits p h) [ inl old ↦ absurd (none p old) | inr waits ↦ inr waits ];
      }

  -- the point on top is gone on to
  pub reaching-next : (count : ℕ) (met met' : List Bool) (stack rest stack' : List ℕ) (point : ℕ) → IsReaching links starts count met stack → stack ≡ rest ++ point ∷ [] → Reaches (links point) met rest met' stack' → IsReaching links starts count met' stack'
  reaching-next count met met' stack rest stack' point i e r =
      let own : met_at met point ≡ true = i.stacked point (subst (λ z. is_in point z ≡ true) (sym e) (in_push point rest)) in
      record {
        size = r.size ∙ i.size;
        only = λ p h. elim (r.only p h) [ inl old ↦ i.only p old | inr linked ↦ further (i.only point own) linked ];
        begun = λ p h. r.keeps p (i.begun p h);
        stacked = λ p h. elim (r.stacks p h) [
          | inl old ↦ r.keeps p (i.stacked p (subst (λ z. is_in p z ≡ true) (sym e) (in_left p rest (point ∷ []) old)))
          | inr linked ↦ r.adds p linked
        ];
        closed = λ p q h link. elim (r.waits p h) [
          | inr waits ↦ inr waits
          | inl old ↦ elim (i.closed p q old link) [
            | inl met_too ↦ inl (r.keeps q met_too)
            | inr waits ↦ elim (in_push_cases p point rest (subst (λ z. is_in p z ≡ true) e waits)) [
              | inl before ↦ inr (r.stays p before)
              | inr same ↦ inl (r.adds q (subst (λ z. is_in q (links z) ≡ true) (sym same) link))
            ]
          ]
        ];
      }

  -- the point on top is there
  pub reaching-within : (count : ℕ) (met : List Bool) (stack rest : List ℕ) (point : ℕ) → IsReaching links starts count met stack → stack ≡ rest ++ point ∷ [] → point < count
  reaching-within count met stack rest point i e =
      let own : met_at met point ≡ true = i.stacked point (subst (λ z. is_in point z ≡ true) (sym e) (in_push point rest)) in
      subst (λ z. point < z) i.size (met-within met point own)
    where
      met-within : (met : List Bool) (p : ℕ) → met_at met p ≡ true → p < length met
      met-within [] p h = absurd (false≢true h)
      met-within (b ∷ met) zero h = omega arith
      met-within (b ∷ met) (suc p) h = let deeper = met-within met p h in omega (arith, deeper)

  pub reaching-end : (count : ℕ) (met : List Bool) → IsReaching links starts count met [] → IsReached links starts count met
  reaching-end count met i = record { size = i.size; only = i.only; each = all }
    where
      all : (p : ℕ) → Leads links starts p → met_at met p ≡ true
      all p (start h) = i.begun p h
      all p (further {p = before} path h) = elim (i.closed before p (all before path) h) [ inl done ↦ done | inr waits ↦ absurd (false≢true waits) ]
