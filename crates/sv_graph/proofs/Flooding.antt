-- How groups are made.
use Rattle.std.proofs.Common.{◌≡◌, ℕ, zero, suc, ◌+◌, ◌*◌, ◌<◌, ◌≤◌, Bool, true, false, cond, List, [], ◌∷◌, ◌++◌, length, get_or, replicate, refl, sym, ap, ◌∙◌, inl, inr, ◌⊎◌, subst, arith}
use Rattle.std.specs.Prelude.{◌==◌, count_by}
use Rattle.std.specs.List.{list_any}
use Rattle.std.proofs.lemmas.Bool.{cases_eq, false≢true, eqb-true, eq-eqb, ne_eqb, or_parts}
use Rattle.std.proofs.lemmas.List.{get_or-set_same, get_or-set_other, get_or_default, length-set, length-replicate, length_push}
use Rattle.std.proofs.lemmas.List.Sums.{sum_by-set}
use Rattle.sv_graph.specs.Links.{is_in, links_of, IsLink}
use Rattle.sv_graph.specs.Path.{Path, one, more}
use Rattle.sv_graph.specs.declared.groups.TheConstants.{NO_GROUP}
use Rattle.sv_graph.specs.Groups.{group_at, is_free, NoneRises, IsFlooded, IsFlooding, Takes}
use Rattle.sv_graph.proofs.Points.{in_cons, in_left, in_push, in_push_cases}

pub flooded-none : (links : List (List ℕ)) (groups : List ℕ) → groups ≡ replicate (length links) NO_GROUP → IsFlooded links groups 0
flooded-none links groups e =
    let free : (p : ℕ) → group_at groups p ≡ NO_GROUP = λ p. ap (λ z. group_at z p) e ∙ all (length links) p in
    record {
      size = ap length e ∙ length-replicate (length links) NO_GROUP;
      falls = record { falls = λ p q link. omega (arith, free p, free q) };
      known = λ p. inr (free p);
    }
  where
    all : (n p : ℕ) → group_at (replicate n NO_GROUP) p ≡ NO_GROUP
    all zero p = refl
    all (suc n) zero = refl
    all (suc n) (suc p) = all n p

module _ (links : List (List ℕ)) where
  -- a group is begun with no point
  pub flooding-start : (groups : List ℕ) (group point : ℕ) → IsFlooded links groups group → IsFlooding links groups [] group point []
  flooding-start groups group point f = record {
    size = f.size;
    known = λ p. elim (f.known p) [ inl lt ↦ inl (omega (arith, lt)) | inr free ↦ inr free ];
    own = λ p here. absurd (false≢true here);
    falls = λ p q link. inl (f.falls.falls p q link);
  }

  pub flooding-end : (groups : List ℕ) (group point : ℕ) → IsFlooding links groups [] group point [] → IsFlooded links groups (group + 1)
  flooding-end groups group point f = record {
    size = f.size;
    falls = record {
      falls = λ p q link. elim (f.falls p q link) [
        | inl le ↦ le
        | inr later ↦ elim later [ inl here ↦ absurd (false≢true here) | inr own ↦ absurd (false≢true own.1) ]
      ];
    };
    known = λ p. elim (f.known p) [ inl le ↦ inl (omega (arith, le)) | inr free ↦ inr free ];
  }

  -- the point on top is gone on to
  pub flooding-next : (groups stack stack' : List ℕ) (group before point : ℕ) → IsFlooding links groups stack group before [] → stack ≡ stack' ++ point ∷ [] → IsFlooding links groups stack' group point (links_of links point)
  flooding-next groups stack stack' group before point f e = record {
    size = f.size;
    known = f.known;
    own = λ p here. f.own p (subst (λ z. is_in p z ≡ true) (sym e) (in_left p stack' (point ∷ []) here));
    falls = λ p q link. elim (f.falls p q link) [
      | inl le ↦ inl le
      | inr later ↦ elim later [
        | inl here ↦ elim (in_push_cases p point stack' (subst (λ z. is_in p z ≡ true) e here)) [
          | inl there ↦ inr (inl there)
          | inr same ↦ inr (inr (sym same, subst (λ z. IsLink links z q) (sym same) link))
        ]
        | inr own ↦ absurd (false≢true own.1)
      ]
    ];
  }

  pub popped : (groups stack stack' : List ℕ) (group before point : ℕ) → IsFlooding links groups stack group before [] → stack ≡ stack' ++ point ∷ [] → (group_at groups point ≡ group) × (point < length links)
  popped groups stack stack' group before point f e = f.own point (subst (λ z. is_in point z ≡ true) (sym e) (in_push point stack'))

  -- a point is taken
  pub flooding-take : (groups groups' stack stack' : List ℕ) (group point other : ℕ) (rest : List ℕ) (b : Bool) → group < NO_GROUP → group_at groups point ≡ group → other < length links → IsFlooding links groups stack group point (other ∷ rest)
      → is_free (group_at groups other) ≡ b → Takes b other group groups stack groups' stack' → IsFlooding links groups' stack' group point rest × (group_at groups' point ≡ group)
  flooding-take groups groups' stack stack' group point other rest false small own within f taken e =
      let le : group_at groups other ≤ group = elim (f.known other) [ inl le ↦ le | inr free ↦ absurd (false≢true (sym taken ∙ eq-eqb (group_at groups other) NO_GROUP free)) ] in
      let still : IsFlooding links groups stack group point rest = record {
        size = f.size;
        known = f.known;
        own = f.own;
        falls = λ p q link. elim (f.falls p q link) [
          | inl lower ↦ inl lower
          | inr later ↦ elim later [
            | inl here ↦ inr (inl here)
            | inr mine ↦ elim (in_cons q other rest mine.1) [
              | inl same ↦ inl (omega (arith, le, own, ap (group_at groups) same, ap (group_at groups) mine.0))
              | inr after ↦ inr (inr (mine.0, after))
            ]
          ]
        ];
      } in
      (subst (λ z. IsFlooding links groups' z group point rest) (sym e.1) (subst (λ z. IsFlooding links z stack group point rest) (sym e.0) still), ap (λ z. group_at z point) e.0 ∙ own)
  flooding-take groups groups' stack stack' group point other rest true small own within f taken e =
      let free : group_at groups other ≡ NO_GROUP = eqb-true (group_at groups other) NO_GROUP taken in
      let inside : other < length groups = omega (arith, within, f.size) in
      let now : group_at groups' other ≡ group = ap (λ z. group_at z other) e.0 ∙ get_or-set_same groups other group NO_GROUP inside in
      let apart : (p : ℕ) → (p ≡ other → ⊥) → group_at groups' p ≡ group_at groups p = λ p differs. ap (λ z. group_at z p) e.0 ∙ get_or-set_other groups other p group NO_GROUP differs in
      let less : (p : ℕ) → group_at groups' p ≤ group_at groups p = λ p. elim (cases_eq p other) [
        | inl same ↦ omega (arith, ap (group_at groups') same, ap (group_at groups) same, now, free, small)
        | inr differs ↦ omega (arith, apart p differs)
      ] in
      let mine_still : group_at groups' point ≡ group = apart point (λ same. absurd (omega (arith, ap (group_at groups) same, free, own, small))) ∙ own in
      let still : IsFlooding links groups' (stack ++ other ∷ []) group point rest = record {
        size = ap length e.0 ∙ (length-set groups other group ∙ f.size);
        known = λ p. elim (cases_eq p other) [
          | inl same ↦ inl (omega (arith, ap (group_at groups') same, now))
          | inr differs ↦ subst (λ z. (z ≤ group) ⊎ (z ≡ NO_GROUP)) (sym (apart p differs)) (f.known p)
        ];
        own = λ p here. elim (cases_eq p other) [
          | inl same ↦ (ap (group_at groups') same ∙ now, omega (arith, same, within))
          | inr differs ↦ elim (in_push_cases p other stack here) [
            | inl before ↦ (apart p differs ∙ (f.own p before).0, (f.own p before).1)
            | inr same ↦ absurd (differs (sym same))
          ]
        ];
        falls = λ p q link. elim (cases_eq p other) [
          | inl same ↦ inr (inl (subst (λ z. is_in z (stack ++ other ∷ []) ≡ true) (sym same) (in_push other stack)))
          | inr differs ↦ elim (f.falls p q link) [
            | inl lower ↦ inl (omega (arith, lower, less q, apart p differs))
            | inr later ↦ elim later [
              | inl here ↦ inr (inl (in_left p stack (other ∷ []) here))
              | inr mine ↦ elim (in_cons q other rest mine.1) [
                | inl same ↦ inl (omega (arith, ap (group_at groups') same, now, ap (group_at groups') mine.0, mine_still))
                | inr after ↦ inr (inr (mine.0, after))
              ]
            ]
          ]
        ];
      } in
      (subst (λ z. IsFlooding links groups' z group point rest) (sym e.1) still, mine_still)

  -- the first point is taken
  pub flooding-root : (groups groups' stack' : List ℕ) (group root : ℕ) (b : Bool) → group < NO_GROUP → root < length links → IsFlooded links groups group → is_free (group_at groups root) ≡ b → Takes b root group groups [] groups' stack'
      → IsFlooding links groups' stack' group root []
  flooding-root groups groups' stack' group root false small within f taken e =
      subst (λ z. IsFlooding links groups' z group root []) (sym e.1) (subst (λ z. IsFlooding links z [] group root []) (sym e.0) (flooding-start groups group root f))
  flooding-root groups groups' stack' group root true small within f taken e =
      let free : group_at groups root ≡ NO_GROUP = eqb-true (group_at groups root) NO_GROUP taken in
      let inside : root < length groups = omega (arith, within, f.size) in
      let now : group_at groups' root ≡ group = ap (λ z. group_at z root) e.0 ∙ get_or-set_same groups root group NO_GROUP inside in
      let apart : (p : ℕ) → (p ≡ root → ⊥) → group_at groups' p ≡ group_at groups p = λ p differs. ap (λ z. group_at z p) e.0 ∙ get_or-set_other groups root p group NO_GROUP differs in
      subst (λ z. IsFlooding links groups' z group root []) (sym e.1) (record {
        size = ap length e.0 ∙ (length-set groups root group ∙ f.size);
        known = λ p. elim (cases_eq p root) [
          | inl same ↦ inl (omega (arith, ap (group_at groups') same, now))
          | inr differs ↦ subst (λ z. (z ≤ group) ⊎ (z ≡ NO_GROUP)) (sym (apart p differs)) (elim (f.known p) [ inl lt ↦ inl (omega (arith, lt)) | inr no_group ↦ inr no_group ])
        ];
        own = λ p here. elim (in_cons p root [] here) [
          | inl same ↦ (ap (group_at groups') (sym same) ∙ now, omega (arith, same, within))
          | inr no_one ↦ absurd (false≢true no_one)
        ];
        falls = λ p q link. elim (cases_eq p root) [
          | inl same ↦ inr (inl (subst (λ z. is_in z (root ∷ []) ≡ true) (sym same) (in_push root [])))
          | inr differs ↦ inl (elim (cases_eq q root) [
            | inl same ↦ omega (arith, f.falls.falls p q link, ap (group_at groups') same, ap (group_at groups) same, now, free, small, apart p differs)
            | inr else_where ↦ omega (arith, f.falls.falls p q link, apart p differs, apart q else_where)
          ])
        ];
      })

-- the work that is left
pub take-less : (groups groups' stack stack' : List ℕ) (group point : ℕ) (b : Bool) → group < NO_GROUP → point < length groups → is_free (group_at groups point) ≡ b → Takes b point group groups stack groups' stack'
    → 2 * count_by is_free groups' + length stack' ≤ 2 * count_by is_free groups + length stack
take-less groups groups' stack stack' group point false small within taken e = omega (arith, ap (count_by is_free) e.0, ap length e.1)
take-less groups groups' stack stack' group point true small within taken e =
    let change = sum_by-set (λ x. cond (is_free x) 1 0) groups point group NO_GROUP within in
    let was = ap (λ b. cond {A = ℕ} b 1 0) taken in
    let is = ap (λ b. cond {A = ℕ} b 1 0) (ne_eqb group NO_GROUP (λ same. omega (arith, same, small))) in
    let count : count_by is_free groups' + 1 ≡ count_by is_free groups = ap (λ z. count_by is_free z + 1) e.0 ∙ omega (arith, change, was, is) in
    omega (arith, count, ap length e.1, length_push stack point)

-- ---- what groups tell

path-falls : (links : List (List ℕ)) (groups : List ℕ) (p r : ℕ) → NoneRises links groups → Path (links_of links) p r → group_at groups r ≤ group_at groups p
path-falls links groups p r g (one h) = g.falls p r h
path-falls links groups p r g (more {q = q} h path) = omega (arith, g.falls p q h, path-falls links groups q r g path)

-- a point that isn't linked to one of its own group lies on no cycle
pub group-acyclic : (links : List (List ℕ)) (groups : List ℕ) (p : ℕ) → NoneRises links groups → ((q : ℕ) → IsLink links p q → (group_at groups q == group_at groups p) ≡ false) → Path (links_of links) p p → ⊥
group-acyclic links groups p g apart (one h) = false≢true (sym (apart p h) ∙ eq-eqb (group_at groups p) (group_at groups p) refl)
group-acyclic links groups p g apart (more {q = q} h path) =
    let same : group_at groups q ≡ group_at groups p = omega (arith, g.falls p q h, path-falls links groups q p g path) in
    false≢true (sym (apart q h) ∙ eq-eqb (group_at groups q) (group_at groups p) same)

-- groups that were read
pub same-group : (groups : List ℕ) (p q : ℕ) → p < length groups → q < length groups → get_or groups q 0 ≡ get_or groups p 0 → (group_at groups q == group_at groups p) ≡ true
same-group groups p q here there e = eq-eqb _ _ (get_or_default groups q NO_GROUP 0 there ∙ (e ∙ sym (get_or_default groups p NO_GROUP 0 here)))

pub other-group : (groups : List ℕ) (p q : ℕ) → p < length groups → q < length groups → (get_or groups q 0 ≡ get_or groups p 0 → ⊥) → (group_at groups q == group_at groups p) ≡ false
other-group groups p q here there differ = ne_eqb _ _ (λ e. differ (sym (get_or_default groups q NO_GROUP 0 there) ∙ (e ∙ get_or_default groups p NO_GROUP 0 here)))

pub stays-not : (links : List (List ℕ)) (groups : List ℕ) (p : ℕ) → NoneRises links groups → list_any (λ q. group_at groups q == group_at groups p) (links_of links p) ≡ false → Path (links_of links) p p → ⊥
stays-not links groups p g none path = group-acyclic links groups p g (λ q link. any-none (λ x. group_at groups x == group_at groups p) q (links_of links p) none link) path
  where
    any-none : (test : ℕ → Bool) (q : ℕ) (xs : List ℕ) → list_any test xs ≡ false → is_in q xs ≡ true → test q ≡ false
    any-none test q [] no_one here = absurd (false≢true here)
    any-none test q (x ∷ xs) no_one here =
        let deeper = any-none test q xs in
        let parts = or_parts (test x) (list_any test xs) no_one in
        elim (in_cons q x xs here) [ inl same ↦ ap test (sym same) ∙ parts.0 | inr later ↦ deeper parts.1 later ]
