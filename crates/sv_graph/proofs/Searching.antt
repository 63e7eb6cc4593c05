-- The steps of a search for a cycle, and what it knows at its end.
use Rattle.std.proofs.Common.{◌≡◌, ℕ, zero, suc, ◌<◌, Bool, true, false, List, [], ◌∷◌, ◌++◌, length, drop, map, replicate, Some, None, refl, sym, ap, ◌∙◌, inl, inr, ◌⊎◌, subst, arith, add-one}
use Rattle.std.specs.Prelude.{◌==◌, ◌||◌, ◌&&◌}
use Rattle.std.proofs.lemmas.Bool.{cases_eq, eq-eqb, eqb-true, false≢true, or_cases, or_left, or_right, and_parts, and_from}
use Rattle.std.proofs.lemmas.List.{get_or-set_same, get_or-set_other, length-set, length-replicate}
use Rattle.std.proofs.lemmas.List.Folds.{list_any-append}
use Rattle.sv_graph.specs.Links.{is_in, links_of, IsLink, IsWhole}
use Rattle.sv_graph.specs.Path.{Path, one as step, more}
use Rattle.sv_graph.specs.Cycle.{Leads}
use Rattle.sv_graph.specs.declared.marks.Frame.{Frame}
use Rattle.sv_graph.specs.Walk.{link_at, rest_of}
use Rattle.sv_graph.specs.Search.{IsCycleOf, met_at, pends, IsChain, IsFrom, IsSearch, Meets}
use Rattle.sv_graph.proofs.Points.{in_cons}
use Rattle.sv_graph.proofs.Walking.{rest-none, rest-some}
use Rattle.sv_graph.proofs.Underway.{behind}

module _ (links : List (List ℕ)) where
  -- ---- chains of frames

  chain-front : (xs : List Frame) (f : Frame) → IsChain links (xs ++ f ∷ []) → IsChain links xs
  chain-front [] f c = tt
  chain-front (x ∷ []) f c = tt
  chain-front (x ∷ y ∷ xs) f c = (c.0, chain-front (y ∷ xs) f c.1)

  chain-behind : (xs : List Frame) (f : Frame) → IsChain links (xs ++ f ∷ []) → IsChain links (xs ++ behind f ∷ [])
  chain-behind [] f c = tt
  chain-behind (x ∷ []) f c = c
  chain-behind (x ∷ y ∷ xs) f c = (c.0, chain-behind (y ∷ xs) f c.1)

  chain-push : (xs : List Frame) (f g : Frame) → IsChain links (xs ++ f ∷ []) → IsLink links f.point g.point → IsChain links ((xs ++ f ∷ []) ++ g ∷ [])
  chain-push [] f g c h = (h, tt)
  chain-push (x ∷ []) f g c h = (c.0, (h, tt))
  chain-push (x ∷ y ∷ xs) f g c h = (c.0, chain-push (y ∷ xs) f g c.1 h)

  from-front : (p : ℕ) (xs : List Frame) (f : Frame) → IsFrom p (xs ++ f ∷ []) → IsFrom p xs
  from-front p [] f h = tt
  from-front p (x ∷ xs) f h = h

  from-behind : (p : ℕ) (xs : List Frame) (f : Frame) → IsFrom p (xs ++ f ∷ []) → IsFrom p (xs ++ behind f ∷ [])
  from-behind p [] f h = h
  from-behind p (x ∷ xs) f h = h

  from-push : (p : ℕ) (xs : List Frame) (f g : Frame) → IsFrom p (xs ++ f ∷ []) → IsFrom p ((xs ++ f ∷ []) ++ g ∷ [])
  from-push p [] f g h = h
  from-push p (x ∷ xs) f g h = h

  chain-leads : (g : Frame) (xs : List Frame) (f : Frame) (end : ℕ) → IsChain links (g ∷ (xs ++ f ∷ [])) → IsLink links f.point end → Leads (IsLink links) g.point (map (λ x. x.point) (xs ++ f ∷ [])) end
  chain-leads g [] f end c h = (c.0, h)
  chain-leads g (x ∷ xs) f end c h = (c.0, chain-leads x xs f end c.1 h)

  -- a chain from a point on that is linked to that point is a cycle
  pub chain-cycle : (p : ℕ) (xs : List Frame) (f : Frame) → IsChain links (xs ++ f ∷ []) → IsFrom p (xs ++ f ∷ []) → IsLink links f.point p → IsCycleOf links p (map (λ x. x.point) (xs ++ f ∷ []))
  chain-cycle p [] f c from h = (subst (λ z. IsLink links f.point z) (sym from) h, from)
  chain-cycle p (x ∷ xs) f c from h = (chain-leads x xs f x.point c (subst (λ z. IsLink links f.point z) (sym from) h), from)

  chain_within : (g : Frame) (xs : List Frame) (f : Frame) → IsWhole links → IsChain links (g ∷ (xs ++ f ∷ [])) → f.point < length links
  chain_within g [] f whole c = whole.within g.point f.point c.0
  chain_within g (x ∷ xs) f whole c = chain_within x xs f whole c.1

  -- the top frame's point is there
  pub search_within : (start : ℕ) (met : List Bool) (xs : List Frame) (f : Frame) → IsWhole links → start < length links → IsSearch links start met (xs ++ f ∷ []) → f.point < length links
  search_within start met [] f whole within s = subst (λ z. z < length links) (sym s.from) within
  search_within start met (x ∷ xs) f whole within s = chain_within x xs f whole s.chain

  -- ---- what is pending

  pends-parts : (p q : ℕ) (xs ys : List Frame) → pends links p q (xs ++ ys) ≡ true → (pends links p q xs ≡ true) ⊎ (pends links p q ys ≡ true)
  pends-parts p q xs ys h = or_cases _ _ (sym (list_any-append (λ f. f.point == p && is_in q (rest_of links f)) xs ys) ∙ h)

  pends-left : (p q : ℕ) (xs ys : List Frame) → pends links p q xs ≡ true → pends links p q (xs ++ ys) ≡ true
  pends-left p q xs ys h = list_any-append (λ f. f.point == p && is_in q (rest_of links f)) xs ys ∙ or_left _ _ h

  pends-right : (p q : ℕ) (xs ys : List Frame) → pends links p q ys ≡ true → pends links p q (xs ++ ys) ≡ true
  pends-right p q xs ys h = list_any-append (λ f. f.point == p && is_in q (rest_of links f)) xs ys ∙ or_right _ _ h

  pends-one : (p q : ℕ) (f : Frame) → pends links p q (f ∷ []) ≡ true → (f.point ≡ p) × (is_in q (rest_of links f) ≡ true)
  pends-one p q f h = elim (or_cases (f.point == p && is_in q (rest_of links f)) false h) [
    | inl e ↦ (let parts = and_parts _ _ e in (eqb-true f.point p parts.0, parts.1))
    | inr e ↦ absurd (false≢true e)
  ]

  pends-by : (p q : ℕ) (f : Frame) → f.point ≡ p → is_in q (rest_of links f) ≡ true → pends links p q (f ∷ []) ≡ true
  pends-by p q f same here = or_left _ _ (and_from _ _ (eq-eqb f.point p same) here)

  -- a link that was pending is, or it is the one that is gone on to
  pends-behind : (p q next : ℕ) (xs : List Frame) (f : Frame) → link_at links f ≡ Some next → pends links p q (xs ++ f ∷ []) ≡ true → (pends links p q (xs ++ behind f ∷ []) ≡ true) ⊎ (next ≡ q)
  pends-behind p q next xs f at h =
      let r = rest-some (links_of links f.point) f.next next at in
      elim (pends-parts p q xs (f ∷ []) h) [
        | inl e ↦ inl (pends-left p q xs (behind f ∷ []) e)
        | inr e ↦ (let one = pends-one p q f e in
            elim (in_cons q next (drop (suc f.next) (links_of links f.point)) (subst (λ z. is_in q z ≡ true) r.0 one.1)) [
              | inl same ↦ inr same
              | inr later ↦ inl (pends-right p q xs (behind f ∷ []) (pends-by p q (behind f) one.0 (subst (λ z. is_in q (drop z (links_of links f.point)) ≡ true) (sym (add-one f.next)) later)))
            ])
      ]

  pends-front : (p q : ℕ) (xs : List Frame) (f : Frame) → link_at links f ≡ None → pends links p q (xs ++ f ∷ []) ≡ true → pends links p q xs ≡ true
  pends-front p q xs f last h = elim (pends-parts p q xs (f ∷ []) h) [
    | inl e ↦ e
    | inr e ↦ absurd (let one = pends-one p q f e in let no : is_in q [] ≡ true = subst (λ z. is_in q z ≡ true) (rest-none (links_of links f.point) f.next last).0 one.1 in cc)
  ]

  -- ---- the steps

  pub search-start : (start : ℕ) (met : List Bool) → met ≡ replicate (length links) false → IsSearch links start met (record { point = start; next = 0 } ∷ [])
  search-start start met e =
      let none : (p : ℕ) → met_at met p ≡ false = λ p. ap (λ z. met_at z p) e ∙ never (length links) p in
      record {
        size = ap length e ∙ length-replicate (length links) false;
        apart = none start;
        closed = λ p q seen link. or_right _ _ (elim (or_cases (p == start) (met_at met p) seen) [
          | inl same ↦ (let here = eqb-true p start same in pends-by p q (record { point = start; next = 0 }) (sym here) (subst (λ z. IsLink links z q) here link))
          | inr was ↦ absurd (false≢true (sym (none p) ∙ was))
        ]);
        chain = tt;
        from = refl;
      }
    where
      never : (n p : ℕ) → met_at (replicate n false) p ≡ false
      never zero p = refl
      never (suc n) zero = refl
      never (suc n) (suc p) = never n p

  pub search-done : (start : ℕ) (met : List Bool) (xs : List Frame) (f : Frame) → IsSearch links start met (xs ++ f ∷ []) → link_at links f ≡ None → IsSearch links start met xs
  search-done start met xs f s last = record {
    size = s.size;
    apart = s.apart;
    closed = λ p q seen link. elim (or_cases (met_at met q) _ (s.closed p q seen link)) [
      | inl was ↦ or_left _ _ was
      | inr waits ↦ or_right (met_at met q) _ (pends-front p q xs f last waits)
    ];
    chain = chain-front xs f s.chain;
    from = from-front start xs f s.from;
  }

  pub search-met : (start : ℕ) (met met' : List Bool) (q : ℕ) (xs : List Frame) (f : Frame) (frames' : List Frame) → IsWhole links → IsSearch links start met (xs ++ f ∷ []) → link_at links f ≡ Some q → (q ≡ start → ⊥)
      → (b : Bool) → met_at met q ≡ b → Meets b q met (xs ++ behind f ∷ []) met' frames' → IsSearch links start met' frames'
  search-met start met met' q xs f frames' whole s at other true known e =
      let still : IsSearch links start met (xs ++ behind f ∷ []) = record {
        size = s.size;
        apart = s.apart;
        closed = λ p r seen link. elim (or_cases (met_at met r) _ (s.closed p r seen link)) [
          | inl was ↦ or_left _ _ was
          | inr waits ↦ elim (pends-behind p r q xs f at waits) [
            | inl later ↦ or_right (met_at met r) _ later
            | inr same ↦ or_left _ _ (subst (λ z. met_at met z ≡ true) same known)
          ]
        ];
        chain = chain-behind xs f s.chain;
        from = from-behind start xs f s.from;
      } in
      subst (λ z. IsSearch links start met' z) (sym e.1) (subst (λ z. IsSearch links start z (xs ++ behind f ∷ [])) (sym e.0) still)
  search-met start met met' q xs f frames' whole s at other false fresh e =
      let g : Frame = record { point = q; next = 0 } in
      let r = rest-some (links_of links f.point) f.next q at in
      let within : q < length met = omega (arith, whole.within f.point q r.1, s.size) in
      let now : met_at met' q ≡ true = ap (λ z. met_at z q) e.0 ∙ get_or-set_same met q true false within in
      let else_same : (p : ℕ) → (p ≡ q → ⊥) → met_at met' p ≡ met_at met p = λ p apart. ap (λ z. met_at z p) e.0 ∙ get_or-set_other met q p true false apart in
      let keeps : (p : ℕ) → met_at met p ≡ true → met_at met' p ≡ true = λ p was. elim (cases_eq p q) [ inl same ↦ (subst (λ z. met_at met' z ≡ true) (sym same) now) | inr apart ↦ else_same p apart ∙ was ] in
      let older : (p z : ℕ) → (p == start || met_at met p) ≡ true → IsLink links p z → (met_at met' z || pends links p z ((xs ++ behind f ∷ []) ++ g ∷ [])) ≡ true =
      λ p z seen link. elim (or_cases (met_at met z) _ (s.closed p z seen link)) [
        | inl was ↦ or_left _ _ (keeps z was)
        | inr waits ↦ elim (pends-behind p z q xs f at waits) [
          | inl later ↦ or_right (met_at met' z) _ (pends-left p z (xs ++ behind f ∷ []) (g ∷ []) later)
          | inr same ↦ or_left _ _ (subst (λ y. met_at met' y ≡ true) same now)
        ]
      ] in
      let still : IsSearch links start met' ((xs ++ behind f ∷ []) ++ g ∷ []) = record {
        size = ap length e.0 ∙ (length-set met q true ∙ s.size);
        apart = else_same start (λ same. other (sym same)) ∙ s.apart;
        closed = λ p z seen link. elim (cases_eq p q) [
          | inl same ↦ or_right (met_at met' z) _ (pends-right p z (xs ++ behind f ∷ []) (g ∷ []) (pends-by p z g (sym same) (subst (λ y. IsLink links y z) same link)))
          | inr apart ↦ older p z (subst (λ b. (p == start || b) ≡ true) (else_same p apart) seen) link
        ];
        chain = chain-push xs (behind f) g (chain-behind xs f s.chain) r.1;
        from = from-push start xs (behind f) g (from-behind start xs f s.from);
      } in
      subst (λ z. IsSearch links start met' z) (sym e.1) still

  -- ---- the ends

  path-met : (start : ℕ) (met : List Bool) (p r : ℕ) → IsSearch links start met [] → (p == start || met_at met p) ≡ true → Path (links_of links) p r → met_at met r ≡ true
  path-met start met p r s seen (step h) = elim (or_cases (met_at met r) false (s.closed p r seen h)) [ inl e ↦ e | inr e ↦ absurd (false≢true e) ]
  path-met start met p r s seen (more {q = q} h path) =
      let far = λ (was : met_at met q ≡ true). path-met start met q r s (or_right (q == start) _ was) path in
      elim (or_cases (met_at met q) false (s.closed p q seen h)) [ inl e ↦ far e | inr e ↦ absurd (false≢true e) ]

  pub search-none : (start : ℕ) (met : List Bool) → IsSearch links start met [] → Path (links_of links) start start → ⊥
  search-none start met s path = false≢true (sym s.apart ∙ path-met start met start start s (or_left _ _ (eq-eqb start start refl)) path)

  pub search-found : (start q : ℕ) (met : List Bool) (xs : List Frame) (f : Frame) → IsSearch links start met (xs ++ f ∷ []) → link_at links f ≡ Some q → q ≡ start
      → IsCycleOf links start (map (λ x. x.point) (xs ++ behind f ∷ []))
  search-found start q met xs f s at same =
      let r = rest-some (links_of links f.point) f.next q at in
      chain-cycle start xs (behind f) (chain-behind xs f s.chain) (from-behind start xs f s.from) (subst (λ z. IsLink links f.point z) same r.1)
