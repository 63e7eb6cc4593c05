-- Visits of statements and names place the statements as visits of statements alone do.
use Rattle.std.proofs.Common.{◌≡◌, ℕ, zero, suc, ◌+◌, ◌<◌, ◌≤◌, Bool, true, false, cond, List, [], ◌∷◌, ◌++◌, refl, sym, ap, ◌∙◌, inl, inr, subst, arith}
use Rattle.std.specs.Prelude.{nat_lt, filter}
use Rattle.std.specs.List.{flat_map, range_with_len}
use Rattle.std.proofs.lemmas.Bool.{cases_Bool, cases_lt, lt-ltb, le-ltb, false≢true, false_from_ne_true}
use Rattle.sv_graph.specs.Links.{is_in}
use Rattle.sv_graph.specs.Visits.{with_point, Visits, none, again, first}
use Rattle.sv_graph.proofs.Points.{in_head, in_tail, in_cons, in_left, in_push_cases, with_new, with_old}
use Rattle.sv_graph.proofs.Visiting.{visits-append, visits-reach}
use Rattle.sv_order.specs.Points.{IsTwoStep}

module _ (count : ℕ) where
  abbrev pub only : List ℕ → List ℕ
  only points = filter (λ p. nat_lt p count) points

  -- the statements among points stay in order
  pub only-below : (p : ℕ) (points : List ℕ) → p < count → only (p ∷ points) ≡ p ∷ only points
  only-below p points lt = ap (λ b. cond b (p ∷ only points) (only points)) (lt-ltb p count lt)

  pub only-above : (p : ℕ) (points : List ℕ) → count ≤ p → only (p ∷ points) ≡ only points
  only-above p points le = ap (λ b. cond b (p ∷ only points) (only points)) (le-ltb p count le)

  only-push-below : (p : ℕ) (points : List ℕ) → p < count → only (points ++ p ∷ []) ≡ only points ++ p ∷ []
  only-push-below p [] lt = only-below p [] lt
  only-push-below p (x ∷ points) lt = step (nat_lt x count) (only-push-below p points lt)
    where
      step : (b : Bool) → only (points ++ p ∷ []) ≡ only points ++ p ∷ [] → cond b (x ∷ only (points ++ p ∷ [])) (only (points ++ p ∷ [])) ≡ cond b (x ∷ only points) (only points) ++ p ∷ []
      step true e = ap (λ z. x ∷ z) e
      step false e = e

  only-push-above : (p : ℕ) (points : List ℕ) → count ≤ p → only (points ++ p ∷ []) ≡ only points
  only-push-above p [] le = only-above p [] le
  only-push-above p (x ∷ points) le = ap (λ z. cond (nat_lt x count) (x ∷ z) z) (only-push-above p points le)

  pub in-only : (p : ℕ) (points : List ℕ) → p < count → is_in p points ≡ true → is_in p (only points) ≡ true
  in-only p [] lt h = h
  in-only p (x ∷ points) lt h =
      let deeper = λ (later : is_in p points ≡ true). in-only p points lt later in
      elim (cases_lt x count) [
        | inl below ↦ subst (λ z. is_in p z ≡ true) (sym (only-below x points below)) (elim (in_cons p x points h) [
          | inl same ↦ subst (λ z. is_in p (z ∷ only points) ≡ true) (sym same) (in_head p (only points))
          | inr later ↦ in_tail p x (only points) (deeper later)
        ])
        | inr above ↦ subst (λ z. is_in p z ≡ true) (sym (only-above x points above)) (elim (in_cons p x points h) [
          | inl same ↦ absurd (omega (arith, above, same))
          | inr later ↦ deeper later
        ])
      ]

  pub only-in : (p : ℕ) (points : List ℕ) → is_in p (only points) ≡ true → (p < count) × (is_in p points ≡ true)
  only-in p [] h = absurd (false≢true h)
  only-in p (x ∷ points) h =
      let deeper = λ (later : is_in p (only points) ≡ true). only-in p points later in
      elim (cases_lt x count) [
        | inl below ↦ elim (in_cons p x (only points) (subst (λ z. is_in p z ≡ true) (only-below x points below) h)) [
          | inl same ↦ (subst (λ z. z < count) same below, subst (λ z. is_in p (z ∷ points) ≡ true) (sym same) (in_head p points))
          | inr later ↦ ((deeper later).0, in_tail p x points (deeper later).1)
        ]
        | inr above ↦ (let later = deeper (subst (λ z. is_in p z ≡ true) (only-above x points above) h) in (later.0, in_tail p x points later.1))
      ]

  only-absent : (p : ℕ) (points : List ℕ) → is_in p points ≡ false → is_in p (only points) ≡ false
  only-absent p points h = false_from_ne_true _ (λ here. false≢true (sym h ∙ (only-in p points here).1))

  only-with-below : (p : ℕ) (points : List ℕ) → p < count → only (with_point p points) ≡ with_point p (only points)
  only-with-below p points lt = elim (cases_Bool (is_in p points)) [
    | inl h ↦ ap only (with_old p points h) ∙ sym (with_old p (only points) (in-only p points lt h))
    | inr h ↦ ap only (with_new p points h) ∙ (only-push-below p points lt ∙ sym (with_new p (only points) (only-absent p points h)))
  ]

  only-with-above : (p : ℕ) (points : List ℕ) → count ≤ p → only (with_point p points) ≡ only points
  only-with-above p points le = elim (cases_Bool (is_in p points)) [
    | inl h ↦ ap only (with_old p points h)
    | inr h ↦ ap only (with_new p points h) ∙ only-push-above p points le
  ]

  module _ (before links : ℕ → List ℕ) (steps : IsTwoStep count before links) where
    -- each name replaced by the statements that assign it
    abbrev expand : List ℕ → List ℕ
    expand [] = []
    expand (p ∷ points) = cond (nat_lt p count) (p ∷ expand points) (links p ++ expand points)

    expand-below : (p : ℕ) (points : List ℕ) → p < count → expand (p ∷ points) ≡ p ∷ expand points
    expand-below p points lt = ap (λ b. cond b (p ∷ expand points) (links p ++ expand points)) (lt-ltb p count lt)

    expand-above : (p : ℕ) (points : List ℕ) → count ≤ p → expand (p ∷ points) ≡ links p ++ expand points
    expand-above p points le = ap (λ b. cond b (p ∷ expand points) (links p ++ expand points)) (le-ltb p count le)

    -- names alone
    expand-names : (points : List ℕ) → ((q : ℕ) → is_in q points ≡ true → count ≤ q) → expand points ≡ flat_map links points
    expand-names [] all = refl
    expand-names (p ∷ points) all = expand-above p points (all p (in_head p points)) ∙ ap (λ z. links p ++ z) (expand-names points (λ q here. all q (in_tail q p points here)))

    -- statements alone
    expand-statements : (points : List ℕ) → ((q : ℕ) → is_in q points ≡ true → q < count) → expand points ≡ points
    expand-statements [] all = refl
    expand-statements (p ∷ points) all = expand-below p points (all p (in_head p points)) ∙ ap (λ z. p ∷ z) (expand-statements points (λ q here. all q (in_tail q p points here)))

    -- all that placed points are linked to is placed
    record IsClosed (placed : List ℕ) : Type 0 where
      closed : (p q : ℕ) → is_in p placed ≡ true → is_in q (links p) ≡ true → is_in q placed ≡ true

    closed-with : (p : ℕ) (placed : List ℕ) → IsClosed placed → ((q : ℕ) → is_in q (links p) ≡ true → is_in q placed ≡ true) → IsClosed (with_point p placed)
    closed-with p placed c all = elim (cases_Bool (is_in p placed)) [
      | inl h ↦ subst IsClosed (sym (with_old p placed h)) c
      | inr h ↦ subst IsClosed (sym (with_new p placed h)) (record {
        closed = λ x q here link. elim (in_push_cases x p placed here) [
          | inl before ↦ in_left q placed (p ∷ []) (c.closed x q before link)
          | inr same ↦ in_left q placed (p ∷ []) (all q (subst (λ z. is_in q (links z) ≡ true) (sym same) link))
        ];
      })
    ]

    again-all : (xs ys placed after : List ℕ) → ((q : ℕ) → is_in q xs ≡ true → is_in q placed ≡ true) → Visits before placed ys after → Visits before placed (xs ++ ys) after
    again-all [] ys placed after all v = v
    again-all (x ∷ xs) ys placed after all v = again (all x (in_head x xs)) (again-all xs ys placed after (λ q here. all q (in_tail q x xs here)) v)

    -- what a visit of points comes to for the statements
    record Bridged (placed points after : List ℕ) : Type 0 where
      statements : Visits before (only placed) (expand points) (only after)
      is_closed : IsClosed after

    bridge : {placed points after : List ℕ} → Visits links placed points after → IsClosed placed → Bridged placed points after
    bridge none c = record { statements = none; is_closed = c }
    bridge (again {p = p} {points = points} {placed = placed} {after = after} h v) c =
        let rest = bridge v c in
        record {
          statements = elim (cases_lt p count) [
            | inl below ↦ subst (λ z. Visits before (only placed) z (only after)) (sym (expand-below p points below)) (again (in-only p placed below h) rest.statements)
            | inr above ↦ subst (λ z. Visits before (only placed) z (only after)) (sym (expand-above p points above))
                (again-all (links p) (expand points) (only placed) (only after) (λ q here. in-only q placed (steps.up p q above here) (c.closed p q h here)) rest.statements)
          ];
          is_closed = rest.is_closed;
        }
    bridge (first {p = p} {points = points} {placed = placed} {between = between} {after = after} h v w) c =
        let inner = bridge v c in
        let rest = bridge w (closed-with p between inner.is_closed (λ q here. visits-reach q v here)) in
        record {
          statements = elim (cases_lt p count) [
            | inl below ↦ (let own : expand (links p) ≡ before p = expand-names (links p) (λ q here. steps.down p q below here) ∙ steps.two p below in
                subst (λ z. Visits before (only placed) z (only after)) (sym (expand-below p points below))
                (first (only-absent p placed h) (subst (λ z. Visits before (only placed) z (only between)) own inner.statements)
                (subst (λ z. Visits before z (expand points) (only after)) (only-with-below p between below) rest.statements)))
            | inr above ↦ (let own : expand (links p) ≡ links p = expand-statements (links p) (λ q here. steps.up p q above here) in
                subst (λ z. Visits before (only placed) z (only after)) (sym (expand-above p points above))
                (visits-append (subst (λ z. Visits before (only placed) z (only between)) own inner.statements)
                (subst (λ z. Visits before z (expand points) (only after)) (only-with-above p between above) rest.statements)))
          ];
          is_closed = rest.is_closed;
        }

    range-below : (a n q : ℕ) → a + n ≤ count → is_in q (range_with_len a n) ≡ true → q < count
    range-below a zero q le h = absurd (false≢true h)
    range-below a (suc n) q le h =
        let deeper = λ (later : is_in q (range_with_len (a + 1) n) ≡ true). range-below (a + 1) n q (omega arith) later in
        elim (in_cons q a (range_with_len (a + 1) n) h) [ inl same ↦ omega (arith, same) | inr later ↦ deeper later ]

    -- the statements are placed in the order in which visits of the statements place them
    pub visits-statements : (after : List ℕ) → Visits links [] (range_with_len 0 count) after → Visits before [] (range_with_len 0 count) (only after)
    visits-statements after v =
        let b = bridge v (record { closed = λ p q here link. absurd (false≢true here) }) in
        subst (λ z. Visits before [] z (only after)) (expand-statements (range_with_len 0 count) (λ q here. range-below 0 count q (omega arith) here)) b.statements
