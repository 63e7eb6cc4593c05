-- Links that are added, and links turned round.
use Rattle.std.proofs.Common.{◌≡◌, ℕ, zero, suc, ◌+◌, ◌<◌, ◌≤◌, true, List, [], ◌∷◌, ◌++◌, length, take, set, get_or, replicate, sym, ap, ◌∙◌, inl, inr, ◌⊎◌, subst, arith}
use Rattle.std.proofs.lemmas.Bool.{cases_eq, cases_lt, false≢true}
use Rattle.std.proofs.lemmas.List.{get_or-set_same, get_or-set_other, take_more, take_all, get_or_past, get_or_push, get_or_append_left, get_or_read, length_push, length-replicate, length-take-le}
use Rattle.sv_graph.specs.Links.{is_in, links_of, IsWhole, IsLink, AddsLinks, IsTurned}
use Rattle.sv_graph.specs.Path.{Path, one, more}
use Rattle.sv_graph.proofs.Points.{in_head, in_tail, in_left, in_push, in_push_cases}

pub adds-none : (links : List (List ℕ)) (to : ℕ) → AddsLinks links [] to links
adds-none links to = record { keeps = λ p q h. h; adds = λ p h. absurd (false≢true h); only = λ p q h. inl h }

-- one more point is linked
pub adds-more : (old now new : List (List ℕ)) (from : List ℕ) (at to : ℕ) → AddsLinks old from to now → at < length now → new ≡ set now at (links_of now at ++ to ∷ []) → AddsLinks old (from ++ at ∷ []) to new
adds-more old now new from at to a within e =
    let own : links_of new at ≡ links_of now at ++ to ∷ [] = ap (λ z. links_of z at) e ∙ get_or-set_same now at (links_of now at ++ to ∷ []) [] within in
    let apart : (p : ℕ) → (p ≡ at → ⊥) → links_of new p ≡ links_of now p = λ p other. ap (λ z. links_of z p) e ∙ get_or-set_other now at p (links_of now at ++ to ∷ []) [] other in
    let stays : (p q : ℕ) → IsLink now p q → IsLink new p q = λ p q h. elim (cases_eq p at) [
      | inl same ↦ subst (λ z. is_in q z ≡ true) (sym (ap (links_of new) same ∙ own)) (in_left q (links_of now at) (to ∷ []) (subst (λ z. IsLink now z q) same h))
      | inr other ↦ subst (λ z. is_in q z ≡ true) (sym (apart p other)) h
    ] in
    record {
      keeps = λ p q h. stays p q (a.keeps p q h);
      adds = λ p h. elim (in_push_cases p at from h) [
        | inl before ↦ stays p to (a.adds p before)
        | inr same ↦ subst (λ z. IsLink new z to) same (subst (λ z. is_in to z ≡ true) (sym own) (in_push to (links_of now at)))
      ];
      only = λ p q h. elim (cases_eq p at) [
        | inl same ↦ elim (in_push_cases q to (links_of now at) (subst (λ z. is_in q z ≡ true) (ap (links_of new) same ∙ own) h)) [
          | inl before ↦ elim (a.only p q (subst (λ z. IsLink now z q) (sym same) before)) [ inl o ↦ inl o | inr n ↦ inr (n.0, in_left p from (at ∷ []) n.1) ]
          | inr is ↦ inr (sym is, subst (λ z. is_in p (from ++ z ∷ []) ≡ true) same (in_push p from))
        ]
        | inr other ↦ elim (a.only p q (subst (λ z. is_in q z ≡ true) (apart p other) h)) [ inl o ↦ inl o | inr n ↦ inr (n.0, in_left p from (at ∷ []) n.1) ]
      ];
    }

pub unlinked-none : (n p q : ℕ) → IsLink (replicate n []) p q → ⊥
unlinked-none zero p q h = false≢true h
unlinked-none (suc n) zero q h = false≢true h
unlinked-none (suc n) (suc p) q h = unlinked-none n p q h

-- the links of the points so far are turned
pub turned-none : (n : ℕ) (links : List (List ℕ)) → links ≡ replicate n [] → IsTurned [] links
turned-none n links e = record { there = λ p q h. absurd (false≢true h); back = λ p q h. absurd (unlinked-none n q p (subst (λ z. IsLink z q p) e h)) }

take-links : (links : List (List ℕ)) (i : ℕ) (own : List ℕ) → i < length links → get_or links i own ≡ own → (p : ℕ) →
    ((p ≡ i) × (links_of (take (i + 1) links) p ≡ own)) ⊎ ((p ≡ i → ⊥) × (links_of (take (i + 1) links) p ≡ links_of (take i links) p))
take-links links i own within is p =
    let size : length (take i links) ≡ i = length-take-le i links (omega arith) in
    let whole : take (i + 1) links ≡ take i links ++ own ∷ [] = take_more links i own within ∙ ap (λ z. take i links ++ z ∷ []) is in
    elim (cases_eq p i) [
      | inl same ↦ inl (same, ap (λ z. links_of z p) whole ∙ get_or_push (take i links) own [] p (size ∙ sym same))
      | inr other ↦ inr (other, ap (λ z. links_of z p) whole ∙ apart (cases_lt p i) size other)
    ]
  where
    ne_lt : (i p : ℕ) → i ≤ p → (i ≡ p → ⊥) → i < p
    ne_lt i p le ne = omega (arith, ne)

    apart : (p < i) ⊎ (i ≤ p) → length (take i links) ≡ i → (p ≡ i → ⊥) → links_of (take i links ++ own ∷ []) p ≡ links_of (take i links) p
    apart (inl below) size other = get_or_append_left (take i links) (own ∷ []) [] p (omega arith)
    apart (inr above) size other =
        get_or_past (take i links ++ own ∷ []) p [] (omega (arith, length_push (take i links) own, ne_lt i p above (λ e. other (sym e)))) ∙ sym (get_or_past (take i links) p [] (omega arith))

pub turned-more : (links turned turned' : List (List ℕ)) (i : ℕ) (own : List ℕ) → i < length links → get_or links i own ≡ own → IsTurned (take i links) turned → AddsLinks turned own i turned' → IsTurned (take (i + 1) links) turned'
turned-more links turned turned' i own within is t a = record {
  there = λ p q h. elim (take-links links i own within is p) [
    | inl same ↦ subst (λ z. IsLink turned' q z) (sym same.0) (a.adds q (subst (λ z. is_in q z ≡ true) same.1 h))
    | inr other ↦ a.keeps q p (t.there p q (subst (λ z. is_in q z ≡ true) other.1 h))
  ];
  back = λ p q h. elim (take-links links i own within is p) [
    | inl same ↦ elim (a.only q p h) [
      | inl before ↦ absurd (no_later p q same.0 (t.back p q before))
      | inr now ↦ subst (λ z. is_in q z ≡ true) (sym same.1) now.1
    ]
    | inr other ↦ elim (a.only q p h) [
      | inl before ↦ subst (λ z. is_in q z ≡ true) (sym other.1) (t.back p q before)
      | inr now ↦ absurd (other.0 now.0)
    ]
  ];
}
  where
    no_later : (p q : ℕ) → p ≡ i → IsLink (take i links) p q → ⊥
    no_later p q same h =
        let past : links_of (take i links) p ≡ [] = get_or_past (take i links) p [] (omega (arith, length-take-le i links (omega arith))) in
        false≢true (subst (λ z. is_in q z ≡ true) past h)

pub turned-all : (links turned : List (List ℕ)) (n : ℕ) → length links ≤ n → IsTurned (take n links) turned → IsTurned links turned
turned-all links turned n all t = subst (λ z. IsTurned z turned) (take_all n links all) t

-- ---- the points that one is linked to

pub in_at : (xs : List ℕ) (k d : ℕ) → k < length xs → is_in (get_or xs k d) xs ≡ true
in_at [] k d lt = absurd (omega arith)
in_at (x ∷ xs) zero d lt = in_head x xs
in_at (x ∷ xs) (suc k) d lt = in_tail (get_or xs k d) x xs (in_at xs k d (omega arith))

pub links_within : (links : List (List ℕ)) (i : ℕ) (own : List ℕ) (n : ℕ) → IsWhole links → i < length links → own ≡ get_or links i own → n ≡ length links → (k d : ℕ) → k < length own → get_or own k d < n
links_within links i own n whole within is size k d lt =
    let here : links_of links i ≡ own = sym (get_or_read links i own within is []) in
    omega (arith, whole.within i (get_or own k d) (subst (λ z. is_in (get_or own k d) z ≡ true) (sym here) (in_at own k d lt)))

-- ---- ways turned round

path-push : {links : ℕ → List ℕ} {p q : ℕ} (r : ℕ) → Path links p q → is_in r (links q) ≡ true → Path links p r
path-push r (one h) last = more h (one last)
path-push r (more h path) last = more h (path-push r path last)

pub path-turn : (links turned : List (List ℕ)) (p q : ℕ) → IsTurned links turned → Path (links_of links) p q → Path (links_of turned) q p
path-turn links turned p q t (one h) = one (t.there p q h)
path-turn links turned p q t (more {q = r} h path) = path-push p (path-turn links turned r q t path) (t.there p r h)

-- points without links
pub unlinked-whole : (links now : List (List ℕ)) (n : ℕ) → now ≡ links → links ≡ replicate n [] → IsWhole now
unlinked-whole links now n same e = record { within = λ p q h. absurd (unlinked-none n p q (subst (λ z. IsLink z p q) (same ∙ e) h)) }

pub unlinked-size : (links now : List (List ℕ)) (n : ℕ) → now ≡ links → links ≡ replicate n [] → length now ≡ n
unlinked-size links now n same e = ap length (same ∙ e) ∙ length-replicate n []
