-- The links of statements and names are what visits need.
use Rattle.std.proofs.Common.{◌≡◌, ℕ, zero, suc, ◌+◌, ◌-◌, ◌<◌, ◌≤◌, Bool, true, false, cond, List, [], ◌∷◌, ◌++◌, length, replicate, get_or, Option, Some, None, refl, sym, ap, ◌∙◌, inl, inr, subst, arith, add-one}
use Rattle.std.specs.Prelude.{◌||◌, not, filter, position}
use Rattle.std.specs.List.{flat_map, cons_option, range_with_len, list_any, position_or_len}
use Rattle.std.specs.Option.{option_map}
use Rattle.std.proofs.lemmas.Bool.{cases_lt, cases_eq, false≢true, false_from_ne_true, lt-ltb}
use Rattle.std.proofs.lemmas.List.{append-nil, length-replicate, length_push, length-append, get_or_append_left, get_or-append_right, get_or_push}
use Rattle.std.proofs.lemmas.List.Elements.{filter-append}
use Rattle.std.proofs.lemmas.List.Quantifiers.{position-Some}
use Rattle.sv_ast.specs.declared.names.Ref.{Ref}
use Rattle.sv_graph.specs.Links.{is_in, links_of, IsLink, IsWhole}
use Rattle.sv_graph.proofs.Points.{in_cons}
use Rattle.sv_graph.proofs.Turning.{unlinked-none}
use Rattle.sv_graph.proofs.Underway.{range-more}
use Rattle.sv_order.specs.declared.reads.Reads.{Reads}
use Rattle.sv_names.specs.Distinct.{same_ref, has}
use Rattle.sv_order.specs.ReactiveOrder.{reads_of, sets_of, needs_of, setters_of, before_of}
use Rattle.sv_order.specs.Points.{KnowsAll, IsTwoStep, points_of, with_setter, AreBelow, NotesSetter}

-- the statements below a number that assign a name
abbrev pub setters_below : List Reads → ℕ → Ref → List ℕ
setters_below list end name = filter (λ s. has name (sets_of list s)) (range_with_len 0 end)

pub record IsLinking (list : List Reads) (known : List Ref) (i : ℕ) (setters links : List (List ℕ)) : Type 0 where
  pub size : length setters ≡ length known
  pub below : AreBelow setters i
  pub set : (name : Ref) (k : ℕ) → position (same_ref name) known ≡ Some k → links_of setters k ≡ setters_below list i name
  pub count : length links ≡ i
  pub needs : (t : ℕ) → t < i → links_of links t ≡ points_of known (length list) (needs_of list t)

unlinked-empty : (n k : ℕ) → links_of (replicate n []) k ≡ []
unlinked-empty zero k = refl
unlinked-empty (suc n) zero = refl
unlinked-empty (suc n) (suc k) = unlinked-empty n k

pub linking-none : (list : List Reads) (known : List Ref) (setters links : List (List ℕ)) → setters ≡ replicate (length known) [] → links ≡ [] → IsLinking list known 0 setters links
linking-none list known setters links e none = record {
  size = ap length e ∙ length-replicate (length known) [];
  below = record { below = λ p q h. absurd (unlinked-none (length known) p q (subst (λ z. IsLink z p q) e h)) };
  set = λ name k h. ap (λ z. links_of z k) e ∙ unlinked-empty (length known) k;
  count = ap length none;
  needs = λ t lt. absurd (omega arith);
}

sets-at : (list : List Reads) (i : ℕ) (x : Reads) → i < length list → x ≡ get_or list i x → sets_of list i ≡ x.sets
sets-at [] i x lt e = absurd (omega arith)
sets-at (y ∷ list) zero x lt e = ap (λ z. z.sets) (sym e)
sets-at (y ∷ list) (suc i) x lt e = sets-at list i x (omega arith) e

reads-at : (list : List Reads) (i : ℕ) (x : Reads) → i < length list → x ≡ get_or list i x → reads_of list i ≡ x.reads
reads-at [] i x lt e = absurd (omega arith)
reads-at (y ∷ list) zero x lt e = ap (λ z. z.reads) (sym e)
reads-at (y ∷ list) (suc i) x lt e = reads-at list i x (omega arith) e

setters-more : (list : List Reads) (i : ℕ) (name : Ref) → setters_below list (i + 1) name ≡ with_setter (has name (sets_of list i)) i (setters_below list i name)
setters-more list i name =
    let test : ℕ → Bool = λ s. has name (sets_of list s) in
    let whole : range_with_len 0 (i + 1) ≡ range_with_len 0 i ++ i ∷ [] = ap (range_with_len 0) (add-one i) ∙ (range-more 0 i ∙ ap (λ z. range_with_len 0 i ++ z ∷ []) (omega arith)) in
    ap (filter test) whole ∙ (filter-append test (range_with_len 0 i) (i ∷ []) ∙ step (test i) (filter test (range_with_len 0 i)))
  where
    step : (b : Bool) (xs : List ℕ) → xs ++ cond b (i ∷ []) [] ≡ with_setter b i xs
    step true xs = refl
    step false xs = append-nil xs

pub linking-more : (list : List Reads) (known : List Ref) (i : ℕ) (x : Reads) (setters setters' links links' : List (List ℕ)) (sets : List Ref) (needs : List ℕ) → i < length list → x ≡ get_or list i x → sets ≡ x.sets
    → IsLinking list known i setters links → length setters' ≡ length known → AreBelow setters' (i + 1) → NotesSetter known setters sets i setters'
    → needs ≡ points_of known (length list) (filter (λ name. not (has name x.sets)) x.reads) → links' ≡ links ++ needs ∷ [] → IsLinking list known (i + 1) setters' links'
linking-more list known i x setters setters' links links' sets needs within is same l size below notes own e = record {
  size = size;
  below = below;
  set = λ name k h. notes.notes name k h ∙ (ap (λ z. with_setter (has name z) i (links_of setters k)) (same ∙ sym (sets-at list i x within is))
      ∙ (ap (with_setter (has name (sets_of list i)) i) (l.set name k h) ∙ sym (setters-more list i name)));
  count = ap length e ∙ (length_push links needs ∙ ap (λ z. z + 1) l.count);
  needs = λ t lt. elim (cases_eq t i) [
    | inl last ↦ ap (λ z. links_of z t) e ∙ (get_or_push links needs [] t (l.count ∙ sym last) ∙ (own
        ∙ (ap (λ z. points_of known (length list) (filter (λ name. not (has name z)) x.reads)) (sym (ap (sets_of list) last ∙ sets-at list i x within is))
        ∙ ap (λ z. points_of known (length list) (filter (λ name. not (has name (sets_of list t))) z)) (sym (ap (reads_of list) last ∙ reads-at list i x within is)))))
    | inr other ↦ ap (λ z. links_of z t) e ∙ (get_or_append_left links (needs ∷ []) [] t (omega (arith, l.count, other)) ∙ l.needs t (omega (arith, other)))
  ];
}

-- ---- at the end

any-below : (p : Ref → Bool) (xs : List Ref) → list_any p xs ≡ true → position_or_len p xs < length xs
any-below p [] h = absurd (false≢true h)
any-below p (x ∷ xs) h = step (p x) h (any-below p xs)
  where
    step : (b : Bool) → (b || list_any p xs) ≡ true → (list_any p xs ≡ true → position_or_len p xs < length xs) → cond (not b) (1 + position_or_len p xs) 0 < suc (length xs)
    step true h ih = omega arith
    step false h ih = omega (arith, ih h)

pub unknown-nowhere : (known : List Ref) (name : Ref) → position (same_ref name) known ≡ None → has name known ≡ true → ⊥
unknown-nowhere known name none h =
    let lt = lt-ltb _ _ (any-below (same_ref name) known h) in
    let some : position (same_ref name) known ≡ Some (position_or_len (same_ref name) known) = ap (λ b. cond b (Some (position_or_len (same_ref name) known)) None) lt in
    cc

filter-none : (test : ℕ → Bool) → ((x : ℕ) → test x ≡ false) → (xs : List ℕ) → filter test xs ≡ []
filter-none test all [] = refl
filter-none test all (x ∷ xs) = ap (λ b. cond b (x ∷ filter test xs) (filter test xs)) (all x) ∙ filter-none test all xs

unknown-setters : (list : List Reads) (known : List Ref) (name : Ref) → KnowsAll list known → position (same_ref name) known ≡ None → setters_of list name ≡ []
unknown-setters list known name knows none = filter-none (λ s. has name (sets_of list s)) (λ s. false_from_ne_true _ (λ h. unknown-nowhere known name none (knows.knows s name h))) (range_with_len 0 (length list))

module _ (list : List Reads) (known : List Ref) (knows : KnowsAll list known) (setters links all : List (List ℕ)) (l : IsLinking list known (length list) setters links) (joined : all ≡ links ++ setters) where
  at-statement : (t : ℕ) → t < length list → links_of all t ≡ points_of known (length list) (needs_of list t)
  at-statement t lt = ap (λ z. links_of z t) joined ∙ (get_or_append_left links setters [] t (omega (arith, l.count)) ∙ l.needs t lt)

  at-name : (p : ℕ) → length list ≤ p → links_of all p ≡ links_of setters (p - length list)
  at-name p le = ap (λ z. links_of z p) joined ∙ get_or-append_right links setters (length list) p [] l.count le

  points-in : (q : ℕ) (names : List Ref) → is_in q (points_of known (length list) names) ≡ true → (length list ≤ q) × (q < length list + length known)
  points-in q [] h = absurd (false≢true h)
  points-in q (name ∷ names) h =
      let deeper = λ (later : is_in q (points_of known (length list) names) ≡ true). points-in q names later in
      step (position (same_ref name) known) refl h deeper
    where
      step : (o : Option ℕ) → position (same_ref name) known ≡ o → is_in q (cons_option (option_map (λ k. length list + k) o) (points_of known (length list) names)) ≡ true
          → (is_in q (points_of known (length list) names) ≡ true → (length list ≤ q) × (q < length list + length known)) → (length list ≤ q) × (q < length list + length known)
      step None e h deeper = deeper h
      step (Some k) e h deeper =
          let inside = (position-Some (same_ref name) known k name e).0 in
          elim (in_cons q (length list + k) (points_of known (length list) names) h) [
            | inl same ↦ (omega (arith, same), omega (arith, same, inside))
            | inr later ↦ deeper later
          ]

  two-names : (names : List Ref) → flat_map (links_of all) (points_of known (length list) names) ≡ flat_map (setters_of list) names
  two-names [] = refl
  two-names (name ∷ names) = step (position (same_ref name) known) refl (two-names names)
    where
      step : (o : Option ℕ) → position (same_ref name) known ≡ o → flat_map (links_of all) (points_of known (length list) names) ≡ flat_map (setters_of list) names
          → flat_map (links_of all) (cons_option (option_map (λ k. length list + k) o) (points_of known (length list) names)) ≡ setters_of list name ++ flat_map (setters_of list) names
      step None e ih = ih ∙ ap (λ z. z ++ flat_map (setters_of list) names) (sym (unknown-setters list known name knows e))
      step (Some k) e ih =
          let own : links_of all (length list + k) ≡ setters_of list name = at-name (length list + k) (omega arith) ∙ (ap (links_of setters) (omega arith) ∙ l.set name k e) in
          ap (λ z. z ++ flat_map (links_of all) (points_of known (length list) names)) own ∙ ap (λ z. setters_of list name ++ z) ih

  pub linking-two : IsTwoStep (length list) (before_of list) (links_of all)
  linking-two = record {
    two = λ t lt. ap (flat_map (links_of all)) (at-statement t lt) ∙ two-names (needs_of list t);
    down = λ t q lt h. (points-in q (needs_of list t) (subst (λ z. is_in q z ≡ true) (at-statement t lt) h)).0;
    up = λ p q le h. l.below.below (p - length list) q (subst (λ z. is_in q z ≡ true) (at-name p le) h);
  }

  pub linking-size : length all ≡ length list + length known
  linking-size = ap length joined ∙ (length-append links setters ∙ omega (arith, l.count, l.size))

  pub linking-whole : IsWhole all
  linking-whole = record {
    within = λ p q h. elim (cases_lt p (length list)) [
      | inl lt ↦ (let inside = points-in q (needs_of list p) (subst (λ z. is_in q z ≡ true) (at-statement p lt) h) in omega (arith, inside.1, linking-size))
      | inr le ↦ (let inside = l.below.below (p - length list) q (subst (λ z. is_in q z ≡ true) (at-name p le) h) in omega (arith, inside, linking-size))
    ];
  }
