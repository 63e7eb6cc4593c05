-- The statements that assign each name, and the names that a statement needs.
use Rattle.std.proofs.Common.{◌≡◌, ℕ, suc, ◌+◌, ◌-◌, ◌<◌, ◌≤◌, Bool, true, false, cond, List, [], ◌∷◌, ◌++◌, length, take, set, get_or, Some, None, refl, sym, ap, ◌∙◌, inl, inr, ◌⊎◌, subst, arith}
use Rattle.std.specs.Prelude.{◌==◌, ◌||◌, filter, slice_get, position, if◌then◌else◌}
use Rattle.std.specs.List.{filter_map}
use Rattle.std.specs.Option.{option_map}
use Rattle.std.proofs.lemmas.Bool.{cases_Bool, cases_eq, false≢true, false_from_ne_true, or_right, eq-eqb, eqb-true}
use Rattle.std.proofs.lemmas.List.{take_more, take_all, get_or-set_same, get_or-set_other, length-set, append-nil, get_or_read}
use Rattle.std.proofs.lemmas.List.Elements.{filter-append, filter_map-append}
use Rattle.std.proofs.lemmas.List.Quantifiers.{position-Some}
use Rattle.sv_ast.specs.declared.names.Ref.{Ref}
use Rattle.sv_graph.specs.Links.{is_in, links_of}
use Rattle.sv_graph.proofs.Points.{in_head, in_tail, in_push_cases}
use Rattle.sv_names.specs.Distinct.{same_ref, has}
use Rattle.sv_order.specs.Points.{is_last, points_of, with_setter, AreBelow, NotesSetter, TellsOwn}
use Rattle.sv_names.proofs.Same.{same_ref-true, has-append, has-cons, has-head}
use Rattle.sv_order.proofs.Naming.{filter-yes, filter-no}

-- ---- the last of a list

pub last-some : (xs : List ℕ) (x s : ℕ) → slice_get xs (length xs - 1) ≡ Some x → is_last xs s ≡ (x == s)
last-some [] x s h = cc
last-some (y ∷ []) x s h =
    let one : length (y ∷ []) - 1 ≡ 0 = omega arith in
    let same : Some y ≡ Some x = subst (λ n. slice_get (y ∷ []) n ≡ Some x) one h in
    let e : y ≡ x = cc in
    ap (λ z. z == s) e
last-some (y ∷ z ∷ xs) x s h =
    let deeper = last-some (z ∷ xs) x s in
    let one : length (y ∷ z ∷ xs) - 1 ≡ suc (length (z ∷ xs) - 1) = omega arith in
    deeper (subst (λ n. slice_get (y ∷ z ∷ xs) n ≡ Some x) one h)

pub last-none : (xs : List ℕ) (s : ℕ) → slice_get xs (length xs - 1) ≡ None → is_last xs s ≡ false
last-none [] s h = refl
last-none (y ∷ []) s h =
    let one : length (y ∷ []) - 1 ≡ 0 = omega arith in
    let no_one : Some y ≡ None = subst (λ n. slice_get (y ∷ []) n ≡ None) one h in
    cc
last-none (y ∷ z ∷ xs) s h =
    let deeper = last-none (z ∷ xs) s in
    let one : length (y ∷ z ∷ xs) - 1 ≡ suc (length (z ∷ xs) - 1) = omega arith in
    deeper (subst (λ n. slice_get (y ∷ z ∷ xs) n ≡ None) one h)

last-push : (xs : List ℕ) (s : ℕ) → is_last (xs ++ s ∷ []) s ≡ true
last-push [] s = eq-eqb s s refl
last-push (x ∷ []) s = eq-eqb s s refl
last-push (x ∷ y ∷ xs) s = last-push (y ∷ xs) s

last-in : (xs : List ℕ) (s : ℕ) → is_last xs s ≡ true → is_in s xs ≡ true
last-in [] s h = absurd (false≢true h)
last-in (x ∷ []) s h = subst (λ z. is_in z (x ∷ []) ≡ true) (eqb-true x s h) (in_head x [])
last-in (x ∷ y ∷ xs) s h = in_tail s x (y ∷ xs) (last-in (y ∷ xs) s h)

-- ---- the setters of a name

-- one key has one name
position-one : (known : List Ref) (a b : Ref) (k : ℕ) → position (same_ref a) known ≡ Some k → position (same_ref b) known ≡ Some k → a ≡ b
position-one known a b k here there =
    let one = position-Some (same_ref a) known k a here in
    let two = position-Some (same_ref b) known k a there in
    same_ref-true a _ one.1 ∙ sym (same_ref-true b _ two.1)

take-has : (names : List Ref) (i : ℕ) (d other : Ref) → i < length names → has other (take (i + 1) names) ≡ (has other (take i names) || has other (get_or names i d ∷ []))
take-has names i d other within = ap (has other) (take_more names i d within) ∙ has-append other (take i names) (get_or names i d ∷ [])

take-has-self : (names : List Ref) (i : ℕ) (d : Ref) → i < length names → has (get_or names i d) (take (i + 1) names) ≡ true
take-has-self names i d within = take-has names i d (get_or names i d) within ∙ or_right (has (get_or names i d) (take i names)) _ (has-head (get_or names i d) (get_or names i d) [] refl)

take-has-other : (names : List Ref) (i : ℕ) (d other : Ref) → i < length names → (other ≡ get_or names i d → ⊥) → has other (take (i + 1) names) ≡ has other (take i names)
take-has-other names i d other within apart = take-has names i d other within ∙ step (has other (take i names)) (false_from_ne_true _ (λ h. elim (has-cons other (get_or names i d) [] h) [ inl same ↦ apart same | inr no_one ↦ false≢true no_one ]))
  where
    step : (b : Bool) → has other (get_or names i d ∷ []) ≡ false → (b || has other (get_or names i d ∷ [])) ≡ b
    step true e = refl
    step false e = e

pub record IsNoting (known : List Ref) (old : List (List ℕ)) (names : List Ref) (s : ℕ) (new : List (List ℕ)) : Type 0 where
  pub size : length new ≡ length known
  pub below : AreBelow new (s + 1)
  pub notes : NotesSetter known old names s new
  pub own : TellsOwn known new names s

pub noting-none : (known : List Ref) (old : List (List ℕ)) (s : ℕ) → length old ≡ length known → AreBelow old s → IsNoting known old [] s old
noting-none known old s size below = record {
  size = size;
  below = record { below = λ p q h. omega (arith, below.below p q h) };
  notes = record { notes = λ name k h. refl };
  own = record { tells = λ name k h. false_from_ne_true _ (λ last. absurd (omega (arith, below.below k s (last-in (links_of old k) s last)))) };
}

-- a name that no statement assigns
pub noting-unknown : (known : List Ref) (old now : List (List ℕ)) (names : List Ref) (s i : ℕ) (d : Ref) → i < length names → position (same_ref (get_or names i d)) known ≡ None → IsNoting known old (take i names) s now
    → IsNoting known old (take (i + 1) names) s now
noting-unknown known old now names s i d within unknown n =
    let same = λ (name : Ref) (k : ℕ) (h : position (same_ref name) known ≡ Some k). take-has-other names i d name within (λ e. absurd (let no_one = subst (λ z. position (same_ref z) known ≡ Some k) e h in cc)) in
    record {
      size = n.size;
      below = n.below;
      notes = record { notes = λ name k h. n.notes.notes name k h ∙ ap (λ b. with_setter b s (links_of old k)) (sym (same name k h)) };
      own = record { tells = λ name k h. n.own.tells name k h ∙ sym (same name k h) };
    }

pub noting-known : (known : List Ref) (old now new : List (List ℕ)) (names : List Ref) (s i at : ℕ) (d : Ref) → i < length names → position (same_ref (get_or names i d)) known ≡ Some at → IsNoting known old (take i names) s now
    → new ≡ set now at (if is_last (links_of now at) s then links_of now at else links_of now at ++ s ∷ []) → IsNoting known old (take (i + 1) names) s new
noting-known known old now new names s i at d within here n e =
    let name = get_or names i d in
    let inside : at < length now = omega (arith, (position-Some (same_ref name) known at name here).0, n.size) in
    let placed : links_of new at ≡ (if is_last (links_of now at) s then links_of now at else links_of now at ++ s ∷ []) = ap (λ z. links_of z at) e ∙ get_or-set_same now at _ [] inside in
    let own : links_of new at ≡ links_of old at ++ s ∷ [] = placed ∙ step (has name (take i names)) (n.own.tells name at here) (n.notes.notes name at here) in
    let apart : (k : ℕ) → (k ≡ at → ⊥) → links_of new k ≡ links_of now k = λ k other. ap (λ z. links_of z k) e ∙ get_or-set_other now at k _ [] other in
    let one = λ (other : Ref) (k : ℕ) (h : position (same_ref other) known ≡ Some k) (same : k ≡ at). position-one known other name at (subst (λ z. position (same_ref other) known ≡ Some z) same h) here in
    let foreign = λ (other : Ref) (k : ℕ) (h : position (same_ref other) known ≡ Some k) (differs : k ≡ at → ⊥). take-has-other names i d other within
    (λ same. let two = subst (λ z. position (same_ref z) known ≡ Some k) same h in let both : Some k ≡ Some at = sym two ∙ here in differs (cc)) in
    record {
      size = ap length e ∙ (length-set now at _ ∙ n.size);
      below = record {
        below = λ p q h. elim (cases_eq p at) [
          | inl same ↦ elim (split q (is_last (links_of now at) s) (subst (λ z. is_in q z ≡ true) (ap (links_of new) same ∙ placed) h)) [
            | inl before ↦ n.below.below at q before
            | inr last ↦ omega (arith, last)
          ]
          | inr other ↦ n.below.below p q (subst (λ z. is_in q z ≡ true) (apart p other) h)
        ];
      };
      notes = record {
        notes = λ other k h. elim (cases_eq k at) [
          | inl same ↦ ap (links_of new) same ∙ (own ∙ (ap (λ z. links_of old z ++ s ∷ []) (sym same) ∙ ap (λ b. with_setter b s (links_of old k)) (sym (ap (λ z. has z (take (i + 1) names)) (one other k h same) ∙ take-has-self names i d within))))
          | inr differs ↦ apart k differs ∙ (n.notes.notes other k h ∙ ap (λ b. with_setter b s (links_of old k)) (sym (foreign other k h differs)))
        ];
      };
      own = record {
        tells = λ other k h. elim (cases_eq k at) [
          | inl same ↦ ap (λ z. is_last (links_of new z) s) same ∙ (ap (λ z. is_last z s) own ∙ (last-push (links_of old at) s ∙ sym (ap (λ z. has z (take (i + 1) names)) (one other k h same) ∙ take-has-self names i d within)))
          | inr differs ↦ ap (λ z. is_last z s) (apart k differs) ∙ (n.own.tells other k h ∙ sym (foreign other k h differs))
        ];
      };
    }
  where
    step : (b : Bool) → is_last (links_of now at) s ≡ b → links_of now at ≡ with_setter b s (links_of old at)
        → (if is_last (links_of now at) s then links_of now at else links_of now at ++ s ∷ []) ≡ links_of old at ++ s ∷ []
    step true last is = ap (λ b. cond b (links_of now at) (links_of now at ++ s ∷ [])) last ∙ is
    step false last is = ap (λ b. cond b (links_of now at) (links_of now at ++ s ∷ [])) last ∙ ap (λ z. z ++ s ∷ []) is

    split : (q : ℕ) (b : Bool) → is_in q (if b then links_of now at else links_of now at ++ s ∷ []) ≡ true → (is_in q (links_of now at) ≡ true) ⊎ (s ≡ q)
    split q true h = inl h
    split q false h = in_push_cases q s (links_of now at) h

pub noting-all : (known : List Ref) (old new : List (List ℕ)) (names : List Ref) (s i : ℕ) → length names ≤ i → IsNoting known old (take i names) s new → IsNoting known old names s new
noting-all known old new names s i all n = subst (λ z. IsNoting known old z s new) (take_all i names all) n

-- ---- the names that a statement needs

module _ (known : List Ref) (count : ℕ) (test : Ref → Bool) where
  abbrev pub needed : List Ref → List ℕ
  needed names = points_of known count (filter test names)

  needed-push : (names : List Ref) (i : ℕ) (d : Ref) → i < length names → needed (take (i + 1) names) ≡ needed (take i names) ++ needed (get_or names i d ∷ [])
  needed-push names i d within =
      ap needed (take_more names i d within)
      ∙ (ap (points_of known count) (filter-append test (take i names) (get_or names i d ∷ []))
      ∙ filter_map-append (λ name. option_map (λ k. count + k) (position (same_ref name) known)) (filter test (take i names)) (filter test (get_or names i d ∷ [])))

  needed-foreign : (name : Ref) → test name ≡ false → needed (name ∷ []) ≡ []
  needed-foreign name h = ap (points_of known count) (filter-no test name [] h)

  needed-unknown : (name : Ref) → position (same_ref name) known ≡ None → needed (name ∷ []) ≡ []
  needed-unknown name h = elim (cases_Bool (test name)) [
    | inl t ↦ ap (points_of known count) (filter-yes test name [] t) ∙ ap (λ z. filter_map (λ o. o) (option_map (λ k. count + k) z ∷ [])) h
    | inr f ↦ needed-foreign name f
  ]

  needed-one : (name : Ref) (at : ℕ) → position (same_ref name) known ≡ Some at → test name ≡ true → needed (name ∷ []) ≡ (count + at) ∷ []
  needed-one name at h t = ap (points_of known count) (filter-yes test name [] t) ∙ ap (λ z. filter_map (λ o. o) (option_map (λ k. count + k) z ∷ [])) h

  pub needs-skip : (names : List Ref) (i : ℕ) (d : Ref) (now : List ℕ) → i < length names → now ≡ needed (take i names) → needed (get_or names i d ∷ []) ≡ [] → now ≡ needed (take (i + 1) names)
  needs-skip names i d now within e none = e ∙ (sym (append-nil _) ∙ (ap (λ z. needed (take i names) ++ z) (sym none) ∙ sym (needed-push names i d within)))

  pub needs-unknown : (names : List Ref) (i : ℕ) (d : Ref) (now : List ℕ) → i < length names → now ≡ needed (take i names) → position (same_ref (get_or names i d)) known ≡ None → now ≡ needed (take (i + 1) names)
  needs-unknown names i d now within e none = needs-skip names i d now within e (needed-unknown _ none)

  pub needs-own : (names : List Ref) (i : ℕ) (d : Ref) (now : List ℕ) → i < length names → now ≡ needed (take i names) → test (get_or names i d) ≡ false → now ≡ needed (take (i + 1) names)
  needs-own names i d now within e own = needs-skip names i d now within e (needed-foreign _ own)

  pub needs-more : (names : List Ref) (i : ℕ) (d : Ref) (now new : List ℕ) (at : ℕ) → i < length names → now ≡ needed (take i names) → position (same_ref (get_or names i d)) known ≡ Some at → test (get_or names i d) ≡ true
      → new ≡ now ++ (count + at) ∷ [] → new ≡ needed (take (i + 1) names)
  needs-more names i d now new at within e here passes is = is ∙ (ap (λ z. z ++ (count + at) ∷ []) e ∙ (ap (λ z. needed (take i names) ++ z) (sym (needed-one _ at here passes)) ∙ sym (needed-push names i d within)))

-- ---- a list that was read

pub told : (known : List Ref) (setters : List (List ℕ)) (names : List Ref) (s : ℕ) (name : Ref) (at : ℕ) (items : List ℕ) → length setters ≡ length known → TellsOwn known setters names s → position (same_ref name) known ≡ Some at
    → items ≡ get_or setters at items → is_last items s ≡ has name names
told known setters names s name at items size own here is =
    let within : at < length setters = omega (arith, (position-Some (same_ref name) known at name here).0) in
    ap (λ z. is_last z s) (get_or_read setters at items within is []) ∙ own.tells name at here

-- the list at a number is changed
pub noting-written : (known : List Ref) (old now new : List (List ℕ)) (names : List Ref) (s i at : ℕ) (d : Ref) (items items' : List ℕ) → i < length names → Some at ≡ position (same_ref (get_or names i d)) known
    → IsNoting known old (take i names) s now → items ≡ get_or now at items → items' ≡ (if is_last items s then items else items ++ s ∷ []) → new ≡ set now at items' → IsNoting known old (take (i + 1) names) s new
noting-written known old now new names s i at d items items' lt here n read is written =
    let within : at < length now = omega (arith, (position-Some (same_ref (get_or names i d)) known at d (sym here)).0, n.size) in
    let own : items ≡ links_of now at = get_or_read now at items within read [] in
    noting-known known old now new names s i at d lt (sym here) n (written ∙ ap (set now at) (is ∙ ap (λ z. if is_last z s then z else z ++ s ∷ []) own))
