-- The attributes of an element, one after another.
use Rattle.std.proofs.Common.{◌≡◌, ◌≢◌, ◌≤◌, ◌<◌, ℕ, List, [], ◌∷◌, ◌++◌, Option, Result, OnOk, refl, ap, sym, ◌∙◌, arith, subst, append_assoc}
use Rattle.std.specs.Prelude.{if◌then◌else◌, nat_lt}
use Rattle.std.proofs.lemmas.Bool.{eq-eqb, ne_eqb, le-ltb, lt-ltb}
use Rattle.sv_tokens.specs.Token.{Name, Element, Open}
use Rattle.sv_tokens.specs.Edit.{Rewritten, with_element, put, drop_slot, with_attribute, without_slot, with_typed}
use Rattle.sv_tokens.specs.declared.element.Attribute.{Attribute}
use Rattle.sv_tokens.specs.declared.element.Typed.{Typed}
use Rattle.sv_live.specs.declared.live.Named.{Named}
use Rattle.sv_live.specs.Attributes.{IsAbove}
use Rattle.sv_live.specs.Shown.{name_of, element_of}
use Rattle.sv_live.specs.declared.node.Own.{Own}
use Rattle.sv_live.specs.Stands.{State, Tells, Dresses}
use Rattle.sv_commit.proofs.Results.{on_ok, on_three}
use Rattle.sv_commit.specs.Dress.{with_all, AreBelow, AreInFront, IsBetween}

-- ---- one call

pub Dresses-then : (a b c : State) (n : Name) (x y z : Element) → Dresses a b n x y → Dresses b c n y z → Dresses a c n x z
Dresses-then a b c n x y z p q = record {
  swaps = λ pre post parent number was. q.swaps pre post parent number (p.swaps pre post parent number was);
  later = (let e = p.later in let f = q.later in omega (arith, e, f));
  tells = λ start e. q.tells start (p.tells start e);
}

pub Dresses-refl : (a : State) (n : Name) (x : Element) → Dresses a a n x x
Dresses-refl a n x = record { swaps = λ pre post parent number was. was; later = omega arith; tells = λ start e. e }

pub dresses-one : (old new : State) (n : Named) (f : Element → Element) (x : Element) → Rewritten old.page.tokens new.page.tokens n.key (with_element f) → new.page.next ≡ old.page.next → Tells old new → Dresses old new (name_of n) x (f x)
dresses-one old new n f x r next tells = record {
  swaps = λ pre post parent number was. r.only pre post (Open (name_of n) parent number x) (eq-eqb n.key n.key refl) was;
  later = omega (arith, next);
  tells = tells;
}

-- ---- places by slot

apart : (a : Attribute) (b : Attribute) → b.slot < a.slot → (rest : List Attribute) → put a (b ∷ rest) ≡ b ∷ put a rest
apart a b lt rest =
    ap (λ z. if z then a ∷ rest else (if nat_lt a.slot b.slot then a ∷ b ∷ rest else b ∷ put a rest)) (ne_eqb a.slot b.slot (λ e. omega (arith, e, lt)))
    ∙ ap (λ z. if z then a ∷ b ∷ rest else b ∷ put a rest) (le-ltb a.slot b.slot (omega (arith, lt)))

pub put-front : (a : Attribute) (front rest : List Attribute) → AreBelow front a.slot → put a (front ++ rest) ≡ front ++ put a rest
put-front a [] rest below = refl
put-front a (b ∷ front) rest below = apart a b below.0 (front ++ rest) ∙ ap (λ z. b ∷ z) (put-front a front rest below.1)

pub put-first : (a : Attribute) (rest : List Attribute) → IsAbove a.slot rest → put a rest ≡ a ∷ rest
put-first a [] above = refl
put-first a (b ∷ rest) above =
    ap (λ z. if z then a ∷ rest else (if nat_lt a.slot b.slot then a ∷ b ∷ rest else b ∷ put a rest)) (ne_eqb a.slot b.slot (λ e. (let lt = above.0 in omega (arith, e, lt))))
    ∙ ap (λ z. if z then a ∷ b ∷ rest else b ∷ put a rest) (lt-ltb a.slot b.slot above.0)

pub put-same : (a b : Attribute) (rest : List Attribute) → b.slot ≡ a.slot → put a (b ∷ rest) ≡ a ∷ rest
put-same a b rest e = ap (λ z. if z then a ∷ rest else (if nat_lt a.slot b.slot then a ∷ b ∷ rest else b ∷ put a rest)) (eq-eqb a.slot b.slot (sym e))

pub drop-front : (slot : ℕ) (front rest : List Attribute) → AreBelow front slot → drop_slot slot (front ++ rest) ≡ front ++ drop_slot slot rest
drop-front slot [] rest below = refl
drop-front slot (b ∷ front) rest below =
    ap (λ z. if z then front ++ rest else b ∷ drop_slot slot (front ++ rest)) (ne_eqb slot b.slot (λ e. (let lt = below.0 in omega (arith, e, lt))))
    ∙ ap (λ z. b ∷ z) (drop-front slot front rest below.1)

pub drop-first : (b : Attribute) (rest : List Attribute) → drop_slot b.slot (b ∷ rest) ≡ rest
drop-first b rest = ap (λ z. if z then rest else b ∷ drop_slot b.slot rest) (eq-eqb b.slot b.slot refl)

-- ---- what is below

below-later : (front : List Attribute) (m n : ℕ) → m < n → AreBelow front m → AreBelow front n
below-later [] m n lt below = tt
below-later (b ∷ front) m n lt below = ((let x = below.0 in omega (arith, x, lt)), below-later front m n lt below.1)

below-more : (front : List Attribute) (a : Attribute) (n : ℕ) → AreBelow front a.slot → a.slot < n → AreBelow (front ++ a ∷ []) n
below-more [] a n below lt = (lt, tt)
below-more (b ∷ front) a n below lt = ((let x = below.0 in omega (arith, x, lt)), below-more front a n below.1 lt)

-- the next ones are still behind
front-rest : (front : List Attribute) (slot : ℕ) (rest : List Attribute) → AreBelow front slot → IsAbove slot rest → AreInFront front rest
front-rest front slot [] below above = tt
front-rest front slot (b ∷ rest) below above = below-later front slot b.slot above.0 below

front-more : (front : List Attribute) (a : Attribute) (rest : List Attribute) → AreBelow front a.slot → IsAbove a.slot rest → AreInFront (front ++ a ∷ []) rest
front-more front a [] below above = tt
front-more front a (b ∷ rest) below above = below-more front a b.slot below above.0

one-on : (front : List Attribute) (a : Attribute) (rest : List Attribute) → front ++ (a ∷ rest) ≡ (front ++ a ∷ []) ++ rest
one-on front a rest = sym (append_assoc front (a ∷ []) rest)

-- ---- the steps

abbrev Ends : {T E : Type 0} (r : Result T E) (old new : State) (n : Named) (name : List ℕ) (typed : Option Typed) (was now : List Attribute) → Type 0
Ends r old new n name typed was now = OnOk r (Dresses old new (name_of n) (with_all name was typed) (with_all name now typed))

module _ {T E : Type 0} (r : Result T E) (old mid new : State) (n : Named) (name : List ℕ) (typed : Option Typed) (front : List Attribute) where
  -- by one edit of the list, and the others after it
  by-edit : (f : List Attribute → List Attribute) (g : Element → Element) (was middle now : List Attribute) → ((x : List Attribute) → g (with_all name x typed) ≡ with_all name (f x) typed) → f was ≡ middle
      → Rewritten old.page.tokens mid.page.tokens n.key (with_element g) → mid.page.next ≡ old.page.next → Tells old mid → Ends r mid new n name typed middle now → Ends r old new n name typed was now
  by-edit f g was middle now shape e edit next tells rest =
      let first = subst (λ (x : Element). Dresses old mid (name_of n) (with_all name was typed) x) (shape was ∙ ap (λ z. with_all name z typed) e) (dresses-one old mid n g (with_all name was typed) edit next tells) in
      on_ok r rest (λ d. Dresses-then old mid new (name_of n) (with_all name was typed) (with_all name middle typed) (with_all name now typed) first d)

  pub dropped : (was rest now : List Attribute) (a : Attribute) → was ≡ a ∷ rest → IsAbove a.slot rest → IsBetween front was now → Rewritten old.page.tokens mid.page.tokens n.key (with_element (without_slot a.slot))
      → mid.page.next ≡ old.page.next → Tells old mid → (IsBetween front rest now → Ends r mid new n name typed (front ++ rest) (front ++ now)) → Ends r old new n name typed (front ++ was) (front ++ now)
  dropped was rest now a is above between edit next tells later =
      let below : AreBelow front a.slot = subst (AreInFront front) is between.0 in
      by-edit (drop_slot a.slot) (without_slot a.slot) (front ++ was) (front ++ rest) (front ++ now) (λ x. refl)
      (ap (λ z. drop_slot a.slot (front ++ z)) is ∙ (drop-front a.slot front (a ∷ rest) below ∙ ap (λ z. front ++ z) (drop-first a rest))) edit next tells
      (later (front-rest front a.slot rest below above, between.1))

  pub inserted : (was now nows : List Attribute) (a : Attribute) → now ≡ a ∷ nows → IsAbove a.slot nows → IsAbove a.slot was → IsBetween front was now → Rewritten old.page.tokens mid.page.tokens n.key (with_element (with_attribute a))
      → mid.page.next ≡ old.page.next → Tells old mid → (IsBetween (front ++ a ∷ []) was nows → Ends r mid new n name typed ((front ++ a ∷ []) ++ was) ((front ++ a ∷ []) ++ nows)) → Ends r old new n name typed (front ++ was) (front ++ now)
  inserted was now nows a is above higher between edit next tells later =
      let below : AreBelow front a.slot = subst (AreInFront front) is between.1 in
      by-edit (put a) (with_attribute a) (front ++ was) ((front ++ a ∷ []) ++ was) (front ++ now) (λ x. refl)
      (put-front a front was below ∙ (ap (λ z. front ++ z) (put-first a was higher) ∙ one-on front a was)) edit next tells
      (subst (λ (z : List Attribute). Ends r mid new n name typed ((front ++ a ∷ []) ++ was) z) (sym (one-on front a nows) ∙ ap (λ z. front ++ z) (sym is)) (later (front-more front a was below higher, front-more front a nows below above)))

  pub replaced : (was rest now nows : List Attribute) (b a : Attribute) → was ≡ b ∷ rest → IsAbove b.slot rest → now ≡ a ∷ nows → IsAbove a.slot nows → b.slot ≡ a.slot → IsBetween front was now
      → Rewritten old.page.tokens mid.page.tokens n.key (with_element (with_attribute a)) → mid.page.next ≡ old.page.next → Tells old mid
      → (IsBetween (front ++ a ∷ []) rest nows → Ends r mid new n name typed ((front ++ a ∷ []) ++ rest) ((front ++ a ∷ []) ++ nows)) → Ends r old new n name typed (front ++ was) (front ++ now)
  replaced was rest now nows b a was_is higher is above same between edit next tells later =
      let below : AreBelow front a.slot = subst (AreInFront front) is between.1 in
      by-edit (put a) (with_attribute a) (front ++ was) ((front ++ a ∷ []) ++ rest) (front ++ now) (λ x. refl)
      (ap (λ z. put a (front ++ z)) was_is ∙ (put-front a front (b ∷ rest) below ∙ (ap (λ z. front ++ z) (put-same a b rest same) ∙ one-on front a rest))) edit next tells
      (subst (λ (z : List Attribute). Ends r mid new n name typed ((front ++ a ∷ []) ++ rest) z) (sym (one-on front a nows) ∙ ap (λ z. front ++ z) (sym is))
      (later (front-more front a rest below (subst (λ z. IsAbove z rest) same higher), front-more front a nows below above)))

-- all are above a slot that is below the first
pub higher-than : (was rest : List Attribute) (b : Attribute) (slot : ℕ) → was ≡ b ∷ rest → IsAbove b.slot rest → slot ≤ b.slot → b.slot ≢ slot → IsAbove slot was
higher-than was rest b slot is above le ne = subst (IsAbove slot) (sym is) ((omega (arith, le, ne)), above)

nothing-in-front : (xs : List Attribute) → AreInFront [] xs
nothing-in-front [] = tt
nothing-in-front (x ∷ xs) = tt

pub nothing-between : (xs ys : List Attribute) → IsBetween [] xs ys
nothing-between xs ys = (nothing-in-front xs, nothing-in-front ys)

-- the attributes, and what was typed
pub dressed-both : {T E : Type 0} (r : Result T E) (old mid new : State) (n : Named) (was now : Own) (xs ys : List Attribute) → was.name ≡ now.name → xs ≡ was.attributes → ys ≡ now.attributes
    → Dresses old mid (name_of n) (with_all was.name xs was.typed) (with_all was.name ys was.typed) → OnOk r (Rewritten mid.page.tokens new.page.tokens n.key (with_element (with_typed now.typed))) → OnOk r (new.page.next ≡ mid.page.next) → OnOk r (Tells mid new)
    → OnOk r (Dresses old new (name_of n) (element_of was) (element_of now))
dressed-both r old mid new n was now xs ys name e f first edit next tells =
    let one : Dresses old mid (name_of n) (element_of was) (with_all now.name now.attributes was.typed) =
    subst (λ (z : List Attribute). Dresses old mid (name_of n) (with_all was.name z was.typed) (with_all now.name now.attributes was.typed)) e
    (subst (λ (m : List ℕ). Dresses old mid (name_of n) (with_all was.name xs was.typed) (with_all m now.attributes was.typed)) name
    (subst (λ (z : List Attribute). Dresses old mid (name_of n) (with_all was.name xs was.typed) (with_all was.name z was.typed)) f first)) in
    on_three r edit next tells (λ d g k. Dresses-then old mid new (name_of n) (element_of was) (with_all now.name now.attributes was.typed) (element_of now) one
    (dresses-one mid new n (with_typed now.typed) (with_all now.name now.attributes was.typed) d g k))
