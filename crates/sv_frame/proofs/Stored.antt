-- The values of stores, and derived stores by number.
use Rattle.std.proofs.Common.{◌≡◌, ◌≢◌, ℕ, zero, suc, ◌<◌, List, [], ◌∷◌, map, length, Option, Some, None, option_map, refl, sym, ap, ◌∙◌, arith, Bool, true, false, nat_eq, subst, ⊎_elim, inl, inr, ◌⊎◌, if◌then◌else◌}
use Rattle.std.specs.Prelude.{not, ◌||◌, ℤ}
use Rattle.std.specs.Bool.{beq}
use Rattle.std.specs.Ordering.{int_eq}
use Rattle.std.specs.List.{list_any, All}
use Rattle.std.proofs.lemmas.Bool.{cases_Bool, eqb-true, eq-eqb, true≢false}
use Rattle.std.proofs.lemmas.Bool.Decides.{Decides-int_eq}
use Rattle.std.proofs.lemmas.List.Elements.{All-head, All-tail}
use Rattle.std.proofs.lemmas.Option.{none-some, same_Some}
use Rattle.sv_derived.specs.Derived.{Recipe, Derived, with_one, found, next}
use Rattle.sv_derived.specs.Order.{AreBelow, IsFormed}
use Rattle.sv_meaning.specs.Derived.{input_values}
use Rattle.sv_ops.specs.Members.{or_undefined}
use Rattle.sv_states.proofs.Making.{length-changed}
use Rattle.sv_states.specs.Moving.{leaves, comes}
use Rattle.sv_store.specs.Stores.{Store, Subscriber, changed_at, value_at, made, differs_at, with_value, with_subscriber, without_subscriber, dropped}
use Rattle.sv_value.proofs.Pairs.{bytes_same}
use Rattle.sv_value.specs.Change.{differs}
use Rattle.sv_value.specs.Value.{Val, undefined, null, boolean, number, text, list, object, function, store}

-- ---- values that don't differ are the same

bools_same : (a b : Bool) → not (beq a b) ≡ false → a ≡ b
bools_same true true e = refl
bools_same false false e = refl
bools_same true false e = absurd (true≢false e)
bools_same false true e = absurd (true≢false e)

ints_same : (a b : ℤ) → not (int_eq a b) ≡ false → a ≡ b
ints_same a b e = (Decides-int_eq a b).0 (go (int_eq a b) e) where
  go : (b : Bool) → not b ≡ false → b ≡ true
  go true e = refl
  go false e = absurd (true≢false e)

pub differs-same : (a b : Val) → differs a b ≡ false → a ≡ b
differs-same undefined undefined e = refl
differs-same null null e = refl
differs-same (boolean a) (boolean b) e = ap boolean (bools_same a b e)
differs-same (number a) (number b) e = ap number (ints_same a b e)
differs-same (text a) (text b) e = ap text (bytes_same a b e)
differs-same undefined null e = absurd (true≢false e)
differs-same undefined (boolean b) e = absurd (true≢false e)
differs-same undefined (number b) e = absurd (true≢false e)
differs-same undefined (text b) e = absurd (true≢false e)
differs-same undefined (list b) e = absurd (true≢false e)
differs-same undefined (object b) e = absurd (true≢false e)
differs-same undefined (function c o b) e = absurd (true≢false e)
differs-same undefined (store b) e = absurd (true≢false e)
differs-same null undefined e = absurd (true≢false e)
differs-same null (boolean b) e = absurd (true≢false e)
differs-same null (number b) e = absurd (true≢false e)
differs-same null (text b) e = absurd (true≢false e)
differs-same null (list b) e = absurd (true≢false e)
differs-same null (object b) e = absurd (true≢false e)
differs-same null (function c o b) e = absurd (true≢false e)
differs-same null (store b) e = absurd (true≢false e)
differs-same (boolean a) undefined e = absurd (true≢false e)
differs-same (boolean a) null e = absurd (true≢false e)
differs-same (boolean a) (number b) e = absurd (true≢false e)
differs-same (boolean a) (text b) e = absurd (true≢false e)
differs-same (boolean a) (list b) e = absurd (true≢false e)
differs-same (boolean a) (object b) e = absurd (true≢false e)
differs-same (boolean a) (function c o b) e = absurd (true≢false e)
differs-same (boolean a) (store b) e = absurd (true≢false e)
differs-same (number a) undefined e = absurd (true≢false e)
differs-same (number a) null e = absurd (true≢false e)
differs-same (number a) (boolean b) e = absurd (true≢false e)
differs-same (number a) (text b) e = absurd (true≢false e)
differs-same (number a) (list b) e = absurd (true≢false e)
differs-same (number a) (object b) e = absurd (true≢false e)
differs-same (number a) (function c o b) e = absurd (true≢false e)
differs-same (number a) (store b) e = absurd (true≢false e)
differs-same (text a) undefined e = absurd (true≢false e)
differs-same (text a) null e = absurd (true≢false e)
differs-same (text a) (boolean b) e = absurd (true≢false e)
differs-same (text a) (number b) e = absurd (true≢false e)
differs-same (text a) (list b) e = absurd (true≢false e)
differs-same (text a) (object b) e = absurd (true≢false e)
differs-same (text a) (function c o b) e = absurd (true≢false e)
differs-same (text a) (store b) e = absurd (true≢false e)
differs-same (list a) b e = absurd (true≢false e)
differs-same (object a) b e = absurd (true≢false e)
differs-same (function c o a) b e = absurd (true≢false e)
differs-same (store a) b e = absurd (true≢false e)

-- ---- values of stores

pub value-other : (stores : List Store) (n id : ℕ) (v : Val) → n ≢ id → value_at (with_value stores n v) id ≡ value_at stores id
value-other [] n id v ne = refl
value-other (s ∷ stores) zero zero v ne = absurd (ne refl)
value-other (s ∷ stores) zero (suc id) v ne = refl
value-other (s ∷ stores) (suc n) zero v ne = refl
value-other (s ∷ stores) (suc n) (suc id) v ne = value-other stores n id v (λ e. ne (ap suc e))

pub value-taken : (stores : List Store) (id : ℕ) (v : Val) → differs_at stores id v ≡ true → value_at (with_value stores id v) id ≡ Some v
value-taken [] id v e = absurd (true≢false (sym e))
value-taken (s ∷ stores) zero v e = rw e refl
value-taken (s ∷ stores) (suc id) v e = value-taken stores id v e

pub value-held : (stores : List Store) (id : ℕ) (v : Val) → id < length stores → differs_at stores id v ≡ false → value_at stores id ≡ Some v
value-held [] id v inside e = absurd (omega arith)
value-held (s ∷ stores) zero v inside e = ap Some (differs-same s.value v e)
value-held (s ∷ stores) (suc id) v inside e = value-held stores id v (omega arith) e

value-changed : (g : Store → Store) → ((s : Store) → (g s).value ≡ s.value) → (stores : List Store) (n id : ℕ) → value_at (changed_at g stores n) id ≡ value_at stores id
value-changed g same [] n id = refl
value-changed g same (s ∷ stores) zero zero = ap Some (same s)
value-changed g same (s ∷ stores) zero (suc id) = refl
value-changed g same (s ∷ stores) (suc n) zero = refl
value-changed g same (s ∷ stores) (suc n) (suc id) = value-changed g same stores n id

pub value-dropped : (stores : List Store) (n id : ℕ) → value_at (dropped stores n) id ≡ value_at stores id
value-dropped [] n id = refl
value-dropped (s ∷ stores) n zero = refl
value-dropped (s ∷ stores) n (suc id) = value-dropped stores n id

pub value-more : (stores : List Store) (v : Val) (id : ℕ) → id < length stores → value_at (made stores v) id ≡ value_at stores id
value-more [] v id inside = absurd (omega arith)
value-more (s ∷ stores) v zero inside = refl
value-more (s ∷ stores) v (suc id) inside = value-more stores v id (omega arith)

pub value-last : (stores : List Store) (v : Val) → value_at (made stores v) (length stores) ≡ Some v
value-last [] v = refl
value-last (s ∷ stores) v = value-last stores v

pub left-values : (o : Option ℕ) (p : Subscriber) (stores : List Store) (id : ℕ) → value_at (leaves o p stores) id ≡ value_at stores id
left-values None p stores id = refl
left-values (Some n) p stores id = value-changed (without_subscriber p) (λ s. refl) stores n id

pub came-values : (o : Option ℕ) (p : Subscriber) (stores : List Store) (id : ℕ) → value_at (comes o p stores) id ≡ value_at stores id
came-values None p stores id = refl
came-values (Some n) p stores id = value-changed (with_subscriber p) (λ s. refl) stores n id

pub left-count : (o : Option ℕ) (p : Subscriber) (stores : List Store) → length (leaves o p stores) ≡ length stores
left-count None p stores = refl
left-count (Some n) p stores = length-changed (without_subscriber p) stores n

pub came-count : (o : Option ℕ) (p : Subscriber) (stores : List Store) → length (comes o p stores) ≡ length stores
came-count None p stores = refl
came-count (Some n) p stores = length-changed (with_subscriber p) stores n

-- the inputs have the same values where each has
pub inputs-same : (old new : List Store) (ids : List ℕ) → ((id : ℕ) → list_any (nat_eq id) ids ≡ true → value_at new id ≡ value_at old id) → input_values new ids ≡ input_values old ids
inputs-same old new [] h = refl
inputs-same old new (n ∷ ids) h = λ k. or_undefined (h n (rw (eq-eqb n n refl) refl) k) ∷ inputs-same old new ids (λ id there. h id (rw there (or-true (nat_eq id n)))) k where
  or-true : (b : Bool) → (b || true) ≡ true
  or-true true = refl
  or-true false = refl

-- ---- derived stores by number

pub found-map : (f : Derived → Derived) → ((d : Derived) → (f d).id ≡ d.id) → (all : List Derived) (id : ℕ) → found (map f all) id ≡ option_map f (found all id)
found-map f same [] id = refl
found-map f same (d ∷ all) id = ap (λ n. if nat_eq n id then Some (f d) else found (map f all) id) (same d) ∙ by (nat_eq d.id id) (found-map f same all id) where
  by : (b : Bool) → found (map f all) id ≡ option_map f (found all id) → (if b then Some (f d) else found (map f all) id) ≡ option_map f (if b then Some d else found all id)
  by true h = refl
  by false h = h

-- what is found is one of them, under its number
pub record IsOne (all : List Derived) (id : ℕ) (d : Derived) : Type 0 where
  pub number : d.id ≡ id
  pub formed : All IsFormed all → IsFormed d
  pub made : (n : ℕ) → AreBelow (map (λ (e : Derived). e.id) all) n → d.id < n
  pub idle : next all ≡ None → d.is_pending ≡ false

pub found-one : (all : List Derived) (id : ℕ) (d : Derived) → found all id ≡ Some d → IsOne all id d
found-one [] id d e = absurd (none-some d e)
found-one (x ∷ all) id d e = by (found-one all id d) (nat_eq x.id id) refl e where
  here : nat_eq x.id id ≡ true → x ≡ d → IsOne (x ∷ all) id d
  here b is = subst (IsOne (x ∷ all) id) is (record {
    number = eqb-true x.id id b;
    formed = λ k. All-head IsFormed x all k;
    made = λ n k. All-head (λ m. m < n) x.id (map (λ (y : Derived). y.id) all) k;
    idle = λ none. ⊎_elim (λ t. absurd (none-some x.id (sym none ∙ (λ k. if t k then Some x.id else next all)))) (λ f. f) (cases_Bool x.is_pending);
  })

  idle-there : IsOne all id d → next (x ∷ all) ≡ None → d.is_pending ≡ false
  idle-there one none = ⊎_elim (λ t. absurd (none-some x.id (sym none ∙ (λ k. if t k then Some x.id else next all)))) (λ f. one.idle (sym (λ k. if f k then Some x.id else next all) ∙ none)) (cases_Bool x.is_pending)

  there : IsOne all id d → IsOne (x ∷ all) id d
  there one = record {
    number = one.number;
    formed = λ k. one.formed (All-tail IsFormed x all k);
    made = λ n k. one.made n (All-tail (λ m. m < n) x.id (map (λ (y : Derived). y.id) all) k);
    idle = idle-there one;
  }

  by : (found all id ≡ Some d → IsOne all id d) → (b : Bool) → nat_eq x.id id ≡ b → (if b then Some x else found all id) ≡ Some d → IsOne (x ∷ all) id d
  by rest true b e = here b (same_Some x d e)
  by rest false b e = there (rest e)

-- what is found once one more is there
abbrev pub one_more : ℕ → ℕ → Recipe → Derived
one_more n owner r = record { id = n; owner = owner; recipe = r; is_pending = false; is_frozen = false }

pub found-more : (all : List Derived) (n owner : ℕ) (r : Recipe) (id : ℕ) (d : Derived) → found (with_one all n owner r) id ≡ Some d → (found all id ≡ Some d) ⊎ (one_more n owner r ≡ d)
found-more [] n owner r id d e = by (nat_eq n id) e where
  by : (b : Bool) → (if b then Some (one_more n owner r) else None) ≡ Some d → (None ≡ Some d) ⊎ (one_more n owner r ≡ d)
  by true h = inr (same_Some (one_more n owner r) d h)
  by false h = inl h
found-more (x ∷ all) n owner r id d e = by (nat_eq x.id id) (found-more all n owner r id d) e where
  by : (b : Bool) → (found (with_one all n owner r) id ≡ Some d → (found all id ≡ Some d) ⊎ (one_more n owner r ≡ d)) → (if b then Some x else found (with_one all n owner r) id) ≡ Some d
      → ((if b then Some x else found all id) ≡ Some d) ⊎ (one_more n owner r ≡ d)
  by true rest h = inl h
  by false rest h = rest h
