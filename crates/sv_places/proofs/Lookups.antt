-- What is found by a number after an entry was put in or taken away.
use Rattle.std.proofs.Common.{◌≡◌, ◌≢◌, ℕ, ◌<◌, List, [], ◌∷◌, Option, Some, Bool, true, false, cond, refl, sym, ap, subst, ◌∙◌, arith}
use Rattle.std.specs.BTreeMap.{is_at, insert_entry}
use Rattle.std.specs.Cmp.{ranks}
use Rattle.std.specs.List.{All}
use Rattle.std.specs.Map.{lookup, remove_entry, keys_of}
use Rattle.std.specs.Ordering.{MatchOrdering, match_ordering, nat_cmp, is_eq}
use Rattle.std.specs.declared.cmp.Ordering.{Ordering}
use Rattle.std.specs.declared.cmp.Ordering.TheVariants.{Less, Equal, Greater}
use Rattle.std.proofs.lemmas.Bool.{true≢false}
use Rattle.std.proofs.lemmas.List.Elements.{All-head, All-tail}
use Rattle.std.proofs.lemmas.Option.{none-some}

abbrev is_key : ℕ → ℕ → Bool
is_key q k = is_eq (nat_cmp q k)

key_same : (k : ℕ) → is_key k k ≡ true
key_same k = by (nat_cmp k k) (ranks k k) where
  by : (r : Ordering) → MatchOrdering r (k < k) (k ≡ k) (k < k) → is_eq r ≡ true
  by Less h = absurd (omega (arith, h))
  by Equal h = refl
  by Greater h = absurd (omega (arith, h))

key_other : (q k : ℕ) → q ≢ k → is_key q k ≡ false
key_other q k other = by (nat_cmp q k) (ranks q k) where
  by : (r : Ordering) → MatchOrdering r (q < k) (q ≡ k) (k < q) → is_eq r ≡ false
  by Less h = refl
  by Equal h = absurd (other h)
  by Greater h = refl

key_is : (q k : ℕ) → is_key q k ≡ true → q ≡ k
key_is q k e = by (nat_cmp q k) (ranks q k) e where
  by : (r : Ordering) → MatchOrdering r (q < k) (q ≡ k) (k < q) → is_eq r ≡ true → q ≡ k
  by Less h f = absurd (true≢false (sym f))
  by Equal h f = h
  by Greater h f = absurd (true≢false (sym f))

module _ {X : Type 0} where
  abbrev found : ℕ → List (ℕ × X) → Option X
  found q es = lookup (is_at (nat_cmp q)) es

  found_head : (q : ℕ) (e : ℕ × X) (es : List (ℕ × X)) → is_key q e.0 ≡ true → found q (e ∷ es) ≡ Some e.1
  found_head q e es is = ap (λ b. cond b (Some e.1) (found q es)) is

  found_tail : (q : ℕ) (e : ℕ × X) (es : List (ℕ × X)) → is_key q e.0 ≡ false → found q (e ∷ es) ≡ found q es
  found_tail q e es is = ap (λ b. cond b (Some e.1) (found q es)) is

  pub found-put : (es : List (ℕ × X)) (k : ℕ) (v : X) → found k (insert_entry nat_cmp es k v) ≡ Some v
  found-put [] k v = found_head k (k, v) [] (key_same k)
  found-put (e ∷ es) k v = by (found-put es k v) (nat_cmp k e.0) refl where
    by : found k (insert_entry nat_cmp es k v) ≡ Some v → (r : Ordering) → nat_cmp k e.0 ≡ r → found k (match_ordering r ((k, v) ∷ e ∷ es) ((e.0, v) ∷ es) (e ∷ insert_entry nat_cmp es k v)) ≡ Some v
    by rest Less is = found_head k (k, v) (e ∷ es) (key_same k)
    by rest Equal is = found_head k (e.0, v) es (ap is_eq is)
    by rest Greater is = found_tail k e (insert_entry nat_cmp es k v) (ap is_eq is) ∙ rest

  pub found-put_other : (es : List (ℕ × X)) (k : ℕ) (v : X) (q : ℕ) → q ≢ k → found q (insert_entry nat_cmp es k v) ≡ found q es
  found-put_other [] k v q other = found_tail q (k, v) [] (key_other q k other)
  found-put_other (e ∷ es) k v q other = by (found-put_other es k v q other) (nat_cmp k e.0) refl where
    by : found q (insert_entry nat_cmp es k v) ≡ found q es → (r : Ordering) → nat_cmp k e.0 ≡ r → found q (match_ordering r ((k, v) ∷ e ∷ es) ((e.0, v) ∷ es) (e ∷ insert_entry nat_cmp es k v)) ≡ found q (e ∷ es)
    by rest Less is = found_tail q (k, v) (e ∷ es) (key_other q k other)
    by rest Equal is =
        let same : k ≡ e.0 = key_is k e.0 (ap is_eq is) in
        let no : is_key q e.0 ≡ false = ap (is_key q) (sym same) ∙ key_other q k other in
        found_tail q (e.0, v) es no ∙ sym (found_tail q e es no)
    by rest Greater is = ap (λ o. cond (is_key q e.0) (Some e.1) o) rest

  pub found-left : (es : List (ℕ × X)) (k q : ℕ) → q ≢ k → found q (remove_entry (is_at (nat_cmp k)) es) ≡ found q es
  found-left [] k q other = refl
  found-left (e ∷ es) k q other = by (found-left es k q other) (is_key k e.0) refl where
    by : found q (remove_entry (is_at (nat_cmp k)) es) ≡ found q es → (b : Bool) → is_key k e.0 ≡ b → found q (cond b es (e ∷ remove_entry (is_at (nat_cmp k)) es)) ≡ found q (e ∷ es)
    by rest true is = sym (found_tail q e es (ap (is_key q) (sym (key_is k e.0 is)) ∙ key_other q k other))
    by rest false is = ap (λ o. cond (is_key q e.0) (Some e.1) o) rest

  -- what holds of all numbers holds of one that is found
  pub found-all : (P : ℕ → Type 0) (es : List (ℕ × X)) (q : ℕ) (v : X) → All P (keys_of es) → found q es ≡ Some v → P q
  found-all P [] q v h is = absurd (none-some v is)
  found-all P (e ∷ es) q v h is = by (found-all P es q v (All-tail P e.0 (keys_of es) h)) (is_key q e.0) refl where
    by : (found q es ≡ Some v → P q) → (b : Bool) → is_key q e.0 ≡ b → P q
    by rest true same = subst P (sym (key_is q e.0 same)) (All-head P e.0 (keys_of es) h)
    by rest false differs = rest (sym (found_tail q e es differs) ∙ is)
