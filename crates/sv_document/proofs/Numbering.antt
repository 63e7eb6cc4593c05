-- What numbers nodes get.
use Rattle.std.proofs.Common.{◌≡◌, ◌≢◌, ◌≤◌, ◌<◌, ℕ, ◌+◌, nat_eq, Bool, true, false, ◌||◌, cond, List, [], ◌∷◌, Option, refl, ap, sym, subst, ◌∙◌, arith, ◌⊎◌, inl, inr}
use Rattle.std.specs.Prelude.{Some, None}
use Rattle.std.specs.List.{list_any}
use Rattle.std.specs.BTreeMap.{insert_entry, is_at}
use Rattle.std.specs.Cmp.{nat_cmp_is, ranks}
use Rattle.std.specs.Map.{lookup}
use Rattle.std.specs.Ordering.{MatchOrdering, is_eq, match_ordering, nat_cmp}
use Rattle.std.specs.declared.cmp.Ordering.{Ordering}
use Rattle.std.specs.declared.cmp.Ordering.TheVariants.{Less, Equal, Greater}
use Rattle.std.proofs.lemmas.Bool.{true≢false, eqb-true}
use Rattle.std.proofs.lemmas.Bool.Decides.{eqb_tells}
use Rattle.std.proofs.lemmas.Option.{none-some}
use Rattle.sv_document.specs.Laws.{IsFair}
use Rattle.sv_document.specs.Numbers.{Numbers, unnumbered, number_of, given, taken_over, emptied}

-- ---- entries

self : (k : ℕ) → nat_cmp k k ≡ Equal
self k = sym (nat_cmp_is k k Equal refl)

unequal-by : (q k : ℕ) (r : Ordering) → MatchOrdering r (q < k) (q ≡ k) (k < q) → q ≢ k → is_eq r ≡ false
unequal-by q k Less is apart = refl
unequal-by q k Equal is apart = absurd (apart is)
unequal-by q k Greater is apart = refl

unequal : (q k : ℕ) → q ≢ k → is_eq (nat_cmp q k) ≡ false
unequal q k apart = unequal-by q k (nat_cmp q k) (ranks q k) apart

same-by : (k v : ℕ) (e : ℕ × ℕ) (es : List (ℕ × ℕ)) (r : Ordering) → nat_cmp k e.0 ≡ r → lookup (is_at (nat_cmp k)) (insert_entry nat_cmp es k v) ≡ Some v
    → lookup (is_at (nat_cmp k)) (match_ordering r ((k, v) ∷ e ∷ es) ((e.0, v) ∷ es) (e ∷ insert_entry nat_cmp es k v)) ≡ Some v
same-by k v e es Less is ih = ap (λ o. cond (is_eq o) (Some v) (lookup (is_at (nat_cmp k)) (e ∷ es))) (self k)
same-by k v e es Equal is ih = ap (λ o. cond (is_eq o) (Some v) (lookup (is_at (nat_cmp k)) es)) is
same-by k v e es Greater is ih = ap (λ o. cond (is_eq o) (Some e.1) (lookup (is_at (nat_cmp k)) (insert_entry nat_cmp es k v))) is ∙ ih

put-same : (k v : ℕ) (es : List (ℕ × ℕ)) → lookup (is_at (nat_cmp k)) (insert_entry nat_cmp es k v) ≡ Some v
put-same k v [] = ap (λ o. cond (is_eq o) (Some v) None) (self k)
put-same k v (e ∷ es) = same-by k v e es (nat_cmp k e.0) refl (put-same k v es)

other-by : (q k v : ℕ) (e : ℕ × ℕ) (es : List (ℕ × ℕ)) (r : Ordering) → MatchOrdering r (k < e.0) (k ≡ e.0) (e.0 < k) → q ≢ k
    → lookup (is_at (nat_cmp q)) (insert_entry nat_cmp es k v) ≡ lookup (is_at (nat_cmp q)) es
    → lookup (is_at (nat_cmp q)) (match_ordering r ((k, v) ∷ e ∷ es) ((e.0, v) ∷ es) (e ∷ insert_entry nat_cmp es k v)) ≡ lookup (is_at (nat_cmp q)) (e ∷ es)
other-by q k v e es Less is apart ih = ap (λ b. cond b (Some v) (lookup (is_at (nat_cmp q)) (e ∷ es))) (unequal q k apart)
other-by q k v e es Equal is apart ih =
    let far : is_eq (nat_cmp q e.0) ≡ false = unequal q e.0 (λ same. apart (same ∙ sym is)) in
    ap (λ b. cond b (Some v) (lookup (is_at (nat_cmp q)) es)) far ∙ sym (ap (λ b. cond b (Some e.1) (lookup (is_at (nat_cmp q)) es)) far)
other-by q k v e es Greater is apart ih = ap (cond (is_eq (nat_cmp q e.0)) (Some e.1)) ih

put-other : (q k v : ℕ) (es : List (ℕ × ℕ)) → q ≢ k → lookup (is_at (nat_cmp q)) (insert_entry nat_cmp es k v) ≡ lookup (is_at (nat_cmp q)) es
put-other q k v [] apart = ap (λ b. cond b (Some v) None) (unequal q k apart)
put-other q k v (e ∷ es) apart = other-by q k v e es (nat_cmp k e.0) (ranks k e.0) apart (put-other q k v es apart)

-- ---- one node

some-same : (o : Option ℕ) (j k : ℕ) → o ≡ Some j → o ≡ Some k → j ≡ k
some-same o j k one other = cc

-- the number that a node gets
abbrev got : Option ℕ → ℕ → ℕ
got None next = next
got (Some number) next = number

given-same : (o : Option ℕ) (mark : ℕ) (now : Numbers) → number_of (given o mark now) mark ≡ Some (got o now.next)
given-same None mark now = put-same mark now.next now.given
given-same (Some number) mark now = put-same mark number now.given

given-other : (o : Option ℕ) (q mark : ℕ) (now : Numbers) → q ≢ mark → number_of (given o mark now) q ≡ number_of now q
given-other None q mark now apart = put-other q mark now.next now.given apart
given-other (Some number) q mark now apart = put-other q mark number now.given apart

given-grows : (o : Option ℕ) (mark : ℕ) (now : Numbers) → now.next ≤ (given o mark now).next
given-grows None mark now = omega arith
given-grows (Some number) mark now = omega arith

-- ---- nodes that are numbered one after another

-- the numbers so far, where old ones are taken over: each is the one that its mark had, or a new one, and no two are the same
record Fair (old now : Numbers) : Type 0 where
  grown : old.next ≤ now.next
  from : (m k : ℕ) → number_of now m ≡ Some k → (number_of old m ≡ Some k) ⊎ ((old.next ≤ k) × (k < now.next))
  own : (m n k : ℕ) → number_of now m ≡ Some k → number_of now n ≡ Some k → m ≡ n

-- a number that a mark had, or a new one, isn't that of another mark
apart-got : (old now : Numbers) (mark n k : ℕ) (o : Option ℕ) → IsFair old → Fair old now → o ≡ number_of old mark → k ≡ got o now.next → number_of now n ≡ Some k → mark ≡ n
apart-got old now mark n k (Some number) fair so_far is same there =
    let had : number_of old mark ≡ Some k = sym is ∙ ap Some (sym same) in
    let low : k < old.next = fair.given mark k had in
    elim (so_far.from n k there) as (λ _. mark ≡ n) [ inl e ↦ fair.own mark n k had e | inr b ↦ absurd (omega (arith, low, b.0)) ]
apart-got old now mark n k None fair so_far is same there =
    elim (so_far.from n k there) as (λ _. mark ≡ n) [
      | inl e ↦ let low : k < old.next = fair.given n k e in let high = so_far.grown in absurd (omega (arith, low, high, same))
      | inr b ↦ absurd (omega (arith, b.1, same))
    ]

from-got : (old now : Numbers) (mark k : ℕ) (o : Option ℕ) → Fair old now → o ≡ number_of old mark → k ≡ got o now.next
    → (number_of old mark ≡ Some k) ⊎ ((old.next ≤ k) × (k < (given o mark now).next))
from-got old now mark k (Some number) so_far is same = inl (sym is ∙ ap Some (sym same))
from-got old now mark k None so_far is same = let high = so_far.grown in inr (omega (arith, high, same), omega (arith, same))

module _ (old now : Numbers) (mark : ℕ) (fair : IsFair old) (so_far : Fair old now) where
  abbrev next : Numbers
  next = given (number_of old mark) mark now

  -- a mark's number is the one that was got, or the one that it had
  told : (m k : ℕ) → number_of next m ≡ Some k → ((m ≡ mark) × (k ≡ got (number_of old mark) now.next)) ⊎ ((m ≢ mark) × (number_of now m ≡ Some k))
  told m k is = elim (eqb_tells m mark) as (λ _. ((m ≡ mark) × (k ≡ got (number_of old mark) now.next)) ⊎ ((m ≢ mark) × (number_of now m ≡ Some k))) [
    | inl e ↦ inl (e.1, some-same (number_of next m) k (got (number_of old mark) now.next) is (ap (number_of next) e.1 ∙ given-same (number_of old mark) mark now))
    | inr a ↦ inr (a.1, sym (given-other (number_of old mark) m mark now a.1) ∙ is)
  ]

  from-next : (m k : ℕ) → number_of next m ≡ Some k → (number_of old m ≡ Some k) ⊎ ((old.next ≤ k) × (k < next.next))
  from-next m k is = elim (told m k is) as (λ _. (number_of old m ≡ Some k) ⊎ ((old.next ≤ k) × (k < next.next))) [
    | inl e ↦ subst (λ z. (number_of old z ≡ Some k) ⊎ ((old.next ≤ k) × (k < next.next))) (sym e.0) (from-got old now mark k (number_of old mark) so_far refl e.1)
    | inr a ↦ elim (so_far.from m k a.1) as (λ _. (number_of old m ≡ Some k) ⊎ ((old.next ≤ k) × (k < next.next))) [
      | inl e ↦ inl e
      | inr b ↦ let grows = given-grows (number_of old mark) mark now in inr (b.0, omega (arith, b.1, grows))
    ]
  ]

  own-next : (m n k : ℕ) → number_of next m ≡ Some k → number_of next n ≡ Some k → m ≡ n
  own-next m n k p q = elim (told m k p) as (λ _. m ≡ n) [
    | inl e ↦ elim (told n k q) as (λ _. m ≡ n) [
      | inl f ↦ e.0 ∙ sym f.0
      | inr b ↦ e.0 ∙ apart-got old now mark n k (number_of old mark) fair so_far refl e.1 b.1
    ]
    | inr a ↦ elim (told n k q) as (λ _. m ≡ n) [
      | inl f ↦ sym (f.0 ∙ apart-got old now mark m k (number_of old mark) fair so_far refl f.1 a.1)
      | inr b ↦ so_far.own m n k a.1 b.1
    ]
  ]

  fair-next : Fair old next
  fair-next = record { grown = let grows = given-grows (number_of old mark) mark now in let so = so_far.grown in omega (arith, so, grows); from = from-next; own = own-next }

fair-all : (old : Numbers) (marks : List ℕ) (now : Numbers) → IsFair old → Fair old now → Fair old (taken_over old marks now)
fair-all old [] now fair so_far = so_far
fair-all old (mark ∷ marks) now fair so_far = fair-all old marks (given (number_of old mark) mark now) fair (fair-next old now mark fair so_far)

fair-first : (old : Numbers) → Fair old (emptied old)
fair-first old = record { grown = omega arith; from = λ m k is. absurd (none-some k is); own = λ m n k p q. absurd (none-some k p) }

fair-of : (old now : Numbers) → IsFair old → Fair old now → IsFair now
fair-of old now fair so_far = record {
  given = λ m k is. elim (so_far.from m k is) as (λ _. k < now.next) [ inl e ↦ let low = fair.given m k e in let grown = so_far.grown in omega (arith, low, grown) | inr b ↦ b.1 ];
  own = so_far.own;
}

pub fair-start : IsFair unnumbered
fair-start = record { given = λ m k is. absurd (none-some k is); own = λ m n k p q. absurd (none-some k p) }

pub fair-numbered : (old : Numbers) (marks : List ℕ) → IsFair old → IsFair (taken_over old marks (emptied old))
fair-numbered old marks fair = fair-of old (taken_over old marks (emptied old)) fair (fair-all old marks (emptied old) fair (fair-first old))

-- ---- nodes that stay, and new ones

-- a mark that has the number that it had keeps it
kept-all : (old : Numbers) (marks : List ℕ) (now : Numbers) (m k : ℕ) → number_of old m ≡ Some k → (number_of now m ≡ Some k) ⊎ (list_any (nat_eq m) marks ≡ true)
    → number_of (taken_over old marks now) m ≡ Some k
kept-all old [] now m k had (inl here) = here
kept-all old [] now m k had (inr among) = absurd (true≢false (sym among))
kept-all old (mark ∷ marks) now m k had here =
    elim (eqb_tells m mark) as (λ _. number_of (taken_over old marks (given (number_of old mark) mark now)) m ≡ Some k) [
      | inl e ↦ kept-all old marks (given (number_of old mark) mark now) m k had (inl (ap (number_of (given (number_of old mark) mark now)) e.1
          ∙ (given-same (number_of old mark) mark now ∙ ap (λ o. Some (got o now.next)) (ap (number_of old) (sym e.1) ∙ had))))
      | inr a ↦ kept-all old marks (given (number_of old mark) mark now) m k had (later here a)
    ] where
      later : (number_of now m ≡ Some k) ⊎ (list_any (nat_eq m) (mark ∷ marks) ≡ true) → (nat_eq m mark ≡ false) × (m ≢ mark)
          → (number_of (given (number_of old mark) mark now) m ≡ Some k) ⊎ (list_any (nat_eq m) marks ≡ true)
      later (inl here) a = inl (given-other (number_of old mark) m mark now a.1 ∙ here)
      later (inr among) a = inr (sym (ap (λ b. b || list_any (nat_eq m) marks) a.0) ∙ among)

pub number-kept : (old : Numbers) (marks : List ℕ) (m k : ℕ) → number_of old m ≡ Some k → list_any (nat_eq m) marks ≡ true → number_of (taken_over old marks (emptied old)) m ≡ Some k
number-kept old marks m k had among = kept-all old marks (emptied old) m k had (inr among)

-- a mark that has a new number still has a new one
abbrev New : Numbers → Numbers → ℕ → Type 0
New old now m = (k : ℕ) × (number_of now m ≡ Some k) × (old.next ≤ k)

new-all : (old : Numbers) (marks : List ℕ) (now : Numbers) (m : ℕ) → number_of old m ≡ None → old.next ≤ now.next → New old now m ⊎ (list_any (nat_eq m) marks ≡ true)
    → New old (taken_over old marks now) m
new-all old [] now m none grown (inl here) = here
new-all old [] now m none grown (inr among) = absurd (true≢false (sym among))
new-all old (mark ∷ marks) now m none grown here =
    let grows = given-grows (number_of old mark) mark now in
    let still : old.next ≤ (given (number_of old mark) mark now).next = omega (arith, grown, grows) in
    elim (eqb_tells m mark) as (λ _. New old (taken_over old marks (given (number_of old mark) mark now)) m) [
      | inl e ↦ new-all old marks (given (number_of old mark) mark now) m none still (inl (
        now.next,
        ap (number_of (given (number_of old mark) mark now)) e.1
            ∙ (given-same (number_of old mark) mark now ∙ ap (λ o. Some (got o now.next)) (ap (number_of old) (sym e.1) ∙ none)),
        grown,
      ))
      | inr a ↦ new-all old marks (given (number_of old mark) mark now) m none still (later here a)
    ] where
      later : New old now m ⊎ (list_any (nat_eq m) (mark ∷ marks) ≡ true) → (nat_eq m mark ≡ false) × (m ≢ mark)
          → New old (given (number_of old mark) mark now) m ⊎ (list_any (nat_eq m) marks ≡ true)
      later (inl here) a = inl (here.0, given-other (number_of old mark) m mark now a.1 ∙ here.1, here.2)
      later (inr among) a = inr (sym (ap (λ b. b || list_any (nat_eq m) marks) a.0) ∙ among)

pub number-new : (old : Numbers) (marks : List ℕ) (m : ℕ) → number_of old m ≡ None → list_any (nat_eq m) marks ≡ true
    → (k : ℕ) × (number_of (taken_over old marks (emptied old)) m ≡ Some k) × (old.next ≤ k)
number-new old marks m none among = new-all old marks (emptied old) m none (omega arith) (inr among)
