-- Sorted entries after one was taken away, and values by number after one went.
use Rattle.std.proofs.Common.{◌≡◌, ◌≢◌, ℕ, ◌<◌, List, [], ◌∷◌, length, Option, Some, None, Bool, true, false, cond, refl, sym, ap, subst, ◌∙◌, arith, ⊎_elim}
use Rattle.std.specs.BTreeMap.{is_at}
use Rattle.std.specs.Cmp.{ranks}
use Rattle.std.specs.Map.{lookup, remove_entry}
use Rattle.std.specs.Ordering.{MatchOrdering, nat_cmp, is_eq}
use Rattle.std.specs.Prelude.{slice_set}
use Rattle.std.specs.declared.cmp.Ordering.{Ordering}
use Rattle.std.specs.declared.cmp.Ordering.TheVariants.{Less, Equal, Greater}
use Rattle.std.proofs.lemmas.Bool.{true≢false, cases_lt}
use Rattle.std.proofs.lemmas.List.{get_or_past, get_or-set_same, get_or-set_other, set_past}
use Rattle.std.proofs.lemmas.Option.{none-some}
use Rattle.sv_code.specs.Names.{Each}
use Rattle.sv_family.specs.Family.{AreSorted}
use Rattle.sv_numbered.specs.Numbered.{at}
use Rattle.sv_places.proofs.Lookups.{found-left}

-- ---- entries

abbrev is_key : ℕ → ℕ → Bool
is_key q k = is_eq (nat_cmp q k)

key_below : (q k : ℕ) → q < k → is_key q k ≡ false
key_below q k lt = by (nat_cmp q k) (ranks q k) where
  by : (r : Ordering) → MatchOrdering r (q < k) (q ≡ k) (k < q) → is_eq r ≡ false
  by Less h = refl
  by Equal h = absurd (omega (arith, h, lt))
  by Greater h = refl

key_is : (q k : ℕ) → is_key q k ≡ true → q ≡ k
key_is q k e = by (nat_cmp q k) (ranks q k) e where
  by : (r : Ordering) → MatchOrdering r (q < k) (q ≡ k) (k < q) → is_eq r ≡ true → q ≡ k
  by Less h f = absurd (true≢false (sym f))
  by Equal h f = h
  by Greater h f = absurd (true≢false (sym f))

module _ {X : Type 0} where
  abbrev left : ℕ → List (ℕ × X) → List (ℕ × X)
  left k es = remove_entry (is_at (nat_cmp k)) es

  abbrev found : ℕ → List (ℕ × X) → Option X
  found q es = lookup (is_at (nat_cmp q)) es

  each-left : (Q : ℕ × X → Type 0) (k : ℕ) (es : List (ℕ × X)) → Each Q es → Each Q (left k es)
  each-left Q k [] h = h
  each-left Q k (e ∷ es) h = by (each-left Q k es h.1) (is_key k e.0) where
    by : Each Q (left k es) → (b : Bool) → Each Q (cond b es (e ∷ left k es))
    by rest true = h.1
    by rest false = (h.0, rest)

  -- what is left is sorted
  pub sorted-left : (k : ℕ) (es : List (ℕ × X)) → AreSorted es → AreSorted (left k es)
  sorted-left k [] h = h
  sorted-left k (e ∷ es) h = by (sorted-left k es h.1) (is_key k e.0) where
    by : AreSorted (left k es) → (b : Bool) → AreSorted (cond b es (e ∷ left k es))
    by rest true = h.1
    by rest false = (each-left (λ f. e.0 < f.0) k es h.0, rest)

  not-above : (k : ℕ) (es : List (ℕ × X)) → Each (λ f. k < f.0) es → found k es ≡ None
  not-above k [] h = refl
  not-above k (e ∷ es) h = ap (λ b. cond b (Some e.1) (found k es)) (key_below k e.0 h.0) ∙ not-above k es h.1

  -- what was taken away isn't found
  pub found-gone : (k : ℕ) (es : List (ℕ × X)) → AreSorted es → found k (left k es) ≡ None
  found-gone k [] h = refl
  found-gone k (e ∷ es) h = by (found-gone k es h.1) (is_key k e.0) refl where
    by : found k (left k es) ≡ None → (b : Bool) → is_key k e.0 ≡ b → found k (cond b es (e ∷ left k es)) ≡ None
    by rest true is = not-above k es (subst (λ n. Each (λ f. n < f.0) es) (sym (key_is k e.0 is)) h.0)
    by rest false is = ap (λ b. cond b (Some e.1) (found k (left k es))) is ∙ rest

  -- what is found still was found before, by another number
  pub found-other : (k q : ℕ) (es : List (ℕ × X)) (v : X) → AreSorted es → found q (left k es) ≡ Some v → q ≢ k
  found-other k q es v h is = λ same. none-some v (sym (found-gone k es h) ∙ ap (λ n. found n (left k es)) (sym same) ∙ is)

  pub found-before : (k q : ℕ) (es : List (ℕ × X)) (v : X) → AreSorted es → found q (left k es) ≡ Some v → found q es ≡ Some v
  found-before k q es v h is = sym (found-left es k q (found-other k q es v h is)) ∙ is

  -- what isn't there can't be taken away
  pub left-absent : (k : ℕ) (es : List (ℕ × X)) → found k es ≡ None → left k es ≡ es
  left-absent k [] h = refl
  left-absent k (e ∷ es) h = by (left-absent k es) (is_key k e.0) h where
    by : (found k es ≡ None → left k es ≡ es) → (b : Bool) → cond b (Some e.1) (found k es) ≡ None → cond b es (e ∷ left k es) ≡ e ∷ es
    by rest true none = absurd (none-some e.1 (sym none))
    by rest false none = ap (λ l. e ∷ l) (rest none)

-- ---- values by number

module _ {T : Type 0} where
  -- what went isn't there
  pub at-gone : (values : List (Option T)) (n : ℕ) → at (slice_set values n None) n ≡ None
  at-gone values n = ⊎_elim
      (λ below. get_or-set_same values n None None below)
      (λ past. ap (λ l. at l n) (set_past values n None past) ∙ get_or_past values n None past)
      (cases_lt n (length values))

  -- the others are
  pub at-other : (values : List (Option T)) (n m : ℕ) → m ≢ n → at (slice_set values n None) m ≡ at values m
  at-other values n m other = get_or-set_other values n m None None other

  -- who is there was there before, by another number
  pub at-differs : (values : List (Option T)) (n m : ℕ) (x : T) → at (slice_set values n None) m ≡ Some x → m ≢ n
  at-differs values n m x is = λ same. none-some x (sym (at-gone values n) ∙ ap (at (slice_set values n None)) (sym same) ∙ is)

  pub at-before : (values : List (Option T)) (n m : ℕ) (x : T) → at (slice_set values n None) m ≡ Some x → at values m ≡ Some x
  at-before values n m x is = sym (at-other values n m (at-differs values n m x is)) ∙ is
