-- The numbers of what is to be shown are noted.
use Rattle.std.proofs.Common.{◌≡◌, ◌≤◌, ◌<◌, ◌+◌, ℕ, List, [], ◌∷◌, ◌++◌, length, take, get_or, Bool, true, false, Option, Some, None, Result, OnOk, refl, ap, sym, ◌∙◌, arith, subst, append_assoc, ◌⊎◌, inl, inr}
use Rattle.std.specs.Prelude.{◌==◌, ◌&&◌, not, is_some}
use Rattle.std.specs.BTreeSet.{BTreeSet, contains}
use Rattle.std.specs.Ordering.{nat_cmp}
use Rattle.std.proofs.lemmas.Bool.{eq-eqb, eqb-true, true≢false, cases_lt}
use Rattle.std.proofs.lemmas.List.{take_more, take_all, append-nil}
use Rattle.sv_tokens.specs.Counting.{times, one, Has}
use Rattle.sv_tokens.proofs.Counting.{times-append}
use Rattle.sv_live.specs.declared.live.Live.{Live}
use Rattle.sv_live.specs.declared.node.Own.{Own}
use Rattle.sv_live.specs.declared.node.Node.{Node}
use Rattle.sv_live.specs.declared.node.Node.TheVariants as node
use Rattle.sv_live.specs.Known.{by_mark, by_place, number, asks, asks_in, known}
use Rattle.sv_live.specs.Shown.{flat, flat_all}
use Rattle.sv_live.proofs.Known.{known-hidden, known-without}
use Rattle.sv_live.proofs.Plain.{flat-nil, flat-cons, flat-Text, flat-Element, flat-Hole, flat-Block}
use Rattle.sv_commit.specs.Asked.{Adds, Holds}
use Rattle.sv_commit.proofs.Results.{on_ok}

-- ---- one

holds-one : (old new : BTreeSet ℕ) (number : ℕ) (n : Node) (nodes : List Node) → nodes ≡ n ∷ [] → ((m : ℕ) → asks m n ≡ (number == m)) → Adds old new number → Holds old new nodes
holds-one old new number n nodes is asked a = record { here = λ m has. go m (asks m n) refl (subst (Has (asks m)) is has); grows = a.grows }
  where
    go : (m : ℕ) (b : Bool) → asks m n ≡ b → Has (asks m) (n ∷ []) → contains nat_cmp new m ≡ true
    go m true e has = ap (contains nat_cmp new) (sym (eqb-true number m (sym (asked m) ∙ e))) ∙ a.here
    go m false e has = let w = ap one e in absurd (omega (arith, w, has))

module _ {T E : Type 0} (r : Result T E) (old new : BTreeSet ℕ) (number : ℕ) (adds : OnOk r (Adds old new number)) (n : Node) where
  pub asks-Text : (mark : ℕ) (text : List ℕ) → n ≡ node.Text mark text → number ≡ by_mark mark → OnOk r (Holds old new (flat n))
  asks-Text mark text is same =
      on_ok r adds (λ a. holds-one old new number (node.Text mark text) (flat n) (ap flat is ∙ flat-Text mark text) (λ m. ap (asks_in m) (node.outs-Text mark text) ∙ ap (λ z. z == m) (sym same)) a)

  pub asks-Element : (own : Own) (parts : List Node) → n ≡ node.Element own parts → number ≡ by_mark own.mark → OnOk r (Holds old new (flat n))
  asks-Element own parts is same =
      on_ok r adds (λ a. holds-one old new number (node.Element own (flat_all parts)) (flat n) (ap flat is ∙ flat-Element own parts) (λ m. ap (asks_in m) (node.outs-Element own (flat_all parts)) ∙ ap (λ z. z == m) (sym same)) a)

  pub asks-Hole : (place : ℕ) → n ≡ node.Hole place → number ≡ by_place place → OnOk r (Holds old new (flat n))
  asks-Hole place is same = on_ok r adds (λ a. holds-one old new number (node.Hole place) (flat n) (ap flat is ∙ flat-Hole place) (λ m. ap (asks_in m) (node.outs-Hole place) ∙ ap (λ z. z == m) (sym same)) a)

pub asks-Block : {T E : Type 0} (r : Result T E) (old new : BTreeSet ℕ) (n : Node) (parts shown : List Node) → n ≡ node.Block parts → shown ≡ parts → OnOk r (Holds old new (flat_all shown)) → OnOk r (Holds old new (flat n))
asks-Block r old new n parts shown is same holds = on_ok r holds (λ h. subst (λ (ns : List Node). Holds old new ns) (ap flat_all same ∙ sym (ap flat is ∙ flat-Block parts)) h)

-- ---- all

flat-append : (xs ys : List Node) → flat_all (xs ++ ys) ≡ flat_all xs ++ flat_all ys
unfolding flat_all
flat-append [] ys = refl
flat-append (x ∷ xs) ys = ap (λ z. flat x ++ z) (flat-append xs ys) ∙ sym (append_assoc (flat x) (flat_all xs) (flat_all ys))

pub holds-none : (s : BTreeSet ℕ) → Holds s s (flat_all [])
holds-none s = subst (λ (ns : List Node). Holds s s ns) (sym flat-nil) (record { here = λ n has. absurd (omega (arith, has)); grows = λ n is. is })

other_way : {A B : Type 0} → A ⊎ B → B ⊎ A
other_way (inl a) = inr a
other_way (inr b) = inl b

pub holds-next : (a b c : BTreeSet ℕ) (nodes : List Node) (i : ℕ) (n : Node) → i < length nodes → n ≡ get_or nodes i n → Holds a b (flat_all (take i nodes)) → Holds b c (flat n) → Holds a c (flat_all (take (i + 1) nodes))
holds-next a b c nodes i n lt is p q =
    subst (λ (ns : List Node). Holds a c ns)
    (ap (λ z. flat_all (take i nodes) ++ z) (sym (append-nil (flat n)) ∙ (ap (λ z. flat n ++ z) (sym flat-nil) ∙ sym (flat-cons n []))) ∙ (sym (flat-append (take i nodes) (n ∷ [])) ∙ ap flat_all (ap (λ z. take i nodes ++ (z ∷ [])) is ∙ sym (take_more nodes i n lt)))) both
  where
    both : Holds a c (flat_all (take i nodes) ++ flat n)
    both = record { here = λ m has. split m (times-append (asks m) (flat_all (take i nodes)) (flat n)) has (cases m); grows = λ m is. q.grows m (p.grows m is) }
      where
        cases : (m : ℕ) → (Has (asks m) (flat_all (take i nodes))) ⊎ (times (asks m) (flat_all (take i nodes)) < 1)
        cases m = other_way (cases_lt (times (asks m) (flat_all (take i nodes))) 1)

        split : (m : ℕ) → times (asks m) (flat_all (take i nodes) ++ flat n) ≡ times (asks m) (flat_all (take i nodes)) + times (asks m) (flat n) → Has (asks m) (flat_all (take i nodes) ++ flat n)
            → (Has (asks m) (flat_all (take i nodes))) ⊎ (times (asks m) (flat_all (take i nodes)) < 1) → contains nat_cmp c m ≡ true
        split m all has (inl first) = q.grows m (p.here m first)
        split m all has (inr none) = q.here m (omega (arith, all, has, none))

pub holds-all : (a b : BTreeSet ℕ) (nodes : List Node) (i : ℕ) → length nodes ≤ i → Holds a b (flat_all (take i nodes)) → Holds a b (flat_all nodes)
holds-all a b nodes i le h = subst (λ (ns : List Node). Holds a b (flat_all ns)) (take_all i nodes le) h

-- ---- what stays

pub is-new : (a : Bool) (o : Option Live) → true ≡ (a && not (is_some o)) → o ≡ None
is-new true None e = refl
is-new true (Some l) e = absurd (true≢false e)
is-new false None e = absurd (true≢false e)
is-new false (Some l) e = absurd (true≢false e)

-- one that does not stay is not known by a number that is asked for, or hidden
pub still-known : (n m : ℕ) (left rest : List Live) (l : Live) (asked : Bool) → m ≡ n → asked ≡ true → false ≡ (asked && not (is_some (known m rest))) → known n ((left ++ l ∷ []) ++ rest) ≡ known n (left ++ rest)
still-known n m left rest l true same e h = known-hidden n left rest l (ap (λ z. is_some (known z rest)) (sym same) ∙ go (is_some (known m rest)) h)
  where
    go : (b : Bool) → false ≡ not b → b ≡ true
    go true e = refl
    go false e = absurd (true≢false (sym e))
still-known n m left rest l false same e h = absurd (true≢false (sym e))

-- so nothing that is asked for is lost
pub gone-known : (n m : ℕ) (left rest : List Live) (l : Live) (asked : BTreeSet ℕ) → m ≡ number l → contains nat_cmp asked n ≡ true → false ≡ (contains nat_cmp asked m && not (is_some (known m rest)))
    → known n ((left ++ l ∷ []) ++ rest) ≡ known n (left ++ rest)
gone-known n m left rest l asked is wanted gone = go (number l == n) refl
  where
    go : (b : Bool) → (number l == n) ≡ b → known n ((left ++ l ∷ []) ++ rest) ≡ known n (left ++ rest)
    go true e = let same = is ∙ eqb-true (number l) n e in still-known n m left rest l (contains nat_cmp asked m) same (ap (contains nat_cmp asked) same ∙ wanted) gone
    go false e = ap (known n) (append_assoc left (l ∷ []) rest) ∙ known-without n left rest l (λ h. true≢false (sym (eq-eqb (number l) n h) ∙ e))
