-- What stays keeps its node, step by step.
use Rattle.std.proofs.Common.{◌≡◌, ◌≤◌, ℕ, List, [], ◌∷◌, ◌++◌, Option, Some, None, refl, ap, sym, ◌∙◌, arith, subst, append_assoc}
use Rattle.std.proofs.lemmas.Bool.{eq-eqb}
use Rattle.std.proofs.lemmas.List.{append-nil}
use Rattle.sv_tokens.specs.Counting.{times, one}
use Rattle.sv_tokens.proofs.Counting.{times-append}
use Rattle.sv_live.specs.declared.live.Named.{Named}
use Rattle.sv_live.specs.declared.live.Live.{Live}
use Rattle.sv_live.specs.Known.{number, answers, known, text_node, element_node, inside}
use Rattle.sv_live.specs.Kept.{IsNamed, IsSole, IsKept, kept_text, kept_element, kept_hole, AreKept}
use Rattle.sv_live.specs.Walk.{Walk, KeepsOthers, Places}

-- ---- one that was new later was new before

named-later : (next later : ℕ) (was : Option Named) (n : Named) → next ≤ later → IsNamed later was n → IsNamed next was n
named-later next later None n le new = omega (arith, le, new)
named-later next later (Some m) n le same = same

pub kept-later : (next later : ℕ) (was : Option Live) (now : Live) → next ≤ later → IsKept later was now → IsKept next was now
kept-later next later was now le (kept_text _ _ mark n text named) = kept_text next was mark n text (named-later next later (text_node was) n le named)
kept-later next later was now le (kept_element _ _ n own parts named below) =
    kept_element next was n own parts (named-later next later (element_node own.name was) n le named) (λ l sole. kept-later next later (known (number l) (inside own.name was)) l le (below l sole))
kept-later next later was now le (kept_hole _ _ place anchor parts seated) = kept_hole next was place anchor parts seated

pub are-kept-later : (next later : ℕ) (was now : List Live) → next ≤ later → AreKept later was now → AreKept next was now
are-kept-later next later was now le kept l sole = kept-later next later (known (number l) was) l le (kept l sole)

-- the same is known
pub are-kept-as : (next : ℕ) (was other now : List Live) → ((l : Live) → IsSole l now → known (number l) other ≡ known (number l) was) → AreKept next other now → AreKept next was now
are-kept-as next was other now same kept l sole = subst (λ (o : Option Live). IsKept next o l) (same l sole) (kept l sole)

-- ---- some were placed

sole-one : (l m : Live) → IsSole l (m ∷ []) → m ≡ l
sole-one l m s = go s.front s.is
  where
    nil : (xs : List Live) (x y : Live) → x ∷ [] ≡ y ∷ xs → x ≡ y
    nil xs x y e = cc

    never : (xs ys : List Live) (x y : Live) → m ∷ [] ≡ x ∷ (xs ++ y ∷ ys) → ⊥
    never [] ys x y e = cc
    never (z ∷ xs) ys x y e = cc

    go : (front : List Live) → m ∷ [] ≡ front ++ l ∷ s.back → m ≡ l
    go [] e = nil s.back m l e
    go (x ∷ front) e = absurd (never front s.back x l e)

pub places-one : (next : ℕ) (old new : Walk) (l : Live) → new.placed ≡ l ∷ old.placed → KeepsOthers (number l) old.rest new.rest → IsKept next (known (number l) old.rest) l → Places next old new
places-one next old new l placed others kept = record {
  added = l ∷ [];
  placed = placed;
  others = λ n none. others n (λ e. (let w = ap one (eq-eqb (number l) n (sym e)) in omega (arith, w, none)));
  kept = λ m sole. subst (λ (z : Live). IsKept next (known (number z) old.rest) z) (sole-one m l sole) kept;
}

pub places-none : (next : ℕ) (w : Walk) → Places next w w
places-none next w = record { added = []; placed = refl; others = λ n none. refl; kept = λ l sole. absurd (never l sole.front sole.back sole.is) }
  where
    never : (l : Live) (xs ys : List Live) → [] ≡ xs ++ l ∷ ys → ⊥
    never l [] ys e = cc
    never l (x ∷ xs) ys e = cc

-- where one of two lists has it, the other has none with its number
data IsIn : Live → List Live → List Live → Type 0 where
  in_first : (l : Live) (xs ys : List Live) → IsSole l xs → times (answers (number l)) ys ≡ 0 → IsIn l xs ys
  in_second : (l : Live) (xs ys : List Live) → IsSole l ys → times (answers (number l)) xs ≡ 0 → IsIn l xs ys

own-answers : (l : Live) → one (answers (number l) l) ≡ 1
own-answers l = ap one (eq-eqb (number l) (number l) refl)

tail-is : {x y : Live} {xs ys : List Live} → x ∷ xs ≡ y ∷ ys → xs ≡ ys
tail-is e = cc

head-is : {x y : Live} {xs ys : List Live} → x ∷ xs ≡ y ∷ ys → x ≡ y
head-is e = cc

sole-split : (l : Live) (xs ys front back : List Live) → xs ++ ys ≡ front ++ l ∷ back → times (answers (number l)) front ≡ 0 → times (answers (number l)) back ≡ 0 → IsIn l xs ys
sole-split l [] ys front back is ahead behind = in_second l [] ys (record { front = front; back = back; is = is; ahead = ahead; behind = behind }) refl
sole-split l (x ∷ xs) ys [] back is ahead behind =
    let t = tail-is is in
    let all = sym (times-append (answers (number l)) xs ys) ∙ (ap (times (answers (number l))) t ∙ behind) in
    in_first l (x ∷ xs) ys (record { front = []; back = xs; is = λ i. head-is is i ∷ xs; ahead = refl; behind = omega (arith, all) }) (omega (arith, all))
sole-split l (x ∷ xs) ys (f ∷ front) back is ahead behind =
    let h = ap (λ z. one (answers (number l) z)) (head-is is) in
    go (sole-split l xs ys front back (tail-is is) (omega (arith, ahead)) behind)
  where
    none : one (answers (number l) x) ≡ 0
    none = let h = ap (λ z. one (answers (number l) z)) (head-is is) in omega (arith, h, ahead)

    go : IsIn l xs ys → IsIn l (x ∷ xs) ys
    go (in_first _ _ _ s e) = in_first l (x ∷ xs) ys (record { front = x ∷ s.front; back = s.back; is = ap (λ z. x ∷ z) s.is; ahead = (let a = s.ahead in omega (arith, none, a)); behind = s.behind }) e
    go (in_second _ _ _ s e) = in_second l (x ∷ xs) ys s (omega (arith, none, e))

pub places-then : (next later : ℕ) (a b c : Walk) → next ≤ later → Places next a b → Places later b c → Places next a c
places-then next later a b c le p q = record {
  added = q.added ++ p.added;
  placed = q.placed ∙ (ap (λ z. q.added ++ z) p.placed ∙ sym (append_assoc q.added p.added a.placed));
  others = λ n none. (
      let two = sym (times-append (answers n) q.added p.added) ∙ none in
      q.others n (omega (arith, two)) ∙ p.others n (omega (arith, two)));
  kept = λ l sole. go l (sole-split l q.added p.added sole.front sole.back sole.is sole.ahead sole.behind);
}
  where
    go : (l : Live) → IsIn l q.added p.added → IsKept next (known (number l) a.rest) l
    go l (in_first _ _ _ s e) = subst (λ (o : Option Live). IsKept next o l) (p.others (number l) e) (kept-later next later (known (number l) b.rest) l le (q.kept l s))
    go l (in_second _ _ _ s e) = p.kept l s

-- all were placed
pub kept-all : (next later : ℕ) (was now : List Live) (a b : Walk) → next ≤ later → a.placed ≡ [] → b.placed ≡ now → ((l : Live) → IsSole l now → known (number l) a.rest ≡ known (number l) was) → Places later a b → AreKept next was now
kept-all next later was now a b le none is same p =
    let all : p.added ≡ now = sym (append-nil p.added) ∙ (ap (λ z. p.added ++ z) (sym none) ∙ (sym p.placed ∙ is)) in
    are-kept-later next later was now le (are-kept-as later was a.rest now same (subst (λ (xs : List Live). AreKept later a.rest xs) all p.kept))
