-- Where a node stands among a page's tokens, and what its changes make of them.
use Rattle.std.proofs.Common.{◌≡◌, ◌≢◌, ◌≤◌, ◌<◌, ◌+◌, ℕ, zero, suc, List, [], ◌∷◌, ◌++◌, length, take, drop, set, get_or, Bool, true, false, Some, None, Result, Ok, Err, OnOk, refl, ap, sym, ◌∙◌, arith, subst, append_assoc}
use Rattle.std.specs.Prelude.{if◌then◌else◌, ◌&&◌, nat_lt, nat_le}
use Rattle.std.specs.List.{list_any, position_or_len}
use Rattle.std.proofs.lemmas.Bool.{ltb-true, ltb-false, lt-ltb, le-ltb, le-leb, lt-leb}
use Rattle.std.proofs.lemmas.List.{take_at, drop_at, set_at, get_or_at, length-append}
use Rattle.std.proofs.Math.Numerals.{add-one}
use Rattle.sv_tokens.specs.Counting.{times}
use Rattle.sv_tokens.specs.Seen.{Seen, View, starts, follows}
use Rattle.sv_tokens.specs.Replay.{made, put_before, through, rest_of, after, parent_in, moved, replay}
use Rattle.sv_tokens.specs.declared.change.What.{What}
use Rattle.sv_tokens.specs.declared.change.Change.TheVariants.{Make}
use Rattle.sv_watch.specs.Place.{place_of, rewritten, removed, shifted}
use Rattle.sv_watch.proofs.Places.{Found, found, not-found, place-first, place-later, place-bound, any-none, any-here}
use Rattle.sv_watch.proofs.Edits.{rewritten-here, rewritten-none, put-here, rest-after, without-here, without-none, moving, moved-is, moving-here, moving-none, moved-none}

-- ---- the place of a node

pub place-zero : (serial : ℕ) (ts : List Seen) → serial ≡ 0 → None ≡ place_of serial ts
place-zero zero ts e = refl
place-zero (suc n) ts e = absurd (omega (arith, e))

pub place-some : (serial : ℕ) (ts : List Seen) (n : ℕ) → serial ≢ 0 → n ≡ position_or_len (starts serial) ts → n < length ts → Some n ≡ place_of serial ts
place-some zero ts n late is inside = absurd (late refl)
place-some (suc m) ts n late is inside =
    ap Some is ∙ sym (ap (λ z. if z then Some (position_or_len (starts (suc m)) ts) else None) (lt-ltb (position_or_len (starts (suc m)) ts) (length ts) (omega (arith, is, inside))))

pub place-none : (serial : ℕ) (ts : List Seen) (n : ℕ) → serial ≢ 0 → n ≡ position_or_len (starts serial) ts → length ts ≤ n → None ≡ place_of serial ts
place-none zero ts n late is past = absurd (late refl)
place-none (suc m) ts n late is past =
    sym (ap (λ z. if z then Some (position_or_len (starts (suc m)) ts) else None) (le-ltb (position_or_len (starts (suc m)) ts) (length ts) (omega (arith, is, past))))

-- the node begins there
record Stands (serial : ℕ) (ts : List Seen) (at : ℕ) : Type 0 where
  before : ℕ
  late : serial ≡ suc before
  node : Found (starts (suc before)) ts at

same-place : (a b : ℕ) → Some a ≡ Some b → a ≡ b
same-place a b e = cc

no-place : {A : Type 0} (a : ℕ) → Some a ≡ None → A
no-place a e = absurd (cc)

stands : (serial : ℕ) (ts : List Seen) (at : ℕ) → Some at ≡ place_of serial ts → Stands serial ts at
stands zero ts at e = no-place at e
stands (suc m) ts at e = go (nat_lt n (length ts)) refl e
  where
    n : ℕ
    n = position_or_len (starts (suc m)) ts

    go : (b : Bool) → nat_lt n (length ts) ≡ b → Some at ≡ (if b then Some n else None) → Stands (suc m) ts at
    go true less is = record { before = m; late = refl; node = subst (λ z. Found (starts (suc m)) ts z) (sym (same-place at n is)) (found (starts (suc m)) ts (ltb-true n (length ts) less)) }
    go false less is = no-place at is

-- the node is nowhere
nowhere : (m : ℕ) (ts : List Seen) → None ≡ place_of (suc m) ts → times (starts (suc m)) ts ≡ 0
nowhere m ts e = go (nat_lt n (length ts)) refl e
  where
    n : ℕ
    n = position_or_len (starts (suc m)) ts

    go : (b : Bool) → nat_lt n (length ts) ≡ b → None ≡ (if b then Some n else None) → times (starts (suc m)) ts ≡ 0
    go true less is = no-place n (sym is)
    go false less is = not-found (starts (suc m)) ts (ltb-false n (length ts) less)

-- ---- rewriting

pub rewritten-at : (serial : ℕ) (f : Seen → Seen) (ts : List Seen) (at : ℕ) (x s : Seen) → Some at ≡ place_of serial ts → times (starts serial) ts ≤ 1 → x ≡ get_or ts at x → s ≡ f x
    → set ts at s ≡ rewritten serial f ts
rewritten-at serial f ts at x s place once is new =
    let st = stands serial ts at place in
    let n = st.node in
    let item : x ≡ n.item = is ∙ (ap (λ z. get_or z at x) n.was ∙ get_or_at n.front n.item n.back x at n.here) in
    let once-here : times (starts (suc st.before)) (n.front ++ n.item ∷ n.back) ≤ 1 = subst (λ z. times (starts z) (n.front ++ n.item ∷ n.back) ≤ 1) st.late (subst (λ z. times (starts serial) z ≤ 1) n.was once) in
    ap (λ z. set z at s) n.was
    ∙ (set_at n.front n.item n.back s at n.here
    ∙ (ap (λ z. n.front ++ z ∷ n.back) (new ∙ ap f item)
    ∙ (sym (rewritten-here (suc st.before) f n.front n.back n.item once-here n.passes)
    ∙ (ap (λ z. rewritten (suc st.before) f z) (sym n.was) ∙ ap (λ z. rewritten z f ts) (sym st.late)))))

pub rewritten-nowhere : (serial : ℕ) (f : Seen → Seen) (ts : List Seen) → None ≡ place_of serial ts → ts ≡ rewritten serial f ts
rewritten-nowhere zero f ts place = refl
rewritten-nowhere (suc m) f ts place = sym (rewritten-none (suc m) f ts (nowhere m ts place))

-- ---- how many tokens a node has

through-found : (p : Seen → Bool) (ts : List Seen) → position_or_len p ts < length ts → position_or_len p ts + 1 ≡ length (through p ts)
through-found p [] less = absurd (omega (arith, less))
through-found p (t ∷ ts) less = go (through-found p ts) (p t) refl
  where
    go : (position_or_len p ts < length ts → position_or_len p ts + 1 ≡ length (through p ts)) → (b : Bool) → p t ≡ b → position_or_len p (t ∷ ts) + 1 ≡ length (through p (t ∷ ts))
    go ih true e =
        let first = place-first p t ts e in
        let all : length (through p (t ∷ ts)) ≡ 1 = ap (λ z. length (if z then t ∷ [] else t ∷ through p ts)) e in
        omega (arith, first, all)
    go ih false e =
        let next = place-later p t ts e in
        let rest = ih (omega (arith, less, next)) in
        let all : length (through p (t ∷ ts)) ≡ suc (length (through p ts)) = ap (λ z. length (if z then t ∷ [] else t ∷ through p ts)) e in
        omega (arith, next, rest, all)

through-missing : (p : Seen → Bool) (ts : List Seen) → length ts ≤ position_or_len p ts → length ts ≡ length (through p ts)
through-missing p [] past = refl
through-missing p (t ∷ ts) past = go (through-missing p ts) (p t) refl
  where
    go : (length ts ≤ position_or_len p ts → length ts ≡ length (through p ts)) → (b : Bool) → p t ≡ b → length (t ∷ ts) ≡ length (through p (t ∷ ts))
    go ih true e = let first = place-first p t ts e in absurd (omega (arith, past, first))
    go ih false e =
        let next = place-later p t ts e in
        let rest = ih (omega (arith, past, next)) in
        let all : length (through p (t ∷ ts)) ≡ suc (length (through p ts)) = ap (λ z. length (if z then t ∷ [] else t ∷ through p ts)) e in
        omega (arith, rest, all)

pub through-at : (p : Seen → Bool) (ts : List Seen) (n : ℕ) → n ≡ position_or_len p ts → n < length ts → n + 1 ≡ length (through p ts)
through-at p ts n is less = ap (λ z. z + 1) is ∙ through-found p ts (omega (arith, is, less))

pub through-all : (p : Seen → Bool) (ts : List Seen) (n : ℕ) → n ≡ position_or_len p ts → length ts ≤ n → n ≡ length (through p ts)
through-all p ts n is past =
    let bound = place-bound p ts in
    let all = through-missing p ts (omega (arith, is, past)) in
    omega (arith, is, past, bound, all)

-- the tokens of a node that begins there, and so many they are
abbrev Count : List Seen → ℕ → ℕ → Type 0
Count ts at count = (front back : List Seen) (t : Seen) → ts ≡ front ++ t ∷ back → length front ≡ at → count ≡ 1 + length (rest_of t back)

-- a node's own tokens between the others
record Own (serial : ℕ) (ts : List Seen) (at count : ℕ) : Type 0 where
  before : ℕ
  late : serial ≡ suc before
  node : Found (starts (suc before)) ts at
  was : ts ≡ node.front ++ ((node.item ∷ rest_of node.item node.back) ++ after node.item node.back)
  size : length (node.item ∷ rest_of node.item node.back) ≡ count

own : (serial : ℕ) (ts : List Seen) (at count : ℕ) → Some at ≡ place_of serial ts → Count ts at count → Own serial ts at count
own serial ts at count place counted =
    let st = stands serial ts at place in
    let n = st.node in
    let size = counted n.front n.back n.item n.was n.here in
    record {
      before = st.before;
      late = st.late;
      node = n;
      was = n.was ∙ ap (λ z. n.front ++ n.item ∷ z) (sym (rest-after n.item n.back));
      size = omega (arith, size);
    }

-- what a turn to the left makes of the tokens
abbrev Turned : List Seen → List Seen → ℕ → ℕ → Type 0
Turned old new at count = (front mine back : List Seen) → old ≡ front ++ (mine ++ back) → length front ≡ at → length mine ≡ count → new ≡ front ++ (back ++ mine)

-- ---- a node goes

pub removed-at : (serial : ℕ) (ts turned : List Seen) (at count rest : ℕ) → Some at ≡ place_of serial ts
    → ((front back : List Seen) (t : Seen) → ts ≡ front ++ t ∷ back → length front ≡ at → count ≡ 1 + length (rest_of t back))
    → ((front mine back : List Seen) → ts ≡ front ++ (mine ++ back) → length front ≡ at → length mine ≡ count → turned ≡ front ++ (back ++ mine))
    → rest + count ≡ length ts → take rest turned ≡ removed serial ts
removed-at serial ts turned at count rest place counted turns left =
    let o = own serial ts at count place counted in
    let n = o.node in
    let mine = n.item ∷ rest_of n.item n.back in
    let back = after n.item n.back in
    let new = turns n.front mine back o.was n.here o.size in
    let a = ap length o.was ∙ (length-append n.front (mine ++ back) ∙ ap (λ z. length n.front + z) (length-append mine back)) in
    let b = length-append n.front back in
    let c = o.size in
    let size : length (n.front ++ back) ≡ rest = omega (arith, a, b, c, left) in
    ap (take rest) (new ∙ sym (append_assoc n.front back mine))
    ∙ (take_at (n.front ++ back) mine rest size
    ∙ (sym (without-here (suc o.before) n.front n.back n.item n.none n.passes)
    ∙ (ap (λ z. removed (suc o.before) z) (sym n.was) ∙ ap (λ z. removed z ts) (sym o.late))))

pub removed-nowhere : (serial : ℕ) (ts : List Seen) → None ≡ place_of serial ts → ts ≡ removed serial ts
removed-nowhere zero ts place = refl
removed-nowhere (suc m) ts place = sym (without-none (suc m) ts (nowhere m ts place))

-- ---- a node goes elsewhere

-- its own tokens are at the end, and the others before them
record Lifted (serial before : ℕ) (ts turned : List Seen) (at count parent : ℕ) : Type 0 where
  front : List Seen
  mine : List Seen
  back : List Seen
  is : turned ≡ (front ++ back) ++ mine
  was : ts ≡ front ++ (mine ++ back)
  here : length front ≡ at
  size : length mine ≡ count
  goes : shifted serial before ts ≡ moving (follows parent before) mine (front ++ back) ts

lifted : (serial before : ℕ) (ts turned : List Seen) (at count parent : ℕ) (d : Seen) → Some at ≡ place_of serial ts → Count ts at count → Turned ts turned at count → parent ≡ parent_in (get_or ts at d ∷ [])
    → Lifted serial before ts turned at count parent
lifted serial before ts turned at count parent d place counted turns above =
    let o = own serial ts at count place counted in
    let n = o.node in
    let mine = n.item ∷ rest_of n.item n.back in
    let back = after n.item n.back in
    let item : get_or ts at d ≡ n.item = ap (λ z. get_or z at d) n.was ∙ get_or_at n.front n.item n.back d at n.here in
    let par : parent_in (n.item ∷ []) ≡ parent = ap (λ z. parent_in (z ∷ [])) (sym item) ∙ sym above in
    record {
      front = n.front;
      mine = mine;
      back = back;
      is = turns n.front mine back o.was n.here o.size ∙ sym (append_assoc n.front back mine);
      was = o.was;
      here = n.here;
      size = o.size;
      goes =
          ap (λ z. shifted z before ts) o.late
          ∙ (ap (λ z. moved (suc o.before) before z) n.was
          ∙ (moved-is (suc o.before) before n.front n.back n.item n.none n.passes
          ∙ (ap (λ z. moving (follows z before) mine (n.front ++ back) (n.front ++ n.item ∷ n.back)) par ∙ ap (λ z. moving (follows parent before) mine (n.front ++ back) z) (sym n.was))));
    }

pub shifted-at : (serial before : ℕ) (ts turned new : List Seen) (at count parent rest place : ℕ) (d : Seen) → Some at ≡ place_of serial ts
    → ((front back : List Seen) (t : Seen) → ts ≡ front ++ t ∷ back → length front ≡ at → count ≡ 1 + length (rest_of t back))
    → ((front mine back : List Seen) → ts ≡ front ++ (mine ++ back) → length front ≡ at → length mine ≡ count → turned ≡ front ++ (back ++ mine))
    → parent ≡ parent_in (get_or ts at d ∷ []) → rest + count ≡ length ts → place ≡ position_or_len (follows parent before) (take rest turned) → place < rest
    → ((front mine back : List Seen) → turned ≡ front ++ (back ++ mine) → length front ≡ place → length mine ≡ count → new ≡ front ++ (mine ++ back))
    → new ≡ shifted serial before ts
shifted-at serial before ts turned new at count parent rest place d stood counted turns above left found-at inside returns =
    let l = lifted serial before ts turned at count parent d stood counted turns above in
    let p = follows parent before in
    let a = ap length l.was ∙ (length-append l.front (l.mine ++ l.back) ∙ ap (λ z. length l.front + z) (length-append l.mine l.back)) in
    let b = length-append l.front l.back in
    let c = l.size in
    let size : length (l.front ++ l.back) ≡ rest = omega (arith, a, b, c, left) in
    let others : take rest turned ≡ l.front ++ l.back = ap (take rest) l.is ∙ take_at (l.front ++ l.back) l.mine rest size in
    let there : place ≡ position_or_len p (l.front ++ l.back) = found-at ∙ ap (position_or_len p) others in
    let f = found p (l.front ++ l.back) (omega (arith, there, inside, size)) in
    let here : length f.front ≡ place = f.here ∙ sym there in
    returns f.front l.mine (f.item ∷ f.back) (l.is ∙ (ap (λ z. z ++ l.mine) f.was ∙ append_assoc f.front (f.item ∷ f.back) l.mine)) here l.size
    ∙ sym (l.goes ∙ (ap (λ z. moving p l.mine z ts) f.was ∙ moving-here p l.mine f.front f.back ts f.item f.none f.passes))

pub shifted-back : (serial before : ℕ) (ts turned new : List Seen) (at count parent rest place : ℕ) (d : Seen) → Some at ≡ place_of serial ts
    → ((front back : List Seen) (t : Seen) → ts ≡ front ++ t ∷ back → length front ≡ at → count ≡ 1 + length (rest_of t back))
    → ((front mine back : List Seen) → ts ≡ front ++ (mine ++ back) → length front ≡ at → length mine ≡ count → turned ≡ front ++ (back ++ mine))
    → parent ≡ parent_in (get_or ts at d ∷ []) → rest + count ≡ length ts → place ≡ position_or_len (follows parent before) (take rest turned) → rest ≤ place
    → ((front mine back : List Seen) → turned ≡ front ++ (back ++ mine) → length front ≡ at → length mine ≡ count → new ≡ front ++ (mine ++ back))
    → new ≡ shifted serial before ts
shifted-back serial before ts turned new at count parent rest place d stood counted turns above left found-at past returns =
    let l = lifted serial before ts turned at count parent d stood counted turns above in
    let p = follows parent before in
    let a = ap length l.was ∙ (length-append l.front (l.mine ++ l.back) ∙ ap (λ z. length l.front + z) (length-append l.mine l.back)) in
    let b = length-append l.front l.back in
    let c = l.size in
    let size : length (l.front ++ l.back) ≡ rest = omega (arith, a, b, c, left) in
    let others : take rest turned ≡ l.front ++ l.back = ap (take rest) l.is ∙ take_at (l.front ++ l.back) l.mine rest size in
    let there : place ≡ position_or_len p (l.front ++ l.back) = found-at ∙ ap (position_or_len p) others in
    let none = not-found p (l.front ++ l.back) (omega (arith, there, past, size)) in
    returns l.front l.mine l.back (l.is ∙ append_assoc l.front l.back l.mine) l.here l.size
    ∙ (sym l.was ∙ sym (l.goes ∙ moving-none p l.mine (l.front ++ l.back) ts none))

pub shifted-nowhere : (serial before : ℕ) (ts : List Seen) → None ≡ place_of serial ts → ts ≡ shifted serial before ts
shifted-nowhere zero before ts place = refl
shifted-nowhere (suc m) before ts place = sym (moved-none (suc m) before ts (nowhere m ts place))

-- ---- a node comes

abbrev pub viewed : List Seen → ℕ → View
viewed ts next = record { tokens = ts; next = next }

abbrev grown : (serial parent before : ℕ) → What → View → View
grown serial parent before w v = viewed (put_before (follows parent before) (made serial parent w) v.tokens) (suc serial)

abbrev making : Bool → Bool → (serial parent before : ℕ) → What → View → View
making a b serial parent before w v = if a && b then grown serial parent before w v else v

pub made-old : (ts : List Seen) (last serial parent before : ℕ) (w : What) → serial ≤ last → viewed ts (last + 1) ≡ replay (Make serial parent before w) (viewed ts (last + 1))
made-old ts last serial parent before w old =
    sym (ap (λ z. making z (list_any (follows parent before) ts) serial parent before w (viewed ts (last + 1))) (lt-leb (last + 1) serial (omega (arith, old))))

pub made-nowhere : (ts : List Seen) (last serial parent before n : ℕ) (w : What) → n ≡ position_or_len (follows parent before) ts → length ts ≤ n
    → viewed ts (last + 1) ≡ replay (Make serial parent before w) (viewed ts (last + 1))
made-nowhere ts last serial parent before n w is past =
    sym (ap (λ z. making (nat_le (last + 1) serial) z serial parent before w v) (any-none (follows parent before) ts (not-found (follows parent before) ts (omega (arith, is, past)))) ∙ go (nat_le (last + 1) serial))
  where
    v : View
    v = viewed ts (last + 1)

    go : (b : Bool) → making b false serial parent before w v ≡ v
    go true = refl
    go false = refl

pub made-there : (ts new : List Seen) (last serial parent before n : ℕ) (w : What) → last < serial → n ≡ position_or_len (follows parent before) ts → n < length ts
    → new ≡ take n ts ++ (made serial parent w ++ drop n ts) → viewed new (serial + 1) ≡ replay (Make serial parent before w) (viewed ts (last + 1))
made-there ts new last serial parent before n w late is inside put =
    let p = follows parent before in
    let f = found p ts (omega (arith, is, inside)) in
    let here : length f.front ≡ n = f.here ∙ sym is in
    let own = made serial parent w in
    let earlier : take n ts ≡ f.front = ap (take n) f.was ∙ take_at f.front (f.item ∷ f.back) n here in
    let later : drop n ts ≡ f.item ∷ f.back = ap (drop n) f.was ∙ drop_at f.front (f.item ∷ f.back) n here in
    let all : new ≡ put_before p own ts =
    put ∙ ((λ i. earlier i ++ (own ++ later i)) ∙ (sym (put-here p own f.front f.back f.item f.none f.passes) ∙ ap (put_before p own) (sym f.was))) in
    (λ i. viewed (all i) (add-one serial i))
    ∙ sym (ap (λ z. making z (list_any p ts) serial parent before w v) (le-leb (last + 1) serial (omega (arith, late)))
    ∙ ap (λ z. making true z serial parent before w v) (ap (list_any p) f.was ∙ any-here p f.front f.back f.item f.passes))
  where
    v : View
    v = viewed ts (last + 1)

-- what follows on Ok
pub on_ok : {T E P Q : Type 0} (r : Result T E) → OnOk r P → (P → Q) → OnOk r Q
on_ok (Ok x) p f = f p
on_ok (Err e) p f = tt
