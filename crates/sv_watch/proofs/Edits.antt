-- What a change makes of a page's tokens, where the node's first token is found, and where there is none.
use Rattle.std.proofs.Common.{◌≡◌, ◌≤◌, ℕ, List, [], ◌∷◌, ◌++◌, map, Bool, true, false, refl, ap, ◌∙◌, arith}
use Rattle.std.specs.Prelude.{if◌then◌else◌}
use Rattle.std.specs.List.{list_any}
use Rattle.std.proofs.lemmas.List.{map-append}
use Rattle.sv_tokens.specs.Counting.{one, times}
use Rattle.sv_tokens.specs.Seen.{Seen, Start, Words, End, starts, ends, follows}
use Rattle.sv_tokens.specs.Replay.{put_before, through, behind, rest_of, after, span_of, without, parent_in, moved, at_node}
use Rattle.sv_tokens.proofs.Counting.{times-append, none-first}
use Rattle.sv_watch.proofs.Places.{any-none, any-here}

rest-none : (p : Seen → Bool) (t : Seen) (ts : List Seen) → times p (t ∷ ts) ≡ 0 → times p ts ≡ 0
rest-none p t ts none = omega (arith, none)

-- ---- rewriting

kept : (n : ℕ) (f : Seen → Seen) (ts : List Seen) → times (starts n) ts ≡ 0 → map (at_node n f) ts ≡ ts
kept n f [] none = refl
kept n f (t ∷ ts) none =
    ap (λ z. (if z then f t else t) ∷ map (at_node n f) ts) (none-first (starts n) t ts none) ∙ ap (λ z. t ∷ z) (kept n f ts (rest-none (starts n) t ts none))

pub rewritten-here : (n : ℕ) (f : Seen → Seen) (a b : List Seen) (t : Seen) → times (starts n) (a ++ t ∷ b) ≤ 1 → starts n t ≡ true → map (at_node n f) (a ++ t ∷ b) ≡ a ++ f t ∷ b
rewritten-here n f a b t once e =
    let w : one (starts n t) ≡ 1 = ap one e in
    let all = times-append (starts n) a (t ∷ b) in
    map-append (at_node n f) a (t ∷ b)
    ∙ (ap (λ z. z ++ at_node n f t ∷ map (at_node n f) b) (kept n f a (omega (arith, all, w, once)))
    ∙ (ap (λ z. a ++ (if z then f t else t) ∷ map (at_node n f) b) e ∙ ap (λ z. a ++ f t ∷ z) (kept n f b (omega (arith, all, w, once)))))

pub rewritten-none : (n : ℕ) (f : Seen → Seen) (ts : List Seen) → times (starts n) ts ≡ 0 → map (at_node n f) ts ≡ ts
rewritten-none n f ts none = kept n f ts none

-- ---- a place

pub put-here : (p : Seen → Bool) (own a b : List Seen) (t : Seen) → times p a ≡ 0 → p t ≡ true → put_before p own (a ++ t ∷ b) ≡ a ++ (own ++ t ∷ b)
put-here p own [] b t none e = ap (λ z. if z then own ++ t ∷ b else t ∷ put_before p own b) e
put-here p own (s ∷ a) b t none e =
    ap (λ z. if z then own ++ s ∷ (a ++ t ∷ b) else s ∷ put_before p own (a ++ t ∷ b)) (none-first p s a none) ∙ ap (λ z. s ∷ z) (put-here p own a b t (rest-none p s a none) e)

put-none : (p : Seen → Bool) (own ts : List Seen) → times p ts ≡ 0 → put_before p own ts ≡ ts
put-none p own [] none = refl
put-none p own (t ∷ ts) none =
    ap (λ z. if z then own ++ t ∷ ts else t ∷ put_before p own ts) (none-first p t ts none) ∙ ap (λ z. t ∷ z) (put-none p own ts (rest-none p t ts none))

-- ---- a node

through-behind : (p : Seen → Bool) (ts : List Seen) → through p ts ++ behind p ts ≡ ts
through-behind p [] = refl
through-behind p (t ∷ ts) = go (through-behind p ts) (p t)
  where
    go : through p ts ++ behind p ts ≡ ts → (b : Bool) → (if b then t ∷ [] else t ∷ through p ts) ++ (if b then ts else behind p ts) ≡ t ∷ ts
    go rest true = refl
    go rest false = ap (λ z. t ∷ z) rest

-- the tokens of a node and what follows them
pub rest-after : (t : Seen) (ts : List Seen) → rest_of t ts ++ after t ts ≡ ts
rest-after (Start n parent element) ts = through-behind (ends n) ts
rest-after (Words n parent bytes) ts = refl
rest-after (End n name) ts = refl

pub without-here : (n : ℕ) (a b : List Seen) (t : Seen) → times (starts n) a ≡ 0 → starts n t ≡ true → without n (a ++ t ∷ b) ≡ a ++ after t b
without-here n [] b t none e = ap (λ z. if z then after t b else t ∷ without n b) e
without-here n (s ∷ a) b t none e =
    ap (λ z. if z then after s (a ++ t ∷ b) else s ∷ without n (a ++ t ∷ b)) (none-first (starts n) s a none) ∙ ap (λ z. s ∷ z) (without-here n a b t (rest-none (starts n) s a none) e)

pub without-none : (n : ℕ) (ts : List Seen) → times (starts n) ts ≡ 0 → without n ts ≡ ts
without-none n [] none = refl
without-none n (t ∷ ts) none =
    ap (λ z. if z then after t ts else t ∷ without n ts) (none-first (starts n) t ts none) ∙ ap (λ z. t ∷ z) (without-none n ts (rest-none (starts n) t ts none))

span-here : (n : ℕ) (a b : List Seen) (t : Seen) → times (starts n) a ≡ 0 → starts n t ≡ true → span_of n (a ++ t ∷ b) ≡ t ∷ rest_of t b
span-here n [] b t none e = ap (λ z. if z then t ∷ rest_of t b else span_of n b) e
span-here n (s ∷ a) b t none e =
    ap (λ z. if z then s ∷ rest_of s (a ++ t ∷ b) else span_of n (a ++ t ∷ b)) (none-first (starts n) s a none) ∙ span-here n a b t (rest-none (starts n) s a none) e

span-none : (n : ℕ) (ts : List Seen) → times (starts n) ts ≡ 0 → span_of n ts ≡ []
span-none n [] none = refl
span-none n (t ∷ ts) none =
    ap (λ z. if z then t ∷ rest_of t ts else span_of n ts) (none-first (starts n) t ts none) ∙ span-none n ts (rest-none (starts n) t ts none)

-- ---- a move

-- the node's tokens at the place among the others, or where they were if there is none
abbrev pub moving : (place : Seen → Bool) (own others was : List Seen) → List Seen
moving place own others was = if list_any place others then put_before place own others else was

pub moved-is : (n before : ℕ) (a b : List Seen) (t : Seen) → times (starts n) a ≡ 0 → starts n t ≡ true
    → moved n before (a ++ t ∷ b) ≡ moving (follows (parent_in (t ∷ [])) before) (t ∷ rest_of t b) (a ++ after t b) (a ++ t ∷ b)
moved-is n before a b t none e =
    ap (λ z. moving (follows (parent_in z) before) z (without n (a ++ t ∷ b)) (a ++ t ∷ b)) (span-here n a b t none e)
    ∙ (ap (λ z. moving (follows (parent_in (t ∷ rest_of t b)) before) (t ∷ rest_of t b) z (a ++ t ∷ b)) (without-here n a b t none e)
    ∙ ap (λ z. moving (follows z before) (t ∷ rest_of t b) (a ++ after t b) (a ++ t ∷ b)) (parent-first t (rest_of t b)))
  where
    parent-first : (t : Seen) (ts : List Seen) → parent_in (t ∷ ts) ≡ parent_in (t ∷ [])
    parent-first (Start n parent element) ts = refl
    parent-first (Words n parent bytes) ts = refl
    parent-first (End n name) ts = refl

pub moving-here : (p : Seen → Bool) (own a b was : List Seen) (t : Seen) → times p a ≡ 0 → p t ≡ true → moving p own (a ++ t ∷ b) was ≡ a ++ (own ++ t ∷ b)
moving-here p own a b was t none e = ap (λ z. if z then put_before p own (a ++ t ∷ b) else was) (any-here p a b t e) ∙ put-here p own a b t none e

pub moving-none : (p : Seen → Bool) (own others was : List Seen) → times p others ≡ 0 → moving p own others was ≡ was
moving-none p own others was none = ap (λ z. if z then put_before p own others else was) (any-none p others none)

put-nothing : (p : Seen → Bool) (ts : List Seen) → put_before p [] ts ≡ ts
put-nothing p [] = refl
put-nothing p (t ∷ ts) = go (put-nothing p ts) (p t)
  where
    go : put_before p [] ts ≡ ts → (b : Bool) → (if b then t ∷ ts else t ∷ put_before p [] ts) ≡ t ∷ ts
    go rest true = refl
    go rest false = ap (λ z. t ∷ z) rest

moving-nothing : (p : Seen → Bool) (ts : List Seen) → moving p [] ts ts ≡ ts
moving-nothing p ts = go (list_any p ts)
  where
    go : (b : Bool) → (if b then put_before p [] ts else ts) ≡ ts
    go true = put-nothing p ts
    go false = refl

pub moved-none : (n before : ℕ) (ts : List Seen) → times (starts n) ts ≡ 0 → moved n before ts ≡ ts
moved-none n before ts none =
    ap (λ z. moving (follows (parent_in z) before) z (without n ts) ts) (span-none n ts none)
    ∙ (ap (λ z. moving (follows 0 before) [] z ts) (without-none n ts none) ∙ moving-nothing (follows 0 before) ts)
