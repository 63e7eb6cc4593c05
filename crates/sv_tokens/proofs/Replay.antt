-- What a change makes of what is seen, kind by kind.
use Rattle.std.proofs.Common.{◌≡◌, ◌≢◌, ◌≤◌, ◌<◌, ℕ, zero, suc, List, [], ◌∷◌, ◌++◌, Bool, true, false, refl, ap, sym, ◌∙◌, arith, subst, append_assoc, map}
use Rattle.std.specs.Prelude.{if◌then◌else◌, ◌&&◌, ◌||◌, nat_le}
use Rattle.std.specs.List.{list_any}
use Rattle.std.proofs.lemmas.Bool.{eq-eqb, le-leb}
use Rattle.sv_tokens.specs.Counting.{one, times, leads}
use Rattle.sv_tokens.specs.Token.{Element, Token, Page}
use Rattle.sv_tokens.specs.Seen.{Seen, Start, Words, End, View, seen, view_of, starts, ends, follows}
use Rattle.sv_tokens.specs.Replay.{made, replay, replay_all, put_before, through, behind, rest_of, after, span_of, without, parent_in, moved, at_node, rewrite}
use Rattle.sv_tokens.specs.declared.change.What.{What}
use Rattle.sv_tokens.specs.declared.change.Change.{Change}
use Rattle.sv_tokens.specs.declared.change.Change.TheVariants.{Make, Move, Remove}
use Rattle.sv_tokens.proofs.Counting.{times-append, none-first, none-before}
use Rattle.sv_tokens.proofs.Splits.{one_place, tail}
use Rattle.sv_tokens.proofs.Seen.{seen-append, seen-three, viewed, same_view, follows-same}

rest-none : (p : Seen → Bool) (t : Seen) (ts : List Seen) → times p (t ∷ ts) ≡ 0 → times p ts ≡ 0
rest-none p t ts none = omega (arith, none)

any-leads : (p : Seen → Bool) (a b : List Seen) → leads p b ≡ true → list_any p (a ++ b) ≡ true
any-leads p [] [] e = e
any-leads p [] (t ∷ ts) e = ap (λ z. z || list_any p ts) e
any-leads p (t ∷ a) b e = go (p t) (any-leads p a b e)
  where
    go : (v : Bool) → list_any p (a ++ b) ≡ true → (v || list_any p (a ++ b)) ≡ true
    go true rest = refl
    go false rest = rest

put_before-skip : (p : Seen → Bool) (own a b : List Seen) → times p a ≡ 0 → leads p b ≡ true → put_before p own (a ++ b) ≡ a ++ (own ++ b)
put_before-skip p own [] [] none e = absurd (no e)
  where
    no : false ≡ true → ⊥
    no e = cc
put_before-skip p own [] (t ∷ ts) none e = ap (λ z. if z then own ++ (t ∷ ts) else t ∷ put_before p own ts) e
put_before-skip p own (t ∷ a) b none e =
    ap (λ z. if z then own ++ (t ∷ (a ++ b)) else t ∷ put_before p own (a ++ b)) (none-first p t a none)
    ∙ ap (λ z. t ∷ z) (put_before-skip p own a b (rest-none p t a none) e)

behind-skip : (p : Seen → Bool) (a b : List Seen) (t : Seen) → times p a ≡ 0 → p t ≡ true → behind p (a ++ (t ∷ b)) ≡ b
behind-skip p [] b t none e = ap (λ z. if z then b else behind p b) e
behind-skip p (s ∷ a) b t none e =
    ap (λ z. if z then a ++ (t ∷ b) else behind p (a ++ (t ∷ b))) (none-first p s a none) ∙ behind-skip p a b t (rest-none p s a none) e

through-skip : (p : Seen → Bool) (a b : List Seen) (t : Seen) → times p a ≡ 0 → p t ≡ true → through p (a ++ (t ∷ b)) ≡ a ++ (t ∷ [])
through-skip p [] b t none e = ap (λ z. if z then t ∷ [] else t ∷ through p b) e
through-skip p (s ∷ a) b t none e =
    ap (λ z. if z then s ∷ [] else s ∷ through p (a ++ (t ∷ b))) (none-first p s a none) ∙ ap (λ z. s ∷ z) (through-skip p a b t (rest-none p s a none) e)

without-skip : (n : ℕ) (a b : List Seen) (t : Seen) → times (starts n) a ≡ 0 → starts n t ≡ true → without n (a ++ (t ∷ b)) ≡ a ++ after t b
without-skip n [] b t none e = ap (λ z. if z then after t b else t ∷ without n b) e
without-skip n (s ∷ a) b t none e =
    ap (λ z. if z then after s (a ++ (t ∷ b)) else s ∷ without n (a ++ (t ∷ b))) (none-first (starts n) s a none)
    ∙ ap (λ z. s ∷ z) (without-skip n a b t (rest-none (starts n) s a none) e)

span_of-skip : (n : ℕ) (a b : List Seen) (t : Seen) → times (starts n) a ≡ 0 → starts n t ≡ true → span_of n (a ++ (t ∷ b)) ≡ t ∷ rest_of t b
span_of-skip n [] b t none e = ap (λ z. if z then t ∷ rest_of t b else span_of n b) e
span_of-skip n (s ∷ a) b t none e =
    ap (λ z. if z then s ∷ rest_of s (a ++ (t ∷ b)) else span_of n (a ++ (t ∷ b))) (none-first (starts n) s a none) ∙ span_of-skip n a b t (rest-none (starts n) s a none) e

-- ---- Make

-- a node was made at the only place that fits
make-replays : (v : View) (a b : List Seen) (parent before : ℕ) (w : What) → v.tokens ≡ a ++ b → times (follows parent before) v.tokens ≤ 1 → leads (follows parent before) b ≡ true
    → replay (Make v.next parent before w) v ≡ record { tokens = a ++ (made v.next parent w ++ b); next = suc v.next }
make-replays v a b parent before w is once here =
    let p = follows parent before in
    let own = made v.next parent w in
    let same : nat_le v.next v.next ≡ true = le-leb v.next v.next (omega arith) in
    let fits : (nat_le v.next v.next && list_any p v.tokens) ≡ true = ap (λ z. z && list_any p v.tokens) same ∙ (ap (list_any p) is ∙ any-leads p a b here) in
    let put : put_before p own v.tokens ≡ a ++ (own ++ b) = ap (put_before p own) is ∙ put_before-skip p own a b (none-before p a b (subst (λ z. times p z ≤ 1) is once) here) here in
    ap (λ (z : Bool). if z then viewed (put_before p own v.tokens) (suc v.next) else v) fits
    ∙ ap (λ z. viewed z (suc v.next)) put

-- the same, of the page with its anchors
pub replay-make : (old new : Page) (pre own post : List Token) (parent before : ℕ) (w : What) → old.tokens ≡ pre ++ post → new.tokens ≡ pre ++ (own ++ post) → new.next ≡ suc old.next
    → seen own ≡ made old.next parent w → times (follows parent before) (seen old.tokens) ≤ 1 → leads (follows parent before) (seen post) ≡ true
    → view_of new ≡ replay (Make old.next parent before w) (view_of old)
replay-make old new pre own post parent before w was is next shows once here =
    sym (make-replays (view_of old) (seen pre) (seen post) parent before w (ap seen was ∙ seen-append pre post) once here
    ∙ same_view _ (seen new.tokens) _ new.next (ap (λ z. seen pre ++ (z ++ seen post)) (sym shows) ∙ (sym (seen-three pre own post) ∙ ap seen (sym is))) (sym next))

-- ---- Remove and Move

-- what is seen of a node and all below it
pub data IsNode : ℕ → List Seen → Type 0 where
  words_node : (n parent : ℕ) (bytes : List ℕ) → IsNode n (Words n parent bytes ∷ [])
  element_node : (n parent : ℕ) (element : Element) (inner : List Seen) (end : List ℕ) → IsNode n (Start n parent element ∷ (inner ++ (End n end ∷ [])))

without-node : (n : ℕ) (a own b : List Seen) → IsNode n own → times (starts n) (a ++ (own ++ b)) ≤ 1 → times (ends n) (a ++ (own ++ b)) ≤ 1 → without n (a ++ (own ++ b)) ≡ a ++ b
without-node n a own b (words_node m parent bytes) once closed =
    without-skip n a b (Words n parent bytes) (none-before (starts n) a _ once (eq-eqb n n refl)) (eq-eqb n n refl)
without-node n a own b (element_node m parent element inner end) once closed =
    let grouped = append_assoc inner (End n end ∷ []) b in
    let inside = times-append (ends n) inner (End n end ∷ b) in
    let all = times-append (ends n) a (Start n parent element ∷ ((inner ++ (End n end ∷ [])) ++ b)) in
    let same = ap (times (ends n)) grouped in
    let own_end : one (ends n (End n end)) ≡ 1 = ap one (eq-eqb n n refl) in
    let none : times (ends n) inner ≡ 0 = omega (arith, inside, all, same, own_end, closed) in
    without-skip n a _ (Start n parent element) (none-before (starts n) a _ once (eq-eqb n n refl)) (eq-eqb n n refl)
    ∙ ap (λ z. a ++ z) (ap (behind (ends n)) grouped ∙ behind-skip (ends n) inner b (End n end) none (eq-eqb n n refl))

span_of-node : (n : ℕ) (a own b : List Seen) → IsNode n own → times (starts n) (a ++ (own ++ b)) ≤ 1 → times (ends n) (a ++ (own ++ b)) ≤ 1 → span_of n (a ++ (own ++ b)) ≡ own
span_of-node n a own b (words_node m parent bytes) once closed =
    span_of-skip n a b (Words n parent bytes) (none-before (starts n) a _ once (eq-eqb n n refl)) (eq-eqb n n refl)
span_of-node n a own b (element_node m parent element inner end) once closed =
    let grouped = append_assoc inner (End n end ∷ []) b in
    let inside = times-append (ends n) inner (End n end ∷ b) in
    let all = times-append (ends n) a (Start n parent element ∷ ((inner ++ (End n end ∷ [])) ++ b)) in
    let same = ap (times (ends n)) grouped in
    let own_end : one (ends n (End n end)) ≡ 1 = ap one (eq-eqb n n refl) in
    let none : times (ends n) inner ≡ 0 = omega (arith, inside, all, same, own_end, closed) in
    span_of-skip n a _ (Start n parent element) (none-before (starts n) a _ once (eq-eqb n n refl)) (eq-eqb n n refl)
    ∙ ap (λ z. Start n parent element ∷ z) (ap (through (ends n)) grouped ∙ through-skip (ends n) inner b (End n end) none (eq-eqb n n refl))

-- a node was moved to the only place that fits
moved-node : (n before : ℕ) (a own b c d : List Seen) → IsNode n own → times (starts n) (a ++ (own ++ b)) ≤ 1 → times (ends n) (a ++ (own ++ b)) ≤ 1 → a ++ b ≡ c ++ d
    → times (follows (parent_in own) before) (a ++ b) ≤ 1 → leads (follows (parent_in own) before) d ≡ true → moved n before (a ++ (own ++ b)) ≡ c ++ (own ++ d)
moved-node n before a own b c d node once closed split fits here =
    let p = follows (parent_in own) before in
    let left = without-node n a own b node once closed ∙ split in
    ap (λ z. step z (without n (a ++ (own ++ b))) (a ++ (own ++ b))) (span_of-node n a own b node once closed)
    ∙ (ap (λ z. step own z (a ++ (own ++ b))) left
    ∙ (ap (λ z. if z then put_before p own (c ++ d) else (a ++ (own ++ b))) (any-leads p c d here)
    ∙ put_before-skip p own c d (none-before p c d (subst (λ z. times p z ≤ 1) split fits) here) here))
  where
    step : List Seen → List Seen → List Seen → List Seen
    step own left ts = if list_any (follows (parent_in own) before) left then put_before (follows (parent_in own) before) own left else ts

pub replay-remove : (old new : Page) (pre own post : List Token) (n : ℕ) → times (starts n) (seen old.tokens) ≤ 1 → times (ends n) (seen old.tokens) ≤ 1 → 0 < n → IsNode n (seen own)
    → old.tokens ≡ pre ++ (own ++ post) → new.tokens ≡ pre ++ post → new.next ≡ old.next → view_of new ≡ replay (Remove n) (view_of old)
replay-remove old new pre own post zero once closed late node was is next = absurd (omega (arith, late))
replay-remove old new pre own post (suc n) once closed late node was is next =
    let split = ap seen was ∙ seen-three pre own post in
    same_view (seen new.tokens) (without (suc n) (seen old.tokens)) new.next old.next
    (ap seen is ∙ (seen-append pre post ∙ (sym (without-node (suc n) (seen pre) (seen own) (seen post) node (subst (λ z. times (starts (suc n)) z ≤ 1) split once) (subst (λ z. times (ends (suc n)) z ≤ 1) split closed)) ∙ ap (without (suc n)) (sym split))))
    next

-- the tokens of the node went from between `pre` and `post` to between `front` and `back`
pub replay-move : (old new : Page) (pre own post front back : List Token) (n before : ℕ) → times (starts n) (seen old.tokens) ≤ 1 → times (ends n) (seen old.tokens) ≤ 1 → 0 < n → IsNode n (seen own)
    → old.tokens ≡ pre ++ (own ++ post) → pre ++ post ≡ front ++ back → new.tokens ≡ front ++ (own ++ back) → new.next ≡ old.next
    → times (follows (parent_in (seen own)) before) (seen pre ++ seen post) ≤ 1 → leads (follows (parent_in (seen own)) before) (seen back) ≡ true
    → view_of new ≡ replay (Move n before) (view_of old)
replay-move old new pre own post front back zero before once closed late node was split is next fits here = absurd (omega (arith, late))
replay-move old new pre own post front back (suc n) before once closed late node was split is next fits here =
    let parts = ap seen was ∙ seen-three pre own post in
    let same = sym (seen-append pre post) ∙ (ap seen split ∙ seen-append front back) in
    same_view (seen new.tokens) (moved (suc n) before (seen old.tokens)) new.next old.next
    (ap seen is ∙ (seen-three front own back ∙ (sym (moved-node (suc n) before (seen pre) (seen own) (seen post) (seen front) (seen back) node
    (subst (λ z. times (starts (suc n)) z ≤ 1) parts once) (subst (λ z. times (ends (suc n)) z ≤ 1) parts closed) same fits here)
    ∙ ap (moved (suc n) before) (sym parts))))
    next

cancel : (own b d : List Seen) → own ++ b ≡ own ++ d → b ≡ d
cancel [] b d e = e
cancel (t ∷ own) b d e = cancel own b d (tail e)

begins-own : (n : ℕ) (own b : List Seen) → IsNode n own → leads (starts n) (own ++ b) ≡ true
begins-own n own b (words_node m parent bytes) = eq-eqb n n refl
begins-own n own b (element_node m parent element inner end) = eq-eqb n n refl

-- a move to before another sibling changes what is seen
pub moved-changes : (parent n was now : ℕ) (a own b c d : List Seen) → IsNode n own → times (starts n) (a ++ (own ++ b)) ≤ 1 → leads (follows parent was) b ≡ true → leads (follows parent now) d ≡ true → was ≢ now
    → a ++ (own ++ b) ≢ c ++ (own ++ d)
moved-changes parent n was now a own b c d node once here there other e =
    let s = one_place (starts n) a (own ++ b) c (own ++ d) once (begins-own n own b node) (begins-own n own d node) e in
    let same = cancel own b d s.back in
    other (follows-same parent was now b here (subst (λ z. leads (follows parent now) z ≡ true) (sym same) there))

-- a move to before the same sibling changes nothing that is seen
pub moved-stays : (parent before : ℕ) (a own b c d : List Seen) → a ++ b ≡ c ++ d → times (follows parent before) (a ++ b) ≤ 1 → leads (follows parent before) b ≡ true → leads (follows parent before) d ≡ true
    → c ++ (own ++ d) ≡ a ++ (own ++ b)
moved-stays parent before a own b c d e once here there =
    let s = one_place (follows parent before) a b c d once here there e in
    ap (λ z. c ++ (own ++ z)) (sym s.back) ∙ ap (λ z. z ++ (own ++ b)) (sym s.front)

-- ---- the Sets

-- where the node does not begin, nothing is rewritten
others-kept : (n : ℕ) (f : Seen → Seen) (ts : List Seen) → times (starts n) ts ≡ 0 → map (at_node n f) ts ≡ ts
others-kept n f [] none = refl
others-kept n f (t ∷ ts) none =
    let rest = others-kept n f ts (omega (arith, none)) in
    let here : at_node n f t ≡ t = ap (λ z. if z then f t else t) (none-first (starts n) t ts none) in
    ap (λ z. z ∷ map (at_node n f) ts) here ∙ ap (λ z. t ∷ z) rest

map-append : (f : Seen → Seen) (xs ys : List Seen) → map f (xs ++ ys) ≡ map f xs ++ map f ys
map-append f [] ys = refl
map-append f (x ∷ xs) ys = ap (λ z. f x ∷ z) (map-append f xs ys)

rewritten-node : (n : ℕ) (f : Seen → Seen) (a b : List Seen) (t : Seen) → times (starts n) (a ++ (t ∷ b)) ≤ 1 → starts n t ≡ true → map (at_node n f) (a ++ (t ∷ b)) ≡ a ++ (f t ∷ b)
rewritten-node n f a b t once e =
    let w : one (starts n t) ≡ 1 = ap one e in
    let all = times-append (starts n) a (t ∷ b) in
    let front = others-kept n f a (omega (arith, all, w, once)) in
    let back = others-kept n f b (omega (arith, all, w, once)) in
    let here : at_node n f t ≡ f t = ap (λ z. if z then f t else t) e in
    map-append (at_node n f) a (t ∷ b)
    ∙ (ap (λ z. z ++ (at_node n f t ∷ map (at_node n f) b)) front
    ∙ (ap (λ z. a ++ (z ∷ map (at_node n f) b)) here ∙ ap (λ z. a ++ (f t ∷ z)) back))

-- the first token of a node was rewritten, and its view too
pub rewrite-node : (old new : Page) (pre post : List Token) (was is : Token) (s t : Seen) (n : ℕ) (f : Seen → Seen) → times (starts n) (seen old.tokens) ≤ 1 → 0 < n → starts n s ≡ true
    → ((ts : List Token) → seen (was ∷ ts) ≡ s ∷ seen ts) → ((ts : List Token) → seen (is ∷ ts) ≡ t ∷ seen ts) → f s ≡ t
    → old.tokens ≡ pre ++ (was ∷ post) → new.tokens ≡ pre ++ (is ∷ post) → new.next ≡ old.next → view_of new ≡ rewrite n f (view_of old)
rewrite-node old new pre post was is s t zero f once late starts_here seen_was seen_is same old_is new_is next = absurd (omega (arith, late))
rewrite-node old new pre post was is s t (suc n) f once late starts_here seen_was seen_is same old_is new_is next =
    let before = ap seen old_is ∙ (seen-append pre (was ∷ post) ∙ ap (λ z. seen pre ++ z) (seen_was post)) in
    let now = ap seen new_is ∙ (seen-append pre (is ∷ post) ∙ ap (λ z. seen pre ++ z) (seen_is post)) in
    same_view (seen new.tokens) (map (at_node (suc n) f) (seen old.tokens)) new.next old.next
    (now ∙ (ap (λ z. seen pre ++ (z ∷ seen post)) (sym same)
    ∙ (sym (rewritten-node (suc n) f (seen pre) (seen post) s (subst (λ z. times (starts (suc n)) z ≤ 1) before once) starts_here) ∙ ap (map (at_node (suc n) f)) (sym before))))
    next

-- ---- lists of changes

pub replay_all-append : (xs ys : List Change) (v : View) → replay_all (xs ++ ys) v ≡ replay_all ys (replay_all xs v)
replay_all-append [] ys v = refl
replay_all-append (x ∷ xs) ys v = replay_all-append xs ys (replay x v)
