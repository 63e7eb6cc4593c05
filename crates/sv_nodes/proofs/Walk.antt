-- The tokens of a page round one node.
use Rattle.std.proofs.Common.{◌≡◌, ◌≢◌, ◌<◌, ◌≤◌, ◌+◌, ◌-◌, ◌==◌, ℕ, zero, suc, List, [], ◌∷◌, ◌++◌, true, false, Option, Some, None, refl, ap, sym, ◌∙◌, arith, ◌⊎◌, inl, inr, subst, append_assoc, append-nil}
use Rattle.std.proofs.lemmas.Bool.{cases_eq, cases_lt, eq-eqb, ne_eqb}
use Rattle.sv_tokens.specs.Counting.{times, one, Has}
use Rattle.sv_tokens.specs.Token.{Name, Token, begins, closes}
use Rattle.sv_tokens.proofs.Counting.{times-append, has-left, has-right, has-here}
use Rattle.sv_nodes.specs.Nodes.{Kind, element, text, anchor, Cell, Nodes, name_of, opening, ending, start, finish, node_tokens, walk_each, walk, levels}
use Rattle.sv_nodes.specs.Sound.{AreParts, IsSound}

begins-opening : (j : ℕ) (n p : Name) (number : Option ℕ) (w : Kind) → begins j (opening n p number w) ≡ (n.key == j)
begins-opening j n p number (element e) = refl
begins-opening j n p number (text bytes) = refl
begins-opening j n p number anchor = refl

pub begins-start : (j k : ℕ) (c : Cell) → begins j (start k c) ≡ (k == j)
begins-start j k c = begins-opening j (name_of k c) c.parent c.number c.kind

pub begins-own : (k : ℕ) (c : Cell) → begins k (start k c) ≡ true
begins-own k c = begins-start k k c ∙ eq-eqb k k refl

begins-ending : (j : ℕ) (n : Name) (w : Kind) → times (begins j) (ending n w) ≡ 0
begins-ending j n (element e) = refl
begins-ending j n (text bytes) = refl
begins-ending j n anchor = refl

pub begins-finish : (j k : ℕ) (c : Cell) → times (begins j) (finish k c) ≡ 0
begins-finish j k c = begins-ending j (name_of k c) c.kind

-- each node is there, and no tree of it has more levels
abbrev pub Within : Nodes → ℕ → List ℕ → Type 0
Within at n [] = Unit {0}
Within at n (k ∷ ks) = (c : Cell) × (at k ≡ Some c) × (levels ≤ c.serial + n) × Within at n ks

pub within-parts : (at : Nodes) (n : ℕ) (parent : Name) (ks : List ℕ) → levels ≤ parent.serial + suc n → AreParts at parent ks → Within at n ks
within-parts at n parent [] deep parts = tt
within-parts at n parent (k ∷ ks) deep parts =
    (parts.0.cell, parts.0.at, omega (arith, parts.0.later, deep), within-parts at n parent ks deep parts.1)

pub within-children : (at : Nodes) (next n k : ℕ) (c : Cell) → IsSound at next → at k ≡ Some c → levels ≤ c.serial + suc n → Within at n c.children
within-children at next n k c sound here deep = within-parts at n (name_of k c) c.children deep (sound.parts k c here)

-- no level is left for no node
too_deep : (at : Nodes) (next k : ℕ) (c : Cell) → IsSound at next → at k ≡ Some c → levels ≤ c.serial + 0 → ⊥
too_deep at next k c sound here deep = omega (arith, sound.below k c here, sound.bounded, deep)

abbrev Alike : Nodes → Nodes → List Token → Type 0
Alike at at' tokens = (k : ℕ) → Has (begins k) tokens → at' k ≡ at k

over-agree : (at at' : Nodes) (next n : ℕ) → IsSound at next
    → ((ks : List ℕ) → Within at n ks → Alike at at' (walk n at ks) → walk n at' ks ≡ walk n at ks)
    → (ks : List ℕ) → Within at (suc n) ks → Alike at at' (walk_each (walk n at) at ks) → walk_each (walk n at') at' ks ≡ walk_each (walk n at) at ks
over-agree at at' next n sound below [] within same = refl
over-agree at at' next n sound below (k ∷ ks) within same =
    let c = within.0 in
    let first = start k c in
    let inner = walk n at c.children in
    let own = node_tokens (walk n at) k (at k) in
    let own_is : own ≡ first ∷ (inner ++ finish k c) = ap (node_tokens (walk n at) k) within.1 in
    let in_own : (j : ℕ) → Has (begins j) (first ∷ (inner ++ finish k c)) → at' j ≡ at j =
    λ j has. same j (has-left (begins j) own (walk_each (walk n at) at ks) (subst (λ z. Has (begins j) z) (sym own_is) has)) in
    let here : at' k ≡ at k = in_own k (has-here (begins k) first (inner ++ finish k c) (begins-own k c)) in
    let children : walk n at' c.children ≡ inner =
    below c.children (within-children at next n k c sound within.1 within.2) (λ j has. in_own j (has-right (begins j) (first ∷ []) _ (has-left (begins j) inner (finish k c) has))) in
    let rest = over-agree at at' next n sound below ks within.3 (λ j has. same j (has-right (begins j) own _ has)) in
    let now : node_tokens (walk n at') k (at' k) ≡ own =
    ap (node_tokens (walk n at') k) (here ∙ within.1) ∙ (ap (λ z. first ∷ (z ++ finish k c)) children ∙ sym own_is) in
    ap (λ z. z ++ walk_each (walk n at') at' ks) now ∙ ap (λ z. own ++ z) rest

-- nodes that are alike where tokens stand show the same tokens
pub agree : (n : ℕ) (at at' : Nodes) (next : ℕ) → IsSound at next → (ks : List ℕ) → Within at n ks → Alike at at' (walk n at ks) → walk n at' ks ≡ walk n at ks
unfolding walk
agree zero at at' next sound ks within same = refl
agree (suc n) at at' next sound ks within same = over-agree at at' next n sound (agree n at at' next sound) ks within same

-- the tokens before and after one node, and what the nodes show where they are alike but there
pub record Focus (at : Nodes) (n : ℕ) (ks : List ℕ) (p : ℕ) : Type 0 where
  pub pre : List Token
  pub post : List Token
  pub level : ℕ
  pub cell : Cell
  pub here : at p ≡ Some cell
  pub deep : levels ≤ cell.serial + suc level
  pub shows : (at' : Nodes) → ((k : ℕ) → Has (begins k) (pre ++ post) → at' k ≡ at k) → walk n at' ks ≡ pre ++ (node_tokens (walk level at') p (at' p) ++ post)

-- the node stands first
focus-first : (at : Nodes) (next n p k : ℕ) (ks : List ℕ) → IsSound at next → Within at (suc n) (k ∷ ks) → k ≡ p → Focus at (suc n) (k ∷ ks) p
unfolding walk
focus-first at next n p k ks sound within e = record {
  pre = [];
  post = walk (suc n) at ks;
  level = n;
  cell = within.0;
  here = ap at (sym e) ∙ within.1;
  deep = within.2;
  shows = λ at' same. ap (λ z. node_tokens (walk n at') z (at' z) ++ walk (suc n) at' ks) e
      ∙ ap (λ z. node_tokens (walk n at') p (at' p) ++ z) (agree (suc n) at at' next sound ks within.3 same);
}

-- the node stands below the first
focus-below : (at : Nodes) (next n p k : ℕ) (ks : List ℕ) → IsSound at next → (within : Within at (suc n) (k ∷ ks)) → Focus at n within.0.children p → Focus at (suc n) (k ∷ ks) p
unfolding walk
focus-below at next n p k ks sound within f =
    let c = within.0 in
    let first = start k c in
    let last = finish k c ++ walk (suc n) at ks in
    record {
      pre = first ∷ f.pre;
      post = f.post ++ last;
      level = f.level;
      cell = f.cell;
      here = f.here;
      deep = f.deep;
      shows = λ at' same.
          let here : at' k ≡ Some c = same k (has-here (begins k) first _ (begins-own k c)) ∙ within.1 in
          let children = f.shows at' (λ j has. same j (let all = times-append (begins j) f.pre f.post in let more = times-append (begins j) f.pre (f.post ++ last) in let most = times-append (begins j) f.post last in omega (arith, all, more, most, has))) in
          let rest = agree (suc n) at at' next sound ks within.3 (λ j has. same j (has-right (begins j) (first ∷ f.pre) _ (has-right (begins j) f.post _ (has-right (begins j) (finish k c) _ has)))) in
          ap (λ z. node_tokens (walk n at') k z ++ walk (suc n) at' ks) here
          ∙ (ap (λ z. (first ∷ (z ++ finish k c)) ++ walk (suc n) at' ks) children
          ∙ (ap (λ z. (first ∷ ((f.pre ++ (node_tokens (walk f.level at') p (at' p) ++ f.post)) ++ finish k c)) ++ z) rest
          ∙ (simp append_assoc)));
    }

-- the node stands after the first
focus-after : (at : Nodes) (next n p k : ℕ) (ks : List ℕ) → IsSound at next → (within : Within at (suc n) (k ∷ ks)) → Focus at (suc n) ks p → Focus at (suc n) (k ∷ ks) p
unfolding walk
focus-after at next n p k ks sound within f =
    let c = within.0 in
    let own = node_tokens (walk n at) k (at k) in
    let first = start k c in
    let inner = walk n at c.children in
    let own_is : own ≡ first ∷ (inner ++ finish k c) = ap (node_tokens (walk n at) k) within.1 in
    record {
      pre = own ++ f.pre;
      post = f.post;
      level = f.level;
      cell = f.cell;
      here = f.here;
      deep = f.deep;
      shows = λ at' same.
          let in_own : (j : ℕ) → Has (begins j) (first ∷ (inner ++ finish k c)) → at' j ≡ at j =
          λ j has. same j (has-left (begins j) (own ++ f.pre) f.post (has-left (begins j) own f.pre (subst (λ z. Has (begins j) z) (sym own_is) has))) in
          let here : at' k ≡ at k = in_own k (has-here (begins k) first _ (begins-own k c)) in
          let children : walk n at' c.children ≡ inner = agree n at at' next sound c.children (within-children at next n k c sound within.1 within.2)
          (λ j has. in_own j (has-right (begins j) (first ∷ []) _ (has-left (begins j) inner (finish k c) has))) in
          let now : node_tokens (walk n at') k (at' k) ≡ own =
          ap (node_tokens (walk n at') k) (here ∙ within.1) ∙ (ap (λ z. first ∷ (z ++ finish k c)) children ∙ sym own_is) in
          let rest = f.shows at' (λ j has. same j (let all = times-append (begins j) f.pre f.post in let more = times-append (begins j) (own ++ f.pre) f.post in let most = times-append (begins j) own f.pre in omega (arith, all, more, most, has))) in
          ap (λ z. z ++ walk (suc n) at' ks) now ∙ (ap (λ z. own ++ z) rest ∙ sym (append_assoc own f.pre _));
    }

over-focus : (at : Nodes) (next n p : ℕ) → IsSound at next → ((ks : List ℕ) → Within at n ks → Has (begins p) (walk n at ks) → Focus at n ks p)
    → (ks : List ℕ) → Within at (suc n) ks → Has (begins p) (walk_each (walk n at) at ks) → Focus at (suc n) ks p
over-focus at next n p sound below [] within has = absurd (omega (arith, has))
over-focus at next n p sound below (k ∷ ks) within has = by (cases_eq k p) (cases_lt 0 (times (begins p) (walk n at within.0.children))) (over-focus at next n p sound below ks within.3)
  where
    c : Cell
    c = within.0

    by : (k ≡ p) ⊎ (k ≢ p) → (0 < times (begins p) (walk n at c.children)) ⊎ (times (begins p) (walk n at c.children) ≤ 0)
        → (Has (begins p) (walk_each (walk n at) at ks) → Focus at (suc n) ks p) → Focus at (suc n) (k ∷ ks) p
    by (inl e) cases rest = focus-first at next n p k ks sound within e
    by (inr ne) (inl inside) rest =
        focus-below at next n p k ks sound within (below c.children (within-children at next n k c sound within.1 within.2) inside)
    by (inr ne) (inr none) rest =
        let first = start k c in
        let own_is : times (begins p) (node_tokens (walk n at) k (at k)) ≡ times (begins p) (first ∷ (walk n at c.children ++ finish k c)) = ap (λ z. times (begins p) (node_tokens (walk n at) k z)) within.1 in
        let own = times-append (begins p) (walk n at c.children) (finish k c) in
        let start : one (begins p first) ≡ 0 = ap one (begins-start p k c ∙ ne_eqb k p ne) in
        let end = begins-finish p k c in
        let all = times-append (begins p) (node_tokens (walk n at) k (at k)) (walk_each (walk n at) at ks) in
        focus-after at next n p k ks sound within (rest (omega (arith, has, own_is, own, start, end, all, none)))

pub focus : (n : ℕ) (at : Nodes) (next p : ℕ) → IsSound at next → (ks : List ℕ) → Within at n ks → Has (begins p) (walk n at ks) → Focus at n ks p
unfolding walk
focus zero at next p sound ks within has = absurd (omega (arith, has))
focus (suc n) at next p sound ks within has = over-focus at next n p sound (focus n at next p sound) ks within has

-- ---- lists of nodes

pub walk-nil : (n : ℕ) (at : Nodes) → walk n at [] ≡ []
unfolding walk
walk-nil zero at = refl
walk-nil (suc n) at = refl

walk_each-append : (below : List ℕ → List Token) (at : Nodes) (xs ys : List ℕ) → walk_each below at (xs ++ ys) ≡ walk_each below at xs ++ walk_each below at ys
walk_each-append below at [] ys = refl
walk_each-append below at (x ∷ xs) ys = ap (λ z. node_tokens below x (at x) ++ z) (walk_each-append below at xs ys) ∙ sym (append_assoc (node_tokens below x (at x)) _ _)

pub walk-append : (n : ℕ) (at : Nodes) (xs ys : List ℕ) → walk n at (xs ++ ys) ≡ walk n at xs ++ walk n at ys
unfolding walk
walk-append zero at xs ys = refl
walk-append (suc n) at xs ys = walk_each-append (walk n at) at xs ys

pub walk-leaf : (n : ℕ) (at : Nodes) (key : ℕ) (cell : Cell) → at key ≡ Some cell → cell.children ≡ [] → 1 ≤ n → walk n at (key ∷ []) ≡ start key cell ∷ finish key cell
unfolding walk
walk-leaf zero at key cell here bare room = absurd (omega (arith, room))
walk-leaf (suc n) at key cell here bare room =
    ap (λ z. node_tokens (walk n at) key z ++ []) here ∙ (ap (λ z. (start key cell ∷ (z ++ finish key cell)) ++ []) (ap (walk n at) bare ∙ walk-nil n at) ∙ append-nil (start key cell ∷ finish key cell))

-- the first token of a node comes first
pub walk-first : (n : ℕ) (at : Nodes) (key : ℕ) (keys : List ℕ) (cell : Cell) → at key ≡ Some cell → 1 ≤ n
    → (rest : List Token) × (walk n at (key ∷ keys) ≡ start key cell ∷ rest)
unfolding walk
walk-first zero at key keys cell here room = absurd (omega (arith, room))
walk-first (suc n) at key keys cell here room =
    ((walk n at cell.children ++ finish key cell) ++ walk (suc n) at keys, ap (λ z. node_tokens (walk n at) key z ++ walk (suc n) at keys) here)

pub within-left : (at : Nodes) (n : ℕ) (xs ys : List ℕ) → Within at n (xs ++ ys) → Within at n xs
within-left at n [] ys within = tt
within-left at n (x ∷ xs) ys within = (within.0, within.1, within.2, within-left at n xs ys within.3)

pub within-right : (at : Nodes) (n : ℕ) (xs ys : List ℕ) → Within at n (xs ++ ys) → Within at n ys
within-right at n [] ys within = within
within-right at n (x ∷ xs) ys within = within-right at n xs ys within.3

-- ---- ends

closes-opening : (j : ℕ) (n p : Name) (number : Option ℕ) (w : Kind) → closes j (opening n p number w) ≡ false
closes-opening j n p number (element e) = refl
closes-opening j n p number (text bytes) = refl
closes-opening j n p number anchor = refl

closes-ending : (j : ℕ) (n : Name) (w : Kind) → times (closes j) (ending n w) ≤ one (n.key == j)
closes-ending j n (element e) = omega arith
closes-ending j n (text bytes) = omega arith
closes-ending j n anchor = omega arith

node-closes : (j k : ℕ) (below : List ℕ → List Token) (o : Option Cell) → ((ks : List ℕ) → times (closes j) (below ks) ≤ times (begins j) (below ks))
    → times (closes j) (node_tokens below k o) ≤ times (begins j) (node_tokens below k o)
node-closes j k below None fewer = omega arith
node-closes j k below (Some c) fewer =
    let a = ap one (closes-opening j (name_of k c) c.parent c.number c.kind) in
    let b = ap one (begins-start j k c) in
    let d = times-append (closes j) (below c.children) (finish k c) in
    let e = times-append (begins j) (below c.children) (finish k c) in
    let f = closes-ending j (name_of k c) c.kind in
    let g = fewer c.children in
    omega (arith, a, b, d, e, f, g)

each-closes : (j : ℕ) (below : List ℕ → List Token) (at : Nodes) → ((ks : List ℕ) → times (closes j) (below ks) ≤ times (begins j) (below ks))
    → (ks : List ℕ) → times (closes j) (walk_each below at ks) ≤ times (begins j) (walk_each below at ks)
each-closes j below at fewer [] = omega arith
each-closes j below at fewer (k ∷ ks) =
    let a = node-closes j k below (at k) fewer in
    let b = each-closes j below at fewer ks in
    let d = times-append (closes j) (node_tokens below k (at k)) (walk_each below at ks) in
    let e = times-append (begins j) (node_tokens below k (at k)) (walk_each below at ks) in
    omega (arith, a, b, d, e)

-- no node ends more often than it begins
pub fewer-closes : (j n : ℕ) (at : Nodes) (ks : List ℕ) → times (closes j) (walk n at ks) ≤ times (begins j) (walk n at ks)
unfolding walk
fewer-closes j zero at ks = omega arith
fewer-closes j (suc n) at ks = each-closes j (walk n at) at (fewer-closes j n at) ks

-- ---- levels to spare

over-stable : (at : Nodes) (next n : ℕ) → IsSound at next → ((ks : List ℕ) → Within at n ks → walk (suc n) at ks ≡ walk n at ks)
    → (ks : List ℕ) → Within at (suc n) ks → walk_each (walk (suc n) at) at ks ≡ walk_each (walk n at) at ks
over-stable at next n sound below [] within = refl
over-stable at next n sound below (k ∷ ks) within =
    let c = within.0 in
    let children = below c.children (within-children at next n k c sound within.1 within.2) in
    let rest = over-stable at next n sound below ks within.3 in
    ap (λ z. node_tokens (walk (suc n) at) k z ++ walk_each (walk (suc n) at) at ks) within.1
    ∙ (λ i. (start k c ∷ (children i ++ finish k c)) ++ rest i)
    ∙ ap (λ z. node_tokens (walk n at) k z ++ walk_each (walk n at) at ks) (sym within.1)

stable : (n : ℕ) (at : Nodes) (next : ℕ) → IsSound at next → (ks : List ℕ) → Within at n ks → walk (suc n) at ks ≡ walk n at ks
unfolding walk
stable zero at next sound [] within = refl
stable zero at next sound (k ∷ ks) within = absurd (too_deep at next k within.0 sound within.1 within.2)
stable (suc n) at next sound ks within = over-stable at next n sound (stable n at next sound) ks within

within-more : (at : Nodes) (n d : ℕ) (ks : List ℕ) → Within at n ks → Within at (n + d) ks
within-more at n d [] within = tt
within-more at n d (k ∷ ks) within = (within.0, within.1, omega (arith, within.2), within-more at n d ks within.3)

steady : (d m n : ℕ) (at : Nodes) (next : ℕ) → m ≡ n + d → IsSound at next → (ks : List ℕ) → Within at n ks → walk m at ks ≡ walk n at ks
steady zero m n at next e sound ks within = let same : m ≡ n = omega (arith, e) in ap (λ z. walk z at ks) same
steady (suc d) m n at next e sound ks within =
    let more : m ≡ suc (n + d) = omega (arith, e) in
    ap (λ z. walk z at ks) more ∙ (stable (n + d) at next sound ks (within-more at n d ks within) ∙ steady d (n + d) n at next refl sound ks within)

-- where no tree has more levels, it does not matter how many there are
pub walk-levels : (m n : ℕ) (at : Nodes) (next : ℕ) → IsSound at next → (ks : List ℕ) → Within at m ks → Within at n ks → walk m at ks ≡ walk n at ks
walk-levels m n at next sound ks deep enough = by (cases_lt n m)
  where
    by : (n < m) ⊎ (m ≤ n) → walk m at ks ≡ walk n at ks
    by (inl less) = (let e : m ≡ n + (m - n) = omega (arith, less) in steady (m - n) m n at next e sound ks enough)
    by (inr most) = (let e : n ≡ m + (n - m) = omega (arith, most) in sym (steady (n - m) n m at next e sound ks deep))

top : (n : ℕ) × (levels ≡ suc n)
unfolding levels
top = (18446744073709551615, refl)

node-walk : (n : ℕ) (at : Nodes) (next k : ℕ) (c : Cell) → levels ≡ suc n → IsSound at next → at k ≡ Some c
    → walk (suc n) at (k ∷ []) ≡ start k c ∷ (walk (suc n) at c.children ++ finish k c)
unfolding walk
node-walk n at next k c e sound here =
    let children = stable n at next sound c.children (within-children at next n k c sound here (omega (arith, e))) in
    ap (λ z. node_tokens (walk n at) k z ++ []) here ∙ (append-nil (node_tokens (walk n at) k (Some c))
    ∙ ap (λ z. start k c ∷ (z ++ finish k c)) (sym children))

-- the tokens of a node are its own round those of its children
pub walk-node : (at : Nodes) (next k : ℕ) (c : Cell) → IsSound at next → at k ≡ Some c
    → walk levels at (k ∷ []) ≡ start k c ∷ (walk levels at c.children ++ finish k c)
walk-node at next k c sound here =
    let e = top.1 in
    ap (λ n. walk n at (k ∷ [])) e ∙ (node-walk top.0 at next k c e sound here ∙ ap (λ n. start k c ∷ (walk n at c.children ++ finish k c)) (sym e))
