-- The page round one node.
use Rattle.std.proofs.Common.{◌≡◌, ◌≢◌, ◌≤◌, ◌+◌, ℕ, suc, List, [], ◌∷◌, ◌++◌, Bool, true, Some, refl, ap, ◌∙◌, arith, subst, append_assoc}
use Rattle.sv_tokens.specs.Counting.{times, one, Has}
use Rattle.sv_tokens.specs.Token.{Token, Open, Text, Anchor, Close, begins, texts, opens}
use Rattle.sv_tokens.proofs.Counting.{times-append, times-narrow}
use Rattle.sv_tokens.proofs.Splits.{only_here}
use Rattle.sv_nodes.specs.Nodes.{Cell, Nodes, start, finish, node_tokens, walk, levels, tokens_of}
use Rattle.sv_nodes.specs.Sound.{IsSound}
use Rattle.sv_nodes.proofs.Walk.{Within, within-children, Focus, focus, begins-own, begins-finish}

pub within-root : (at : Nodes) (next : ℕ) → IsSound at next → Within at levels (0 ∷ [])
within-root at next sound = (sound.root.cell, sound.root.at, omega arith, tt)

-- the tokens before, inside and after one node
pub record Around (at : Nodes) (p : ℕ) : Type 0 where
  pub pre : List Token
  pub post : List Token
  pub level : ℕ
  pub cell : Cell
  pub here : at p ≡ Some cell
  pub deep : levels ≤ cell.serial + suc level
  pub within : Within at level cell.children
  pub old : tokens_of at ≡ pre ++ (start p cell ∷ (walk level at cell.children ++ (finish p cell ++ post)))
  pub alone : (k : ℕ) → Has (begins k) (pre ++ post) → k ≢ p
  pub alone_inside : (k : ℕ) → Has (begins k) (walk level at cell.children) → k ≢ p
  pub apart : (k : ℕ) → Has (begins k) (walk level at cell.children) → Has (begins k) (pre ++ post) → ⊥
  pub counts : (k : ℕ) → times (begins k) (tokens_of at) ≡ times (begins k) (pre ++ post) + (one (begins k (start p cell)) + times (begins k) (walk level at cell.children))
  pub shows : (at' : Nodes) → ((k : ℕ) → Has (begins k) (pre ++ post) → at' k ≡ at k) → tokens_of at' ≡ pre ++ (node_tokens (walk level at') p (at' p) ++ post)

module _ (at : Nodes) (next p : ℕ) (sound : IsSound at next) (f : Focus at levels (0 ∷ []) p) where
  abbrev first : Token
  first = start p f.cell

  abbrev inner : List Token
  inner = walk f.level at f.cell.children

  split : tokens_of at ≡ f.pre ++ (first ∷ (inner ++ (finish p f.cell ++ f.post)))
  split = f.shows at (λ k has. refl) ∙ (ap (λ z. f.pre ++ (node_tokens (walk f.level at) p z ++ f.post)) f.here ∙ (simp append_assoc))

  -- how often a node begins, part by part
  counts : (k : ℕ) → times (begins k) (tokens_of at) ≡ times (begins k) (f.pre ++ f.post) + (one (begins k first) + times (begins k) inner)
  counts k =
      let a = ap (times (begins k)) split in
      let b = times-append (begins k) f.pre (first ∷ (inner ++ (finish p f.cell ++ f.post))) in
      let c = times-append (begins k) inner (finish p f.cell ++ f.post) in
      let d = times-append (begins k) (finish p f.cell) f.post in
      let e = begins-finish k p f.cell in
      let g = times-append (begins k) f.pre f.post in
      omega (arith, a, b, c, d, e, g)

  own : one (begins p first) ≡ 1
  own = ap one (begins-own p f.cell)

  pub around-focus : Around at p
  around-focus = record {
    pre = f.pre;
    post = f.post;
    level = f.level;
    cell = f.cell;
    here = f.here;
    deep = f.deep;
    within = within-children at next f.level p f.cell sound f.here f.deep;
    old = split;
    alone = λ k has e. (let n = counts k in let h = sound.once k in let w : one (begins k first) ≡ 1 = ap (λ z. one (begins z first)) e ∙ own in omega (arith, n, h, w, has));
    alone_inside = λ k has e. (let n = counts k in let h = sound.once k in let w : one (begins k first) ≡ 1 = ap (λ z. one (begins z first)) e ∙ own in omega (arith, n, h, w, has));
    apart = λ k inside outside. (let n = counts k in let h = sound.once k in omega (arith, n, h, inside, outside));
    counts = counts;
    shows = f.shows;
  }

pub around : (at : Nodes) (next p : ℕ) → IsSound at next → Has (begins p) (tokens_of at) → Around at p
around at next p sound has = around-focus at next p sound (focus levels at next p sound (0 ∷ []) (within-root at next sound) has)

-- a test that passes only where the node begins
abbrev pub Narrows : ℕ → (Token → Bool) → Type 0
Narrows p q = (s : Token) → one (q s) ≤ one (begins p s)

pub has-begins : (p : ℕ) (q : Token → Bool) (ts : List Token) → Narrows p q → Has q ts → Has (begins p) ts
has-begins p q ts narrows has = let less = times-narrow (begins p) q narrows ts in omega (arith, less, has)

pub passes_here : (at : Nodes) (next p : ℕ) (q : Token → Bool) → IsSound at next → Narrows p q → (a : Around at p) → Has q (tokens_of at)
    → q (start p a.cell) ≡ true
passes_here at next p q sound narrows a has =
    only_here (begins p) q a.pre _ _ narrows (subst (λ z. times (begins p) z ≤ 1) a.old (sound.once p)) (begins-own p a.cell) (subst (λ z. Has q z) a.old has)

pub texts-narrows : (p : ℕ) → Narrows p (texts p)
texts-narrows p (Open n parent number element) = omega arith
texts-narrows p (Text n parent number bytes) = omega arith
texts-narrows p (Anchor n parent) = omega arith
texts-narrows p (Close n name) = omega arith

pub opens-narrows : (p : ℕ) → Narrows p (opens p)
opens-narrows p (Open n parent number element) = omega arith
opens-narrows p (Text n parent number bytes) = omega arith
opens-narrows p (Anchor n parent) = omega arith
opens-narrows p (Close n name) = omega arith
