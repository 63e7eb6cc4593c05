-- Children that stand on a page.
use Rattle.std.proofs.Common.{◌≡◌, ◌≢◌, ◌≤◌, ℕ, List, [], ◌∷◌, Bool, true, false, Option, None, refl, ap, ◌∙◌, arith}
use Rattle.std.specs.Prelude.{if◌then◌else◌, ◌==◌, ◌&&◌}
use Rattle.std.proofs.lemmas.Bool.{eq-eqb, eqb-true, and_from}
use Rattle.sv_tokens.specs.Counting.{times, one, Has}
use Rattle.sv_tokens.specs.Token.{named, Token, Open, Text, Anchor, Close, Page, begins, opens, is_child, node_of, name_at}
use Rattle.sv_tokens.specs.Replay.{Gains}
use Rattle.sv_tokens.proofs.Counting.{times-narrow}
use Rattle.sv_tokens.proofs.Standing.{times-Inserted, opens-begins}

-- an element stands
pub opens-stands : (key : ℕ) (ts : List Token) → Has (opens key) ts → Has (begins key) ts
opens-stands key ts has = let less = times-narrow (begins key) (opens key) (opens-begins key) ts in omega (arith, less, has)

both-less : (a b : Bool) → one (a && b) ≤ one a
both-less true true = omega arith
both-less true false = omega arith
both-less false b = omega arith

child-begins : (parent key : ℕ) (t : Token) → one (is_child parent key t) ≤ one (begins key t)
child-begins parent key (Open n p number e) = both-less (n.key == key) (p.key == parent)
child-begins parent key (Text n p number bytes) = both-less (n.key == key) (p.key == parent)
child-begins parent key (Anchor n p) = both-less (n == key) (p.key == parent)
child-begins parent key (Close n name) = omega arith

-- a child stands
pub child-stands : (parent key : ℕ) (ts : List Token) → Has (is_child parent key) ts → Has (begins key) ts
child-stands parent key ts has = let less = times-narrow (begins key) (is_child parent key) (child-begins parent key) ts in omega (arith, less, has)

-- the name of the node at a key has that key
pub name_at-key : (key : ℕ) (ts : List Token) → (name_at key ts).key ≡ key
name_at-key key [] = refl
name_at-key key (t ∷ ts) = go (begins key t) refl (name_at-key key ts)
  where
    here : (t : Token) → begins key t ≡ true → (node_of t).key ≡ key
    here (Open n p number e) h = eqb-true n.key key h
    here (Text n p number bytes) h = eqb-true n.key key h
    here (Anchor n p) h = eqb-true n key h
    here (Close n name) h = absurd (no h)
      where
        no : false ≡ true → ⊥
        no e = cc

    go : (v : Bool) → begins key t ≡ v → (name_at key ts).key ≡ key → (name_at key (t ∷ ts)).key ≡ key
    go true e rest = ap (λ z. (if z then node_of t else name_at key ts).key) e ∙ here t e
    go false e rest = ap (λ z. (if z then node_of t else name_at key ts).key) e ∙ rest

-- a new text is a child of its parent
pub child-text-Gains : (old new : Page) (parent : ℕ) (before : Option ℕ) (key serial : ℕ) (bytes : List ℕ) → Gains old new parent before key (Text (named key serial) (name_at parent old.tokens) None bytes ∷ []) → Has (is_child parent key) new.tokens
child-text-Gains old new parent before key serial bytes g =
    let n = times-Inserted (is_child parent key) old.tokens new.tokens parent before (Text (named key serial) (name_at parent old.tokens) None bytes ∷ []) g.tokens in
    let w = ap one (and_from (key == key) ((name_at parent old.tokens).key == parent) (eq-eqb key key refl) (eq-eqb (name_at parent old.tokens).key parent (name_at-key parent old.tokens))) in
    omega (arith, n, w)

-- a new node has a key that no node has
pub other-Gains : (old new : Page) (parent : ℕ) (before : Option ℕ) (key other : ℕ) (own : List Token) → Gains old new parent before key own → Has (begins other) old.tokens → key ≢ other
other-Gains old new parent before key other own g has e =
    let same = ap (λ k. times (begins k) old.tokens) e in
    omega (arith, same, g.fresh, has)
