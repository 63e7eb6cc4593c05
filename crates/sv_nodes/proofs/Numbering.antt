-- Nodes take printed numbers, and are the same nodes.
use Rattle.std.proofs.Common.{◌≡◌, ◌≢◌, ◌≤◌, ◌+◌, ◌==◌, ℕ, zero, suc, List, [], ◌∷◌, Bool, true, false, Option, Some, None, refl, ap, sym, ◌∙◌, arith, ◌⊎◌, inl, inr, subst}
use Rattle.std.specs.Prelude.{option_map, if◌then◌else◌}
use Rattle.std.proofs.lemmas.Bool.{cases_eq}
use Rattle.sv_tokens.specs.Counting.{times, one}
use Rattle.sv_tokens.specs.Token.{Name, Token, begins, lacks_number}
use Rattle.sv_tokens.specs.Numbering.{with_number as numbered_token}
use Rattle.sv_tokens.proofs.Counting.{times-append}
use Rattle.sv_tokens.proofs.Numbering.{give}
use Rattle.sv_nodes.specs.Nodes.{Kind, element, text, anchor, Cell, Nodes, name_of, opening, ending, start, finish, node_tokens, walk_each, walk, levels, weight, is_element, with_number}
use Rattle.sv_nodes.specs.Sound.{AreParts, IsProper, IsAmong, Link, IsSound}
use Rattle.sv_nodes.specs.Steps.{Rewrites}
use Rattle.sv_nodes.specs.Numbers.{lacks, given, plain, unnumbered}
use Rattle.sv_nodes.proofs.Walk.{Within, begins-start, begins-finish, walk-node, walk-levels, within-children}
use Rattle.sv_nodes.proofs.Around.{around}

-- ---- one node

lacks-opening : (n p : Name) (number : Option ℕ) (w : Kind) → lacks_number (opening n p number w) ≡ lacks number w
lacks-opening n p number (element e) = refl
lacks-opening n p number (text bytes) = refl
lacks-opening n p number anchor = refl

lacks-ending : (n : Name) (w : Kind) → times lacks_number (ending n w) ≡ 0
lacks-ending n (element e) = refl
lacks-ending n (text bytes) = refl
lacks-ending n anchor = refl

pub lacks-start : (k : ℕ) (c : Cell) → lacks_number (start k c) ≡ lacks c.number c.kind
lacks-start k c = lacks-opening (name_of k c) c.parent c.number c.kind

pub lacks-finish : (k : ℕ) (c : Cell) → times lacks_number (finish k c) ≡ 0
lacks-finish k c = lacks-ending (name_of k c) c.kind

opening-numbered : (number : ℕ) (n p : Name) (was : Option ℕ) (w : Kind) → opening n p (Some number) w ≡ numbered_token number (opening n p was w)
opening-numbered number n p was (element e) = refl
opening-numbered number n p was (text bytes) = refl
opening-numbered number n p was anchor = refl

-- a node with its number shows its first token with that number
pub start-given : (number k : ℕ) (c : Cell) → start k (given number c) ≡ give number (start k c)
start-given number k c = go (lacks c.number c.kind) ∙ ap (λ b. if b then numbered_token number (start k c) else start k c) (sym (lacks-start k c))
  where
    go : (b : Bool) → start k (if b then with_number number c else c) ≡ (if b then numbered_token number (start k c) else start k c)
    go true = opening-numbered number (name_of k c) c.parent c.number c.kind
    go false = refl

pub plain-given : (number : ℕ) (c : Cell) → plain (given number c) ≡ plain c
plain-given number c = go (lacks c.number c.kind)
  where
    go : (b : Bool) → plain (if b then with_number number c else c) ≡ plain c
    go true = refl
    go false = refl

-- ---- the same nodes

-- a node that is there was there, and its printed number alone may differ
pub plain-at : (old new : Nodes) (k : ℕ) (c : Cell) → unnumbered new ≡ unnumbered old → new k ≡ Some c → (d : Cell) × (old k ≡ Some d) × (plain d ≡ plain c)
plain-at old new k c same here = go (old k) refl (sym (ap (λ (n : Nodes). n k) same) ∙ ap (option_map plain) here)
  where
    no : {z : Cell} → None ≡ Some z → ⊥
    no e = cc

    some : {x y : Cell} → Some x ≡ Some y → x ≡ y
    some e = cc

    go : (o : Option Cell) → old k ≡ o → option_map plain o ≡ Some (plain c) → (d : Cell) × (old k ≡ Some d) × (plain d ≡ plain c)
    go None at e = absurd (no e)
    go (Some d) at e = (d, at, some e)

node-begins : (j k : ℕ) (f g : List ℕ → List Token) (o : Option Cell) → ((ks : List ℕ) → times (begins j) (f ks) ≡ times (begins j) (g ks))
    → times (begins j) (node_tokens f k o) ≡ times (begins j) (node_tokens g k (option_map plain o))
node-begins j k f g None same = refl
node-begins j k f g (Some c) same =
    let a = ap one (begins-start j k c) in
    let b = ap one (begins-start j k (plain c)) in
    let d = times-append (begins j) (f c.children) (finish k c) in
    let e = times-append (begins j) (g c.children) (finish k c) in
    let s = same c.children in
    omega (arith, a, b, d, e, s)

each-begins : (j : ℕ) (f g : List ℕ → List Token) (at : Nodes) → ((ks : List ℕ) → times (begins j) (f ks) ≡ times (begins j) (g ks))
    → (ks : List ℕ) → times (begins j) (walk_each f at ks) ≡ times (begins j) (walk_each g (unnumbered at) ks)
each-begins j f g at same [] = refl
each-begins j f g at same (k ∷ ks) =
    let a = node-begins j k f g (at k) same in
    let b = each-begins j f g at same ks in
    let d = times-append (begins j) (node_tokens f k (at k)) (walk_each f at ks) in
    let e = times-append (begins j) (node_tokens g k (unnumbered at k)) (walk_each g (unnumbered at) ks) in
    omega (arith, a, b, d, e)

plain-begins : (j n : ℕ) (at : Nodes) (ks : List ℕ) → times (begins j) (walk n at ks) ≡ times (begins j) (walk n (unnumbered at) ks)
unfolding walk
plain-begins j zero at ks = refl
plain-begins j (suc n) at ks = each-begins j (walk n at) (walk n (unnumbered at)) at (plain-begins j n at) ks

-- a node begins as often as it did
pub same-begins : (j n : ℕ) (old new : Nodes) (ks : List ℕ) → unnumbered new ≡ unnumbered old → times (begins j) (walk n new ks) ≡ times (begins j) (walk n old ks)
same-begins j n old new ks same = plain-begins j n new ks ∙ (ap (λ (z : Nodes). times (begins j) (walk n z ks)) same ∙ sym (plain-begins j n old ks))

parts-same : (old new : Nodes) (parent : Name) (ks : List ℕ) → unnumbered new ≡ unnumbered old → AreParts old parent ks → AreParts new parent ks
parts-same old new parent [] same parts = tt
parts-same old new parent (k ∷ ks) same parts =
    let n = plain-at new old k parts.0.cell (sym same) parts.0.at in
    let serial = ap (λ (z : Cell). z.serial) n.2 in
    (record { cell = n.0; at = n.1; above = ap (λ (z : Cell). z.parent) n.2 ∙ parts.0.above; later = omega (arith, serial, parts.0.later) }, parts-same old new parent ks same parts.1)

-- they are a page as they were
pub sound-same : (old new : Nodes) (next : ℕ) → unnumbered new ≡ unnumbered old → IsSound old next → IsSound new next
sound-same old new next same sound = record {
  root = (let n = plain-at new old 0 sound.root.cell (sym same) sound.root.at in record {
    cell = n.0;
    at = n.1;
    first = ap (λ (z : Cell). z.serial) n.2 ∙ sound.root.first;
    shape = ap (λ (z : Cell). is_element z.kind) n.2 ∙ sound.root.shape;
  });
  bounded = sound.bounded;
  below = λ k c here. (let n = plain-at old new k c same here in subst (λ (z : Cell). z.serial + weight z.kind ≤ next) n.2 (sound.below k n.0 n.1));
  parts = λ k c here. (let n = plain-at old new k c same here in subst (λ (z : Cell). AreParts new (name_of k z) z.children) n.2 (parts-same old new (name_of k n.0) n.0.children same (sound.parts k n.0 n.1)));
  proper = λ k c here. (let n = plain-at old new k c same here in subst (λ (z : Cell). IsProper z.kind z.children) n.2 (sound.proper k n.0 n.1));
  linked = λ k c here ne.
      (let n = plain-at old new k c same here in
      let link = sound.linked k n.0 n.1 ne in
      let above = plain-at new old n.0.parent.key link.cell (sym same) link.at in
      subst (λ (z : Cell). Link new z.parent.key k) n.2 (record { cell = above.0; at = above.1; among = subst (λ (z : Cell). IsAmong k z.children) (sym above.2) link.among }));
  once = λ k. (let e = same-begins k levels old new (0 ∷ []) same in let h = sound.once k in omega (arith, e, h));
  stands = λ k c here. (let n = plain-at old new k c same here in let e = same-begins k levels old new (0 ∷ []) same in let h = sound.stands k n.0 n.1 in omega (arith, e, h));
}

-- a node that takes its number is the same
pub rewrites-same : (old new : Nodes) (key number : ℕ) → Rewrites old new key (given number) → unnumbered new ≡ unnumbered old
rewrites-same old new key number rewrites = λ i k. at k (cases_eq k key) i
  where
    still : (o : Option Cell) → option_map plain (option_map (given number) o) ≡ option_map plain o
    still None = refl
    still (Some c) = ap Some (plain-given number c)

    at : (k : ℕ) → (k ≡ key) ⊎ (k ≢ key) → unnumbered new k ≡ unnumbered old k
    at k (inl e) = ap (unnumbered new) e ∙ (ap (option_map plain) rewrites.here ∙ (still (old key) ∙ ap (unnumbered old) (sym e)))
    at k (inr ne) = ap (option_map plain) (rewrites.others k ne)

-- ---- the tokens of one node

-- how often a node begins there
pub below-begins : (at : Nodes) (next k : ℕ) (c : Cell) → IsSound at next → at k ≡ Some c → (j : ℕ)
    → times (begins j) (walk levels at (k ∷ [])) ≡ one (k == j) + times (begins j) (walk levels at c.children)
below-begins at next k c sound here j =
    let a = ap (times (begins j)) (walk-node at next k c sound here) in
    let b = ap one (begins-start j k c) in
    let d = times-append (begins j) (walk levels at c.children) (finish k c) in
    let e = begins-finish j k c in
    omega (arith, a, b, d, e)

-- how many lack a number there
pub below-lacks : (at : Nodes) (next k : ℕ) (c : Cell) → IsSound at next → at k ≡ Some c
    → times lacks_number (walk levels at (k ∷ [])) ≡ one (lacks c.number c.kind) + times lacks_number (walk levels at c.children)
below-lacks at next k c sound here =
    let a = ap (times lacks_number) (walk-node at next k c sound here) in
    let b = ap one (lacks-start k c) in
    let d = times-append lacks_number (walk levels at c.children) (finish k c) in
    let e = lacks-finish k c in
    omega (arith, a, b, d, e)

-- none stands there twice
pub below-once : (at : Nodes) (next k : ℕ) (c : Cell) → IsSound at next → at k ≡ Some c → (j : ℕ) → one (k == j) + times (begins j) (walk levels at c.children) ≤ 1
below-once at next k c sound here j =
    let a = around at next k sound (sound.stands k c here) in
    let same : a.cell ≡ c = some (sym a.here ∙ here) in
    let within = subst (λ (z : Cell). Within at a.level z.children) same a.within in
    let deep = within-children at next levels k c sound here (omega arith) in
    let inner = ap (times (begins j)) (ap (λ (z : Cell). walk a.level at z.children) same ∙ walk-levels a.level levels at next sound c.children within deep) in
    let own = ap one (begins-start j k a.cell) in
    let all = a.counts j in
    let once = sound.once j in
    omega (arith, inner, own, all, once)
  where
    some : {x y : Cell} → Some x ≡ Some y → x ≡ y
    some e = cc
