-- Nodes that are placed, and what stands inside an element.
use Rattle.std.proofs.Common.{◌≡◌, ◌≢◌, ℕ, List, [], ◌∷◌, ◌++◌, Option, None, ap, sym, ◌∙◌, subst}
use Rattle.std.proofs.lemmas.List.{append-nil}
use Rattle.sv_tokens.specs.Counting.{Has}
use Rattle.sv_tokens.specs.Token.{Name, opens}
use Rattle.sv_live.specs.declared.live.Named.{Named}
use Rattle.sv_live.specs.declared.live.Live.{Live}
use Rattle.sv_live.specs.declared.live.Live.TheVariants as live
use Rattle.sv_live.specs.declared.node.Own.{Own}
use Rattle.sv_live.specs.declared.node.Node.{Node}
use Rattle.sv_live.specs.declared.node.Node.TheVariants as node
use Rattle.sv_live.specs.Shown.{name_of, element_of, plainly_all, flat, flat_all}
use Rattle.sv_live.specs.Stands.{State, Stands, Becomes, Dresses}
use Rattle.sv_live.proofs.Stands.{Once, Becomes-then, Stands-then}
use Rattle.sv_live.proofs.Regions.{lone-Element, within-below}
use Rattle.sv_commit.proofs.Standing.{between-within}
use Rattle.sv_live.proofs.Inside.{element-opens, inside, outside, dressed}
use Rattle.sv_live.proofs.Plain.{plainly-nil, plainly-Text, plainly-Hole, plainly-Element, flat-Text, flat-Element, flat-Hole, flat-Block}

-- ---- one was put before those that are placed

pub put-text : (now : List Live) (mark : ℕ) (n : Named) (text shown : List ℕ) (placed was : List Live) → now ≡ live.Text mark n text ∷ placed → text ≡ shown → placed ≡ was → plainly_all now ≡ node.Text mark shown ∷ plainly_all was
put-text now mark n text shown placed was is e f = ap plainly_all is ∙ (plainly-Text mark n text placed ∙ λ i. node.Text mark (e i) ∷ plainly_all (f i))

pub put-hole : (now : List Live) (place anchor : ℕ) (parts placed was : List Live) → now ≡ live.Hole place anchor parts ∷ placed → placed ≡ was → plainly_all now ≡ node.Hole place ∷ plainly_all was
put-hole now place anchor parts placed was is f = ap plainly_all is ∙ (plainly-Hole place anchor parts placed ∙ λ i. node.Hole place ∷ plainly_all (f i))

pub put-element : (now : List Live) (n : Named) (own shown : Own) (parts placed was : List Live) (nodes : List Node) → now ≡ live.Element n own parts ∷ placed → own ≡ shown → plainly_all parts ≡ flat_all nodes → placed ≡ was
    → plainly_all now ≡ node.Element shown (flat_all nodes) ∷ plainly_all was
put-element now n own shown parts placed was nodes is e g f = ap plainly_all is ∙ (plainly-Element n own parts placed ∙ λ i. node.Element (e i) (g i) ∷ plainly_all (f i))

-- ---- one node

pub one-Text : (n : Node) (mark : ℕ) (text : List ℕ) (now was : List Node) → n ≡ node.Text mark text → now ≡ node.Text mark text ∷ was → now ≡ flat n ++ was
one-Text n mark text now was is e = e ∙ ap (λ z. z ++ was) (sym (ap flat is ∙ flat-Text mark text))

pub one-Element : (n : Node) (own : Own) (parts parts' : List Node) (now was : List Node) → n ≡ node.Element own parts → parts' ≡ parts → now ≡ node.Element own (flat_all parts') ∷ was → now ≡ flat n ++ was
one-Element n own parts parts' now was is f e = e ∙ (ap (λ z. node.Element own (flat_all z) ∷ was) f ∙ ap (λ z. z ++ was) (sym (ap flat is ∙ flat-Element own parts)))

pub one-Hole : (n : Node) (place : ℕ) (now was : List Node) → n ≡ node.Hole place → now ≡ node.Hole place ∷ was → now ≡ flat n ++ was
one-Hole n place now was is e = e ∙ ap (λ z. z ++ was) (sym (ap flat is ∙ flat-Hole place))

pub one-Block : (n : Node) (parts parts' : List Node) (now was : List Node) → n ≡ node.Block parts → parts' ≡ parts → now ≡ flat_all parts' ++ was → now ≡ flat n ++ was
one-Block n parts parts' now was is f e = e ∙ (ap (λ z. flat_all z ++ was) f ∙ ap (λ z. z ++ was) (sym (ap flat is ∙ flat-Block parts)))

-- ---- an element

module _ (old mid : State) (above : Name) (end : Option ℕ) (xs rest placed : List Live) (n : Named) (own : Own) (parts : List Live) (s : Stands old.page above end xs)
    (b : Becomes old mid above end xs (rest ++ live.Element n own parts ∷ placed)) where
  here : Stands mid.page above end (rest ++ live.Element n own parts ∷ placed)
  here = Stands-then old mid above end xs (rest ++ live.Element n own parts ∷ placed) s b

  pub el-opens : Once mid.page.tokens → Has (opens n.key) mid.page.tokens
  el-opens once = element-opens mid.page above end rest placed n own parts here once

  pub el-below : Once mid.page.tokens → n.key ≢ 0
  el-below once = within-below mid above n.key (live.Element n own parts) (lone-Element n own parts) (between-within mid above end rest placed (live.Element n own parts) here) once

  -- it shows something else of its own
  worn : (new : State) (now : Own) → now.name ≡ own.name → Dresses mid new (name_of n) (element_of own) (element_of now) → Becomes old new above end xs (rest ++ live.Element n now parts ∷ placed)
  worn new now same d =
      Becomes-then old mid new above end xs (rest ++ live.Element n own parts ∷ placed) (rest ++ live.Element n now parts ∷ placed) b (dressed mid new above end rest placed n own now parts same d)

  pub el-inside : (new : State) (now : Own) → now.name ≡ own.name → Dresses mid new (name_of n) (element_of own) (element_of now) → Once new.page.tokens → Stands new.page (name_of n) None parts
  el-inside new now same d once =
      inside new.page above end rest placed n now parts (Stands-then old new above end xs (rest ++ live.Element n now parts ∷ placed) s (worn new now same d)) once

  pub el-whole : (new last : State) (now now' : Own) (parts' : List Live) (rest' placed' : List Live) → now.name ≡ own.name → Dresses mid new (name_of n) (element_of own) (element_of now) → Becomes new last (name_of n) None parts parts' → now' ≡ now
      → rest' ≡ rest → placed' ≡ live.Element n now' parts' ∷ placed → Becomes old last above end xs (rest' ++ placed')
  el-whole new last now now' parts' rest' placed' same d inner e left is =
      let all = Becomes-then old new last above end xs (rest ++ live.Element n now parts ∷ placed) (rest ++ live.Element n now parts' ∷ placed) (worn new now same d) (outside new last above end rest placed n now parts parts' inner) in
      subst (λ (ys : List Live). Becomes old last above end xs ys) (λ i. sym left i ++ (ap (λ o. live.Element n o parts' ∷ placed) (sym e) ∙ sym is) i) all

-- nothing was placed before
pub shown-alone : (now nodes : List Node) (placed : List Live) → now ≡ nodes ++ plainly_all placed → placed ≡ [] → now ≡ nodes
shown-alone now nodes placed e none = e ∙ (ap (λ z. nodes ++ plainly_all z) none ∙ (ap (λ z. nodes ++ z) plainly-nil ∙ append-nil nodes))
