-- A node is made, and its change tells it.
use Rattle.std.proofs.Common.{◌≡◌, ◌≢◌, ◌≤◌, ◌<◌, ◌+◌, ◌==◌, add-zero, ◌⊎◌, inl, inr, ℕ, zero, suc, List, [], ◌∷◌, ◌++◌, Bool, true, false, Option, Some, refl, ap, sym, ◌∙◌, arith, subst, drop}
use Rattle.std.specs.Prelude.{if◌then◌else◌}
use Rattle.std.proofs.lemmas.Bool.{cases_eq, eq-eqb, ne_eqb}
use Rattle.sv_tokens.specs.Counting.{times, one, Has}
use Rattle.sv_tokens.specs.Token.{Name, Element, Token, Close, begins, opens, name_at, node_of, lacks_number}
use Rattle.sv_tokens.specs.Edit.{Inserted}
use Rattle.sv_tokens.specs.Seen.{seen, view_of, starts, IsNumbered}
use Rattle.sv_tokens.specs.Replay.{replay, made, Gains}
use Rattle.sv_tokens.specs.declared.change.Change.TheVariants.{Make}
use Rattle.sv_tokens.specs.declared.change.What.{What}
use Rattle.sv_tokens.specs.declared.change.What.TheVariants as what
use Rattle.sv_tokens.proofs.Counting.{times-append}
use Rattle.sv_tokens.proofs.Seen.{seen-append, seen-three, IsNumbered-fewer, follows-once, same_view}
use Rattle.sv_tokens.proofs.Replay.{replay-make}
use Rattle.sv_nodes.specs.Nodes.{Kind, element, text, anchor, Cell, Nodes, name_of, opening, start, finish, walk, levels, tokens_of, weight, leaf, first_shown}
use Rattle.sv_nodes.specs.Sound.{AreParts, IsSound}
use Rattle.sv_nodes.specs.Made.{Makes}
use Rattle.sv_nodes.specs.declared.grow.Made.{Made}
use Rattle.sv_nodes.proofs.Around.{around}
use Rattle.sv_nodes.proofs.Growing.{Grown, grown, some}
use Rattle.sv_nodes.proofs.Shown.{fewer-ends, leads-shown}
use Rattle.sv_nodes.proofs.Walk.{begins-own}
use Rattle.sv_dom.specs.Dom.{page_of, IsDom, kind_of_what}

no : false ≡ true → ⊥
no e = cc

-- the name of a node is read where it begins
pub name-here : (key : ℕ) (pre post : List Token) (t : Token) → begins key t ≡ true → times (begins key) (pre ++ (t ∷ post)) ≤ 1 → name_at key (pre ++ (t ∷ post)) ≡ node_of t
name-here key [] post t e once = ap (λ z. if z then node_of t else name_at key post) e
name-here key (s ∷ pre) post t e once = go (begins key s) refl (name-here key pre post t e (omega (arith, once)))
  where
    go : (v : Bool) → begins key s ≡ v → name_at key (pre ++ (t ∷ post)) ≡ node_of t → name_at key (s ∷ (pre ++ (t ∷ post))) ≡ node_of t
    go false other rest = ap (λ z. if z then node_of s else name_at key (pre ++ (t ∷ post))) other ∙ rest
    go true here rest =
        let w = ap one here in
        let v = ap one e in
        let all = times-append (begins key) pre (t ∷ post) in
        absurd (omega (arith, w, v, all, once))

node_of-start : (k : ℕ) (c : Cell) (e : Element) → c.kind ≡ element e → node_of (start k c) ≡ name_of k c
node_of-start k c e kind = ap (λ w. node_of (opening (name_of k c) c.parent c.number w)) kind

-- the name of an element is that of its node
pub name-element : (at : Nodes) (next k : ℕ) (c : Cell) (e : Element) → IsSound at next → at k ≡ Some c → c.kind ≡ element e → name_at k (tokens_of at) ≡ name_of k c
name-element at next k c e sound here kind =
    let a = around at next k sound (sound.stands k c here) in
    let cell : a.cell ≡ c = some (sym a.here ∙ here) in
    ap (name_at k) a.old ∙ (name-here k a.pre _ (start k a.cell) (begins-own k a.cell) (subst (λ z. times (begins k) z ≤ 1) a.old (sound.once k))
    ∙ (ap (λ (z : Cell). node_of (start k z)) cell ∙ node_of-start k c e kind))

parts-drop : (at : Nodes) (parent : Name) (n : ℕ) (ks : List ℕ) → AreParts at parent ks → AreParts at parent (drop n ks)
parts-drop at parent zero ks parts = parts
parts-drop at parent (suc n) [] parts = tt
parts-drop at parent (suc n) (k ∷ ks) parts = parts-drop at parent n ks parts.1

-- what is seen of a new node
seen-leaf : (key serial : ℕ) (parent : Name) (w : What) → seen (start key (leaf serial parent (kind_of_what w)) ∷ finish key (leaf serial parent (kind_of_what w))) ≡ made serial parent.serial w
seen-leaf key serial parent (what.Element name) = refl
seen-leaf key serial parent (what.Text bytes) = refl

module _ (at at' : Nodes) (next number parent : ℕ) (before : Option ℕ) (kind : Kind) (m : Made) (dom : IsDom at next number) (has : Has (opens parent) (tokens_of at)) (fits : next + weight kind < levels)
    (makes : Makes at at' parent before next kind m) where
  g : Grown at at' next parent m.key before kind makes.adds.cell (drop makes.at makes.adds.cell.children)
  g = grown at at' next parent m.key before kind dom.sound has fits makes.at makes.adds makes.placed

  abbrev above : Name
  above = name_of parent makes.adds.cell

  abbrev own : List Token
  own = start m.key (leaf next above kind) ∷ finish m.key (leaf next above kind)

  abbrev behind : List Token
  behind = walk g.level at (drop makes.at makes.adds.cell.children) ++ (Close above g.e.name ∷ g.post)

  pub made-named : name_at parent (tokens_of at) ≡ above
  made-named = name-element at next parent makes.adds.cell g.e dom.sound makes.adds.was g.shape

  pub made-gains : Gains (page_of at next number) (page_of at' (next + weight kind) number) parent before m.key
      (start m.key (leaf next (name_at parent (tokens_of at)) kind) ∷ finish m.key (leaf next (name_at parent (tokens_of at)) kind))
  made-gains = record {
    tokens = subst (λ z. Inserted (tokens_of at) (tokens_of at') parent before (start m.key (leaf next z kind) ∷ finish m.key (leaf next z kind))) (sym made-named) g.tokens;
    fresh = (let n = g.begun m.key in let w = ap one (eq-eqb m.key m.key refl) in let h = g.sound.once m.key in omega (arith, n, w, h));
    number = refl;
  }

  counts : (p : Token → Bool) → times p (tokens_of at') ≡ times p (tokens_of at) + times p own
  counts p =
      let x = ap (times p) g.is ∙ times-append p g.pre (own ++ behind) in
      let y = ap (times p) g.was ∙ times-append p g.pre behind in
      let z = times-append p own behind in
      omega (arith, x, y, z)

  lacking : (w : Kind) → times lacks_number (start m.key (leaf next above w) ∷ finish m.key (leaf next above w)) ≡ weight w
  lacking (element e) = refl
  lacking (text bytes) = refl
  lacking anchor = refl

  seen_old : seen (tokens_of at) ≡ seen g.pre ++ seen behind
  seen_old = ap seen g.was ∙ seen-append g.pre behind

  seen_new : seen (tokens_of at') ≡ seen g.pre ++ (seen own ++ seen behind)
  seen_new = ap seen g.is ∙ seen-three g.pre own behind

  -- how often a node starts, with one more
  begun-element : (s : ℕ) (e : Element) → kind ≡ element e → times (starts s) (seen own) ≡ one (next == s)
  begun-element s e same = ap (λ k. times (starts s) (seen (start m.key (leaf next above k) ∷ finish m.key (leaf next above k)))) same ∙ add-zero (one (next == s))

  begun-text : (s : ℕ) (bytes : List ℕ) → kind ≡ text bytes → times (starts s) (seen own) ≡ one (next == s)
  begun-text s bytes same = ap (λ k. times (starts s) (seen (start m.key (leaf next above k) ∷ finish m.key (leaf next above k)))) same ∙ add-zero (one (next == s))

  begun-anchor : (s : ℕ) → kind ≡ anchor → times (starts s) (seen own) ≡ 0
  begun-anchor s same = ap (λ k. times (starts s) (seen (start m.key (leaf next above k) ∷ finish m.key (leaf next above k)))) same

  started : (s : ℕ) → times (starts s) (seen (tokens_of at')) ≡ times (starts s) (seen (tokens_of at)) + times (starts s) (seen own)
  started s =
      let x = ap (times (starts s)) seen_new ∙ times-append (starts s) (seen g.pre) (seen own ++ seen behind) in
      let y = ap (times (starts s)) seen_old ∙ times-append (starts s) (seen g.pre) (seen behind) in
      let z = times-append (starts s) (seen own) (seen behind) in
      omega (arith, x, y, z)

  one-more : ((s : ℕ) → times (starts s) (seen own) ≡ one (next == s)) → IsNumbered (seen (tokens_of at')) (next + 1)
  one-more own_is = record { once = λ s. once s (cases_eq next s); fresh = fresh }
    where
      once : (s : ℕ) → (next ≡ s) ⊎ (next ≢ s) → times (starts s) (seen (tokens_of at')) ≤ 1
      once s (inl e) = (let c = started s in let o = own_is s in let v = ap one (eq-eqb next s e) in let f = dom.numbered.fresh s (omega (arith, e)) in omega (arith, c, o, v, f))
      once s (inr ne) = (let c = started s in let o = own_is s in let v = ap one (ne_eqb next s ne) in let f = dom.numbered.once s in omega (arith, c, o, v, f))

      fresh : (s : ℕ) → next + 1 ≤ s → times (starts s) (seen (tokens_of at')) ≡ 0
      fresh s late = (let c = started s in let o = own_is s in let v = ap one (ne_eqb next s (λ e. (omega (arith, e, late)))) in let f = dom.numbered.fresh s (omega (arith, late)) in omega (arith, c, o, v, f))

  numbered-by : (w : Kind) → kind ≡ w → IsNumbered (seen (tokens_of at')) (next + weight w)
  numbered-by (element e) same = one-more (λ s. begun-element s e same)
  numbered-by (text bytes) same = one-more (λ s. begun-text s bytes same)
  numbered-by anchor same =
      let still : next ≡ next + 0 = omega arith in
      subst (λ n. IsNumbered (seen (tokens_of at')) n) still (IsNumbered-fewer (seen (tokens_of at)) (seen (tokens_of at')) next (λ s. (let c = started s in let o = begun-anchor s same in omega (arith, c, o))) dom.numbered)

  pub made-dom : IsDom at' (next + weight kind) number
  made-dom = record {
    sound = g.sound;
    numbered = numbered-by kind refl;
    counted = (let c = counts lacks_number in let l = lacking kind in let d = dom.counted in omega (arith, c, l, d));
  }

  pub made-told : (w : What) → kind ≡ kind_of_what w → view_of (page_of at' (next + weight kind) number) ≡ replay (Make next m.above m.follower w) (view_of (page_of at next number))
  made-told w same =
      let shows : seen own ≡ made next above.serial w = ap (λ k. seen (start m.key (leaf next above k) ∷ finish m.key (leaf next above k))) same ∙ seen-leaf m.key next above w in
      let later : next + weight kind ≡ suc next = (let one_is : weight kind ≡ 1 = ap weight same ∙ weighs w in omega (arith, one_is)) in
      let parts = parts-drop at above makes.at makes.adds.cell.children (dom.sound.parts parent makes.adds.cell makes.adds.was) in
      let here = leads-shown g.level at next above g.e.name (drop makes.at makes.adds.cell.children) g.post dom.sound parts g.room in
      let ends_once = (λ (s : ℕ). fewer-ends s levels at (0 ∷ [])) in
      let place_once = follows-once above.serial (first_shown at (drop makes.at makes.adds.cell.children)) next (seen (tokens_of at)) dom.numbered ends_once in
      replay-make (page_of at next number) (page_of at' (next + weight kind) number) g.pre own behind above.serial (first_shown at (drop makes.at makes.adds.cell.children)) w g.was g.is later shows place_once here
      ∙ sym (λ i. replay (Make next (makes.above_is i) (makes.follower_is i) w) (view_of (page_of at next number)))
    where
      weighs : (w : What) → weight (kind_of_what w) ≡ 1
      weighs (what.Element name) = refl
      weighs (what.Text bytes) = refl

  -- nobody sees a new anchor
  pub made-anchor : kind ≡ anchor → view_of (page_of at' (next + weight kind) number) ≡ view_of (page_of at next number)
  made-anchor same =
      let hidden : seen own ≡ [] = ap (λ k. seen (start m.key (leaf next above k) ∷ finish m.key (leaf next above k))) same in
      let still : next + weight kind ≡ next = (let none : weight kind ≡ 0 = ap weight same in omega (arith, none)) in
      same_view (seen (tokens_of at')) (seen (tokens_of at)) (next + weight kind) next (seen_new ∙ (ap (λ z. seen g.pre ++ (z ++ seen behind)) hidden ∙ sym seen_old)) still
