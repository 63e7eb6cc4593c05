-- What is shown, and what is to be shown, node by node.
use Rattle.std.proofs.Common.{◌≡◌, ◌<◌, ◌+◌, ◌-◌, ℕ, List, [], ◌∷◌, ◌++◌, length, drop, get_or, refl, ap, sym, ◌∙◌, arith, append_assoc}
use Rattle.std.proofs.lemmas.List.{drop_more, drop_all}
use Rattle.sv_live.specs.declared.live.Named.{Named}
use Rattle.sv_live.specs.declared.live.Live.{Live, out-Live, fold_out-Live, map-Live}
use Rattle.sv_live.specs.declared.live.Live.TheVariants as live
use Rattle.sv_live.specs.declared.node.Own.{Own}
use Rattle.sv_live.specs.declared.node.Node.{Node, out-Node, fold_out-Node, map-Node}
use Rattle.sv_live.specs.declared.node.Node.TheVariants as node
use Rattle.sv_live.specs.Shown.{plain, plainly, plainly_all, opened, flat, flat_all}

plainly-out : (l : Live) → plainly l ≡ plain (map-Live _ _ plainly (out-Live l))
unfolding plainly
plainly-out l = fold_out-Live Node plain l

pub plainly-nil : plainly_all [] ≡ []
unfolding plainly_all
plainly-nil = refl

pub plainly-Text : (mark : ℕ) (n : Named) (text : List ℕ) (rest : List Live) → plainly_all (live.Text mark n text ∷ rest) ≡ node.Text mark text ∷ plainly_all rest
unfolding plainly_all
plainly-Text mark n text rest = ap (λ z. z ∷ plainly_all rest) (plainly-out (live.Text mark n text) ∙ ap (λ z. plain (map-Live _ _ plainly z)) (live.outs-Text mark n text))

pub plainly-Element : (n : Named) (own : Own) (parts rest : List Live) → plainly_all (live.Element n own parts ∷ rest) ≡ node.Element own (plainly_all parts) ∷ plainly_all rest
unfolding plainly_all
plainly-Element n own parts rest = ap (λ z. z ∷ plainly_all rest) (plainly-out (live.Element n own parts) ∙ ap (λ z. plain (map-Live _ _ plainly z)) (live.outs-Element n own parts))

pub plainly-Hole : (place anchor : ℕ) (parts rest : List Live) → plainly_all (live.Hole place anchor parts ∷ rest) ≡ node.Hole place ∷ plainly_all rest
unfolding plainly_all
plainly-Hole place anchor parts rest = ap (λ z. z ∷ plainly_all rest) (plainly-out (live.Hole place anchor parts) ∙ ap (λ z. plain (map-Live _ _ plainly z)) (live.outs-Hole place anchor parts))

flat-out : (n : Node) → flat n ≡ opened (map-Node _ _ flat (out-Node n))
unfolding flat
flat-out n = fold_out-Node (List Node) opened n

pub flat-Text : (mark : ℕ) (text : List ℕ) → flat (node.Text mark text) ≡ node.Text mark text ∷ []
flat-Text mark text = flat-out (node.Text mark text) ∙ ap (λ z. opened (map-Node _ _ flat z)) (node.outs-Text mark text)

pub flat-Element : (own : Own) (parts : List Node) → flat (node.Element own parts) ≡ node.Element own (flat_all parts) ∷ []
unfolding flat_all
flat-Element own parts = flat-out (node.Element own parts) ∙ ap (λ z. opened (map-Node _ _ flat z)) (node.outs-Element own parts)

pub flat-Hole : (place : ℕ) → flat (node.Hole place) ≡ node.Hole place ∷ []
flat-Hole place = flat-out (node.Hole place) ∙ ap (λ z. opened (map-Node _ _ flat z)) (node.outs-Hole place)

pub flat-Block : (parts : List Node) → flat (node.Block parts) ≡ flat_all parts
unfolding flat_all
flat-Block parts = flat-out (node.Block parts) ∙ ap (λ z. opened (map-Node _ _ flat z)) (node.outs-Block parts)

pub flat-nil : flat_all [] ≡ []
unfolding flat_all
flat-nil = refl

pub flat-cons : (n : Node) (ns : List Node) → flat_all (n ∷ ns) ≡ flat n ++ flat_all ns
unfolding flat_all
flat-cons n ns = refl

-- one more before those behind it
pub flat-more : (ns : List Node) (i : ℕ) (n : Node) (done was : List Node) (now : List Node) → 0 < i → i - 1 < length ns → n ≡ get_or ns (i - 1) n → done ≡ flat_all (drop i ns) ++ was → now ≡ flat n ++ done
    → now ≡ flat_all (drop (i - 1) ns) ++ was
flat-more ns i n done was now some within is had e =
    let back : i - 1 + 1 ≡ i = omega (arith, some) in
    let one : drop (i - 1) ns ≡ n ∷ drop i ns = drop_more ns (i - 1) n within ∙ (λ j. sym is j ∷ drop (back j) ns) in
    e ∙ (ap (λ z. flat n ++ z) had ∙ (sym (append_assoc (flat n) (flat_all (drop i ns)) was) ∙ ap (λ z. z ++ was) (sym (flat-cons n (drop i ns)) ∙ ap flat_all (sym one))))

-- all of them
pub flat-whole : (ns was : List Node) → was ≡ flat_all (drop (length ns) ns) ++ was
flat-whole ns was = sym (ap (λ z. flat_all z ++ was) (drop_all (length ns) ns (omega arith)) ∙ ap (λ z. z ++ was) flat-nil)
