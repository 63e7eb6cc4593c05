-- What nodes ask for is flat.
use Rattle.std.proofs.Common.{◌≡◌, List, [], ◌∷◌, ◌++◌, map, ap, sym, ◌∙◌, subst}
use Rattle.sv_document.specs.declared.tree.Node.{Node, Node-F, roll-Node, map-Node, fold-roll-Node, ind-Node}
use Rattle.sv_live.specs.Shown.{flat, flat_all}
use Rattle.sv_live.specs.declared.node.Node.{Node as Wanted}
use Rattle.sv_live.specs.declared.node.Node.TheVariants as wanted
use Rattle.sv_live.proofs.Plain.{flat-Text, flat-Element, flat-nil, flat-cons}
use Rattle.sv_follow.specs.Outline.{own_of, outlined, outline_one, outline}

abbrev IsFlat : Node → Type 0
IsFlat n = flat (outline_one n) ≡ outline_one n ∷ []

abbrev Claimed : Type 0
Claimed = (n : Node) × IsFlat n

abbrev nodes_of : List Claimed → List Node
nodes_of cs = map (λ (c : Claimed). c.0) cs

flat-list : (cs : List Claimed) → flat_all (map outline_one (nodes_of cs)) ≡ map outline_one (nodes_of cs)
flat-list [] = flat-nil
flat-list (c ∷ cs) = flat-cons (outline_one c.0) (map outline_one (nodes_of cs)) ∙ (λ i. c.1 i ++ flat-list cs i)

flat-form : (y : Node-F Claimed) → flat (outlined (map-Node _ _ outline_one (map-Node _ _ (λ (c : Claimed). c.0) y))) ≡ outlined (map-Node _ _ outline_one (map-Node _ _ (λ (c : Claimed). c.0) y)) ∷ []
flat-form (Node-F.Element e cs) = flat-Element (own_of e) (map outline_one (nodes_of cs)) ∙ ap (λ z. wanted.Element (own_of e) z ∷ []) (flat-list cs)
flat-form (Node-F.Text mark text) = flat-Text mark text

flat-rolled : (y : Node-F Claimed) → IsFlat (roll-Node (map-Node _ _ (λ (c : Claimed). c.0) y))
flat-rolled y = subst (λ (w : Wanted). flat w ≡ w ∷ []) (sym (fold-roll-Node Wanted outlined (map-Node _ _ (λ (c : Claimed). c.0) y))) (flat-form y)

flat-one : (n : Node) → IsFlat n
flat-one = ind-Node IsFlat (λ x y is. subst (λ z. IsFlat (roll-Node z)) is (flat-rolled y))

pub flat-outline : (ns : List Node) → flat_all (outline ns) ≡ outline ns
flat-outline [] = flat-nil
flat-outline (n ∷ ns) = flat-cons (outline_one n) (outline ns) ∙ (λ i. flat-one n i ++ flat-outline ns i)
