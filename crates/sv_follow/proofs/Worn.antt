-- The attributes of nodes, put together.
use Rattle.std.proofs.Common.{◌≡◌, ℕ, List, [], ◌∷◌, ◌++◌, refl, ap, sym, ◌∙◌, subst, append_assoc, append-nil}
use Rattle.std.specs.List.{AllByRecursion}
use Rattle.sv_document.specs.Element.{Element}
use Rattle.sv_document.specs.declared.tree.Node.{Node, out-Node, fold_out-Node, map-Node}
use Rattle.sv_document.specs.declared.tree.Node.TheVariants as node
use Rattle.sv_live.specs.Attributes.{IsAscending}
use Rattle.sv_follow.specs.Slotted.{Worn, worn_in, worn_by, worn, AreSlotted}

all-append : (xs ys : Worn) → AllByRecursion IsAscending xs → AllByRecursion IsAscending ys → AllByRecursion IsAscending (xs ++ ys)
all-append [] ys left right = right
all-append (x ∷ xs) ys left right = (left.0, all-append xs ys left.1 right)

worn-append : (xs ys : List Node) → worn (xs ++ ys) ≡ worn xs ++ worn ys
worn-append [] ys = refl
worn-append (x ∷ xs) ys = ap (λ z. worn_by x ++ z) (worn-append xs ys) ∙ sym (append_assoc (worn_by x) (worn xs) (worn ys))

worn-one : (n : Node) → worn (n ∷ []) ≡ worn_by n
worn-one n = append-nil (worn_by n)

worn-out : (n : Node) → worn_by n ≡ worn_in (map-Node _ _ worn_by (out-Node n))
worn-out n = fold_out-Node Worn worn_in n

worn-Text : (mark : ℕ) (text : List ℕ) → worn (node.Text mark text ∷ []) ≡ []
worn-Text mark text = worn-one (node.Text mark text) ∙ (worn-out (node.Text mark text) ∙ ap (λ z. worn_in (map-Node _ _ worn_by z)) (node.outs-Text mark text))

worn-Element : (e : Element) (ns : List Node) → worn (node.Element e ns ∷ []) ≡ e.attributes ∷ worn ns
worn-Element e ns = worn-one (node.Element e ns) ∙ (worn-out (node.Element e ns) ∙ ap (λ z. worn_in (map-Node _ _ worn_by z)) (node.outs-Element e ns))

pub slotted-nil : AreSlotted []
slotted-nil = tt

pub slotted-append : (xs ys : List Node) → AreSlotted xs → AreSlotted ys → AreSlotted (xs ++ ys)
slotted-append xs ys left right = subst (AllByRecursion IsAscending) (sym (worn-append xs ys)) (all-append (worn xs) (worn ys) left right)

pub slotted-Text : (mark : ℕ) (text : List ℕ) → AreSlotted (node.Text mark text ∷ [])
slotted-Text mark text = subst (AllByRecursion IsAscending) (sym (worn-Text mark text)) tt

pub slotted-Element : (e : Element) (ns : List Node) → IsAscending e.attributes → AreSlotted ns → AreSlotted (node.Element e ns ∷ [])
slotted-Element e ns ascending inside = subst (AllByRecursion IsAscending) (sym (worn-Element e ns)) (ascending, inside)
