-- What is asked for, form by form: what two have in common that are the same.
use Rattle.std.proofs.Common.{◌≡◌, ℕ, List, [], ◌∷◌, ap, sym, ◌∙◌}
use Rattle.sv_live.specs.Shown.{plain, plainly}
use Rattle.sv_live.specs.declared.live.Live.{Live, out-Live, fold_out-Live, map-Live}
use Rattle.sv_live.specs.declared.node.Own.{Own}
use Rattle.sv_live.specs.declared.node.Node.{Node, Node-F, out-Node}
use Rattle.sv_live.specs.declared.node.Node.TheVariants as node

pub first-same : (x y : Node) (xs ys : List Node) → x ∷ xs ≡ y ∷ ys → x ≡ y
first-same x y xs ys e = cc

pub rest-same : (x y : Node) (xs ys : List Node) → x ∷ xs ≡ y ∷ ys → xs ≡ ys
rest-same x y xs ys e = cc

pub none-same : (x : Node) (xs : List Node) → [] ≡ x ∷ xs → ⊥
none-same x xs e = cc

-- ---- one layer of two

own-in : (a b : Own) (xs ys : List Node) (other : Node-F Node) → Node-F.Element a xs ≡ other → other ≡ Node-F.Element b ys → a ≡ b
own-in a b xs ys other e f = cc

parts-in : (a b : Own) (xs ys : List Node) (other : Node-F Node) → Node-F.Element a xs ≡ other → other ≡ Node-F.Element b ys → xs ≡ ys
parts-in a b xs ys other e f = cc

mark-in : (m n : ℕ) (s t : List ℕ) (other : Node-F Node) → Node-F.Text m s ≡ other → other ≡ Node-F.Text n t → m ≡ n
mark-in m n s t other e f = cc

text-in : (m n : ℕ) (s t : List ℕ) (other : Node-F Node) → Node-F.Text m s ≡ other → other ≡ Node-F.Text n t → s ≡ t
text-in m n s t other e f = cc

text-element-in : (m : ℕ) (s : List ℕ) (b : Own) (ys : List Node) (other : Node-F Node) → Node-F.Text m s ≡ other → other ≡ Node-F.Element b ys → ⊥
text-element-in m s b ys other e f = cc

hole-element-in : (k : ℕ) (b : Own) (ys : List Node) (other : Node-F Node) → Node-F.Hole k ≡ other → other ≡ Node-F.Element b ys → ⊥
hole-element-in k b ys other e f = cc

hole-text-in : (k n : ℕ) (t : List ℕ) (other : Node-F Node) → Node-F.Hole k ≡ other → other ≡ Node-F.Text n t → ⊥
hole-text-in k n t other e f = cc

-- ---- two that are the same

pub own-same : (a b : Own) (xs ys : List Node) → node.Element a xs ≡ node.Element b ys → a ≡ b
own-same a b xs ys e = own-in a b xs ys (out-Node (node.Element b ys)) (sym (node.outs-Element a xs) ∙ ap out-Node e) (node.outs-Element b ys)

pub parts-same : (a b : Own) (xs ys : List Node) → node.Element a xs ≡ node.Element b ys → xs ≡ ys
parts-same a b xs ys e = parts-in a b xs ys (out-Node (node.Element b ys)) (sym (node.outs-Element a xs) ∙ ap out-Node e) (node.outs-Element b ys)

pub mark-same : (m n : ℕ) (s t : List ℕ) → node.Text m s ≡ node.Text n t → m ≡ n
mark-same m n s t e = mark-in m n s t (out-Node (node.Text n t)) (sym (node.outs-Text m s) ∙ ap out-Node e) (node.outs-Text n t)

pub text-same : (m n : ℕ) (s t : List ℕ) → node.Text m s ≡ node.Text n t → s ≡ t
text-same m n s t e = text-in m n s t (out-Node (node.Text n t)) (sym (node.outs-Text m s) ∙ ap out-Node e) (node.outs-Text n t)

pub text-element : (m : ℕ) (s : List ℕ) (b : Own) (ys : List Node) → node.Text m s ≡ node.Element b ys → ⊥
text-element m s b ys e = text-element-in m s b ys (out-Node (node.Element b ys)) (sym (node.outs-Text m s) ∙ ap out-Node e) (node.outs-Element b ys)

pub hole-element : (k : ℕ) (b : Own) (ys : List Node) → node.Hole k ≡ node.Element b ys → ⊥
hole-element k b ys e = hole-element-in k b ys (out-Node (node.Element b ys)) (sym (node.outs-Hole k) ∙ ap out-Node e) (node.outs-Element b ys)

pub hole-text : (k n : ℕ) (t : List ℕ) → node.Hole k ≡ node.Text n t → ⊥
hole-text k n t e = hole-text-in k n t (out-Node (node.Text n t)) (sym (node.outs-Hole k) ∙ ap out-Node e) (node.outs-Text n t)

-- ---- what is shown

pub plainly-out : (l : Live) → plainly l ≡ plain (map-Live _ _ plainly (out-Live l))
unfolding plainly
plainly-out l = fold_out-Live Node plain l
