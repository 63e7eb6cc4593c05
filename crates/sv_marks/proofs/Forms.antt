-- Nodes that are drawn beside shapes have a mark no more often than the shapes weigh: each kind of fragment, and fragments beside one another.
use Rattle.std.proofs.Common.{◌≡◌, ◌≢◌, ℕ, suc, ◌+◌, ◌≤◌, Bool, true, false, nat_eq, List, [], ◌∷◌, ◌++◌, Option, Some, None, unwrap_or, refl, sym, ap, ◌∙◌, arith, append_assoc, subst}
use Rattle.std.specs.Prelude.{slice_get}
use Rattle.std.proofs.lemmas.Bool.{eqb-true}
use Rattle.sv_attributes.specs.Each.{each}
use Rattle.sv_code.specs.Names.{Each}
use Rattle.sv_document.specs.Element.{Element}
use Rattle.sv_document.specs.Marks.{marks, node_marks, form_marks}
use Rattle.sv_document.specs.declared.tree.Node.{Node, fold_out-Node, map-Node}
use Rattle.sv_document.specs.declared.tree.Node.TheVariants as node
use Rattle.sv_fresh.specs.Blocks.{row_parts}
use Rattle.sv_fresh.specs.Fresh.{Drawer, Walker, walked, text_node, shown_text, rows_nodes, list_nodes}
use Rattle.sv_fresh.specs.Sources.{row_items}
use Rattle.sv_marks.proofs.Weights.{weight_of, weights, weights-cons, row_weights, row_weights-cons, layer_in, parts_below, rows_below}
use Rattle.sv_places.proofs.Counting.{count-append}
use Rattle.sv_places.specs.Numbers.{count}
use Rattle.sv_plan.specs.Lists.{Head, row_view}
use Rattle.sv_shapes.specs.Shapes.{Opened, mark_in, text_in, element_in, rows_in, parts_in}
use Rattle.sv_shapes.specs.declared.shape.Row.{Row}
use Rattle.sv_shapes.specs.declared.shape.Shape.{Shape, Shape-F}
use Rattle.sv_tokens.specs.Counting.{one}
use Rattle.sv_value.specs.Value.{Val}
use Rattle.sv_view.specs.Level.{View}

-- ---- marks of nodes

marks_append : (xs ys : List Node) → marks (xs ++ ys) ≡ marks xs ++ marks ys
marks_append [] ys = refl
marks_append (x ∷ xs) ys = ap (λ ms. node_marks x ++ ms) (marks_append xs ys) ∙ sym (append_assoc (node_marks x) (marks xs) (marks ys))

text_marks : (mark : ℕ) (text : List ℕ) → node_marks (node.Text mark text) ≡ mark ∷ []
text_marks mark text = fold_out-Node (List ℕ) form_marks (node.Text mark text) ∙ ap (λ x. form_marks (map-Node _ _ node_marks x)) (node.outs-Text mark text)

element_marks : (e : Element) (nodes : List Node) → node_marks (node.Element e nodes) ≡ e.mark ∷ marks nodes
element_marks e nodes = fold_out-Node (List ℕ) form_marks (node.Element e nodes) ∙ ap (λ x. form_marks (map-Node _ _ node_marks x)) (node.outs-Element e nodes)

-- numbers from a later one on are later numbers
each_later : {A B : Type 0} (f : A → ℕ → List B) (i : ℕ) (xs : List A) → each f (suc i) xs ≡ each (λ x j. f x (suc j)) i xs
each_later f i [] = refl
each_later f i (x ∷ xs) = ap (λ ys. f x (suc i) ++ ys) (each_later f (suc i) xs)

module _ (k : ℕ) (some : k ≢ 0) (at : ℕ → Bool) where
  -- how often the mark stands at nodes
  abbrev pub held : List Node → ℕ
  held nodes = count k (marks nodes)

  held_append : (xs ys : List Node) → held (xs ++ ys) ≡ held xs + held ys
  held_append xs ys = ap (count k) (marks_append xs ys) ∙ count-append k (marks xs) (marks ys)

  -- ---- what is drawn is no heavier than its shapes

  abbrev pub IsDrawn : Drawer → Type 0
  IsDrawn draw = (v : View) (o : Option Shape) → held (draw v o) ≤ weight_of k at o

  abbrev pub IsWalked : Walker → Type 0
  IsWalked walk = (v : View) (shapes : List Shape) → held (walk v shapes) ≤ weights k at shapes

  abbrev pub IsLayer : (View → Opened → List Node) → Type 0
  IsLayer draw = (v : View) (old : Opened) → held (draw v old) ≤ layer_in k at old

  -- fragments beside one another, each by its shape
  pub walked_held : (drawers : List Drawer) → Each IsDrawn drawers → IsWalked (walked drawers)
  walked_held [] h v shapes = omega arith
  walked_held (draw ∷ drawers) h v [] =
      let a = held_append (draw v None) (each (λ (d : Drawer) j. d v (slice_get {X = Shape} [] j)) 1 drawers) in
      let b = ap held (each_later (λ (d : Drawer) j. d v (slice_get {X = Shape} [] j)) 0 drawers) in
      let c = h.0 v None in
      let e = walked_held drawers h.1 v [] in
      omega (arith, a, b, c, e)
  walked_held (draw ∷ drawers) h v (x ∷ shapes) =
      let a = held_append (draw v (Some x)) (each (λ (d : Drawer) j. d v (slice_get (x ∷ shapes) j)) 1 drawers) in
      let b = ap held (each_later (λ (d : Drawer) j. d v (slice_get (x ∷ shapes) j)) 0 drawers) in
      let c = h.0 v (Some x) in
      let e = walked_held drawers h.1 v shapes in
      let w = weights-cons k at x shapes in
      omega (arith, a, b, c, e, w)

  -- ---- texts and elements

  abbrev marked_by : Option ℕ → ℕ
  marked_by None = 0
  marked_by (Some mark) = one (nat_eq k mark)

  -- what has no mark has 0
  mark_counts : (o : Option ℕ) → one (nat_eq k (unwrap_or o 0)) ≤ marked_by o
  mark_counts None = by (nat_eq k 0) refl
    where
      by : (b : Bool) → nat_eq k 0 ≡ b → one b ≤ 0
      by true e = absurd (some (eqb-true k 0 e))
      by false e = omega arith
  mark_counts (Some mark) = omega arith

  text_below : (old : Opened) → marked_by (mark_in old) ≤ layer_in k at old
  text_below None = omega arith
  text_below (Some (Shape-F.Literal mark)) = omega arith
  text_below (Some (Shape-F.Text mark text)) = omega arith
  text_below (Some (Shape-F.Element mark typed states parts)) = omega arith
  text_below (Some (Shape-F.Tag place texts)) = omega arith
  text_below (Some Shape-F.Nothing) = omega arith
  text_below (Some (Shape-F.Slot props parts)) = omega arith
  text_below (Some (Shape-F.If arm parts)) = omega arith
  text_below (Some (Shape-F.Each number rows none)) = omega arith
  text_below (Some (Shape-F.Key state parts)) = omega arith

  element_below : (old : Opened) → marked_by (element_in old) + weights k at (parts_in old) ≤ layer_in k at old
  element_below None = let b = parts_below k at None in omega (arith, b)
  element_below (Some (Shape-F.Literal mark)) = let b = parts_below k at (Some (Shape-F.Literal mark)) in omega (arith, b)
  element_below (Some (Shape-F.Text mark text)) = let b = parts_below k at (Some (Shape-F.Text mark text)) in omega (arith, b)
  element_below (Some (Shape-F.Element mark typed states parts)) = omega arith
  element_below (Some (Shape-F.Tag place texts)) = let b = parts_below k at (Some (Shape-F.Tag place texts)) in omega (arith, b)
  element_below (Some Shape-F.Nothing) = let b = parts_below k at (Some Shape-F.Nothing) in omega (arith, b)
  element_below (Some (Shape-F.Slot props parts)) = omega arith
  element_below (Some (Shape-F.If arm parts)) = omega arith
  element_below (Some (Shape-F.Each number rows none)) = omega arith
  element_below (Some (Shape-F.Key state parts)) = omega arith

  text_held : (o : Option ℕ) (text : List ℕ) → held (text_node o text ∷ []) ≤ marked_by o
  text_held o text = let e : held (text_node o text ∷ []) ≡ one (nat_eq k (unwrap_or o 0)) + 0 = ap (λ ms. count k (ms ++ [])) (text_marks (unwrap_or o 0) text) in let m = mark_counts o in omega (arith, e, m)

  pub literal_held : (text : List ℕ) → IsLayer (λ v old. text_node (mark_in old) text ∷ [])
  literal_held text v old = let a = text_held (mark_in old) text in let b = text_below old in omega (arith, a, b)

  pub show_held : IsLayer (λ v old. shown_text (mark_in old) (text_in old))
  show_held v old = let b = text_below old in by (text_in old) b
    where
      by : (t : Option (List ℕ)) → marked_by (mark_in old) ≤ layer_in k at old → held (shown_text (mark_in old) t) ≤ layer_in k at old
      by None b = omega arith
      by (Some text) b = let a = text_held (mark_in old) text in omega (arith, a, b)

  pub element_held : (e : View → Opened → Element) → ((v : View) (old : Opened) → (e v old).mark ≡ unwrap_or (element_in old) 0) → (walk : Walker) → IsWalked walk →
      IsLayer (λ v old. node.Element (e v old) (walk v (parts_in old)) ∷ [])
  element_held e is walk h v old =
      let nodes = walk v (parts_in old) in
      let a : held (node.Element (e v old) nodes ∷ []) ≡ held nodes + one (nat_eq k (unwrap_or (element_in old) 0)) = by nodes (e v old) (unwrap_or (element_in old) 0) (is v old) in
      let m = mark_counts (element_in old) in
      let w = h v (parts_in old) in
      let b = element_below old in
      omega (arith, a, m, w, b)
    where
      by : (nodes : List Node) (x : Element) (mark : ℕ) → x.mark ≡ mark → held (node.Element x nodes ∷ []) ≡ held nodes + one (nat_eq k mark)
      by nodes x mark same =
          let a = ap (λ ms. count k (ms ++ [])) (element_marks x nodes) in
          let b = count-append k (marks nodes) [] in
          let c = ap (λ m. one (nat_eq k m)) same in
          omega (arith, a, b, c)

  -- ---- content

  pub content_held : (walk : Walker) → IsWalked walk → IsLayer (λ v old. walk v (parts_in old))
  content_held walk h v old = let w = h v (parts_in old) in let b = parts_below k at old in omega (arith, w, b)

  -- ---- rows

  -- each row by its own shapes, whatever its view
  rows_held : (walk : Walker) → IsWalked walk → (view : ℕ → Val → View) (rows : List Row) → held (each (λ x i. walk (view i x) (row_parts (slice_get rows i))) 0 (row_items rows)) ≤ row_weights k at rows
  rows_held walk h view [] = omega arith
  rows_held walk h view (r ∷ rows) =
      let a = held_append (walk (view 0 r.item) r.parts) (each (λ x i. walk (view i x) (row_parts (slice_get (r ∷ rows) i))) 1 (row_items rows)) in
      let b = ap held (each_later (λ x i. walk (view i x) (row_parts (slice_get (r ∷ rows) i))) 0 (row_items rows)) in
      let c = h (view 0 r.item) r.parts in
      let e = rows_held walk h (λ i. view (suc i)) rows in
      let w = row_weights-cons k at r rows in
      omega (arith, a, b, c, e, w)

  -- the rows, or the branch for none
  pub list_held : (h : Head) (body last : Walker) → IsWalked body → IsWalked last → IsLayer (λ v old. list_nodes h body last v old (row_items (rows_in old)))
  list_held h body last b l v old = by (rows_in old) refl
    where
      by : (rows : List Row) → rows_in old ≡ rows → held (list_nodes h body last v old (row_items rows)) ≤ layer_in k at old
      by [] e = content_held last l v old
      by (r ∷ rows) e =
          let a = rows_held body b (λ i x. row_view h 0 i x v) (r ∷ rows) in
          let c = subst (λ rs. held (rows_nodes h body v rs (row_items (r ∷ rows))) ≤ row_weights k at rs) (sym e) a in
          let w = rows_below k at old in
          omega (arith, c, w)
