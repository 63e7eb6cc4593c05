-- Where no mark on a way is that of two nodes, none stands twice beside the others there.
use Rattle.std.proofs.Common.{◌≡◌, ◌≤◌, ℕ, List, [], ◌∷◌, ◌++◌, map, Bool, true, false, nat_eq, Option, Some, None, refl, ap, sym, ◌∙◌, subst, arith}
use Rattle.std.specs.Prelude.{◌==◌, if◌then◌else◌}
use Rattle.std.specs.List.{AllByRecursion}
use Rattle.std.specs.Str.{bytes_eq}
use Rattle.std.proofs.lemmas.Bool.{eq-eqb, eqb-true}
use Rattle.sv_document.specs.Marks.{joined, form_marks, node_marks, marks}
use Rattle.sv_document.specs.declared.tree.Node.{Node, Node-F, out-Node, fold_out-Node, map-Node}
use Rattle.sv_follow.proofs.Keeping.{parted, IsAlone, AreAlone}
use Rattle.sv_follow.proofs.Wanted.{first-same, rest-same, none-same, own-same, parts-same, mark-same, text-element, hole-element, hole-text, plainly-out}
use Rattle.sv_follow.specs.Outline.{own_of, outlined, outline_one, outline}
use Rattle.sv_follow.specs.Ways.{Way, to_text, to_element, through, marks_on, IsSingle, IsClear}
use Rattle.sv_live.specs.Known.{by_mark, number_in, answers, known, inside, inside_in}
use Rattle.sv_live.specs.Shown.{plain, plainly, plainly_all}
use Rattle.sv_live.specs.declared.live.Live.{Live, Live-F, out-Live, map-Live}
use Rattle.sv_live.specs.declared.node.Node.{Node as Wanted}
use Rattle.sv_live.specs.declared.node.Own.{Own}
use Rattle.sv_tokens.proofs.Counting.{times-append}
use Rattle.sv_tokens.specs.Counting.{one, times}

marks-out : (n : Node) → node_marks n ≡ form_marks (map-Node _ _ node_marks (out-Node n))
marks-out n = fold_out-Node (List ℕ) form_marks n

-- ---- how often a mark stands

same-mark : (m a b : ℕ) → a ≡ b → one (by_mark a == by_mark m) ≤ one (nat_eq m b)
same-mark m a b e = go (by_mark a == by_mark m) refl
  where
    go : (c : Bool) → (by_mark a == by_mark m) ≡ c → one c ≤ one (nat_eq m b)
    go true h = let s = eqb-true (by_mark a) (by_mark m) h in let w = ap one (eq-eqb m b (omega (arith, s, e))) in omega (arith, w)
    go false h = omega arith

one-form : (m : ℕ) (z : Live-F Live) (y : Node-F Node) → plain (map-Live _ _ plainly z) ≡ outlined (map-Node _ _ outline_one y) → one (number_in z == by_mark m) ≤ times (nat_eq m) (form_marks (map-Node _ _ node_marks y))
one-form m (Live-F.Element n own parts) (Node-F.Element e children) same =
    let s = same-mark m own.mark e.mark (ap (λ (o : Own). o.mark) (own-same own (own_of e) (map plainly parts) (map outline_one children) same)) in omega (arith, s)
one-form m (Live-F.Element n own parts) (Node-F.Text mark text) same = absurd (text-element mark text own (map plainly parts) (sym same))
one-form m (Live-F.Text a n text) (Node-F.Element e children) same = absurd (text-element a text (own_of e) (map outline_one children) same)
one-form m (Live-F.Text a n text) (Node-F.Text mark t) same = let s = same-mark m a mark (mark-same a mark text t same) in omega (arith, s)
one-form m (Live-F.Hole place anchor parts) (Node-F.Element e children) same = absurd (hole-element place (own_of e) (map outline_one children) same)
one-form m (Live-F.Hole place anchor parts) (Node-F.Text mark text) same = absurd (hole-text place mark text same)

one-less : (m : ℕ) (l : Live) (n : Node) → plainly l ≡ outline_one n → one (answers (by_mark m) l) ≤ times (nat_eq m) (node_marks n)
one-less m l n same = subst (λ ms. one (answers (by_mark m) l) ≤ times (nat_eq m) ms) (sym (marks-out n)) (one-form m (out-Live l) (out-Node n) (sym (plainly-out l) ∙ (same ∙ fold_out-Node Wanted outlined n)))

marks-less : (m : ℕ) (ls : List Live) (ns : List Node) → map plainly ls ≡ map outline_one ns → times (answers (by_mark m)) ls ≤ times (nat_eq m) (marks ns)
marks-less m [] ns same = omega arith
marks-less m (l ∷ ls) [] same = absurd (none-same (plainly l) (map plainly ls) (sym same))
marks-less m (l ∷ ls) (n ∷ ns) same =
    let here = one-less m l n (first-same (plainly l) (outline_one n) (map plainly ls) (map outline_one ns) same) in
    let rest = marks-less m ls ns (rest-same (plainly l) (outline_one n) (map plainly ls) (map outline_one ns) same) in
    let all = times-append (nat_eq m) (node_marks n) (marks ns) in
    omega (arith, here, rest, all)

-- ---- what is in an element

-- nodes that are asked for in place of some, with no more marks than others have
record IsInner (lives : List Live) (marks_above : List ℕ) : Type 0 where
  nodes : List Node
  shows : map plainly lives ≡ map outline_one nodes
  less : (m : ℕ) → times (nat_eq m) (marks nodes) ≤ times (nat_eq m) marks_above

no-inner : (above : List ℕ) → IsInner [] above
no-inner above = record { nodes = []; shows = refl; less = λ m. omega arith }

inner-form : (name : List ℕ) (z : Live-F Live) (y : Node-F Node) → plain (map-Live _ _ plainly z) ≡ outlined (map-Node _ _ outline_one y) → IsInner (inside_in name z) (form_marks (map-Node _ _ node_marks y))
inner-form name (Live-F.Text a n text) y same = no-inner _
inner-form name (Live-F.Hole place anchor parts) y same = no-inner _
inner-form name (Live-F.Element n own parts) (Node-F.Text mark text) same = absurd (text-element mark text own (map plainly parts) (sym same))
inner-form name (Live-F.Element n own parts) (Node-F.Element e children) same = go (bytes_eq own.name name)
  where
    go : (b : Bool) → IsInner (if b then parts else []) (e.mark ∷ joined (map node_marks children))
    go true = record { nodes = children; shows = parts-same own (own_of e) (map plainly parts) (map outline_one children) same; less = λ m. omega arith }
    go false = no-inner _

inner-one : (name : List ℕ) (l : Live) (n : Node) → plainly l ≡ outline_one n → IsInner (inside name (Some l)) (node_marks n)
inner-one name l n same = subst (IsInner (inside name (Some l))) (sym (marks-out n)) (inner-form name (out-Live l) (out-Node n) (sym (plainly-out l) ∙ (same ∙ fold_out-Node Wanted outlined n)))

inner-more : (lives : List Live) (xs ys zs : List ℕ) → IsInner lives ys → IsInner lives (xs ++ (ys ++ zs))
inner-more lives xs ys zs inner = record {
  nodes = inner.nodes;
  shows = inner.shows;
  less = λ m. (let less = inner.less m in let a = times-append (nat_eq m) xs (ys ++ zs) in let b = times-append (nat_eq m) ys zs in omega (arith, less, a, b));
}

inner-among : (name : List ℕ) (front : List Live) (l : Live) (back : List Live) (ns : List Node) → map plainly (front ++ l ∷ back) ≡ map outline_one ns → IsInner (inside name (Some l)) (marks ns)
inner-among name [] l back [] same = absurd (none-same (plainly l) (map plainly back) (sym same))
inner-among name [] l back (n ∷ ns) same = inner-more (inside name (Some l)) [] (node_marks n) (marks ns) (inner-one name l n (first-same (plainly l) (outline_one n) (map plainly back) (map outline_one ns) same))
inner-among name (x ∷ front) l back [] same = absurd (none-same (plainly x) (map plainly (front ++ l ∷ back)) (sym same))
inner-among name (x ∷ front) l back (n ∷ ns) same =
    let rest = inner-among name front l back ns (rest-same (plainly x) (outline_one n) (map plainly (front ++ l ∷ back)) (map outline_one ns) same) in
    record { nodes = rest.nodes; shows = rest.shows; less = λ m. (let less = rest.less m in let a = times-append (nat_eq m) (node_marks n) (marks ns) in omega (arith, less, a)) }

-- ---- whole ways

single-less : (nodes inner : List Node) → ((m : ℕ) → times (nat_eq m) (marks inner) ≤ times (nat_eq m) (marks nodes)) → (ms : List ℕ) → AllByRecursion (IsSingle nodes) ms → AllByRecursion (IsSingle inner) ms
single-less nodes inner less [] all = tt
single-less nodes inner less (m ∷ ms) all = let here = less m in let most = all.0 in (omega (arith, here, most), single-less nodes inner less ms all.1)

alone : (mark : ℕ) (ls : List Live) (ns : List Node) → map plainly ls ≡ map outline_one ns → IsSingle ns mark → IsAlone mark ls
alone mark ls ns same single = let less = marks-less mark ls ns same in omega (arith, less, single)

-- what holds of a way inside of nodes that are asked for
abbrev Deeper : Way → Type 0
Deeper way = (ls : List Live) (ns : List Node) → map plainly ls ≡ map outline_one ns → IsClear way ns → AreAlone way ls

alone-through : (mark : ℕ) (name : List ℕ) (way : Way) (ls : List Live) (ns : List Node) → Deeper way → map plainly ls ≡ map outline_one ns → IsSingle ns mark → IsClear way ns → AreAlone way (inside name (known (by_mark mark) ls))
alone-through mark name way ls ns deeper same single clear = go (known (by_mark mark) ls) refl
  where
    go : (o : Option Live) → known (by_mark mark) ls ≡ o → AreAlone way (inside name o)
    go None found = deeper [] [] refl (single-less ns [] (λ m. omega arith) (marks_on way) clear)
    go (Some l) found =
        let p = parted (by_mark mark) ls l found (alone mark ls ns same single) in
        let inner = inner-among name p.front l p.back ns (sym (ap (map plainly) p.is) ∙ same) in
        deeper (inside name (Some l)) inner.nodes inner.shows (single-less ns inner.nodes inner.less (marks_on way) clear)

alone-from : (way : Way) → Deeper way
alone-from (to_text mark) ls ns same clear = alone mark ls ns same clear.0
alone-from (to_element mark name) ls ns same clear = alone mark ls ns same clear.0
alone-from (through mark name way) ls ns same clear = (alone mark ls ns same clear.0, alone-through mark name way ls ns (alone-from way) same clear.0 clear.1)

pub clear-alone : (way : Way) (ls : List Live) (ns : List Node) → plainly_all ls ≡ outline ns → IsClear way ns → AreAlone way ls
unfolding plainly_all
clear-alone way ls ns same clear = alone-from way ls ns same clear
