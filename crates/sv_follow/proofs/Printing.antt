-- The text of a page that shows nodes is the text of the nodes.
use Rattle.std.proofs.Common.{◌≡◌, ◌+◌, ℕ, List, [], ◌∷◌, ◌++◌, map, false, Option, refl, ap, sym, ◌∙◌, subst, arith, append-nil}
use Rattle.std.specs.Prelude.{◌==◌, None, Some, if◌then◌else◌}
use Rattle.std.specs.List.{AllByRecursion}
use Rattle.std.proofs.lemmas.Bool.{eq-eqb}
use Rattle.sv_document.specs.Element.{Element}
use Rattle.sv_document.specs.Printed.{joined as texts_joined, form_html, node_html, html as nodes_html}
use Rattle.sv_document.specs.Shown.{shape_of}
use Rattle.sv_document.specs.declared.tree.Node.{Node, Node-F, roll-Node, map-Node, fold-roll-Node, ind-Node}
use Rattle.sv_html.specs.Html.{html, token_html, start_html, end_html, numbered_text_html}
use Rattle.sv_tokens.specs.Counting.{one, times}
use Rattle.sv_tokens.specs.Token.{Name, named, Element as Shape, Token, Open, Close, Page}
use Rattle.sv_tokens.specs.Replay.{bare}
use Rattle.sv_tokens.specs.Seen.{Start, seen, starts, IsNumbered}
use Rattle.sv_tokens.specs.declared.element.Attribute.{Attribute}
use Rattle.sv_tokens.proofs.Counting.{times-append, none-first}
use Rattle.sv_tokens.proofs.Seen.{seen-append}
use Rattle.sv_dom.proofs.Printing.{html-append}
use Rattle.sv_commit.specs.Root.{IsPage}
use Rattle.sv_live.specs.Attributes.{IsAscending}
use Rattle.sv_live.specs.Shown.{Numbers, Drawn, name_of, element_of, joined, draw, drawn, drawn_all, plain, plainly, plainly_all}
use Rattle.sv_live.specs.declared.live.Live.{Live, Live-F, out-Live, map-Live}
use Rattle.sv_live.specs.declared.node.Own.{Own}
use Rattle.sv_live.specs.declared.node.Node.{Node as Wanted}
use Rattle.sv_live.proofs.Ascending.{ascending-by_slot}
use Rattle.sv_live.proofs.Shown.{drawn-out}
use Rattle.sv_follow.specs.Outline.{own_of, outlined, outline_one, outline}
use Rattle.sv_follow.specs.Slotted.{Worn, all_worn, worn_in, worn_by, AreSlotted}
use Rattle.sv_follow.proofs.Wanted.{first-same, rest-same, none-same, own-same, parts-same, text-same, text-element, hole-element, hole-text, plainly-out}

-- ---- lists in two parts

all-left : (xs ys : Worn) → AllByRecursion IsAscending (xs ++ ys) → AllByRecursion IsAscending xs
all-left [] ys all = tt
all-left (x ∷ xs) ys all = (all.0, all-left xs ys all.1)

all-right : (xs ys : Worn) → AllByRecursion IsAscending (xs ++ ys) → AllByRecursion IsAscending ys
all-right [] ys all = all
all-right (x ∷ xs) ys all = all-right xs ys all.1

-- none of the tokens begins the page itself
abbrev IsBelow : List Token → Type 0
IsBelow tokens = times (starts 0) (seen tokens) ≡ 0

below-both : (xs ys : List Token) → times (starts 0) (seen (xs ++ ys)) ≡ times (starts 0) (seen xs) + times (starts 0) (seen ys)
below-both xs ys = ap (times (starts 0)) (seen-append xs ys) ∙ times-append (starts 0) (seen xs) (seen ys)

below-left : (xs ys : List Token) → IsBelow (xs ++ ys) → IsBelow xs
below-left xs ys below = let both = below-both xs ys in omega (arith, both, below)

below-right : (xs ys : List Token) → IsBelow (xs ++ ys) → IsBelow ys
below-right xs ys below = let both = below-both xs ys in omega (arith, both, below)

-- ---- each node

-- what shows a node is printed as the node
abbrev Prints : Node → Type 0
Prints n = (numbers : Numbers) (above : Name) (l : Live) → plainly l ≡ outline_one n → AllByRecursion IsAscending (worn_by n) → IsBelow (drawn numbers l above) → html false (drawn numbers l above) ≡ node_html None n

abbrev Claimed : Type 0
Claimed = (n : Node) × Prints n

abbrev nodes_of : List Claimed → List Node
nodes_of cs = map (λ (c : Claimed). c.0) cs

prints-list : (cs : List Claimed) (numbers : Numbers) (above : Name) (ls : List Live) → map plainly ls ≡ map outline_one (nodes_of cs) → AllByRecursion IsAscending (all_worn (map worn_by (nodes_of cs))) → IsBelow (joined (map (drawn numbers) ls) above)
    → html false (joined (map (drawn numbers) ls) above) ≡ texts_joined (map (node_html None) (nodes_of cs))
prints-list [] numbers above [] same slotted below = refl
prints-list [] numbers above (l ∷ ls) same slotted below = absurd (none-same (plainly l) (map plainly ls) (sym same))
prints-list (c ∷ cs) numbers above [] same slotted below = absurd (none-same (outline_one c.0) (map outline_one (nodes_of cs)) same)
prints-list (c ∷ cs) numbers above (l ∷ ls) same slotted below =
    let own = drawn numbers l above in
    let rest = joined (map (drawn numbers) ls) above in
    let here = c.1 numbers above l (first-same (plainly l) (outline_one c.0) (map plainly ls) (map outline_one (nodes_of cs)) same) (all-left (worn_by c.0) (all_worn (map worn_by (nodes_of cs))) slotted) (below-left own rest below) in
    let more = prints-list cs numbers above ls (rest-same (plainly l) (outline_one c.0) (map plainly ls) (map outline_one (nodes_of cs)) same) (all-right (worn_by c.0) (all_worn (map worn_by (nodes_of cs))) slotted) (below-right own rest below) in
    html-append false own rest ∙ (λ i. here i ++ more i)

-- what an element shows with other attributes
abbrev shape_with : Element → List Attribute → Shape
shape_with e attributes = record { name = e.name; attributes = attributes; typed = e.typed }

-- an element round its children
element-prints : (e : Element) (own : Own) (above node : Name) (number : Option ℕ) (inner : List Token) (text : List ℕ) → own ≡ own_of e → IsAscending e.attributes
    → IsBelow (Open node above number (element_of own) ∷ (inner ++ (Close node own.name ∷ []))) → (IsBelow inner → html false inner ≡ text)
    → html false (Open node above number (element_of own) ∷ (inner ++ (Close node own.name ∷ []))) ≡ start_html None (shape_of e) ++ (text ++ end_html e.name)
element-prints e own above node number inner text is ascending below prints =
    let last = Close node own.name ∷ [] in
    let apart : (node.serial == 0) ≡ false = none-first (starts 0) (Start node.serial above.serial (element_of own)) (seen (inner ++ last)) below in
    let under : IsBelow (inner ++ last) = omega (arith, below) in
    let shape : element_of own ≡ shape_of e = ap element_of is ∙ ap (shape_with e) (ascending-by_slot e.attributes ascending) in
    let name : own.name ≡ e.name = ap (λ (o : Own). o.name) is in
    let opening : token_html false (Open node above number (element_of own)) ≡ start_html None (shape_of e) = (λ i. if apart i then [] else start_html None (shape i)) in
    let closing : html false last ≡ end_html e.name = append-nil (token_html false (Close node own.name)) ∙ (λ i. if apart i then [] else end_html (name i)) in
    let within = prints (below-left inner last under) in
    (λ i. opening i ++ (html-append false inner last ∙ (λ j. within j ++ closing j)) i)

prints-form : (y : Node-F Claimed) (numbers : Numbers) (above : Name) (z : Live-F Live) → plain (map-Live _ _ plainly z) ≡ outlined (map-Node _ _ outline_one (map-Node _ _ (λ (c : Claimed). c.0) y))
    → AllByRecursion IsAscending (worn_in (map-Node _ _ worn_by (map-Node _ _ (λ (c : Claimed). c.0) y))) → IsBelow (draw numbers (map-Live _ _ (drawn numbers) z) above)
    → html false (draw numbers (map-Live _ _ (drawn numbers) z) above) ≡ form_html None (map-Node _ _ (node_html None) (map-Node _ _ (λ (c : Claimed). c.0) y))
prints-form (Node-F.Element e cs) numbers above (Live-F.Element n own parts) same slotted below =
    element-prints e own above (name_of n) (numbers n.serial) (joined (map (drawn numbers) parts) (name_of n)) (texts_joined (map (node_html None) (nodes_of cs))) (own-same own (own_of e) (map plainly parts) (map outline_one (nodes_of cs)) same) slotted.0
    below (prints-list cs numbers (name_of n) parts (parts-same own (own_of e) (map plainly parts) (map outline_one (nodes_of cs)) same) slotted.1)
prints-form (Node-F.Element e cs) numbers above (Live-F.Text m n text) same slotted below = absurd (text-element m text (own_of e) (map outline_one (nodes_of cs)) same)
prints-form (Node-F.Element e cs) numbers above (Live-F.Hole place anchor parts) same slotted below = absurd (hole-element place (own_of e) (map outline_one (nodes_of cs)) same)
prints-form (Node-F.Text mark text) numbers above (Live-F.Element n own parts) same slotted below = absurd (text-element mark text own (map plainly parts) (sym same))
prints-form (Node-F.Text mark text) numbers above (Live-F.Text m n t) same slotted below = append-nil (numbered_text_html None t) ∙ ap (numbered_text_html None) (text-same m mark t text same)
prints-form (Node-F.Text mark text) numbers above (Live-F.Hole place anchor parts) same slotted below = absurd (hole-text place mark text same)

prints-rolled : (y : Node-F Claimed) → Prints (roll-Node (map-Node _ _ (λ (c : Claimed). c.0) y))
prints-rolled y numbers above l same slotted below =
    let x = map-Node _ _ (λ (c : Claimed). c.0) y in
    let shows = ap (λ (f : Drawn). f above) (drawn-out numbers l) in
    let asked = sym (plainly-out l) ∙ (same ∙ fold-roll-Node Wanted outlined x) in
    ap (html false) shows ∙ (prints-form y numbers above (out-Live l) asked (subst (AllByRecursion IsAscending) (fold-roll-Node Worn worn_in x) slotted) (subst IsBelow shows below) ∙ sym (fold-roll-Node (List ℕ) (form_html None) x))

prints-one : (n : Node) → Prints n
prints-one = ind-Node Prints (λ x y is. subst (λ z. Prints (roll-Node z)) is (prints-rolled y))

-- ---- whole pages

abbrev claimed : List Node → List Claimed
claimed [] = []
claimed (n ∷ ns) = (n, prints-one n) ∷ claimed ns

claimed-nodes : (ns : List Node) → nodes_of (claimed ns) ≡ ns
claimed-nodes [] = refl
claimed-nodes (n ∷ ns) = ap (λ rest. n ∷ rest) (claimed-nodes ns)

prints-all : (ns : List Node) (numbers : Numbers) (above : Name) (ls : List Live) → plainly_all ls ≡ outline ns → AreSlotted ns → IsBelow (drawn_all numbers ls above) → html false (drawn_all numbers ls above) ≡ nodes_html None ns
unfolding plainly_all drawn_all
prints-all ns numbers above ls =
    subst (λ (z : List Node). map plainly ls ≡ map outline_one z → AllByRecursion IsAscending (all_worn (map worn_by z)) → IsBelow (joined (map (drawn numbers) ls) above) → html false (joined (map (drawn numbers) ls) above) ≡ texts_joined (map (node_html None) z)) (claimed-nodes ns)
    (prints-list (claimed ns) numbers above ls)

pub printed-page : (page : Page) (lives : List Live) (ns : List Node) → IsPage page lives → plainly_all lives ≡ outline ns → IsNumbered (seen page.tokens) page.next → AreSlotted ns → html false page.tokens ≡ nodes_html None ns
printed-page page lives ns is shows numbered slotted =
    let root = named 0 0 in
    let inner = drawn_all is.numbers lives root in
    let last = Close root [] ∷ [] in
    let same = eq-eqb 0 0 refl in
    let once = numbered.once 0 in
    let all = ap (λ tokens. times (starts 0) (seen tokens)) is.tokens in
    let first = ap one same in
    let under : IsBelow (inner ++ last) = omega (arith, once, all, first) in
    let opening : token_html false (Open root root (Some 0) (bare [])) ≡ [] = ap (λ b. if b then [] else start_html None (bare [])) same in
    let closing : html false last ≡ [] = ap (λ b. (if b then [] else end_html []) ++ []) same in
    let within = prints-all ns is.numbers root lives shows slotted (below-left inner last under) in
    ap (html false) is.tokens ∙ ((λ i. opening i ++ (html-append false inner last ∙ (λ j. within j ++ closing j)) i) ∙ append-nil (nodes_html None ns))
