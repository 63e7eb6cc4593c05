-- A component with a `<slot>` has a cell for the owner's view, and its name stands for that.
use Rattle.std.proofs.Common.{◌≡◌, ℕ, zero, suc, Bool, true, false, List, [], ◌∷◌, ◌++◌, Option, None, Some, map, option_map, take, drop, refl, sym, ap, subst, ◌∙◌, is_some, true≢false}
use Rattle.std.specs.Prelude.{◌||◌, not, if◌then◌else◌}
use Rattle.std.proofs.lemmas.Bool.{and_right}
use Rattle.std.proofs.lemmas.List.Folds.{list_any-append}
use Rattle.std.proofs.lemmas.Option.{none-some}
use Rattle.sv_ast.specs.declared.files.Component.{Component}
use Rattle.sv_ast.specs.declared.markup_tree.Branch.{Branch, Branch-F, roll-Branch, map-Branch, fold-roll-Branch}
use Rattle.sv_ast.specs.declared.markup_tree.Markup.{Markup, Markup-F, roll-Markup, map-Markup, fold-roll-Markup, ind-Markup}
use Rattle.sv_ast.specs.declared.markup_tree.TagAttr.{TagAttr}
use Rattle.sv_ast.specs.declared.names.Ref.{Ref}
use Rattle.sv_code.specs.declared.known.Known.{Known}
use Rattle.sv_code.specs.declared.known.Known.TheVariants as known
use Rattle.sv_lower.specs.Tops.{known_in, with_known, with_all}
use Rattle.sv_names.proofs.Same.{same_ref-true, same_ref-self, has-append, has-head}
use Rattle.sv_names.specs.Distinct.{same_ref, has}
use Rattle.sv_resolve.specs.Cells.{uses_view, variables, stores, scopes}
use Rattle.sv_scopes.specs.declared.scope.Declared.{Declared}
use Rattle.sv_scopes.specs.declared.scope.TheConstants.{VIEW}
use Rattle.sv_scopes.specs.declared.scope.Use.{Use}
use Rattle.sv_ast.specs.declared.names.Named.{Named}
use Rattle.sv_ast.specs.declared.script_tree.Expr.{Expr}
use Rattle.std.specs.Option.{option_to_list}
use Rattle.sv_scopes.specs.Attributes.{is_slotted, attributes, lets, reading}
use Rattle.sv_scopes.specs.Script.{alone, expr_parts, given, locals}
use Rattle.sv_scopes.specs.Files.{before, markup, script, component_scopes}
use Rattle.sv_scopes.specs.Markup as scopes_of
use Rattle.sv_scopes.specs.Markup.{Node, nodes, tag, tag_use, content, around_default, row}
use Rattle.sv_scopes.specs.Parts.{Parts, nothing, followed, in_turn, using_name, declaring, names_of, is_of, free, seen, handed, closed, scope}
use Rattle.sv_base.specs.Names.{Table}
use Rattle.sv_compile.specs.declared.constants.Given.{Given}
use Rattle.sv_compile.specs.TopLevel.{cells_from, given_name, all_built, tops}
use Rattle.sv_within.proofs.Bools.{or_cases, or_first, or_second}
use Rattle.sv_within.proofs.Telling.{free_of}
use Rattle.sv_within.specs.Slots as slots
use Rattle.sv_within.specs.Slots.{any, if_any, has_slot, branch_has_slot, have_slot}

-- where a test is passed, the view is used
abbrev UsesIf : Bool → Parts → Type 0
UsesIf b p = b ≡ true → uses_view p.uses ≡ true

-- ---- parts

uses_append : (a b : List Use) → uses_view (a ++ b) ≡ (uses_view a || uses_view b)
uses_append a b = list_any-append (λ (u : Use). same_ref u.name VIEW) a b

uses_first : (p q : Parts) → uses_view p.uses ≡ true → uses_view (followed p q).uses ≡ true
uses_first p q h = uses_append p.uses q.uses ∙ or_first (uses_view p.uses) (uses_view q.uses) h

uses_second : (p q : Parts) → uses_view q.uses ≡ true → uses_view (followed p q).uses ≡ true
uses_second p q h = uses_append p.uses q.uses ∙ or_second (uses_view p.uses) (uses_view q.uses) h

-- the owner's view is none of the names that a scope declares
view_is_free : (names : List Ref) (u : Use) → has VIEW names ≡ false → same_ref u.name VIEW ≡ true → is_of names u ≡ false
view_is_free names u h same = and_right (not _) (has u.name names) (subst (λ (n : Ref). has n names ≡ false) (sym (same_ref-true u.name VIEW same)) h)

handed_uses : (names : List Ref) (uses : List Use) → has VIEW names ≡ false → uses_view uses ≡ true → uses_view (handed false names uses) ≡ true
handed_uses names [] h used = used
handed_uses names (u ∷ uses) h used = or_cases (same_ref u.name VIEW) (uses_view uses) used
    (λ same. by_kept (is_of names u) (view_is_free names u h same) same)
    (λ later. by_later (is_of names u) (handed_uses names uses h later))
  where
    by_kept : (b : Bool) → b ≡ false → same_ref u.name VIEW ≡ true → uses_view (map (seen false) (if not b then u ∷ free names uses else free names uses)) ≡ true
    by_kept true e same = absurd (true≢false e)
    by_kept false e same = or_first (same_ref u.name VIEW) (uses_view (handed false names uses)) same

    by_later : (b : Bool) → uses_view (handed false names uses) ≡ true → uses_view (map (seen false) (if not b then u ∷ free names uses else free names uses)) ≡ true
    by_later true k = k
    by_later false k = or_second (same_ref u.name VIEW) (uses_view (handed false names uses)) k

plain_names : (ds : List Declared) → has VIEW (names_of ds) ≡ false
plain_names ds = free_of (λ (d : Declared). d.name) ds

scope_uses : (p : Parts) → uses_view p.uses ≡ true → uses_view (scope p).uses ≡ true
unfolding closed
scope_uses p h = handed_uses (names_of p.declares) p.uses (plain_names p.declares) h

-- ---- markup

tag_uses : (attrs : List TagAttr) (p : Parts) → uses_view p.uses ≡ true → uses_view (tag attrs p).uses ≡ true
unfolding tag
tag_uses attrs p h = by (is_slotted attrs)
  where
    by : (b : Bool) → uses_view (if b then scope (followed (declaring (lets attrs)) (followed (attributes attrs) p)) else followed (attributes attrs) p).uses ≡ true
    by true = scope_uses (followed (declaring (lets attrs)) (followed (attributes attrs) p)) (uses_second (declaring (lets attrs)) (followed (attributes attrs) p) (uses_second (attributes attrs) p h))
    by false = uses_second (attributes attrs) p h

-- a node in the content of a component
around_uses : (names : List Declared) (n : Node) → uses_view n.parts.uses ≡ true → uses_view (around_default (names_of names) n).uses ≡ true
around_uses names n h = by n.slotted
  where
    by : (b : Bool) → uses_view (if b then n.parts else record { declares = []; uses = handed false (names_of names) n.parts.uses; scopes = n.parts.scopes }).uses ≡ true
    by true = h
    by false = handed_uses (names_of names) n.parts.uses (plain_names names) h

row_uses : (item : Named) (index : Option Named) (key : Option Expr) (body : Parts) → uses_view body.uses ≡ true → uses_view (row item index key body).uses ≡ true
unfolding row
row_uses item index key body h =
    let front = followed (locals (item ∷ option_to_list index)) (given (option_map expr_parts key)) in scope_uses (followed front body) (uses_second front body h)

-- ---- whole trees

abbrev MarkupUses : Markup → Type 0
MarkupUses x = UsesIf (has_slot x) (scopes_of.node x).parts

abbrev BranchUses : Branch → Type 0
BranchUses x = UsesIf (branch_has_slot x) (scopes_of.branch_parts x)

abbrev KnownNode : Type 0
KnownNode = (x : Markup) × MarkupUses x

abbrev KnownBranch : Type 0
KnownBranch = (x : Branch) × BranchUses x

abbrev bare_nodes : List KnownNode → List Node
bare_nodes list = map scopes_of.node (map (λ p. p.0) list)

abbrev bare_branches : List KnownBranch → List Parts
bare_branches list = map scopes_of.branch_parts (map (λ p. p.0) list)

each_uses : (f : Node → Parts) → ((n : Node) → uses_view n.parts.uses ≡ true → uses_view (f n).uses ≡ true) → (list : List KnownNode)
    → UsesIf (any (map has_slot (map (λ p. p.0) list))) (in_turn (map f (map scopes_of.node (map (λ p. p.0) list))))
each_uses f k [] h = absurd (true≢false (sym h))
each_uses f k (x ∷ list) h =
    let rest = in_turn (map f (map scopes_of.node (map (λ p. p.0) list))) in
    or_cases (has_slot x.0) (any (map has_slot (map (λ p. p.0) list))) h
    (λ own. uses_first (f (scopes_of.node x.0)) rest (k (scopes_of.node x.0) (x.1 own))) (λ more. uses_second (f (scopes_of.node x.0)) rest (each_uses f k list more))

nodes_use : (list : List KnownNode) → UsesIf (any (map has_slot (map (λ p. p.0) list))) (nodes (map scopes_of.node (map (λ p. p.0) list)))
nodes_use = each_uses (λ n. n.parts) (λ n h. h)

content_uses : (names : List Declared) (list : List KnownNode) → UsesIf (any (map has_slot (map (λ p. p.0) list))) (content names (map scopes_of.node (map (λ p. p.0) list)))
unfolding content
content_uses names list h =
    uses_first (in_turn (map (around_default (names_of names)) (bare_nodes list))) nothing (each_uses (around_default (names_of names)) (around_uses names) list h)

branches_use : (list : List KnownBranch) → UsesIf (any (map branch_has_slot (map (λ p. p.0) list))) (in_turn (map scopes_of.branch_parts (map (λ p. p.0) list)))
branches_use [] h = absurd (true≢false (sym h))
branches_use (x ∷ list) h =
    let rest = in_turn (map scopes_of.branch_parts (map (λ p. p.0) list)) in
    or_cases (branch_has_slot x.0) (any (map branch_has_slot (map (λ p. p.0) list))) h
    (λ own. uses_first (scopes_of.branch_parts x.0) rest (x.1 own)) (λ more. uses_second (scopes_of.branch_parts x.0) rest (branches_use list more))

abbrev bare_markup : Markup-F KnownNode KnownBranch → Markup-F Markup Branch
bare_markup = map-Markup KnownNode KnownBranch Markup Branch (λ p. p.0) (λ p. p.0)

abbrev slot_markup : Markup-F Markup Branch → Bool
slot_markup x = slots.markup (map-Markup Markup Branch Bool Bool has_slot branch_has_slot x)

abbrev node_markup : Markup-F Markup Branch → Node
node_markup x = scopes_of.markup (map-Markup Markup Branch Node Parts scopes_of.node scopes_of.branch_parts x)

abbrev bare_branch : Branch-F KnownNode KnownBranch → Branch-F Markup Branch
bare_branch = map-Branch KnownNode KnownBranch Markup Branch (λ p. p.0) (λ p. p.0)

abbrev slot_branch : Branch-F Markup Branch → Bool
slot_branch x = slots.branch (map-Branch Markup Branch Bool Bool has_slot branch_has_slot x)

abbrev parts_branch : Branch-F Markup Branch → Parts
parts_branch x = scopes_of.branch_of (map-Branch Markup Branch Node Parts scopes_of.node scopes_of.branch_parts x)

markup_layer : (y : Markup-F KnownNode KnownBranch) → UsesIf (slot_markup (bare_markup y)) (node_markup (bare_markup y)).parts
markup_layer (Markup-F.Text span text) h = absurd (true≢false (sym h))
markup_layer (Markup-F.Show span e) h = absurd (true≢false (sym h))
markup_layer (Markup-F.Element span name attrs children) h = tag_uses attrs (nodes (bare_nodes children)) (nodes_use children h)
markup_layer (Markup-F.Comp span name attrs children) h =
    let own = if is_slotted attrs then [] else lets attrs in
    let inner = content own (bare_nodes children) in
    uses_second (using_name (tag_use name span)) (tag attrs inner) (tag_uses attrs inner (content_uses own children h))
markup_layer (Markup-F.Slot span name attrs children) h = uses_first (reading VIEW span) (tag attrs (nodes (bare_nodes children))) (or_first (same_ref VIEW VIEW) false (same_ref-self VIEW))
markup_layer (Markup-F.If span arms None) h =
    or_cases (any (map branch_has_slot (map (λ p. p.0) arms))) false h (λ a. uses_first (in_turn (bare_branches arms)) nothing (branches_use arms a)) (λ n. absurd (true≢false (sym n)))
markup_layer (Markup-F.If span arms (Some last)) h =
    let front = in_turn (bare_branches arms) in
    let back = nodes (bare_nodes last) in
    or_cases (any (map branch_has_slot (map (λ p. p.0) arms))) (any (map has_slot (map (λ p. p.0) last))) h (λ a. uses_first front back (branches_use arms a)) (λ l. uses_second front back (nodes_use last l))
markup_layer (Markup-F.Each span list item index key body None) h =
    let front = alone (expr_parts list) in
    let inner = row item index key (nodes (bare_nodes body)) in
    or_cases (any (map has_slot (map (λ p. p.0) body))) false h
    (λ b. uses_first (followed front inner) nothing (uses_second front inner (row_uses item index key (nodes (bare_nodes body)) (nodes_use body b)))) (λ n. absurd (true≢false (sym n)))
markup_layer (Markup-F.Each span list item index key body (Some none)) h =
    let front = alone (expr_parts list) in
    let inner = row item index key (nodes (bare_nodes body)) in
    let back = nodes (bare_nodes none) in
    or_cases (any (map has_slot (map (λ p. p.0) body))) (any (map has_slot (map (λ p. p.0) none))) h
    (λ b. uses_first (followed front inner) back (uses_second front inner (row_uses item index key (nodes (bare_nodes body)) (nodes_use body b)))) (λ n. uses_second (followed front inner) back (nodes_use none n))
markup_layer (Markup-F.Key span e body) h = uses_second (alone (expr_parts e)) (nodes (bare_nodes body)) (nodes_use body h)

branch_layer : (y : Branch-F KnownNode KnownBranch) → UsesIf (slot_branch (bare_branch y)) (parts_branch (bare_branch y))
branch_layer y h = uses_second (alone (expr_parts y.test)) (nodes (bare_nodes y.body)) (nodes_use y.body h)

markup_step : (x : Markup-F Markup Branch) (y : Markup-F KnownNode KnownBranch) → bare_markup y ≡ x → MarkupUses (roll-Markup x)
markup_step x y e =
    subst (λ b. UsesIf b (scopes_of.node (roll-Markup x)).parts) (sym (fold-roll-Markup Bool Bool slots.markup slots.branch x))
    (subst (λ (n : Node). UsesIf (slot_markup x) n.parts) (sym (fold-roll-Markup Node Parts scopes_of.markup scopes_of.branch_of x)) (subst (λ z. UsesIf (slot_markup z) (node_markup z).parts) e (markup_layer y)))

branch_step : (x : Branch-F Markup Branch) (y : Branch-F KnownNode KnownBranch) → bare_branch y ≡ x → BranchUses (roll-Branch x)
branch_step x y e =
    subst (λ b. UsesIf b (scopes_of.branch_parts (roll-Branch x))) (sym (fold-roll-Branch Bool Bool slots.markup slots.branch x))
    (subst (UsesIf (slot_branch x)) (sym (fold-roll-Branch Node Parts scopes_of.markup scopes_of.branch_of x)) (subst (λ z. UsesIf (slot_branch z) (parts_branch z)) e (branch_layer y)))

node_uses : (x : Markup) → MarkupUses x
node_uses = ind-Markup MarkupUses BranchUses markup_step branch_step

markup_uses : (list : List Markup) → UsesIf (have_slot list) (nodes (map scopes_of.node list))
markup_uses [] h = absurd (true≢false (sym h))
markup_uses (x ∷ list) h =
    let rest = nodes (map scopes_of.node list) in
    or_cases (has_slot x) (have_slot list) h (λ own. uses_first (scopes_of.node x).parts rest (node_uses x own)) (λ more. uses_second (scopes_of.node x).parts rest (markup_uses list more))

-- ---- components

-- one among some nodes is among the first of them, or behind those
slot_split : (n : ℕ) (list : List Markup) → have_slot list ≡ true → (have_slot (take n list) || have_slot (drop n list)) ≡ true
slot_split zero list h = h
slot_split (suc n) [] h = h
slot_split (suc n) (x ∷ list) h = or_cases (has_slot x) (have_slot list) h
    (λ own. or_first (has_slot x || have_slot (take n list)) (have_slot (drop n list)) (or_first (has_slot x) (have_slot (take n list)) own))
    (λ more. or_cases (have_slot (take n list)) (have_slot (drop n list)) (slot_split n list more)
    (λ front. or_first (has_slot x || have_slot (take n list)) (have_slot (drop n list)) (or_second (has_slot x) (have_slot (take n list)) front))
    (λ back. or_second (has_slot x || have_slot (take n list)) (have_slot (drop n list)) back))

component_uses : (c : Component) → have_slot c.nodes ≡ true → uses_view (component_scopes c).top.uses ≡ true
component_uses c h =
    let n = before c.script.stmts c.nodes in
    or_cases (have_slot (take n c.nodes)) (have_slot (drop n c.nodes)) (slot_split n c.nodes h)
    (λ front. uses_first (followed (markup (take n c.nodes)) (script c.script)) (markup (drop n c.nodes)) (uses_first (markup (take n c.nodes)) (script c.script) (markup_uses (take n c.nodes) front)))
    (λ back. uses_second (followed (markup (take n c.nodes)) (script c.script)) (markup (drop n c.nodes)) (markup_uses (drop n c.nodes) back))

-- a component with a `<slot>` has the owner's view among its cells
pub view_is_cell : (c : Component) → have_slot c.nodes ≡ true → has VIEW (scopes (component_scopes c).top).cells ≡ true
view_is_cell c h =
    let top = (component_scopes c).top in
    let own = variables top.declares in
    let others = stores top.uses in
    let view = if uses_view top.uses then VIEW ∷ [] else [] in
    let there : has VIEW view ≡ true = ap (λ b. has VIEW (if b then VIEW ∷ [] else [])) (component_uses c h) ∙ has-head VIEW VIEW [] refl in
    has-append VIEW (own ++ others) view ∙ or_second (has VIEW (own ++ others)) (has VIEW view) there

-- ---- what names stand for

-- a name stands for a cell
pub record IsCell (ks : List (Ref × Known)) (name : Ref) : Type 0 where
  pub cell : ℕ
  pub is : known_in ks name ≡ Some (known.Cell cell)

front_known : (ks more : List (Ref × Known)) (name : Ref) (v : Known) → known_in ks name ≡ Some v → known_in (ks ++ more) name ≡ Some v
front_known [] more name v h = absurd (none-some v h)
front_known (k ∷ ks) more name v h = by (same_ref name k.0) (front_known ks more name v) h
  where
    by : (b : Bool) → (known_in ks name ≡ Some v → known_in (ks ++ more) name ≡ Some v) → (if b then Some k.1 else known_in ks name) ≡ Some v → (if b then Some k.1 else known_in (ks ++ more) name) ≡ Some v
    by true f e = e
    by false f e = f e

behind_known : (ks more : List (Ref × Known)) (name : Ref) → known_in ks name ≡ None → known_in (ks ++ more) name ≡ known_in more name
behind_known [] more name h = refl
behind_known (k ∷ ks) more name h = by (same_ref name k.0) (behind_known ks more name) h
  where
    by : (b : Bool) → (known_in ks name ≡ None → known_in (ks ++ more) name ≡ known_in more name) → (if b then Some k.1 else known_in ks name) ≡ None → (if b then Some k.1 else known_in (ks ++ more) name) ≡ known_in more name
    by true f e = absurd (none-some k.1 (sym e))
    by false f e = f e

all_still : (ks more : List (Ref × Known)) (name : Ref) (v : Known) → known_in ks name ≡ Some v → known_in (with_all ks more) name ≡ Some v
all_still ks [] name v h = h
all_still ks (k ∷ more) name v h = all_still (with_known ks k) more name v (by (is_some (known_in ks k.0)))
  where
    by : (b : Bool) → known_in (if b then ks else ks ++ k ∷ []) name ≡ Some v
    by true = h
    by false = front_known ks (k ∷ []) name v h

-- what another name stands for doesn't count
other_known : (ks : List (Ref × Known)) (name c : Ref) (v : Known) → known_in ks name ≡ None → same_ref name c ≡ false → known_in (with_known ks (c, v)) name ≡ None
other_known ks name c v none d = by (is_some (known_in ks c))
  where
    by : (b : Bool) → known_in (if b then ks else ks ++ (c, v) ∷ []) name ≡ None
    by true = none
    by false = behind_known ks ((c, v) ∷ []) name none ∙ ap (λ b. if b then Some v else None) d

-- a name that stands for nothing stands for what it is given
new_known : (ks : List (Ref × Known)) (name c : Ref) (v : Known) → known_in ks name ≡ None → same_ref name c ≡ true → known_in (with_known ks (c, v)) name ≡ Some v
new_known ks name c v none e =
    let new : is_some (known_in ks c) ≡ false = ap (λ z. is_some (known_in ks z)) (sym (same_ref-true name c e)) ∙ ap is_some none in
    ap (λ b. known_in (if b then ks else ks ++ (c, v) ∷ []) name) new ∙ (behind_known ks ((c, v) ∷ []) name none ∙ ap (λ b. if b then Some v else None) e)

-- the first cell of a name
cell_in : (n : ℕ) (ks : List (Ref × Known)) (cells : List Ref) (more : List (Ref × Known)) (name : Ref) → known_in ks name ≡ None → has name cells ≡ true → IsCell (with_all ks (cells_from n cells ++ more)) name
cell_in n ks [] more name none h = absurd (true≢false (sym h))
cell_in n ks (c ∷ cells) more name none h = by (same_ref name c) refl (λ later there. cell_in (suc n) (with_known ks (c, known.Cell n)) cells more name later there) h
  where
    by : (b : Bool) → same_ref name c ≡ b → (known_in (with_known ks (c, known.Cell n)) name ≡ None → has name cells ≡ true → IsCell (with_all (with_known ks (c, known.Cell n)) (cells_from (suc n) cells ++ more)) name)
        → (b || has name cells) ≡ true → IsCell (with_all (with_known ks (c, known.Cell n)) (cells_from (suc n) cells ++ more)) name
    by true e f k =
        record { cell = n; is = all_still (with_known ks (c, known.Cell n)) (cells_from (suc n) cells ++ more) name (known.Cell n) (new_known ks name c (known.Cell n) none e) }
    by false e f k = f (other_known ks name c (known.Cell n) none e) k

-- where the owner's view is a cell, its name stands for one
pub view_known : (table : Table) (cells : List Ref) (given : List Given) → has VIEW cells ≡ true → IsCell (tops table cells given).known VIEW
view_known table cells given h = cell_in 0 [] cells (map given_name given ++ all_built table) VIEW refl h
