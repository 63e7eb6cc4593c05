-- What is found in tags, rows and the content of components.
use Rattle.std.proofs.Common.{◌≡◌, true, false, cond, List, [], ◌∷◌, ◌++◌, Option, map, option_map, refl, sym, ap, ◌∙◌, subst}
use Rattle.std.proofs.lemmas.List.{append-nil}
use Rattle.std.specs.List.{flat_map}
use Rattle.std.specs.Option.{option_to_list}
use Rattle.sv_ast.specs.declared.markup_tree.TagAttr.{TagAttr}
use Rattle.sv_ast.specs.declared.names.Named.{Named}
use Rattle.sv_ast.specs.declared.names.Ref.{Ref}
use Rattle.sv_ast.specs.declared.script_tree.Expr.{Expr}
use Rattle.sv_names.specs.Distinct.{firsts}
use Rattle.sv_scopes.specs.declared.found.Around.{Around}
use Rattle.sv_scopes.specs.declared.found.Content.{Content}
use Rattle.sv_scopes.specs.declared.scope.Binding.TheVariants.{Local}
use Rattle.sv_scopes.specs.declared.scope.Declared.{Declared}
use Rattle.sv_scopes.specs.declared.scope.Scope.{Scope}
use Rattle.sv_scopes.specs.Attributes.{attributes, is_slotted, lets}
use Rattle.sv_scopes.specs.Parts.{Parts, Finds, followed, in_turn, declaring, names_of, scope}
use Rattle.sv_scopes.specs.Script.{declared, locals, given, expr_parts}
use Rattle.sv_scopes.specs.Markup.{Node, tag, content, component, around_default, default_uses, row}
use Rattle.sv_scopes.proofs.Hiding.{handed_firsts}
use Rattle.sv_scopes.proofs.Scoping.{finds_two, finds_closed}

-- ---- tags

pub tag_plain : (attrs : List TagAttr) (inner : Parts) → is_slotted attrs ≡ false → tag attrs inner ≡ followed (attributes attrs) inner
unfolding tag
tag_plain attrs inner e = ap (λ b. cond b (scope (followed (declaring (lets attrs)) (followed (attributes attrs) inner))) (followed (attributes attrs) inner)) e

pub tag_slotted : (attrs : List TagAttr) (inner : Parts) → is_slotted attrs ≡ true → tag attrs inner ≡ scope (followed (declaring (lets attrs)) (followed (attributes attrs) inner))
unfolding tag
tag_slotted attrs inner e = ap (λ b. cond b (scope (followed (declaring (lets attrs)) (followed (attributes attrs) inner))) (followed (attributes attrs) inner)) e

pub component_plain : (attrs : List TagAttr) (list : List Node) → is_slotted attrs ≡ false → component attrs list ≡ followed (attributes attrs) (content (lets attrs) list)
component_plain attrs list e = ap (λ b. tag attrs (content (cond b [] (lets attrs)) list)) e ∙ tag_plain attrs (content (lets attrs) list) e

pub component_slotted : (attrs : List TagAttr) (list : List Node) → is_slotted attrs ≡ true → component attrs list ≡ scope (followed (declaring (lets attrs)) (followed (attributes attrs) (content [] list)))
component_slotted attrs list e = ap (λ b. tag attrs (content (cond b [] (lets attrs)) list)) e ∙ tag_slotted attrs (content [] list) e

-- a tag that makes no scope
pub finds_plain : (p0 p1 p2 whole inner : Parts) (attrs : List TagAttr) → whole ≡ followed (attributes attrs) inner → Finds p0 p1 (attributes attrs) → Finds p1 p2 inner → Finds p0 p2 whole
finds_plain p0 p1 p2 whole inner attrs e first second = subst (Finds p0 p2) (sym e) (finds_two p0 p1 p2 (attributes attrs) inner first second)

-- a tag that makes a scope
pub finds_slotted : (p0 p1 p2 p3 p4 p5 whole inner : Parts) (attrs : List TagAttr) (around : Around) → whole ≡ scope (followed (declaring (lets attrs)) (followed (attributes attrs) inner))
    → around ≡ record { declares = p0.declares; uses = p0.uses } → p1 ≡ record { declares = []; uses = []; scopes = p0.scopes }
    → Finds p1 p2 (declaring (lets attrs)) → Finds p2 p3 (attributes attrs) → Finds p3 p4 inner
    → Finds (record { declares = around.declares; uses = around.uses; scopes = [] }) p5 (scope p4) → Finds p0 p5 whole
finds_slotted p0 p1 p2 p3 p4 p5 whole inner attrs around e same empty first second third out =
    subst (Finds p0 p5) (sym e) (finds_closed _ p0 p1 p4 p5 _ around same empty
    (finds_two p1 p2 p4 (declaring (lets attrs)) (followed (attributes attrs) inner) first (finds_two p2 p3 p4 (attributes attrs) inner second third)) out)

-- ---- rows

pub finds_row : (p0 p1 p2 p3 p4 p5 p6 body : Parts) (item : Named) (index : Option Named) (key : Option Expr) (around : Around)
    → around ≡ record { declares = p0.declares; uses = p0.uses } → p1 ≡ record { declares = []; uses = []; scopes = p0.scopes }
    → Finds p1 p2 (declaring (declared Local item ∷ [])) → Finds p2 p3 (locals (option_to_list index)) → Finds p3 p4 (given (option_map expr_parts key)) → Finds p4 p5 body
    → Finds (record { declares = around.declares; uses = around.uses; scopes = [] }) p6 (scope p5) → Finds p0 p6 (row item index key body)
unfolding row
finds_row p0 p1 p2 p3 p4 p5 p6 body item index key around same empty first second third fourth out =
    let names = locals (item ∷ option_to_list index) in
    let keyed = given (option_map expr_parts key) in
    finds_closed _ p0 p1 p5 p6 (followed (followed names keyed) body) around same empty
    (finds_two p1 p4 p5 (followed names keyed) body
    (finds_two p1 p3 p4 names keyed (finds_two p1 p2 p3 (declaring (declared Local item ∷ [])) (locals (option_to_list index)) first second) third) fourth) out

-- ---- content

around_firsts : (names : List Ref) (n : Node) → around_default (firsts names) n ≡ around_default names n
around_firsts names n = ap (λ u. cond n.slotted n.parts (record { declares = []; uses = u; scopes = n.parts.scopes })) (handed_firsts false names n.parts.uses)

all_around_firsts : (names : List Ref) (list : List Node) → in_turn (map (around_default (firsts names)) list) ≡ in_turn (map (around_default names) list)
all_around_firsts names [] = refl
all_around_firsts names (n ∷ list) =
    ap (λ p. followed p (in_turn (map (around_default (firsts names)) list))) (around_firsts names n)
    ∙ ap (λ p. followed (around_default names n) p) (all_around_firsts names list)

-- the default content of a component before its first node, by what it declares
abbrev begun_of : List Declared → Content
begun_of names = record { declares = names; own = firsts (names_of names); uses = [] }

pub finds_content : (p0 p1 p2 p3 p4 p5 : Parts) (names : List Declared) (list : List Node) (around : Around) (begun ended : Content)
    → around ≡ record { declares = p0.declares; uses = p0.uses } → p1 ≡ record { declares = []; uses = []; scopes = p0.scopes }
    → Finds p1 p2 (declaring names) → p3 ≡ record { declares = around.declares; uses = around.uses; scopes = p2.scopes }
    → begun ≡ record { declares = p2.declares; own = firsts (names_of p2.declares); uses = [] }
    → Finds p3 p4 (in_turn (map (around_default begun.own) list)) → ended ≡ record begun { uses = begun.uses ++ flat_map default_uses list }
    → Finds p4 p5 (record { declares = []; uses = []; scopes = record { declares = ended.declares; uses = ended.uses } ∷ [] }) → Finds p0 p5 (content names list)
unfolding content
finds_content p0 p1 p2 p3 p4 p5 names list around begun ended same empty first outside begins children ends out =
    let declares : p2.declares ≡ names = first.declares ∙ ap (λ z. z.declares ++ names) empty in
    let scopes : p2.scopes ≡ p0.scopes = first.scopes ∙ ap (λ z. z.scopes ++ []) empty ∙ append-nil p0.scopes in
    let with_scopes : Around → List Scope → Parts = λ a z. record { declares = a.declares; uses = a.uses; scopes = z } in
    let back : p3 ≡ p0 = outside ∙ ap (λ a. with_scopes a p2.scopes) same ∙ ap (with_scopes (record { declares = p0.declares; uses = p0.uses })) scopes in
    let begun_is : begun ≡ record { declares = names; own = firsts (names_of names); uses = [] } = begins ∙ ap begun_of declares in
    let own : begun.own ≡ firsts (names_of names) = ap (λ z. z.own) begun_is in
    let ended_is : ended ≡ record { declares = names; own = firsts (names_of names); uses = flat_map default_uses list } = ends ∙ ap (λ (z : Content). record z { uses = z.uses ++ flat_map default_uses list }) begun_is in
    finds_two p0 p4 p5 (in_turn (map (around_default (names_of names)) list)) _
    (subst (λ z. Finds z p4 (in_turn (map (around_default (names_of names)) list))) back
    (subst (Finds p3 p4) (ap (λ z. in_turn (map (around_default z) list)) own ∙ all_around_firsts (names_of names) list) children))
    (subst (λ z. Finds p4 p5 (record { declares = []; uses = []; scopes = record { declares = z.declares; uses = z.uses } ∷ [] })) ended_is out)
