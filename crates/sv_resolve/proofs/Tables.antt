-- Names are the same names, each once.
use Rattle.std.proofs.Common.{◌≡◌, Bool, cond, List, map, filter, ap, ◌∙◌}
use Rattle.std.specs.Prelude.{not, ◌&&◌}
use Rattle.std.proofs.lemmas.List.Elements.{filter_agree}
use Rattle.sv_ast.specs.declared.names.Ref.{Ref}
use Rattle.sv_base.specs.Names.{Table}
use Rattle.sv_names.specs.Distinct.{has, firsts}
use Rattle.sv_names.proofs.Same.{has-firsts}
use Rattle.sv_scopes.specs.declared.scope.Declared.{Declared}
use Rattle.sv_scopes.specs.declared.scope.Scope.{Scope}
use Rattle.sv_scopes.specs.declared.scope.Use.{Use}
use Rattle.sv_scopes.specs.Parts.{names_of, is_tag}
use Rattle.sv_resolve.specs.Mistakes.{assigns, constants, constant_assigns, captured, captured_assigns, components, is_unbound, is_unknown, unknown_names}
use Rattle.sv_resolve.specs.Places.{name_place}

pub constants_are : (s : Scope) (declares : List Declared) (uses : List Use) (names : List Ref) → declares ≡ s.declares → uses ≡ s.uses → names ≡ firsts (constants declares)
    → map (λ u. u.span) (filter (λ u. assigns u.form && has u.name names) uses) ≡ constant_assigns s
constants_are s declares uses names d u n =
    ap (λ z. map (λ u. u.span) (filter (λ u. assigns u.form && has u.name names) z)) u
    ∙ ap (λ z. map (λ u. u.span) (filter (λ u. assigns u.form && has u.name z) s.uses)) (n ∙ ap (λ z. firsts (constants z)) d)
    ∙ ap (map (λ u. u.span)) (filter_agree _ _ (λ u. ap (λ b. assigns u.form && b) (has-firsts u.name (constants s.declares))) s.uses)

pub captured_are : (s : Scope) (declares : List Declared) (uses used : List Use) (own names : List Ref) → declares ≡ s.declares → uses ≡ s.uses → used ≡ s.uses → own ≡ firsts (names_of declares) → names ≡ firsts (captured used)
    → map (λ u. u.span) (filter (λ u. assigns u.form && has u.name own && has u.name names) uses) ≡ captured_assigns s
captured_are s declares uses used own names d u v o n =
    ap (λ z. map (λ u. u.span) (filter (λ u. assigns u.form && has u.name own && has u.name names) z)) u
    ∙ ap (λ z. map (λ u. u.span) (filter (λ u. assigns u.form && has u.name z && has u.name names) s.uses)) (o ∙ ap (λ z. firsts (names_of z)) d)
    ∙ ap (λ z. map (λ u. u.span) (filter (λ u. assigns u.form && has u.name (firsts (names_of s.declares)) && has u.name z) s.uses)) (n ∙ ap (λ z. firsts (captured z)) v)
    ∙ ap (map (λ u. u.span)) (filter_agree _ _ (λ u. ap (λ b. assigns u.form && b && has u.name (firsts (captured s.uses))) (has-firsts u.name (names_of s.declares))
    ∙ ap (λ b. assigns u.form && has u.name (names_of s.declares) && b) (has-firsts u.name (captured s.uses))) s.uses)

unknown_agrees : (texts : Table) (known imported : List Ref) (u : Use) → is_unknown texts (firsts known) (firsts imported) u ≡ is_unknown texts known imported u
unknown_agrees texts known imported u =
    let answer : Bool → Bool → Bool = λ b i. cond (is_tag u.role) (not i) (cond b i (is_unbound texts u.role u.name)) in
    ap (λ b. answer b (has u.name (firsts imported))) (has-firsts u.name known) ∙ ap (answer (has u.name known)) (has-firsts u.name imported)

pub unknown_are : (texts : Table) (s : Scope) (declares : List Declared) (uses : List Use) (known imported : List Ref) → declares ≡ s.declares → uses ≡ s.uses → known ≡ firsts (names_of declares) → imported ≡ firsts (components declares)
    → map (name_place texts) (filter (is_unknown texts known imported) uses) ≡ unknown_names texts s
unknown_are texts s declares uses known imported d u k i =
    ap (λ z. map (name_place texts) (filter (is_unknown texts known imported) z)) u
    ∙ ap (λ z. map (name_place texts) (filter (is_unknown texts z imported) s.uses)) (k ∙ ap (λ z. firsts (names_of z)) d)
    ∙ ap (λ z. map (name_place texts) (filter (is_unknown texts (firsts (names_of s.declares)) z) s.uses)) (i ∙ ap (λ z. firsts (components z)) d)
    ∙ ap (map (name_place texts)) (filter_agree _ _ (unknown_agrees texts (names_of s.declares) (components s.declares)) s.uses)
