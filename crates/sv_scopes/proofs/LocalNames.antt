-- The `let:` names of tags, one attribute after the other.
use Rattle.std.proofs.Common.{◌≡◌, ℕ, ◌+◌, ◌<◌, List, ◌∷◌, length, drop, get_or, sym, ap, ◌∙◌}
use Rattle.std.proofs.lemmas.List.{drop_more, map-append}
use Rattle.sv_ast.specs.declared.markup_tree.TagAttr.{TagAttr}
use Rattle.sv_ast.specs.declared.names.Ref.{Ref}
use Rattle.sv_ast.specs.declared.names.Ref.TheVariants.{Plain}
use Rattle.sv_names.specs.Distinct.{with_names}
use Rattle.sv_names.proofs.Names.{with_names_append}
use Rattle.sv_scopes.specs.Attributes.{let_names, lets}
use Rattle.sv_scopes.specs.Parts.{names_of}

-- one more attribute has given its names
pub lets_more : (all names more : List Ref) (attrs : List TagAttr) (i : ℕ) (a : TagAttr) → i < length attrs → a ≡ get_or attrs i a
    → more ≡ with_names names (names_of (let_names a)) → all ≡ with_names names (names_of (lets (drop i attrs))) → all ≡ with_names more (names_of (lets (drop (i + 1) attrs)))
lets_more all names more attrs i a within is e was =
    let rest = lets (drop (i + 1) attrs) in
    let d : drop i attrs ≡ a ∷ drop (i + 1) attrs = drop_more attrs i a within ∙ ap (λ x. x ∷ drop (i + 1) attrs) (sym is) in
    was ∙ ap (λ l. with_names names (names_of (lets l))) d ∙ ap (with_names names) (map-append (λ d. Plain d.name) (let_names a) rest)
    ∙ with_names_append names (names_of (let_names a)) (names_of rest) ∙ ap (λ n. with_names n (names_of rest)) (sym e)
