-- What is found in an each block, and in a key block.
use Rattle.std.proofs.Common.{◌≡◌, List, ◌++◌, Option, None, Some, map, option_map, append_assoc, sym, ap, ◌∙◌}
use Rattle.std.proofs.lemmas.List.{append-nil}
use Rattle.sv_ast.specs.declared.markup_tree.Markup
use Rattle.sv_ast.specs.declared.markup_tree.Markup.{Markup as AnyMarkup, Markup-F, fold-roll-Markup}
use Rattle.sv_ast.specs.declared.names.Named.{Named}
use Rattle.sv_ast.specs.declared.script_tree.Expr.{Expr}
use Rattle.sv_base.specs.Names.{Table}
use Rattle.sv_base.specs.declared.span.Span.{Span}
use Rattle.sv_purity.specs.declared.scope.Known.{Known}
use Rattle.sv_purity.specs.Pure.{Places, both}
use Rattle.sv_impure.specs.Impure.{Node, nodes, optional, shown, row, plain, markup, branch_of, node}

key_is : (span : Span) (value : Expr) (body : List AnyMarkup) → node (Markup.Key span value body) ≡ plain (both (shown value) (nodes (map node body)))
unfolding Markup.roll-Markup denote.Hole.Carrier.roll
key_is span value body = fold-roll-Markup Node Places markup branch_of (Markup-F.Key span value body)

each_is : (span : Span) (list : Expr) (item : Named) (index : Option Named) (key : Option Expr) (body : List AnyMarkup) (other : Option (List AnyMarkup))
    → node (Markup.Each span list item index key body other) ≡ plain (both (shown list) (both (row item index key (nodes (map node body))) (optional (option_map nodes (option_map (map node) other)))))
unfolding Markup.roll-Markup denote.Hole.Carrier.roll
each_is span list item index key body None = fold-roll-Markup Node Places markup branch_of (Markup-F.Each span list item index key body None)
each_is span list item index key body (Some other) = fold-roll-Markup Node Places markup branch_of (Markup-F.Each span list item index key body (Some other))

-- the head of a key block is looked at, and then its content
pub key_on : (n : AnyMarkup) (span : Span) (value : Expr) (body body1 : List AnyMarkup) (table : Table) (known : Known) (p0 p1 p2 : List Span) → n ≡ Markup.Key span value body → body1 ≡ body
    → p1 ≡ p0 ++ shown value table known → p2 ≡ p1 ++ nodes (map node body1) table known → p2 ≡ p0 ++ (node n).places table known
key_on n span value body body1 table known p0 p1 p2 k b e1 e2 =
    let inner = λ (x : List AnyMarkup). nodes (map node x) table known in
    e2 ∙ ap (λ x. p1 ++ inner x) b ∙ ap (λ p. p ++ inner body) e1 ∙ append_assoc p0 (shown value table known) (inner body)
    ∙ ap (λ x. p0 ++ x) (sym (ap (λ m. (node m).places table known) k ∙ ap (λ m. m.places table known) (key_is span value body)))

each_on : (n : AnyMarkup) (span : Span) (list : Expr) (item : Named) (index : Option Named) (key : Option Expr) (body body1 : List AnyMarkup) (other : Option (List AnyMarkup)) (table : Table) (known : Known) (p0 p1 p2 p3 : List Span)
    → n ≡ Markup.Each span list item index key body other → body1 ≡ body
    → p1 ≡ p0 ++ shown list table known → p2 ≡ p1 ++ row item index key (nodes (map node body1)) table known → p3 ≡ p2 ++ optional (option_map nodes (option_map (map node) other)) table known
    → p3 ≡ p0 ++ (node n).places table known
each_on n span list item index key body body1 other table known p0 p1 p2 p3 k b e1 e2 e3 =
    let head = shown list table known in
    let rows = λ (x : List AnyMarkup). row item index key (nodes (map node x)) table known in
    let last = optional (option_map nodes (option_map (map node) other)) table known in
    e3 ∙ ap (λ p. p ++ last) (e2 ∙ ap (λ x. p1 ++ rows x) b ∙ ap (λ p. p ++ rows body) e1)
    ∙ append_assoc (p0 ++ head) (rows body) last ∙ append_assoc p0 head (rows body ++ last)
    ∙ ap (λ x. p0 ++ x) (sym (ap (λ m. (node m).places table known) k ∙ ap (λ m. m.places table known) (each_is span list item index key body other)))

-- the head of an each block is looked at, then its rows, and what shows for an empty list
pub each_some : (n : AnyMarkup) (span : Span) (list : Expr) (item : Named) (index : Option Named) (key : Option Expr) (body body1 : List AnyMarkup) (other : Option (List AnyMarkup)) (rest rest1 : List AnyMarkup) (table : Table) (known : Known) (p0 p1 p2 p3 : List Span)
    → n ≡ Markup.Each span list item index key body other → other ≡ Some rest → body1 ≡ body → rest1 ≡ rest
    → p1 ≡ p0 ++ shown list table known → p2 ≡ p1 ++ row item index key (nodes (map node body1)) table known → p3 ≡ p2 ++ nodes (map node rest1) table known
    → p3 ≡ p0 ++ (node n).places table known
each_some n span list item index key body body1 other rest rest1 table known p0 p1 p2 p3 k o b r e1 e2 e3 =
    each_on n span list item index key body body1 (Some rest) table known p0 p1 p2 p3 (k ∙ ap (λ z. Markup.Each span list item index key body z) o) b e1 e2 (e3 ∙ ap (λ x. p2 ++ nodes (map node x) table known) r)

pub each_none : (n : AnyMarkup) (span : Span) (list : Expr) (item : Named) (index : Option Named) (key : Option Expr) (body body1 : List AnyMarkup) (other : Option (List AnyMarkup)) (table : Table) (known : Known) (p0 p1 p2 : List Span)
    → n ≡ Markup.Each span list item index key body other → other ≡ None → body1 ≡ body
    → p1 ≡ p0 ++ shown list table known → p2 ≡ p1 ++ row item index key (nodes (map node body1)) table known
    → p2 ≡ p0 ++ (node n).places table known
each_none n span list item index key body body1 other table known p0 p1 p2 k o b e1 e2 =
    each_on n span list item index key body body1 None table known p0 p1 p2 p2 (k ∙ ap (λ z. Markup.Each span list item index key body z) o) b e1 e2 (sym (append-nil p2))
