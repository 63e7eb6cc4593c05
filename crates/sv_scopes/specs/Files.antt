-- The scopes of components and modules.
use Rattle.std.specs.Prelude.{ℕ, Bool, true, false, not, ◌&&◌, nat_lt, List, [], ◌∷◌, ◌++◌, length, map, filter, take, drop, take_while, if◌then◌else◌}
use Rattle.sv_ast.specs.declared.files.Component.{Component}
use Rattle.sv_ast.specs.declared.files.Script.{Script}
use Rattle.sv_ast.specs.declared.markup_tree.Branch.{Branch}
use Rattle.sv_ast.specs.declared.markup_tree.Markup.{Markup, Markup-F, out-Markup}
use Rattle.sv_ast.specs.declared.names.Ref.{Ref}
use Rattle.sv_ast.specs.declared.names.Ref.TheVariants.{Plain}
use Rattle.sv_ast.specs.declared.operators.AssignOp.TheVariants.{Set}
use Rattle.sv_ast.specs.declared.script_tree.ExprKind.{ExprKind-F, out-ExprKind}
use Rattle.sv_ast.specs.declared.script_tree.Stmt.{Stmt}
use Rattle.sv_ast.specs.declared.script_tree.StmtKind.{StmtKind-F, out-StmtKind}
use Rattle.sv_base.specs.declared.span.Span.{Span}
use Rattle.sv_names.specs.Distinct.{has, with_name, firsts}
use Rattle.sv_scopes.specs.declared.scope.Binding.{Binding}
use Rattle.sv_scopes.specs.declared.scope.Binding.TheVariants.{Reactive}
use Rattle.sv_scopes.specs.declared.scope.Declared.{Declared}
use Rattle.sv_scopes.specs.declared.scope.FileScopes.{FileScopes}
use Rattle.sv_scopes.specs.Markup.{node, nodes}
use Rattle.sv_scopes.specs.Parts.{Parts, followed, in_turn, declaring, names_of}
use Rattle.sv_scopes.specs.Script.{Layer, StmtLayer, stmt_parts}

-- ---- the top level of a script

abbrev pub assigned_layer : Layer → Span → List Declared
assigned_layer (ExprKind-F.Assign (Plain name) Set value) span = record { name = name; span = span; by = Reactive } ∷ []
assigned_layer _ span = []

abbrev pub evaluated_layer : StmtLayer → List Declared
evaluated_layer (StmtKind-F.Eval e) = assigned_layer (out-ExprKind e.kind) e.span
evaluated_layer _ = []

abbrev pub reactive_layer : StmtLayer → List Declared
reactive_layer (StmtKind-F.React s) = evaluated_layer (out-StmtKind s.kind)
reactive_layer _ = []

-- the name `x` of a statement `$: x = e` (Svelte 4 docs, '$: marks a statement as reactive')
abbrev pub reactive : Stmt → List Declared
reactive s = reactive_layer (out-StmtKind s.kind)

abbrev pub top_stmt : Stmt → Parts
top_stmt s = followed (declaring (reactive s)) (stmt_parts s)

abbrev pub script : Script → Parts
script s = in_turn (map top_stmt s.stmts)

-- ---- what the top level declares

abbrev pub is_reactive : Binding → Bool
is_reactive Reactive = true
is_reactive _ = false

-- the names that are declared by other forms
abbrev pub known : List Declared → List Ref
known ds = firsts (names_of (filter (λ d. not (is_reactive d.by)) ds))

-- what declares, where some names are declared elsewhere or were declared before
abbrev pub declaring_on : List Ref → List Declared → List Declared
declaring_on names [] = []
declaring_on names (d ∷ ds) = (if is_reactive d.by && has (Plain d.name) names then [] else d ∷ []) ++ declaring_on (with_name names (Plain d.name)) ds

-- reactive statements declare what no other form declares, each name once
abbrev pub settled : List Declared → List Declared
settled ds = declaring_on (known ds) ds

abbrev pub file : Parts → FileScopes
file p = record { inside = p.scopes; top = record { declares = settled p.declares; uses = p.uses } }

-- ---- whole files

abbrev pub layer_span : Markup-F Markup Branch → Span
layer_span (Markup-F.Text span text) = span
layer_span (Markup-F.Show span value) = span
layer_span (Markup-F.Element span name attrs children) = span
layer_span (Markup-F.Comp span name attrs children) = span
layer_span (Markup-F.Slot span name attrs children) = span
layer_span (Markup-F.If span arms last) = span
layer_span (Markup-F.Each span list item index key body other) = span
layer_span (Markup-F.Key span value body) = span

abbrev pub begins_before : ℕ → Markup → Bool
begins_before place m = nat_lt (layer_span (out-Markup m)).from place

-- the place of a script among the nodes: that of its first statement
abbrev pub place_of : List Stmt → ℕ
place_of [] = 0
place_of (s ∷ stmts) = s.span.from

-- how many nodes stand before a script
abbrev pub before : List Stmt → List Markup → ℕ
before stmts list = length (take_while (begins_before (place_of stmts)) list)

abbrev pub markup : List Markup → Parts
markup list = nodes (map node list)

-- what is found in a component, in the order of the file
abbrev pub component : Component → Parts
component c = let n = before c.script.stmts c.nodes in followed (followed (markup (take n c.nodes)) (script c.script)) (markup (drop n c.nodes))

-- the scopes of a component
abbrev pub component_scopes : Component → FileScopes
component_scopes c = file (component c)

-- the scopes of a module
abbrev pub module_scopes : Script → FileScopes
module_scopes s = file (script s)
