-- Names that may stand only where they are called in some way, by the places at which they begin.
use Rattle.std.specs.Prelude.{ℕ, nat_eq, Bool, not, ◌&&◌, List, [], ◌∷◌, ◌++◌, map, filter, if◌then◌else◌}
use Rattle.std.specs.List.{list_any}
use Rattle.sv_ast.specs.declared.names.Ref.{Ref}
use Rattle.sv_ast.specs.declared.script_tree.Expr.{Expr}
use Rattle.sv_ast.specs.declared.script_tree.ExprKind.{ExprKind-F, out-ExprKind}
use Rattle.sv_base.specs.Names.{Table}
use Rattle.sv_base.specs.declared.span.Span.{Span}
use Rattle.sv_names.specs.Distinct.{has}
use Rattle.sv_resolve.specs.Places.{name_place}
use Rattle.sv_scopes.specs.declared.scope.Use.{Use}
use Rattle.sv_scopes.specs.Script.{Layer}

abbrev pub name_at : Expr → Layer → List ℕ
name_at e (ExprKind-F.Read name) = e.span.from ∷ []
name_at e _ = []

-- where the name stands that an expression is
abbrev pub name_of_call : Expr → List ℕ
name_of_call e = name_at e (out-ExprKind e.kind)

-- places, each once
abbrev pub is_place : ℕ → List ℕ → Bool
is_place p places = list_any (nat_eq p) places

abbrev pub with_place : List ℕ → ℕ → List ℕ
with_place places p = if is_place p places then places else places ++ p ∷ []

abbrev pub with_places : List ℕ → List ℕ → List ℕ
with_places places [] = places
with_places places (p ∷ more) = with_places (with_place places p) more

abbrev pub is_misplaced : List Ref → List ℕ → Use → Bool
is_misplaced names free u = has u.name names && not (is_place u.span.from free)

-- at each of some names that doesn't begin at one of some places
abbrev pub misplaced : Table → List Ref → List ℕ → List Use → List Span
misplaced table names free uses = map (name_place table) (filter (is_misplaced names free) uses)
