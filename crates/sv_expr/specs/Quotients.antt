-- Words on trees that no line of the grammar says. There are whole numbers alone, so `/` stands only as the outermost operator of the single argument of `Math.floor` or `Math.trunc`; and `==` and `!=` compare with the literal `null`.
use Rattle.std.specs.Prelude.{Bool, true, false, not, ◌&&◌, ◌||◌, ◌==◌, List, length, if◌then◌else◌}
use Rattle.std.specs.List.{list_any}
use Rattle.sv_ast.specs.declared.names.Ref.{Ref}
use Rattle.sv_ast.specs.declared.names.Ref.TheVariants.{Plain, Store}
use Rattle.sv_ast.specs.declared.operators.Op.{Op}
use Rattle.sv_ast.specs.declared.operators.Op.TheVariants as op
use Rattle.sv_ast.specs.declared.script_tree.Expr.{Expr}
use Rattle.sv_ast.specs.declared.script_tree.ExprKind.{ExprKind-F, out-ExprKind}
use Rattle.sv_base.specs.declared.built_in.TheConstants.{MATH, FLOOR, TRUNC}
use Rattle.sv_expr.specs.Layer.{Layer}
use Rattle.sv_lex.specs.Reader.{Input, is_named}
use Rattle.sv_expr.specs.declared.quotients.Left.{Left}
use Rattle.sv_expr.specs.declared.quotients.Left.TheVariants as left
use Rattle.sv_expr.specs.declared.form.Form.{Form}
use Rattle.sv_expr.specs.declared.form.Form.TheVariants.{Whole, Bracketed}

abbrev pub divides : Op → Bool
divides op.Div = true
divides _ = false

abbrev pub is_quotient_layer : Layer → Bool
is_quotient_layer (ExprKind-F.Chain first rest) = list_any (λ link. divides link.op) rest
is_quotient_layer _ = false

-- its outermost operator is `/`
abbrev pub is_quotient : Expr → Bool
is_quotient x = is_quotient_layer (out-ExprKind x.kind)

abbrev pub is_null_layer : Layer → Bool
is_null_layer ExprKind-F.Null = true
is_null_layer _ = false

-- the literal `null`
abbrev pub is_null : Expr → Bool
is_null x = is_null_layer (out-ExprKind x.kind)

-- what stands to the left of the first operator
abbrev pub left_of : Expr → Left
left_of x = if is_null x then left.Null else (if is_quotient x then left.Quotient else left.Other)

-- what stands to the left of the operator after this one
abbrev pub left_by : Op → Left
left_by op = if divides op then left.Quotient else left.Other

-- `==` or `!=`
abbrev pub wants_null : Op → Bool
wants_null op.Equal = true
wants_null op.NotEqual = true
wants_null _ = false

abbrev pub is_null_left : Left → Bool
is_null_left left.Null = true
is_null_left _ = false

abbrev pub is_quotient_left : Left → Bool
is_quotient_left left.Quotient = true
is_quotient_left _ = false

-- the operator may stand between these: neither side is a quotient, and one is `null` where the operator wants that
abbrev pub fits : Left → Op → Expr → Bool
fits left op right = not (is_quotient_left left) && not (is_quotient right) && (not (wants_null op) || is_null_left left || is_null right)

-- ---- `Math.floor` and `Math.trunc`

abbrev pub is_math_ref : Ref → Input → Bool
is_math_ref (Plain name) i = is_named MATH.now name i
is_math_ref (Store name) i = false

abbrev pub is_math_layer : Layer → Input → Bool
is_math_layer (ExprKind-F.Read ref) i = is_math_ref ref i
is_math_layer _ i = false

-- the name `Math`
abbrev pub is_math : Expr → Input → Bool
is_math x i = is_math_layer (out-ExprKind x.kind) i

abbrev pub rounds_layer : Layer → Input → Bool
rounds_layer (ExprKind-F.Member of word) i = is_math of i && (is_named FLOOR.now word i || is_named TRUNC.now word i)
rounds_layer _ i = false

-- the function is one of the two
abbrev pub rounds : Expr → Input → Bool
rounds x i = rounds_layer (out-ExprKind x.kind) i

-- what its arguments may be
abbrev pub argument : Bool → Form
argument is_rounding = if is_rounding then Bracketed else Whole

-- a quotient among arguments is the only one
abbrev pub is_single : List Expr → Bool
is_single args = not (list_any is_quotient args) || length args == 1
