-- Which tokens are operators, and how tightly each binds (ECMA-262, sections 13.5 to 13.15).
use Rattle.std.specs.Prelude.{ℕ, Bool, true, false, ◌==◌, Option, Some, None, if◌then◌else◌}
use Rattle.sv_ast.specs.declared.operators.Op.{Op}
use Rattle.sv_ast.specs.declared.operators.Op.TheVariants as op
use Rattle.sv_ast.specs.declared.operators.AssignOp.{AssignOp}
use Rattle.sv_ast.specs.declared.operators.AssignOp.TheVariants as assign
use Rattle.sv_ast.specs.declared.script_tree.ExprKind.{ExprKind}
use Rattle.sv_ast.specs.declared.script_tree.ExprKind.TheVariants as e
use Rattle.sv_lex.specs.declared.lexeme.Lexeme.{Lexeme}
use Rattle.sv_lex.specs.declared.lexeme.Lexeme.TheVariants as k
use Rattle.sv_lex.specs.Reader.{Input, sees, next, is_later}

-- the operators between two operands
abbrev pub operator : Lexeme → Option Op
operator k.Nullish = Some op.Nullish
operator k.OrOr = Some op.Or
operator k.AndAnd = Some op.And
operator k.Same = Some op.Same
operator k.NotSame = Some op.NotSame
operator k.EqualEqual = Some op.Equal
operator k.BangEqual = Some op.NotEqual
operator k.Less = Some op.Less
operator k.LessEqual = Some op.LessEq
operator k.More = Some op.More
operator k.MoreEqual = Some op.MoreEq
operator k.Plus = Some op.Add
operator k.Minus = Some op.Sub
operator k.Star = Some op.Mul
operator k.Slash = Some op.Div
operator k.Percent = Some op.Rem
operator _ = None

-- the group of operators that bind alike, the tightest first
abbrev pub group : Op → ℕ
group op.Mul = 1
group op.Div = 1
group op.Rem = 1
group op.Add = 2
group op.Sub = 2
group op.Less = 3
group op.LessEq = 3
group op.More = 3
group op.MoreEq = 3
group op.Same = 4
group op.NotSame = 4
group op.Equal = 4
group op.NotEqual = 4
group op.And = 5
group op.Or = 6
group op.Nullish = 7

abbrev pub in_group : ℕ → Option Op → Option Op
in_group n None = None
in_group n (Some op) = if group op == n then Some op else None

-- the operator of this group, if one comes
unfoldable pub operator_in : ℕ → Lexeme → Option Op
operator_in n kind = in_group n (operator kind)

-- the operators of assignments
abbrev pub assign_op : Lexeme → Option AssignOp
assign_op k.Equal = Some assign.Set
assign_op k.PlusEqual = Some assign.Add
assign_op k.MinusEqual = Some assign.Sub
assign_op k.StarEqual = Some assign.Mul
assign_op k.PercentEqual = Some assign.Rem
assign_op _ = None

-- `++`, which counts up, and `--`, which doesn't
abbrev pub bump : Lexeme → Option Bool
bump k.PlusPlus = Some true
bump k.MinusMinus = Some false
bump _ = None

-- `++` or `--` on the line of the token before
unfoldable pub bump_behind : Input → Option Bool
bump_behind i = if is_later i then None else bump (sees i)

-- the words that are values
abbrev pub literal : Lexeme → Option ExprKind
literal k.True = Some (e.Bool true)
literal k.False = Some (e.Bool false)
literal k.Null = Some e.Null
literal k.Undefined = Some e.Undefined
literal _ = None

-- a name or a store name
abbrev pub is_target : Lexeme → Bool
is_target k.Name = true
is_target k.Store = true
is_target _ = false

-- `.`, `[` or `(`
abbrev pub begins_suffix : Lexeme → Bool
begins_suffix k.Dot = true
begins_suffix k.LBracket = true
begins_suffix k.LParen = true
begins_suffix _ = false

-- the operator of the assignment that comes, if one comes
abbrev pub assigns_by : Bool → Lexeme → Option AssignOp
assigns_by is_target kind = if is_target then assign_op kind else None

unfoldable pub assigns : Input → Option AssignOp
assigns i = assigns_by (is_target (sees i)) (sees (next i))
