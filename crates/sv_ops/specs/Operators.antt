-- Operators between two values (ECMA-262, sections 13.8 to 13.13), in the subset that docs/language.md gives.
use Rattle.std.specs.Prelude.{ℤ, int_lt, int_le, Bool, true, false, not, ◌++◌}
use Rattle.sv_ast.specs.declared.operators.AssignOp.{AssignOp}
use Rattle.sv_ast.specs.declared.operators.AssignOp.TheVariants as assign
use Rattle.sv_ast.specs.declared.operators.Op.{Op}
use Rattle.sv_ast.specs.declared.operators.Op.TheVariants as op
use Rattle.sv_value.specs.Value.{Val, boolean, number, text}
use Rattle.sv_value.specs.Change.{truthy}
use Rattle.sv_ops.specs.declared.faults.FaultKind.TheVariants.{NotANumber}
use Rattle.sv_ops.specs.Answer.{Answer, Refuses, gives, spelled, texted}
use Rattle.sv_ops.specs.Numbers.{sum, difference, product, remainder, quotient, compared}
use Rattle.sv_ops.specs.Compare.{same, not_same, is_nullish}

-- `+`: a sum, or the two texts joined where a side is one
abbrev pub plus : Val → Val → Answer
plus (text a) b = texted b (λ t. spelled 0 (a ++ t))
plus (number a) (number b) = sum a b
plus a (text b) = texted a (λ t. spelled 0 (t ++ b))
plus _ _ = Refuses NotANumber

-- `==` and `!=`, of which one side is `null`
abbrev pub both_nullish : Bool → Bool → Bool
both_nullish true b = b
both_nullish false b = false

-- the order that `<`, `<=`, `>` and `>=` stand for
abbrev pub order_of : Op → ℤ → ℤ → Bool
order_of op.Less x y = int_lt x y
order_of op.LessEq x y = int_le x y
order_of op.More x y = int_lt y x
order_of _ x y = int_le y x

-- the value of an operator at both sides; of one that may stop at its left side it is the right one
abbrev pub binary : Op → Val → Val → Answer
binary op.Nullish a b = gives b
binary op.Or a b = gives b
binary op.And a b = gives b
binary op.Same a b = same a b
binary op.NotSame a b = not_same a b
binary op.Equal a b = gives (boolean (both_nullish (is_nullish a) (is_nullish b)))
binary op.NotEqual a b = gives (boolean (not (both_nullish (is_nullish a) (is_nullish b))))
binary op.Less a b = compared (order_of op.Less) a b
binary op.LessEq a b = compared (order_of op.LessEq) a b
binary op.More a b = compared (order_of op.More) a b
binary op.MoreEq a b = compared (order_of op.MoreEq) a b
binary op.Add a b = plus a b
binary op.Sub a b = difference a b
binary op.Mul a b = product a b
binary op.Div a b = quotient true a b
binary op.Rem a b = remainder a b

-- whether the left side alone decides
abbrev pub stops : Op → Val → Bool
stops op.Nullish a = not (is_nullish a)
stops op.Or a = truthy a
stops op.And a = not (truthy a)
stops _ a = false

-- what a target holds after it is set
abbrev pub assigned : AssignOp → Val → Val → Answer
assigned assign.Set a b = gives b
assigned assign.Add a b = plus a b
assigned assign.Sub a b = difference a b
assigned assign.Mul a b = product a b
assigned assign.Rem a b = remainder a b
