-- The block of an arrow is that of a function.
use Rattle.std.proofs.Common.{◌≡◌, ℕ, zero, suc, refl}
use Rattle.sv_lex.specs.Reader.{Input}
use Rattle.sv_expr.specs.Limits.{Limits}
use Rattle.sv_script.specs.Places.{in_function}
use Rattle.sv_script.specs.Script.{bodies}

pub arrow_is : (limits : Limits) (n : ℕ) (i : Input) → (bodies limits n).exprs.block i ≡ (bodies limits n).block in_function i
unfolding bodies
arrow_is limits zero i = refl
arrow_is limits (suc n) i = refl
