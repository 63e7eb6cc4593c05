-- The line of an instance: itself, its parent, its parent's parent, and so on.
use Rattle.std.specs.Prelude.{ℕ, zero, suc, nat_eq, Bool, false, ◌||◌, Option, Some, None}
use Rattle.sv_family.specs.Kin.{Kins, parent_at}
use Rattle.sv_shapes.specs.Showing.{Showing, child_at}

-- whether who is there, if anyone is, is one of some instances
abbrev pub one_of : (ℕ → Bool) → Option ℕ → Bool
one_of f None = false
one_of f (Some n) = f n

-- whether an instance is in the line of another one, so many steps up
abbrev pub is_up : Kins → ℕ → ℕ → ℕ → Bool
is_up ks n zero d = false
is_up ks n (suc steps) d = nat_eq n d || one_of (is_up ks n steps) (parent_at ks d)

-- whether an instance is in the line of another one; parents were made earlier, so that this many steps are enough
abbrev pub in_line : Kins → ℕ → ℕ → Bool
in_line ks d n = is_up ks n (suc d) d

-- whether one of some instances stands at a place
abbrev pub stands : Showing → (ℕ → Bool) → ℕ → Bool
stands s f place = one_of f (child_at s place)
