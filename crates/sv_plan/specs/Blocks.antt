-- If blocks and key blocks.
use Rattle.std.specs.Prelude.{ℕ, suc, Bool, true, false, nat_eq, ◌||◌, List, [], ◌∷◌, map, Option, Some, None, Ok, if◌then◌else◌}
use Rattle.sv_code.specs.declared.fragments.FragArm.{FragArm}
use Rattle.sv_code.specs.declared.parts.Part.{Part}
use Rattle.sv_code.specs.declared.program.Program.{Program}
use Rattle.sv_parts.specs.Parts.{evaluated}
use Rattle.sv_parts.specs.Sides.{Sides, moved}
use Rattle.sv_parts.specs.State.{Run, andThen, numbered}
use Rattle.sv_plan.specs.declared.blocks.Settled.{Settled}
use Rattle.sv_shapes.specs.declared.shape.KeyState.{KeyState}
use Rattle.sv_value.specs.Change.{differs, truthy}
use Rattle.sv_value.specs.Value.{Val}

-- ---- if blocks

-- the conditions of the branches
abbrev pub tests : List FragArm → List Part
tests arms = map (λ a. a.test) arms

abbrev pub any_moved : List Part → Sides → Bool
any_moved [] at = false
any_moved (t ∷ ts) at = moved t.reads at || any_moved ts at

-- the first branch whose condition is truthy, from one with a number on, or the last one
abbrev pub choose : Program → List Part → ℕ → Sides → Run ℕ
choose p [] i at s = Ok (i, s)
choose p (t ∷ ts) i at s = andThen (evaluated p t at s) (λ v u. if truthy v then Ok (i, u) else choose p ts (suc i) at u)

-- the branch that is shown, where one was or none
abbrev pub chosen : Program → List Part → Option ℕ → Sides → Run ℕ
chosen p ts None at s = choose p ts 0 at s
chosen p ts (Some arm) at s = if any_moved ts at then choose p ts 0 at s else Ok (arm, s)

-- whether the content of a branch stays
abbrev pub is_arm : Option ℕ → ℕ → Bool
is_arm None arm = false
is_arm (Some old) arm = nat_eq old arm

-- ---- key blocks

-- new content
abbrev pub settled_anew : Program → Part → Sides → Run Settled
settled_anew p part at s =
    andThen (evaluated p part at s) (λ v u. andThen (numbered u) (λ n w. Ok (record { state = record { value = v; number = n }; kept = false }, w)))

-- the content stays where the new value doesn't differ
abbrev pub settled_with : KeyState → Val → Run Settled
settled_with old v s =
    if differs old.value v then andThen (numbered s) (λ n u. Ok (record { state = record { value = v; number = n }; kept = false }, u))
    else Ok (record { state = record { value = v; number = old.number }; kept = true }, s)

abbrev pub settled_moved : Program → Part → KeyState → Sides → Run Settled
settled_moved p part old at s = andThen (evaluated p part at s) (settled_with old)

-- the value of a key block, where it had one or none
abbrev pub settled : Program → Part → Option KeyState → Sides → Run Settled
settled p part None at s = settled_anew p part at s
settled p part (Some old) at s = if moved part.reads at then settled_moved p part old at s else Ok (record { state = old; kept = true }, s)
