-- How much calls of the evaluator may still take.
use Rattle.std.proofs.Common.{ℕ, ◌+◌, ◌*◌, Option, Some, None, option_copied}
use Rattle.sv_view.specs.Level.{View}
use Rattle.sv_world.specs.declared.world.World.{World}
use Rattle.sv_meaning.specs.declared.context.Context.{Context}

-- a pure evaluation begins none within itself, and has fewer steps than this
abbrev pub reserve : Option View → ℕ
reserve None = 200000
reserve (Some v) = 0

abbrev pub budget : Context → World → ℕ → ℕ
budget c w rank = 1024 * (w.turn.steps + c.room + reserve (option_copied c.sight)) + rank
