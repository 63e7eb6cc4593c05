use Rattle.std.proofs.Common.{◌≡◌, ◌≤◌, length, drop, map, None}
use Rattle.sv_meaning.specs.Env.{place}
use Rattle.sv_meaning.proofs.Names.{show}
use Rattle.sv_meaning.proofs.locals.Locals.place.Given as goal

abbrev pub invariant-loop-i : goal.invariant-loop-i
invariant-loop-i l = record {
  within : l.i ≤ length l.self-inside.entries.items;
  passed : place l.name.0 (map show (drop l.i l.self-inside.entries.items)) ≡ None;
}

abbrev pub decreases-loop-i : goal.decreases-loop-i
decreases-loop-i l = l.i
