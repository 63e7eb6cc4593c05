use Rattle.std.proofs.Common.{◌≡◌, ◌≤◌, ◌-◌, [], length}
use Rattle.sv_expr.specs.Limits.{real}
use Rattle.sv_markup.specs.Rules as spec
use Rattle.sv_markup.specs.Rules.{inside}
use Rattle.sv_markup.proofs.rules.Rules.branches.Given as goal

abbrev pub invariant-loop-turn : goal.invariant-loop-turn
invariant-loop-turn g l = record {
  same : spec.branches real l.self.room (inside real l.self.room) l.most 4 [] l.fn.source
      ≡ spec.branches real l.self.room (inside real l.self.room) (l.most - l._turn) l.len l.found l.source;
  front : l.len ≤ length l.source.text;
}
