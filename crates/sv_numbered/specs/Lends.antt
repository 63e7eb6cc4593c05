-- What the values are once a borrow of one of them ends.
use Rattle.std.specs.Prelude.{ℕ, List, Option, Some, slice_set}
use Rattle.std.specs.Borrow.{LendsIf, Fml, RattleType, MutBor}
use Rattle.sv_numbered.specs.contracts.numbered.Numbered.{the_row}

-- once the borrow ends, the number has the last value written through it, and at `None` nothing changed
abbrev pub lends_at : (T : RattleType) → MutBor (List (Option T.Denot)) → ℕ → Option (MutBor T.Denot) → Fml
lends_at T values n r = LendsIf (the_row T) T values r (λ w. slice_set values.now n (Some w)) values.now
