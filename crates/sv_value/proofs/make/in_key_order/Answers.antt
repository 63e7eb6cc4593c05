use Rattle.std.proofs.Common.{rules, ◌≡◌}
use Rattle.sv_value.proofs.Pairs.{written_more, ordered_from_keys}
use Rattle.sv_value.proofs.make.in_key_order.Goals as goal

pub loop-key-preserved : goal.loop-key-preserved
loop-key-preserved c = rw c.in_ok-write_field.ensures (written_more c.loop-key.by_key.entries c.loop-key.yielded (c.in-Some.key, c.in-Some.value) c.loop-key.invariant)

pub returns-clause-ordered : goal.returns-clause-ordered
returns-clause-ordered c =
    let same : c.in_ok-collect.field-0.items ≡ c.loop-key.by_key.entries = search rules in
    rw same (ordered_from_keys _ c.into_iter.ensures.into_iter_gives.5)
