use Rattle.std.proofs.Common.{arith, ap, sym, refl, ◌∙◌}
use Rattle.sv_value.specs.Value.{depths, field_depths}
use Rattle.sv_value.proofs.Items.{length_same, vals_at, take_same, depth_at}
use Rattle.sv_value.proofs.Pairs.{bytes_apart, bytes_same, key_at, value_at, take_same_pairs, field_depth_at}
use Rattle.sv_value.proofs.compare.+same.Goals as goal

pub same_items-returns-then-left-right : goal.same_items-returns-then-left-right
same_items-returns-then-left-right t c =
    (λ h. cc, λ e. absurd (c.if-left-right.true (length_same c.items-left.result.now c.items-right.result.now (c.items-left.ensures.value ∙ e ∙ sym c.items-right.ensures.value))))

pub same_items-same-requires : goal.same_items-same-requires
same_items-same-requires t c =
    let e = depth_at c.items-left.result.now c.loop-i.i c.index-left-i.result c.loop-i-test.true c.index-left-i.is in
    let e' = ap depths c.items-left.ensures.value in
    omega arith

pub same_items-returns-then-not-same : goal.same_items-returns-then-not-same
same_items-returns-then-not-same t c = (
  λ h. cc,
  λ e. c.if-not-same.ensures.1
      (vals_at c.items-left.result.now c.items-right.result.now c.loop-i.i c.index-left-i.result c.index-right-i.result c.loop-i-test.true c.index-left-i.is c.index-right-i.is (c.items-left.ensures.value ∙ e ∙ sym c.items-right.ensures.value)),
)

pub same_items-loop-i-preserved : goal.same_items-loop-i-preserved
same_items-loop-i-preserved t c =
    take_same c.items-left.result.now c.items-right.result.now c.loop-i.i c.index-left-i.result c.index-right-i.result c.loop-i-test.true (omega arith) c.index-left-i.is c.index-right-i.is (c.if-not-same.ensures.0 refl) c.loop-i.invariant

pub same_fields-same-requires : goal.same_fields-same-requires
same_fields-same-requires t c =
    let e = field_depth_at c.fields-left.result.now c.loop-i.i c.index-left-i.result c.loop-i-test.true c.index-left-i.is in
    let e' = ap field_depths c.fields-left.ensures.value in
    omega arith

pub same_fields-returns-then-ne : goal.same_fields-returns-then-ne
same_fields-returns-then-ne t c =
    let apart = sym c.ne.ensures ∙ c.if-ne.true in (
      λ h. cc,
      λ e. absurd (bytes_apart c.as_str.result.now c.as_str-in-loop-i.result.now apart
          (c.as_str.ensures
          ∙ key_at c.fields-left.result.now c.fields-right.result.now c.loop-i.i c.index-left-i.result c.index-right-i.result c.loop-i-test.true c.index-left-i.is c.index-right-i.is (c.fields-left.ensures.value ∙ e ∙ sym c.fields-right.ensures.value)
          ∙ sym c.as_str-in-loop-i.ensures)),
    )

pub same_fields-returns-then-not-same : goal.same_fields-returns-then-not-same
same_fields-returns-then-not-same t c = (
  λ h. cc,
  λ e. c.if-not-same.ensures.1
      (value_at c.fields-left.result.now c.fields-right.result.now c.loop-i.i c.index-left-i.result c.index-right-i.result c.loop-i-test.true c.index-left-i.is c.index-right-i.is (c.fields-left.ensures.value ∙ e ∙ sym c.fields-right.ensures.value)),
)

pub same_fields-loop-i-preserved : goal.same_fields-loop-i-preserved
same_fields-loop-i-preserved t c =
    let keys = sym c.as_str.ensures ∙ bytes_same c.as_str.result.now c.as_str-in-loop-i.result.now (sym c.ne.ensures ∙ c.if-ne.false) ∙ c.as_str-in-loop-i.ensures in
    take_same_pairs c.fields-left.result.now c.fields-right.result.now c.loop-i.i c.index-left-i.result c.index-right-i.result c.loop-i-test.true (omega arith) c.index-left-i.is c.index-right-i.is keys (c.if-not-same.ensures.0 refl) c.loop-i.invariant
