use Rattle.std.proofs.Common.{◌∙◌, ◌<◌, sym, ap, length, slice_set, arith}
use Rattle.std.proofs.lemmas.List.Edits.{map_over_more}
use Rattle.sv_derived.specs.Derived.{frozen_by}
use Rattle.sv_derived.proofs.graph.freeze_all.Goals as goal

pub loop-index-preserved : goal.loop-index-preserved
loop-index-preserved c =
    let test = c.loop-index-test.true in
    let inside : c.loop-index.index < length c.args.entries.now = omega (arith, test) in
    ap (slice_set c.loop-index.entries c.loop-index.index) (c.freeze.ensures ∙ ap (frozen_by c.args.owner.number) (sym c.index-entries-index.is))
    ∙ map_over_more (frozen_by c.args.owner.number) c.args.entries.now c.loop-index.entries c.loop-index.index c.index-entries-index.result inside c.loop-index.invariant c.index-entries-index.is
