use Rattle.std.proofs.Common.{◌≡◌, map, drop}
use Rattle.sv_value.specs.View.{view_of}
use Rattle.sv_ops.specs.Texts.{texts_of, texts_after}
use Rattle.sv_ops.proofs.texts.texts_of.Given as goal

abbrev pub invariant-loop-value : goal.invariant-loop-value
invariant-loop-value l = texts_of (map view_of l.values) ≡ texts_after l.texts.items (map view_of (drop l.value-index l.values))
