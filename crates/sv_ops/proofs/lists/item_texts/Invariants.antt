use Rattle.std.proofs.Common.{◌≡◌, map, drop}
use Rattle.sv_value.specs.View.{view_of}
use Rattle.sv_ops.specs.Lists.{joined_item}
use Rattle.sv_ops.specs.Texts.{texts_of, texts_after}
use Rattle.sv_ops.proofs.lists.item_texts.Given as goal

abbrev pub invariant-loop-item : goal.invariant-loop-item
invariant-loop-item l = texts_of (map joined_item (map view_of l.items)) ≡ texts_after l.texts.items (map joined_item (map view_of (drop l.item-index l.items)))
