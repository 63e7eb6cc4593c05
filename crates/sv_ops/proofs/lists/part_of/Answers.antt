use Rattle.std.proofs.Common.{◌-◌, ◌∙◌, ap, sym, take, drop}
use Rattle.std.proofs.lemmas.List.{take-map, drop-map}
use Rattle.sv_value.specs.View.{view_of}
use Rattle.sv_ops.proofs.lists.part_of.Goals as goal

-- src/lists.rt:109:1
pub returns-then-from-to : goal.returns-then-from-to
returns-then-from-to c = sym (ap (take (c.args.to - c.args.from)) (drop-map view_of c.args.from c.args.items.now) ∙ take-map view_of (c.args.to - c.args.from) (drop c.args.from c.args.items.now))
