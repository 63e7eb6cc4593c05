use Rattle.std.proofs.Common.{option_map, Some}
use Rattle.std.proofs.lemmas.List.{map-set}
use Rattle.sv_value.specs.View.{view_of}
use Rattle.sv_view.proofs.constants.put_value.Goals as goal

pub returns-then-at-values : goal.returns-then-at-values
returns-then-at-values c = map-set (option_map view_of) c.args.values.now c.args.at (Some c.args.value)
