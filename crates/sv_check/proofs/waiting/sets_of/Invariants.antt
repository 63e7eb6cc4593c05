use Rattle.std.proofs.Common.{◌≡◌, ◌∷◌, ◌++◌, drop}
use Rattle.std.specs.List.{flat_map}
use Rattle.std.specs.Option.{option_to_list}
use Rattle.sv_check.specs.Waiting.{store_beside, sets}
use Rattle.sv_check.proofs.waiting.sets_of.Given as goal

abbrev pub invariant-loop-name : goal.invariant-loop-name
invariant-loop-name l = sets l.cells l.stmt ≡ l.sets ++ flat_map (λ name. name ∷ option_to_list (store_beside l.cells name)) (drop l.name-index l.name-items)
