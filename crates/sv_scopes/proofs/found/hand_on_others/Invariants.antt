use Rattle.std.proofs.Common.{◌≡◌, ◌++◌, drop}
use Rattle.sv_scopes.specs.Parts.{handed}
use Rattle.sv_scopes.proofs.found.hand_on_others.Given as goal

abbrev pub invariant-loop-found : goal.invariant-loop-found
invariant-loop-found l = l.fn.around ++ handed l.is_arrow l.own l.uses ≡ l.around ++ handed l.is_arrow l.own (drop l.found-index l.uses)
