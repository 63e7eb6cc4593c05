use Rattle.std.proofs.Common.{◌≡◌, ◌++◌, false, drop}
use Rattle.sv_select.specs.Reach.{entered, ends}
use Rattle.sv_select.proofs.reach.enter.Given as goal

abbrev pub invariant-loop-link : goal.invariant-loop-link
invariant-loop-link l =
    (entered false l.links l.element l.fn.outer ≡ l.reached.items ++ entered l.here (drop l.link-index l.links) l.element l.left)
    × (ends false l.links l.element l.fn.outer ≡ ends l.here (drop l.link-index l.links) l.element l.left)
