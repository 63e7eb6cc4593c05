use Rattle.std.proofs.Common.{◌≡◌, take, map}
use Rattle.sv_view.specs.Constants.{no_constants}
use Rattle.sv_view.proofs.constants.Modules.new.Given as goal

abbrev pub invariant-loop-count : goal.invariant-loop-count
invariant-loop-count l = l.files.items ≡ map no_constants (take l.count-index l.counts)
