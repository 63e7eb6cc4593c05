use Rattle.std.proofs.Common.{◌≡◌, take}
use Rattle.sv_view.proofs.constants.copy_files.Given as goal

abbrev pub invariant-loop-constants : goal.invariant-loop-constants
invariant-loop-constants l = l.copy.items ≡ take l.constants-index l.files
