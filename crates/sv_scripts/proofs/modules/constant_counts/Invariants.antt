use Rattle.std.proofs.Common.{◌≡◌, map, take}
use Rattle.sv_meaning.specs.Runs.{constant_count}
use Rattle.sv_scripts.proofs.modules.constant_counts.Given as goal

abbrev pub invariant-loop-file : goal.invariant-loop-file
invariant-loop-file l = l.counts.items ≡ map constant_count (take l.file-index l.files)
