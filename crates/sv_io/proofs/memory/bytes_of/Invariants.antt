use Rattle.std.proofs.Common.{◌≡◌, drop}
use Rattle.sv_io.specs.Files.{find_file}
use Rattle.sv_io.specs.Memory.{files_of}
use Rattle.sv_io.proofs.memory.bytes_of.Given as goal

abbrev pub invariant-loop-file : goal.invariant-loop-file
invariant-loop-file l = find_file (files_of (drop l.file-index l.files)) l.name ≡ find_file (files_of l.files) l.name
