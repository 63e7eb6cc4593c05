use Rattle.std.proofs.Common.{◌≡◌, ◌++◌, drop}
use Rattle.sv_compile.specs.Compile.{files_code}
use Rattle.sv_compile.proofs.program.compile_files.Given as goal

abbrev pub invariant-loop-n : goal.invariant-loop-n
invariant-loop-n l = record {
  files : (files_code l.bundle l.files l.told l.fn.tables).0 ≡ l.made ++ (files_code l.bundle (drop l.n l.files) (drop l.n l.told) l.tables).0;
  tables : (files_code l.bundle l.files l.told l.fn.tables).1 ≡ (files_code l.bundle (drop l.n l.files) (drop l.n l.told) l.tables).1;
}
