-- What follows of compiled programs.
use Rattle.std.proofs.Common.{◌≡◌, true, List, get_or}
use Rattle.std.specs.List.{All}
use Rattle.sv_lines.specs.Lines.{ascends}
use Rattle.sv_code.specs.declared.program.Program.{Program}
use Rattle.sv_code.specs.declared.program.ProgramFile.{ProgramFile}
use Rattle.sv_code.specs.Compiled.{IsFile, IsCompiled}

-- what follows of each follows of all
pub all_mono : {X : Type 0} (P Q : X → Type 0) → ((x : X) → P x → Q x) → (xs : List X) → All P xs → All Q xs
all_mono P Q f xs h k d lt = f (get_or xs k d) (h k d lt)

-- the lines of its files begin in order
pub lines_ascend : (p : Program) → IsCompiled p → All (λ file. ascends file.lines ≡ true) p.files
lines_ascend p c = all_mono (IsFile p) (λ (file : ProgramFile). ascends file.lines ≡ true) (λ f is. is.lines) p.files c.files
