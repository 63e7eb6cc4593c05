-- The exit status of the program.
use Rattle.std.specs.Prelude.{ℕ}
use Rattle.sv_run.specs.declared.status.Status.{Status}
use Rattle.sv_run.specs.declared.status.Status.TheVariants.{Ok, Usage, Source, Events, Turn, ReadFault, WriteFault, NoMemory, Missing, Failed}

-- 0 to 8, in the order of the statuses, and 10 where an expectation of a test didn't hold
abbrev pub code_of : Status → ℕ
code_of Ok = 0
code_of Usage = 1
code_of Source = 2
code_of Events = 3
code_of Turn = 4
code_of ReadFault = 5
code_of WriteFault = 6
code_of NoMemory = 7
code_of Missing = 8
code_of Failed = 10
