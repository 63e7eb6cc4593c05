-- Why a stream isn't followed to its end, and the lines that tell it.
use Rattle.std.specs.Prelude.{ℕ, List, [], ◌∷◌, ◌++◌, Option, Some, None, codes, decimal}
use Rattle.sv_wire.specs.Stream.{Standing, Begun, Open, Ended, Bad}
use Rattle.sv_mirror.specs.declared.fault.StreamFault.{StreamFault}
use Rattle.sv_mirror.specs.declared.fault.StreamFault.TheVariants as faults

-- how a fault is told
abbrev pub fault_text : StreamFault → List ℕ
fault_text faults.TooLong = codes "stream: TooLong"
fault_text (faults.Unfit at) = codes "stream: Unfit " ++ decimal at
fault_text (faults.Bad at) = codes "stream: Bad " ++ decimal at
fault_text faults.Cut = codes "stream: Cut"

-- in a line
unfoldable pub fault_line : StreamFault → List ℕ
fault_line fault = fault_text fault ++ 10 ∷ []

-- the line of the fault, if there is one
abbrev pub line_of : Option StreamFault → List ℕ
line_of None = []
line_of (Some fault) = fault_line fault

-- where the bytes are wrong
abbrev pub bad_of : Standing → Option StreamFault
bad_of (Begun bytes) = None
bad_of (Open at bytes) = None
bad_of (Ended at) = None
bad_of (Bad at) = Some (faults.Bad at)

-- what is wrong with a stream that stands so behind all its bytes
abbrev pub fault_of : Standing → Option StreamFault
fault_of (Begun bytes) = Some faults.Cut
fault_of (Open at bytes) = Some faults.Cut
fault_of (Ended at) = None
fault_of (Bad at) = Some (faults.Bad at)
