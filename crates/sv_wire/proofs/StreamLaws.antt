-- The laws of streams.
use Rattle.sv_wire.specs.StreamLaws.{IsOneSpelling, TellsSpelled, TellsNothing, TellsEnd, IsCutAnywhere, IsToldAsSpelled}
use Rattle.sv_wire.proofs.Spelled.{one-spelling, told-stream, told-nothing, told-end}
use Rattle.sv_wire.proofs.Streams.{cut}
use Rattle.sv_wire.proofs.Taken.{told-spelled}

pub one_spelling : IsOneSpelling
one_spelling = one-spelling

pub tells_spelled : TellsSpelled
tells_spelled = told-stream

pub tells_nothing : TellsNothing
tells_nothing = told-nothing

pub tells_end : TellsEnd
tells_end = told-end

pub cut_anywhere : IsCutAnywhere
cut_anywhere = cut

pub told_as_spelled : IsToldAsSpelled
told_as_spelled = told-spelled
