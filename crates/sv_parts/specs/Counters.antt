-- What the plans of a turn share.
use Rattle.sv_parts.specs.declared.counters.Counters.{Counters}
use Rattle.sv_parts.specs.declared.counters.TheConstants.{WORK_LIMIT}

-- nothing was taken
abbrev pub unspent : Counters
unspent = record { work = WORK_LIMIT; next = 1 }
