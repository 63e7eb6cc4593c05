use Rattle.sv_audience.proofs.laws.watchers_stand_once.Goals as goal
use Rattle.sv_watch.proofs.Parting.{parts-each}

pub returns : goal.returns
returns c = λ changes result was now was_gone now_gone told. parts-each told
