-- The entries of a flush by the numbers of their instances.
use Rattle.sv_instance.specs.Binds.{bound_of}
use Rattle.sv_flush.specs.Rounds as seen
use Rattle.sv_flush.specs.declared.waiting.Binding.{Binding}
use Rattle.sv_flush.specs.declared.rounds.Ran.{Ran}
use Rattle.sv_flush.specs.declared.waiting.Waiting.{Waiting}
use Rattle.sv_flush.specs.declared.waiting.Waiting.TheVariants.{Mounting, AfterUpdate}

abbrev pub binding_of : Binding → seen.Binding
binding_of b = record { child = b.child.number; bound = bound_of b.bound; span = b.span }

abbrev pub waiting_of : Waiting → seen.Waiting
waiting_of (Mounting i) = seen.mounting i.number
waiting_of (AfterUpdate i at) = seen.after_update i.number at

abbrev pub ran_of : Ran → seen.Ran
ran_of r = record { number = r.number; at = r.at }
