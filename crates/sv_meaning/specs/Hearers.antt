-- The tag that hears of events, as definitions see it.
use Rattle.sv_meaning.specs.Listeners as listeners
use Rattle.sv_meaning.specs.declared.listening.Hearer.{Hearer}

abbrev pub hearer_seen : Hearer → listeners.Hearer
hearer_seen h = record { tag = h.tag; owner = h.owner.number; locals = h.locals }
