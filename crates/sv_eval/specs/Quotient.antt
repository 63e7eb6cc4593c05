-- A quotient, as definitions see it.
use Rattle.std.specs.Prelude.{map}
use Rattle.sv_meaning.specs.Context.{value_in, link_in}
use Rattle.sv_meaning.specs.Values.{Ratio, chain}
use Rattle.sv_meaning.specs.declared.context.Context.{Context}
use Rattle.sv_eval.specs.declared.lookups.Quotient.{Quotient}

abbrev pub ratio_of : Context → Quotient → Ratio
ratio_of c q = record { top = chain q.at (value_in c q.first.now) (map (link_in c) q.before.now); bottom = value_in c q.bottom.now }
