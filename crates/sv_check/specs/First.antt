-- The first mistake of two parts.
use Rattle.std.specs.Prelude.{Option, None, Some}
use Rattle.sv_resolve.specs.declared.refusals.CheckRefusal.{CheckRefusal}
use Rattle.sv_resolve.specs.Earliest.{earlier}

-- the first of two mistakes, of which either may be absent: the second only where it begins earlier
abbrev pub joined : Option CheckRefusal → Option CheckRefusal → Option CheckRefusal
joined first None = first
joined first (Some second) = earlier first second
