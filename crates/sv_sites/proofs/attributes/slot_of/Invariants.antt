use Rattle.std.proofs.Common.{◌≡◌, drop}
use Rattle.sv_sites.specs.Attributes.{slot_of}
use Rattle.sv_sites.proofs.attributes.slot_of.Given as goal

abbrev pub invariant-loop-attr : goal.invariant-loop-attr
invariant-loop-attr l = slot_of l.attrs ≡ slot_of (drop l.attr-index l.attrs)
