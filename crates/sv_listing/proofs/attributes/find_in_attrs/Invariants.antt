use Rattle.std.proofs.Common.{◌≡◌, ◌++◌, drop}
use Rattle.sv_listing.specs.Parts.{in_attrs}
use Rattle.sv_listing.proofs.attributes.find_in_attrs.Given as goal

abbrev pub invariant-loop-attr : goal.invariant-loop-attr
invariant-loop-attr l = l.fn.found ++ in_attrs l.attrs ≡ l.found ++ in_attrs (drop l.attr-index l.attrs)
