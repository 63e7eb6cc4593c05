use Rattle.std.proofs.Common.{◌≡◌, drop}
use Rattle.sv_sites.specs.Words.{input_type}
use Rattle.sv_sites.proofs.texts.input_type.Given as goal

abbrev pub invariant-loop-attr : goal.invariant-loop-attr
invariant-loop-attr l = input_type l.names l.attrs ≡ input_type l.names (drop l.attr-index l.attrs)
