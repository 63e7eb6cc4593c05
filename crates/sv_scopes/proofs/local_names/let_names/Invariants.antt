use Rattle.std.proofs.Common.{◌≡◌, drop}
use Rattle.sv_names.specs.Distinct.{firsts, with_names}
use Rattle.sv_scopes.specs.Attributes.{lets}
use Rattle.sv_scopes.specs.Parts.{names_of}
use Rattle.sv_scopes.proofs.local_names.let_names.Given as goal

abbrev pub invariant-loop-attr : goal.invariant-loop-attr
invariant-loop-attr l = firsts (names_of (lets l.attrs)) ≡ with_names l.names (names_of (lets (drop l.attr-index l.attrs)))
