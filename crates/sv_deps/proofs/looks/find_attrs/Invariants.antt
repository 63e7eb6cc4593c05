use Rattle.std.proofs.Common.{drop}
use Rattle.sv_names.specs.Locals.{names_of}
use Rattle.sv_deps.specs.Looks.{attrs}
use Rattle.sv_deps.proofs.Onward.{Onward}
use Rattle.sv_deps.proofs.looks.find_attrs.Given as goal

abbrev pub invariant-loop-attr : goal.invariant-loop-attr
invariant-loop-attr l = Onward l.fn.seen l.seen (attrs l.attrs (names_of l.own)) (attrs (drop l.attr-index l.attrs) (names_of l.own))
