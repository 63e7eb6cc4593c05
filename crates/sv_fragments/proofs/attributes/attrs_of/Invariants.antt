use Rattle.std.proofs.Common.{◌≡◌, drop}
use Rattle.sv_names.specs.Locals.{names_of}
use Rattle.sv_fragments.specs.Around.{seen}
use Rattle.sv_fragments.specs.Attributes as spec
use Rattle.sv_lower.proofs.Loops.{ahead}
use Rattle.sv_fragments.proofs.attributes.attrs_of.Given as goal

abbrev pub invariant-loop-of : goal.invariant-loop-of
invariant-loop-of l =
    spec.attrs l.list (seen l.around) (names_of l.locals) l.fn.tables ≡ ahead l.attrs (spec.attrs (drop l.of-index l.list) (seen l.around) (names_of l.locals) l.tables)
