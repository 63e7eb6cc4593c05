use Rattle.std.proofs.Common.{◌≡◌, ◌+◌, ◌++◌, length, option_map}
use Rattle.std.specs.Option.{option_map_or}
use Rattle.sv_select.specs.Borders.{pieces, pieces_in}
use Rattle.sv_select.specs.Grammar.{run_of, run_from}
use Rattle.sv_select.specs.declared.borders.Border.TheVariants as border
use Rattle.sv_select.proofs.reader.push_run.Given as goal

abbrev pub invariant-loop-left : goal.invariant-loop-left
invariant-loop-left l =
    option_map (λ more. l.fn.links ++ more) (run_of l.fn.combinator (pieces border.Space l.fn.run))
    ≡ option_map (λ more. l.links ++ more) (run_from l.is_begun l.next (pieces_in border.Space (option_map (λ z. z.now) l.left)))

abbrev pub decreases-loop-left : goal.decreases-loop-left
decreases-loop-left l = option_map_or (λ z. length z.now + 1) l.left 0
