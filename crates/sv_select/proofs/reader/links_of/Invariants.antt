use Rattle.std.proofs.Common.{◌≡◌, ◌+◌, ◌++◌, length, option_map}
use Rattle.std.specs.Option.{option_map_or}
use Rattle.sv_select.specs.Borders.{pieces, pieces_in}
use Rattle.sv_select.specs.Grammar.{links_of}
use Rattle.sv_select.specs.declared.borders.Border.TheVariants as border
use Rattle.sv_select.specs.declared.selector.Combinator.TheVariants.{Descendant}
use Rattle.sv_select.proofs.reader.links_of.Given as goal

abbrev pub invariant-loop-left : goal.invariant-loop-left
invariant-loop-left l =
    links_of Descendant (pieces border.Child l.fn.text)
    ≡ option_map (λ more. l.links ++ more) (links_of l.next (pieces_in border.Child (option_map (λ z. z.now) l.left)))

abbrev pub decreases-loop-left : goal.decreases-loop-left
decreases-loop-left l = option_map_or (λ z. length z.now + 1) l.left 0
