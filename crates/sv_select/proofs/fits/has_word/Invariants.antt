use Rattle.std.proofs.Common.{◌≡◌, ◌+◌, length, option_map}
use Rattle.std.specs.List.{list_any}
use Rattle.std.specs.Option.{option_map_or}
use Rattle.sv_select.specs.Borders.{pieces, pieces_in}
use Rattle.sv_select.specs.Fits.{is_word}
use Rattle.sv_select.specs.declared.borders.Border.TheVariants as border
use Rattle.sv_select.proofs.fits.has_word.Given as goal

abbrev pub invariant-loop-left : goal.invariant-loop-left
invariant-loop-left l = list_any (is_word l.word) (pieces border.White l.text) ≡ list_any (is_word l.word) (pieces_in border.White (option_map (λ z. z.now) l.left))

abbrev pub decreases-loop-left : goal.decreases-loop-left
decreases-loop-left l = option_map_or (λ z. length z.now + 1) l.left 0
