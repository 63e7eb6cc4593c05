-- What is wanted, with borrowed texts.
use Rattle.std.specs.Prelude.{option_map}
use Rattle.sv_steps.specs.declared.form.Wish.{Wish}
use Rattle.sv_steps.specs.declared.form.Wish.TheVariants as wish
use Rattle.sv_steps.specs.declared.step.Want.{Want}
use Rattle.sv_steps.specs.declared.step.Want.TheVariants as want

-- the same with texts of its own
abbrev pub want_in : Wish → Want
want_in (wish.Count n) = want.Count n
want_in (wish.Text text) = want.Text text.now
want_in (wish.Attribute name shows) = want.Attribute name.now (option_map (λ t. t.now) shows)
