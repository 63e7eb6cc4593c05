use Rattle.std.proofs.Common.{length, sym, ap, ◌∙◌, nat_eq}
use Rattle.std.specs.List.{starts_with}
use Rattle.std.proofs.lemmas.Str.Pattern.{starts_text}
use Rattle.sv_value.specs.Value.{boolean}
use Rattle.sv_ops.specs.Answer.{Gives}
use Rattle.sv_ops.proofs.texts.starts.Goals as goal

pub returns : goal.returns
returns c = let e = starts_text c.starts_with.result c.as_str.result.now c.args.text.now c.starts_with.ensures.cases in
    rw c.in-Text.is (ap (λ b. Gives (length c.args.text.now) (boolean b)) (ap (starts_with nat_eq c.args.text.now) (sym c.as_str.ensures) ∙ sym e))
