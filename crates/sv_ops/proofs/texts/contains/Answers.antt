use Rattle.std.proofs.Common.{length, sym, ap, ◌∙◌}
use Rattle.std.proofs.lemmas.Str.Pattern.{contains_text}
use Rattle.sv_value.specs.Value.{boolean}
use Rattle.sv_ops.specs.Answer.{Gives}
use Rattle.sv_ops.specs.Texts.{has_text}
use Rattle.sv_ops.proofs.Standing.{has_text-told}
use Rattle.sv_ops.proofs.texts.contains.Goals as goal

pub returns : goal.returns
returns c = let told = contains_text c.contains.result c.as_str.result.now c.args.text.now c.contains.ensures.cases in
    rw c.in-Text.is (ap (λ b. Gives (length c.args.text.now) (boolean b)) (ap (λ t. has_text t c.args.text.now) (sym c.as_str.ensures) ∙ has_text-told c.contains.result c.as_str.result.now c.args.text.now told))
