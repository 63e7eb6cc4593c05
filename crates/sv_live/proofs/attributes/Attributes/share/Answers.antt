use Rattle.std.proofs.Common.{◌≡◌, ◌∙◌, IfOk, List, subst}
use Rattle.sv_tokens.specs.declared.element.Attribute.{Attribute}
use Rattle.sv_live.proofs.Ascending.{ascending-by_slot}
use Rattle.sv_live.proofs.attributes.Attributes.share.Goals as goal

pub returns : goal.returns
returns c = subst (λ (all : List Attribute). IfOk c.of.result (λ a. a ≡ all)) (ascending-by_slot c.as_slice.result.now c.as_slice.ensures.ascending ∙ c.as_slice.ensures.list) c.of.ensures
