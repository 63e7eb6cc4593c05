use Rattle.std.proofs.Common.{rules, ◌≡◌, List, sym, subst, true}
use Rattle.sv_tokens.specs.declared.element.Attribute.{Attribute}
use Rattle.sv_live.specs.Attributes.{IsAscending, is_last}
use Rattle.sv_live.proofs.Ascending.{ascending-push}
use Rattle.sv_live.proofs.attributes.Attributes.push.Goals as goal

pub invariant_of-self-2 : goal.invariant_of-self-2
invariant_of-self-2 c =
    let last : is_last c.args.attribute.slot c.self.inside.list ≡ true = search rules in
    subst (λ (xs : List Attribute). IsAscending xs) (sym c.in_ok-push.ensures.ok) (ascending-push c.self.inside.list c.args.attribute c.self.invariant last)
