use Rattle.std.proofs.Common.{◌∙◌, ◌++◌, ap}
use Rattle.sv_html.specs.Html.{attributes_html}
use Rattle.sv_html.proofs.Laying.{printed-strip}
use Rattle.sv_html.proofs.attributes.push_without.Goals as goal

pub returns : goal.returns
returns c =
    printed-strip c.args.name.now c.args.attributes.now c.behind.result.now c.place_of_name-at.result c.args.out.now.items c.push_attributes.new.out.items c.push_attributes-2.new.out.items c.place_of_name-at.ensures.count
    (c.in_ok-push_attributes.ensures ∙ ap (λ z. c.args.out.now.items ++ attributes_html z) c.front.ensures) c.behind.ensures c.in_ok-push_attributes-2.ensures
