use Rattle.std.proofs.Common.{◌≡◌, ◌++◌, drop}
use Rattle.sv_html.specs.Html.{attributes_html}
use Rattle.sv_html.proofs.attributes.push_attributes.Given as goal

abbrev pub invariant-loop-attribute : goal.invariant-loop-attribute
invariant-loop-attribute l = l.out.items ++ attributes_html (drop l.attribute-index l.attributes) ≡ l.fn.out.items ++ attributes_html l.attributes
