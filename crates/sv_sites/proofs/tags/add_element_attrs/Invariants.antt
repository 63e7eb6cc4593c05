use Rattle.std.proofs.Common.{◌≡◌, ◌++◌, drop}
use Rattle.std.specs.List.{flat_map}
use Rattle.sv_sites.specs.Hidden.{all_hidden}
use Rattle.sv_sites.specs.Sites.{element_site}
use Rattle.sv_sites.proofs.tags.add_element_attrs.Given as goal

abbrev pub invariant-loop-attr : goal.invariant-loop-attr
invariant-loop-attr l =
    l.fn.sites ++ flat_map (λ a. element_site l.names l.name l.kind (all_hidden l.hidden) a a.kind) l.attrs
    ≡ l.sites ++ flat_map (λ a. element_site l.names l.name l.kind (all_hidden l.hidden) a a.kind) (drop l.attr-index l.attrs)
