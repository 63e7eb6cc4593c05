use Rattle.std.proofs.Common.{ℕ, List, ◌++◌, map, refl, sym, ap, ◌∙◌}
use Rattle.std.proofs.lemmas.Result.{on_ok_weaker}
use Rattle.sv_names.specs.Distinct.{firsts}
use Rattle.sv_scopes.specs.Rows.{row_names}
use Rattle.sv_sites.specs.Hidden.{all_hidden}
use Rattle.sv_sites.specs.Sites as spec
use Rattle.sv_sites.proofs.Scoped.{finds_plain, finds_scoped, finds_whole, finds_within, finds_slot, finds_slotted_slot, inside_is, own_names, tag_plain, tag_slotted, component_plain, component_slotted, node_plain, node_slotted}
use Rattle.sv_sites.proofs.walk.+walk.Goals as goal

pub find_row-returns : goal.find_row-returns
find_row-returns t c =
    on_ok_weaker c.find_nodes.result
    (finds_within c.args.sites.now c.find_nodes.new.sites _ (spec.nodes (map spec.node c.args.body.now)) c.args.names.now (firsts (row_names c.args.item.now c.args.index.now)) (all_hidden c.args.hidden.now) (all_hidden c.inside.result) refl
    (inside_is c.in_ok-own.own (firsts (row_names c.args.item.now c.args.index.now)) (all_hidden c.args.hidden.now) (all_hidden c.inside.result) c.in_ok-own.ensures c.inside.ensures))
    c.find_nodes.ensures

pub find_element-returns-then-not-is_slotted : goal.find_element-returns-then-not-is_slotted
find_element-returns-then-not-is_slotted t c =
    on_ok_weaker c.find_nodes.result
    (finds_plain c.args.sites.now c.add_element_attrs.new.sites c.find_nodes.new.sites _ (spec.element_attrs c.args.name.now c.args.attrs.now) (spec.nodes (map spec.node c.args.children.now)) c.args.names.now (all_hidden c.args.hidden.now)
    (tag_plain c.args.attrs.now _ (sym c.is_slotted.ensures ∙ c.if-not-is_slotted.true))
    (c.in_ok-add_element_attrs.ensures ∙ ap (λ (z : List ℕ). c.args.sites.now ++ spec.element_attrs z c.args.attrs.now c.args.names.now (all_hidden c.args.hidden.now)) c.as_str.ensures))
    c.find_nodes.ensures

pub find_element-returns : goal.find_element-returns
find_element-returns t c =
    on_ok_weaker c.find_nodes-2.result
    (finds_scoped c.args.sites.now c.add_element_attrs-2.new.sites c.find_nodes-2.new.sites _ (spec.element_attrs c.args.name.now c.args.attrs.now) (spec.nodes (map spec.node c.args.children.now)) c.args.names.now
    (own_names c.args.attrs.now) (all_hidden c.args.hidden.now) (all_hidden c.inside-inside.result)
    (tag_slotted c.args.attrs.now _ (sym c.is_slotted.ensures ∙ c.if-not-is_slotted.false))
    (inside_is c.in_ok-own.own (own_names c.args.attrs.now) (all_hidden c.args.hidden.now) (all_hidden c.inside-inside.result) c.in_ok-own.ensures c.inside-inside.ensures)
    (c.in_ok-add_element_attrs-2.ensures ∙ ap (λ (z : List ℕ). c.args.sites.now ++ spec.element_attrs z c.args.attrs.now c.args.names.now (all_hidden c.inside-inside.result)) c.as_str-2.ensures))
    c.find_nodes-2.ensures

pub find_slot-returns-then-not-is_slotted : goal.find_slot-returns-then-not-is_slotted
find_slot-returns-then-not-is_slotted t c =
    on_ok_weaker c.find_nodes.result
    (finds_slot c.args.sites.now c.push.new.self c.find_nodes.new.sites c.args.name.now c.in_ok-share.field-0 c.args.attrs.now (spec.nodes (map spec.node c.args.children.now)) c.args.names.now (all_hidden c.args.hidden.now)
    c.in_ok-share.ensures (sym c.is_slotted.ensures ∙ c.if-not-is_slotted.true) c.in_ok-push.ensures.ok)
    c.find_nodes.ensures

pub find_slot-returns : goal.find_slot-returns
find_slot-returns t c =
    on_ok_weaker c.find_nodes-2.result
    (finds_slotted_slot c.args.sites.now c.push.new.self c.find_nodes-2.new.sites c.args.name.now c.in_ok-share.field-0 c.args.attrs.now (spec.nodes (map spec.node c.args.children.now)) c.args.names.now (all_hidden c.args.hidden.now)
    (all_hidden c.inside.result) c.in_ok-share.ensures (sym c.is_slotted.ensures ∙ c.if-not-is_slotted.false)
    (inside_is c.in_ok-own.own (own_names c.args.attrs.now) (all_hidden c.args.hidden.now) (all_hidden c.inside.result) c.in_ok-own.ensures c.inside.ensures) c.in_ok-push.ensures.ok)
    c.find_nodes-2.ensures

pub find_component-returns-then-not-is_slotted : goal.find_component-returns-then-not-is_slotted
find_component-returns-then-not-is_slotted t c =
    let list = map spec.node c.args.children.now in
    on_ok_weaker c.find_content.result
    (finds_plain c.args.sites.now c.add_component_tag.new.sites c.find_content.new.sites _ (spec.component_tag c.args.of c.args.attrs.now (map (λ n. n.child) list)) (spec.content c.in_ok-own.own list) c.args.names.now (all_hidden c.args.hidden.now)
    (component_plain c.args.of c.args.attrs.now list c.in_ok-own.own c.in_ok-own.ensures (sym c.is_slotted.ensures ∙ c.if-not-is_slotted.true)) c.in_ok-add_component_tag.ensures)
    c.find_content.ensures

pub find_component-returns : goal.find_component-returns
find_component-returns t c =
    let list = map spec.node c.args.children.now in
    on_ok_weaker c.find_content-2.result
    (finds_scoped c.args.sites.now c.add_component_tag-2.new.sites c.find_content-2.new.sites _ (spec.component_tag c.args.of c.args.attrs.now (map (λ n. n.child) list)) (spec.content c.new-none.result list) c.args.names.now
    (own_names c.args.attrs.now) (all_hidden c.args.hidden.now) (all_hidden c.inside-inside.result)
    (component_slotted c.args.of c.args.attrs.now list c.new-none.result c.new-none.ensures (sym c.is_slotted.ensures ∙ c.if-not-is_slotted.false))
    (inside_is c.in_ok-own.own (own_names c.args.attrs.now) (all_hidden c.args.hidden.now) (all_hidden c.inside-inside.result) c.in_ok-own.ensures c.inside-inside.ensures)
    c.in_ok-add_component_tag-2.ensures)
    c.find_content-2.ensures

pub find_child-returns-then-is_part : goal.find_child-returns-then-is_part
find_child-returns-then-is_part t c =
    on_ok_weaker c.find_node.result
    (finds_whole c.args.sites.now c.find_node.new.sites _ (spec.node c.args.child.now).sites c.args.names.now (all_hidden c.args.hidden.now)
    (node_slotted c.args.own.now (spec.node c.args.child.now) (sym c.is_part.ensures ∙ c.if-is_part.true)))
    c.find_node.ensures

pub find_child-returns : goal.find_child-returns
find_child-returns t c =
    on_ok_weaker c.find_node-2.result
    (finds_within c.args.sites.now c.find_node-2.new.sites _ (spec.node c.args.child.now).sites c.args.names.now c.args.own.now (all_hidden c.args.hidden.now) (all_hidden c.inside.result)
    (node_plain c.args.own.now (spec.node c.args.child.now) (sym c.is_part.ensures ∙ c.if-is_part.false)) c.inside.ensures)
    c.find_node-2.ensures
