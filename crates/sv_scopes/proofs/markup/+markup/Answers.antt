use Rattle.std.proofs.Common.{[], sym, ◌∙◌, map}
use Rattle.std.proofs.lemmas.Result.{on_ok_weaker}
use Rattle.sv_scopes.specs.Attributes.{lets}
use Rattle.sv_scopes.specs.Markup as spec
use Rattle.sv_scopes.proofs.Tags.{tag_plain, tag_slotted, component_plain, component_slotted, finds_plain, finds_slotted, finds_row, finds_content}
use Rattle.sv_scopes.proofs.markup.+markup.Goals as goal

pub find_element-returns-then-not-is_slotted : goal.find_element-returns-then-not-is_slotted
find_element-returns-then-not-is_slotted t c =
    on_ok_weaker c.find_nodes.result
    (finds_plain c.args.found.now c.find_attributes.new.found c.find_nodes.new.found _ (spec.nodes (map spec.node c.args.children.now)) c.args.attrs.now
    (tag_plain c.args.attrs.now (spec.nodes (map spec.node c.args.children.now)) (sym c.is_slotted.ensures ∙ c.if-not-is_slotted.true)) c.in_ok-find_attributes.ensures)
    c.find_nodes.ensures

pub find_element-returns : goal.find_element-returns
find_element-returns t c =
    on_ok_weaker c.leave.result
    (finds_slotted c.args.found.now c.enter-around.new.self c.declare_lets.new.found c.find_attributes-2.new.found c.find_nodes-2.new.found c.leave.new.self _ (spec.nodes (map spec.node c.args.children.now)) c.args.attrs.now
    c.enter-around.result (tag_slotted c.args.attrs.now (spec.nodes (map spec.node c.args.children.now)) (sym c.is_slotted.ensures ∙ c.if-not-is_slotted.false)) c.enter-around.ensures.around c.enter-around.ensures.inside
    c.in_ok-declare_lets.ensures c.in_ok-find_attributes-2.ensures c.in_ok-find_nodes.ensures)
    c.leave.ensures

pub find_component-returns-then-not-is_slotted : goal.find_component-returns-then-not-is_slotted
find_component-returns-then-not-is_slotted t c =
    on_ok_weaker c.find_content.result
    (finds_plain c.args.found.now c.find_attributes.new.found c.find_content.new.found _ (spec.content (lets c.args.attrs.now) (map spec.node c.args.children.now)) c.args.attrs.now
    (component_plain c.args.attrs.now (map spec.node c.args.children.now) (sym c.is_slotted.ensures ∙ c.if-not-is_slotted.true)) c.in_ok-find_attributes.ensures)
    c.find_content.ensures

pub find_component-returns : goal.find_component-returns
find_component-returns t c =
    on_ok_weaker c.leave.result
    (finds_slotted c.args.found.now c.enter-around.new.self c.declare_lets.new.found c.find_attributes-2.new.found c.find_content-2.new.found c.leave.new.self _ (spec.content (lets []) (map spec.node c.args.children.now)) c.args.attrs.now
    c.enter-around.result (component_slotted c.args.attrs.now (map spec.node c.args.children.now) (sym c.is_slotted.ensures ∙ c.if-not-is_slotted.false)) c.enter-around.ensures.around c.enter-around.ensures.inside
    c.in_ok-declare_lets.ensures c.in_ok-find_attributes-2.ensures c.in_ok-find_content.ensures)
    c.leave.ensures

pub find_row-returns : goal.find_row-returns
find_row-returns t c =
    on_ok_weaker c.leave.result
    (finds_row c.args.found.now c.enter-around.new.self c.declare.new.found c.declare_index.new.found c.find_given.new.found c.find_nodes.new.found c.leave.new.self (spec.nodes (map spec.node c.args.body.now))
    c.args.item.now c.args.index.now c.args.key.now c.enter-around.result c.enter-around.ensures.around c.enter-around.ensures.inside
    c.in_ok-declare.ensures c.in_ok-declare_index.ensures c.in_ok-find_given.ensures c.in_ok-find_nodes.ensures)
    c.leave.ensures

pub find_content-returns : goal.find_content-returns
find_content-returns t c =
    on_ok_weaker c.end_content.result
    (finds_content c.args.found.now c.enter-around.new.self c.declare_lets.new.found c.begin_content.new.self c.find_children.new.found c.end_content.new.self (lets c.args.attrs.now) (map spec.node c.args.children.now)
    c.enter-around.result c.in_ok-content.content c.find_children.new.content c.enter-around.ensures.around c.enter-around.ensures.inside
    c.in_ok-declare_lets.ensures c.in_ok-content.ensures.found c.in_ok-content.ensures.content c.in_ok-find_children.ensures.found c.in_ok-find_children.ensures.content)
    c.end_content.ensures
