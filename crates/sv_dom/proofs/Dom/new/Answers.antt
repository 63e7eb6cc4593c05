use Rattle.std.proofs.Common.{◌≡◌, ◌∙◌, ap, Some, None}
use Rattle.sv_tokens.specs.Token.{named}
use Rattle.sv_nodes.specs.Nodes.{element}
use Rattle.sv_nodes.specs.Cells.{cell_of}
use Rattle.sv_nodes.specs.declared.entry.Entry.{Entry}
use Rattle.sv_nodes.specs.declared.entry.Content.TheVariants as contents
use Rattle.sv_nodes.proofs.Starting.{root_cell, started, start-tokens}
use Rattle.sv_dom.specs.Dom.{empty_page}
use Rattle.sv_dom.proofs.Starting.{start-dom}
use Rattle.sv_dom.proofs.Dom.new.Goals as goal

pub invariant_of-result : goal.invariant_of-result
invariant_of-result c =
    let entry : Entry = record { serial = 0; parent = 0; above = 0; number = Some 0; content = contents.Element (record { name = c.in_ok-new.field-0; attributes = c.new-2.result; typed = None }); children = c.new-3.result } in
    let is : cell_of entry ≡ root_cell = (λ i. record { serial = 0; parent = named 0 0; number = Some 0; kind = element (record { name = c.in_ok-new.ensures i; attributes = c.new-2.ensures.items i; typed = None }); children = c.new-3.ensures.items i }) in
    start-dom _ (started c.new-nodes.result c.insert.new.self entry _ c.new-nodes.ensures.empty (c.in_ok-insert.ensures.key ∙ c.new-nodes.ensures.first_key) c.in_ok-insert.ensures.updates is)

pub returns : goal.returns
returns c =
    let entry : Entry = record { serial = 0; parent = 0; above = 0; number = Some 0; content = contents.Element (record { name = c.in_ok-new.field-0; attributes = c.new-2.result; typed = None }); children = c.new-3.result } in
    let is : cell_of entry ≡ root_cell = (λ i. record { serial = 0; parent = named 0 0; number = Some 0; kind = element (record { name = c.in_ok-new.ensures i; attributes = c.new-2.ensures.items i; typed = None }); children = c.new-3.ensures.items i }) in
    ap (λ z. record empty_page { tokens = z }) (start-tokens _ (started c.new-nodes.result c.insert.new.self entry _ c.new-nodes.ensures.empty (c.in_ok-insert.ensures.key ∙ c.new-nodes.ensures.first_key) c.in_ok-insert.ensures.updates is))
