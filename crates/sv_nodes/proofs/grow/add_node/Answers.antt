use Rattle.std.proofs.Common.{◌≡◌, ◌∙◌, ap, sym, rules, Some, None}
use Rattle.std.specs.Prelude.{IsSome}
use Rattle.slab.specs.Slab.{get}
use Rattle.sv_tokens.specs.Token.{named}
use Rattle.sv_nodes.specs.Nodes.{leaf}
use Rattle.sv_nodes.specs.Cells.{cell_of, kind_of}
use Rattle.sv_nodes.specs.declared.entry.Entry.{Entry}
use Rattle.sv_nodes.proofs.Slabs.{adds-insert, there, some_and}
use Rattle.sv_nodes.proofs.grow.add_node.Goals as goal

some : {x y : Entry} → Some x ≡ Some y → x ≡ y
some e = cc

pub entry_at-requires : goal.entry_at-requires
entry_at-requires c = rw (ap (λ s. s.slots) c.in_ok-reserve.ensures.rest_kept) (some_and _ _ c.requires)

pub returns-clause-made : goal.returns-clause-made
returns-clause-made c =
    let slots : c.reserve.new.self.slots ≡ c.args.nodes.now.slots = ap (λ s. s.slots) c.in_ok-reserve.ensures.rest_kept in
    let here : IsSome (get c.reserve.new.self c.args.parent) = rw slots (some_and _ _ c.requires) in
    let parent = there (get c.reserve.new.self c.args.parent) here c.in_ok-add_child.ensures.ok in
    let name : c.insert_reserved.result ≡ c.in-Ok.name = search rules in
    let key : c.vacant_key-key.result ≡ c.in-Ok.name = search rules in
    let same : c.entry_at.result.now ≡ parent.0 = some (sym c.entry_at.ensures ∙ parent.1) in
    let made : Entry = record { serial = c.args.serial; parent = c.args.parent; above = c.entry_at.result.now.serial; number = None; content = c.args.content; children = c.new.result } in
    let made_is : cell_of made ≡ leaf c.args.serial (named c.args.parent parent.0.serial) (kind_of c.args.content) =
    (λ i. record { serial = c.args.serial; parent = named c.args.parent (same i).serial; number = None; kind = kind_of c.args.content; children = c.new.ensures.items i }) in
    rw (← slots) (adds-insert c.reserve.new.self c.add_child.new.nodes c.insert_reserved.new.self c.args.parent c.in-Ok.name c.args.at
    parent.0 parent.2.0 made parent.1 (rw key at c.vacant_key-key.ensures.vacant) parent.2.1 parent.2.2 parent.2.3 (rw name at c.insert_reserved.ensures.updates)
    made_is)
