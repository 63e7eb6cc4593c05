use Rattle.std.proofs.Common.{◌∙◌}
use Rattle.sv_value.specs.View.{view_of}
use Rattle.sv_store.specs.Stores.{set_to}
use Rattle.sv_store.specs.Kept.{store_of}
use Rattle.sv_store.proofs.Places.{map-changed, changed_past, differs_at-map, differs_past}
use Rattle.sv_store.proofs.stores.set_value.Goals as goal

pub returns-then-id-entries-clause-stored : goal.returns-then-id-entries-clause-stored
returns-then-id-entries-clause-stored c = map-changed store_of (set_to (view_of c.args.value)) c.args.entries.now c.args.id c.index-entries-id.result c.set_entry.new.entry c.if-id-entries.true c.set_entry.ensures.stored

pub returns-then-id-entries-clause-changed : goal.returns-then-id-entries-clause-changed
returns-then-id-entries-clause-changed c = c.set_entry.ensures.changed ∙ differs_at-map store_of c.args.entries.now c.args.id c.index-entries-id.result (view_of c.args.value) c.if-id-entries.true

pub returns-clause-stored : goal.returns-clause-stored
returns-clause-stored c = changed_past store_of (set_to (view_of c.args.value)) c.args.entries.now c.args.id c.if-id-entries.false

pub returns-clause-changed : goal.returns-clause-changed
returns-clause-changed c = differs_past store_of c.args.entries.now c.args.id (view_of c.args.value) c.if-id-entries.false
