use Rattle.std.proofs.Common.{◌∙◌}
use Rattle.sv_imports.proofs.Leading.{imports-whole}
use Rattle.sv_imports.proofs.cycles.import_cycles.Goals as goal

pub leads_table-requires-clause-whole : goal.leads_table-requires-clause-whole
leads_table-requires-clause-whole c = imports-whole c.as_slice-files.result.now c.deref.result.now (c.deref.ensures.value ∙ c.in_ok-links.ensures)
