use Rattle.std.proofs.Common.{◌∙◌}
use Rattle.sv_imports.proofs.Leading.{imports-whole}
use Rattle.sv_compile.proofs.Ordering.{ordered}
use Rattle.sv_compile.proofs.modules.modules.Goals as goal

pub visit-requires-clause-whole : goal.visit-requires-clause-whole
visit-requires-clause-whole c = imports-whole c.args.files.now c.deref.result.now (c.deref.ensures.value ∙ c.in_ok-links.ensures)

pub returns : goal.returns
returns c = ordered c.args.files.now c.deref.result.now c.starts.result c.in_ok-visited.visited c.modules_in.result (c.deref.ensures.value ∙ c.in_ok-links.ensures) c.starts.ensures.count c.in_ok-visited.ensures c.modules_in.ensures
