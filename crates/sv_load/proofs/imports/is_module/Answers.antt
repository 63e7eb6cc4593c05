use Rattle.std.proofs.Common.{codes}
use Rattle.std.proofs.lemmas.Str.Pattern.{ends_text}
use Rattle.sv_load.proofs.imports.is_module.Goals as goal

pub returns : goal.returns
returns c = ends_text c.ends_with.result (codes ".js") c.args.name.now c.ends_with.ensures.cases
