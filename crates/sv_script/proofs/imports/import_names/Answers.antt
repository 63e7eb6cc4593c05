use Rattle.std.proofs.Common.{rules, arith}
use Rattle.std.proofs.lemmas.Grind.{common_steps}
use Rattle.sv_script.specs.Script as spec
use Rattle.sv_script.specs.Script.{import_names}
use Rattle.sv_script.specs.Script.{bodies}
use Rattle.sv_script.proofs.imports.import_names.Goals as goal

pub returns-in_err-names : goal.returns-in_err-names
unfolding import_names
returns-in_err-names c =
    let read = c.listed.ensures (spec.import_name) (λ old new r h. search rules) in
    first_of (search rules, grind (arith, common_steps))

pub returns-in_err-text : goal.returns-in_err-text
unfolding import_names
returns-in_err-text c =
    let read = c.listed.ensures (spec.import_name) (λ old new r h. search rules) in
    first_of (search rules, grind (arith, common_steps))

pub returns : goal.returns
unfolding import_names
returns c =
    let read = c.listed.ensures (spec.import_name) (λ old new r h. search rules) in
    first_of (search rules, grind (arith, common_steps))
