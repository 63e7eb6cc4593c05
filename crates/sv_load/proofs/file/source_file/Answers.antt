use Rattle.std.proofs.Common.{◌≡◌, rules}
use Rattle.sv_ast.specs.declared.refusals.ParseError.TheVariants as errors
use Rattle.sv_load.specs.Loads.{refusal}
use Rattle.sv_load.proofs.Finding.{parses-refused, holds-tree, holds-no_tree}
use Rattle.sv_load.proofs.file.source_file.Goals as goal

pub returns-in-Err-Refused-clause-holds : goal.returns-in-Err-Refused-clause-holds
returns-in-Err-Refused-clause-holds c =
    let is : c.in-Err-Refused.field-0 ≡ errors.Refused c.in-Err-Refused.cause = search rules in
    let told : c.in_ok-refusal-in-Err-Refused.field-0 ≡ refusal c.args.name.now c.args.bytes.now c.in-Err-Refused.cause = cc (c.in_ok-refusal-in-Err-Refused.ensures, c.in-Err-Refused.cause-is) in
    holds-no_tree c.args.number c.args.name.now c.args.bytes.now c.args.names.now c.in-Err-Refused.cause c.in_ok-refusal-in-Err-Refused.field-0
    (parses-refused _ _ c.in-Err-Refused.field-0 c.in-Err-Refused.cause c.parse.new.names is c.in-Err-Refused.ensures) told

pub returns-clause-holds : goal.returns-clause-holds
returns-clause-holds c =
    holds-tree c.args.number c.args.name.now c.args.bytes.now c.args.names.now c.parse.new.names _ _ _ c.in-Ok.ensures c.in_ok-lines.ensures.lines c.in_ok-name.ensures
