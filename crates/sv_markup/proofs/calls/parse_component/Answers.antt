use Rattle.std.proofs.Common.{◌≡◌, false, arith}
use Rattle.std.proofs.lemmas.Grind.{common_steps}
use Rattle.std.specs.Str.{is_utf8}
use Rattle.sv_script.specs.Calls.{input_of}
use Rattle.sv_markup.proofs.Refusals.{no_component}
use Rattle.sv_markup.proofs.calls.parse_component.Goals as goal

pub returns-then-not-is_text-clause-tree : goal.returns-then-not-is_text-clause-tree
returns-then-not-is_text-clause-tree c =
    let no : is_utf8 c.args.bytes.now ≡ false = grind (arith, common_steps) in
    no_component (input_of c.args.file c.args.bytes.now 0 c.args.names.now) _ _ c.no_text.ensures no
