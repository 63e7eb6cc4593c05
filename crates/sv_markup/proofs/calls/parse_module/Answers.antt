use Rattle.std.proofs.Common.{◌≡◌, true, false, refl, arith}
use Rattle.std.proofs.lemmas.Grind.{common_steps}
use Rattle.std.proofs.lemmas.Str.{IsUtf8-from_is_utf8}
use Rattle.std.specs.Str.{is_utf8}
use Rattle.sv_lex.specs.Reader.{Input}
use Rattle.sv_script.specs.Calls.{input_of}
use Rattle.sv_script.proofs.Refusals.{given_on}
use Rattle.sv_markup.specs.Calls.{Answers, ModuleFileAt}
use Rattle.sv_markup.proofs.Refusals.{no_module, module_refuses}
use Rattle.sv_markup.proofs.calls.parse_module.Goals as goal

pub returns-then-not-is_text-clause-tree : goal.returns-then-not-is_text-clause-tree
returns-then-not-is_text-clause-tree c =
    let no : is_utf8 c.args.bytes.now ≡ false = grind (arith, common_steps) in
    no_module (input_of c.args.file c.args.bytes.now 0 c.args.names.now) _ _ c.no_text.ensures no

pub returns-in_err-script-clause-tree : goal.returns-in_err-script-clause-tree
returns-in_err-script-clause-tree c =
    let i : Input = input_of c.args.file c.args.bytes.now 0 c.args.names.now in
    given_on (λ r. Answers ModuleFileAt i r c.parse_module_script.new.names) c.from_residual.result c.in_err-script.field-0.0 c.from_residual.ensures.0 c.from_residual.ensures.1
    (module_refuses i c.in_err-script.field-0.0 c.parse_module_script.new.names c.in_err-script.ensures.refusal c.in_err-script.ensures.tree)

pub returns-clause-tree : goal.returns-clause-tree
returns-clause-tree c =
    let yes_ : is_utf8 c.args.bytes.now ≡ true = grind (arith, common_steps) in
    let t = c.in_ok-script.ensures.tree in (t.0, record { text = IsUtf8-from_is_utf8 c.args.bytes.now yes_; script = t.1; file = refl }, t.2)
