use Rattle.std.proofs.Common.{rules, tests, ◌∙◌, string_bytes}
use Rattle.std.proofs.lemmas.Iterator.Consumers.{YieldsList-from_rest}
use Rattle.std.proofs.lemmas.Iterator.Search.{all_from_yields_List}
use Rattle.std.specs.Map.{keys_of}
use Rattle.sv_steps.specs.Form as spec
use Rattle.sv_events.proofs.Keys.{keys_passed}
use Rattle.sv_steps.proofs.form.has_file_keys.Goals as goal

pub returns : goal.returns
returns c =
    let es = c.args.members.now.entries in
    all_from_yields_List (λ key. spec.is_file_key (string_bytes key)) _ _ c.all.result c.all.ensures.ran (YieldsList-from_rest (keys_of es) c.keys.ensures.rest) (λ x b q k. search (rules, tests))
    ∙ keys_passed spec.is_file_key es
