use Rattle.std.proofs.Common.{◌∙◌, Some, option_map, subst, sym, ap, map}
use Rattle.serde_json.specs.View.{view}
use Rattle.sv_events.specs.EventsFile.{Told, Answers, in_form, listed}
use Rattle.sv_events.specs.Form.{items_in}
use Rattle.sv_events.specs.Target.{list_of}
use Rattle.sv_events.proofs.Json.{list_seen}
use Rattle.sv_events.proofs.file.in_json.Goals as goal

pub returns : goal.returns
returns c =
    let shown = list_seen c.in-Some-items_in.values.now.items _ c.in-Some-items_in.ensures in
    let found = option_map list_of (items_in (view c.args.value.now)) in
    subst (λ (told : Told). Answers c.listed.result told)
    (ap (listed c.in-Some.version) (ap (map view) c.deref.ensures.value) ∙ sym (ap (in_form (Some c.in-Some.version)) shown) ∙ ap (λ o. in_form o found) c.in-Some.ensures)
    c.listed.ensures
