use Rattle.std.proofs.Common.{◌∙◌, subst, sym, ap, map}
use Rattle.serde_json.specs.View.{view}
use Rattle.sv_events.proofs.Json.{list_seen}
use Rattle.sv_steps.specs.StepsFile.{Told, Answers, in_form, listed}
use Rattle.sv_steps.proofs.file.in_json.Goals as goal

pub returns-in-Some : goal.returns-in-Some
returns-in-Some c =
    let shown = list_seen c.in-Some.values.now.items _ c.in-Some.ensures in
    subst (λ (told : Told). Answers c.listed.result told) (ap listed (ap (map view) c.deref.ensures.value) ∙ sym (ap in_form shown)) c.listed.ensures
