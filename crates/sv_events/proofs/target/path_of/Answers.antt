use Rattle.std.proofs.Common.{◌≡◌, ◌∙◌, IfOk, ap, map, subst}
use Rattle.serde_json.specs.View.{view}
use Rattle.sv_events.specs.Target.{path_in}
use Rattle.sv_events.proofs.Json.{list_then}
use Rattle.sv_events.proofs.target.path_of.Goals as goal

pub returns : goal.returns
returns c = subst (λ o. IfOk c.path_in.result (λ path. path ≡ o)) (ap path_in (ap (map view) c.deref.ensures.value) ∙ list_then path_in c.in-Some.values.now.items _ c.in-Some.ensures) c.path_in.ensures
